-- How a run ends whose file cannot be loaded, is refused, or whose answer is not put out.
use Rattle.std.specs.Prelude.{Result, Ok, Err}
use Rattle.node_file.specs.declared.loading.LoadFault.{LoadFault}
use Rattle.node_file.specs.declared.loading.LoadFault.TheVariants as load
use Rattle.node_check.specs.declared.stops.AnswerStop.{AnswerStop}
use Rattle.node_check.specs.declared.stops.AnswerStop.TheVariants.{WriteFault, Walk}
use Rattle.node_check.specs.declared.walking.WalkFault.TheVariants as walk
use Rattle.svo_top.specs.declared.outcome.Status.{Status}
use Rattle.svo_top.specs.declared.outcome.Status.TheVariants.{Done, Device, Refused}
use Rattle.svo_top.specs.declared.outcome.NodeRefusal.TheVariants.{NoFile, NotNodes, Number}
use Rattle.svo_top.specs.declared.outcome.Device.TheVariants.{Write, Nodes}

abbrev pub status_of_load : LoadFault → Status
status_of_load load.NoFile = Refused NoFile
status_of_load load.NotNodes = Refused NotNodes
status_of_load load.Failed = Device Nodes

abbrev pub status_of_answer : {T : Type 0} → Result T AnswerStop → Status
status_of_answer (Ok done) = Done
status_of_answer (Err WriteFault) = Device Write
status_of_answer (Err (Walk walk.Failed)) = Device Nodes
status_of_answer (Err (Walk (walk.Refused number word))) = Refused (Number number)
