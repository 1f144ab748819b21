-- What is wrong with words, as a kind of usage fault.
use Rattle.svo_words.specs.declared.commands.WordFault.{WordFault}
use Rattle.svo_words.specs.declared.commands.WordFault.TheVariants.{Command as NoCommand, Options as NoOptions, Value as NoValue, Memory as NoMemory}
use Rattle.svo_top.specs.declared.outcome.Status.{Status}
use Rattle.svo_top.specs.declared.outcome.Status.TheVariants.{Usage, Memory}
use Rattle.svo_top.specs.declared.outcome.UsageKind.{UsageKind}
use Rattle.svo_top.specs.declared.outcome.UsageKind.TheVariants.{Command, Options, Value}

abbrev pub fault_of : UsageKind → WordFault
fault_of Command = NoCommand
fault_of Options = NoOptions
fault_of Value = NoValue

-- how a run ends that could not read its words
abbrev pub status_of_fault : WordFault → Status
status_of_fault NoCommand = Usage Command
status_of_fault NoOptions = Usage Options
status_of_fault NoValue = Usage Value
status_of_fault NoMemory = Memory
