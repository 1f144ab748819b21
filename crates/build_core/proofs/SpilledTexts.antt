-- What a text means, by what a reader that began at its start put on scratch.
use Rattle.std.proofs.Common.{◌≡◌, ℕ, ◌≤◌, [], List, subst, Option, Some, Result, Ok, Err, MatchResult}
use Rattle.dev_traits.specs.declared.device.ByteSource.{Ghosts}
use Rattle.dev_traits.specs.Faults.{Rose}
use Rattle.ply_text.specs.declared.tokens.Tokens.{Tokens}
use Rattle.ply_text.specs.Reading.{Reading}
use Rattle.ply_reader.specs.declared.fault.PlyFault.TheVariants.{ReadFault}
use Rattle.ply_reader.specs.declared.mesh.MeshReader.{MeshReader}
use Rattle.ply_reader.specs.declared.whole_mesh.MeshFault.TheVariants as whole
use Rattle.ply_reader.specs.MeshCalls.{MeshReading, mesh_reading}
use Rattle.ply_reader.specs.Gathering.{Gave, IsStopped}
use Rattle.ply_reader.proofs.WholeReads.{IsStart, answers}
use Rattle.build_core.specs.declared.faults.SpillFault.{SpillFault}
use Rattle.build_core.specs.declared.faults.SpillFault.TheVariants.{Text, Scratch}
use Rattle.build_core.specs.declared.jobs.Job.{Job}
use Rattle.build_core.specs.declared.spilling.Spilled.{Spilled}
use Rattle.build_core.specs.Spilling.{StopsSpilling}
use Rattle.build_core.specs.Meshes.{SpillsMesh, SpillsText, TellsStop, scale_of}

module _ {I : Type 0} {g : Ghosts I} where
  pub text_spilled : (job : Job) (start : Reading) (old : MeshReading) (tokens : Tokens I g) (reader : MeshReader) (before source : Option (List ℕ)) (told : Option (List (List ℕ))) (result : Result Spilled SpillFault)
      → ((text : List ℕ) → before ≡ Some text → IsStart start text) → source ≡ g.rest tokens.input.now → Gave (scale_of job) start [] [] old
      → MatchResult result (SpillsMesh job old (mesh_reading tokens reader) told) (StopsSpilling old (mesh_reading tokens reader)) → MatchResult result (SpillsText job before source told) (TellsStop job before source)
  text_spilled job start old tokens reader before source told (Ok spilled) begins same began s = record {
    mesh = s.mesh;
    means = λ text known. answers (scale_of job) start tokens reader text source (Ok s.mesh) (begins text known) same (s.gave (scale_of job) start began);
    is = s.is;
  }
  text_spilled job start old tokens reader before source told (Err (Text fault)) begins same began stops =
      λ text known. answers (scale_of job) start tokens reader text source (Err (whole.Text fault)) (begins text known) same (stops (scale_of job) start began)
  text_spilled job start old tokens reader before source told (Err Scratch) begins same began stops =
      λ text known. answers (scale_of job) start tokens reader text source (Err whole.Memory) (begins text known) same (stops (scale_of job) start began)

-- the source counts no fault less
pub spill_later : (job : Job) (start : Reading) (old now : MeshReading) (told : Option (List (List ℕ))) (result : Result Spilled SpillFault) → Gave (scale_of job) start [] [] old
    → MatchResult result (SpillsMesh job old now told) (StopsSpilling old now) → start.faults ≤ now.body.text.faults
spill_later job start old now told (Ok spilled) began s = (s.gave (scale_of job) start began).went.later
spill_later job start old now told (Err (Text fault)) began stops = (stops (scale_of job) start began).0.went.later
spill_later job start old now told (Err Scratch) began stops = (stops (scale_of job) start began).later

-- a read fails only where the count rose
pub spill_rose : (job : Job) (start : Reading) (old now : MeshReading) (told : Option (List (List ℕ))) (result : Result Spilled SpillFault) → Gave (scale_of job) start [] [] old
    → MatchResult result (SpillsMesh job old now told) (StopsSpilling old now) → result ≡ Err (Text ReadFault) → Rose start.faults now.body.text.faults
spill_rose job start old now told result began spills is =
    let stops : StopsSpilling old now (Text ReadFault) = subst (λ r. MatchResult r (SpillsMesh job old now told) (StopsSpilling old now)) is spills in
    let stop : IsStopped (scale_of job) start now (whole.Text ReadFault) = stops (scale_of job) start began in
    stop.0.failed stop.1
