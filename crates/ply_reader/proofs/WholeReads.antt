-- What the text means, by what a reader that began at its start gave.
use Rattle.std.proofs.Common.{◌≡◌, ℕ, ◌+◌, ◌-◌, ◌≤◌, List, [], ◌++◌, length, arith, sym, ap, ◌∙◌, subst, Option, None, Some, IfSome, Result, Ok, Err, MatchResult, length-append}
use Rattle.std.proofs.lemmas.List.{nil_from_length}
use Rattle.dev_traits.specs.declared.device.ByteSource.{Ghosts}
use Rattle.dev_traits.specs.Faults.{Rose}
use Rattle.ply_text.specs.declared.tokens.Tokens.{Tokens}
use Rattle.ply_text.specs.Reading.{Reading, StandsIn, held}
use Rattle.ply_text.proofs.Blocks.{told_parts}
use Rattle.ply_text.proofs.Callers.{source_behind}
use Rattle.ply_reader.specs.declared.fault.PlyFault.{PlyFault}
use Rattle.ply_reader.specs.declared.fault.PlyFault.TheVariants.{Refused, ReadFault}
use Rattle.ply_reader.specs.declared.mesh.MeshReader.{MeshReader}
use Rattle.ply_reader.specs.declared.scales.Scale.{Scale}
use Rattle.ply_reader.specs.declared.whole_mesh.MeshFault.{MeshFault}
use Rattle.ply_reader.specs.declared.whole_mesh.MeshFault.TheVariants.{Text, Memory}
use Rattle.ply_reader.specs.Cursors.{at}
use Rattle.ply_reader.specs.PlyMeaning.{PlyMesh, outcome_of, meaning_of}
use Rattle.ply_reader.specs.MeshCalls.{MeshReading, mesh_reading}
use Rattle.ply_reader.specs.Gathering.{outcome_from, WentOn, IsStopped, GaveAll}
use Rattle.ply_reader.specs.WholeMeshes.{IsReadTo, Answers}
use Rattle.ply_reader.proofs.GatheredMeshes.{GaveTold, StopTold, IsReached, some_of}

-- a text from its first byte on
pub from_start : (scale : Scale) (text : List ℕ) (place : ℕ) → place ≡ 0 → outcome_from scale (at place text) ≡ outcome_of scale text
unfolding outcome_of
from_start scale text place is = ap (λ n. outcome_from scale (at n text)) is

-- nothing is left in front of nothing
nothing_left : (bytes behind : List ℕ) → [] ≡ bytes ++ behind → behind ≡ []
nothing_left bytes behind is = nil_from_length behind (omega (arith, ap length is, length-append bytes behind))

-- a reader that began at the start of a told text
pub record IsStart (start : Reading) (text : List ℕ) : Type 0 where
  pub place : start.place ≡ 0
  pub left : start.left ≡ Some text
  pub stands : StandsIn text start

module _ {I : Type 0} {g : Ghosts I} where
  -- what the source has still to give
  pub read_to : (start : Reading) (tokens : Tokens I g) (reader : MeshReader) (text : List ℕ) (source : Option (List ℕ)) (place : ℕ) → IsStart start text → WentOn start (mesh_reading tokens reader)
      → source ≡ g.rest tokens.input.now → place ≤ tokens.place + (tokens.to - tokens.from) → IsReadTo place text source
  read_to start tokens reader text source place begins went same reached =
      record { count = tokens.place + (tokens.to - tokens.from); reached = reached; behind = same ∙ source_behind tokens text (went.stands text begins.stands) }

  mesh_answers : (scale : Scale) (start : Reading) (tokens : Tokens I g) (reader : MeshReader) (text : List ℕ) (source : Option (List ℕ)) (mesh : PlyMesh) → IsStart start text
      → source ≡ g.rest tokens.input.now → GaveAll scale start mesh (mesh_reading tokens reader) → Answers scale text source (Ok mesh)
  mesh_answers scale start tokens reader text source mesh begins same gave =
      let told = gave.told text begins.left in
      let parts = told_parts (held tokens) (g.rest tokens.input.now) [] told.0 in
      let means : meaning_of (outcome_of scale text) (outcome_of scale text).ends ≡ Ok mesh = ap (λ o. meaning_of o o.ends) (sym (from_start scale text start.place begins.place)) ∙ told.1 in
      (means, same ∙ parts.1 ∙ ap Some (nothing_left (held tokens) parts.0 parts.2))

  refusal_answers : (scale : Scale) (start : Reading) (tokens : Tokens I g) (reader : MeshReader) (text : List ℕ) (source : Option (List ℕ)) (fault : PlyFault) → IsStart start text
      → source ≡ g.rest tokens.input.now → IsStopped scale start (mesh_reading tokens reader) (Text fault) → Answers scale text source (Err (Text fault))
  refusal_answers scale start tokens reader text source ReadFault begins same stop = read_to start tokens reader text source 0 begins stop.0.went same (omega arith)
  refusal_answers scale start tokens reader text source (Refused kind place) begins same stop =
      let m = mesh_reading tokens reader in
      let ends = some_of (GaveTold scale start [] [] m text) (StopTold scale start text) m.stopped (Refused kind place) stop.1 (stop.0.told text begins.left (λ bad. cc (stop.1, bad))) in
      let means : meaning_of (outcome_of scale text) (outcome_of scale text).ends ≡ Err (Refused kind place) = ap (λ o. meaning_of o o.ends) (sym (from_start scale text start.place begins.place)) ∙ ap (meaning_of (outcome_from scale (at start.place text))) ends in
      (means, read_to start tokens reader text source place begins stop.0.went same (is_reached m.stopped stop.1 stop.0.reached))
    where
      is_reached : (o : Option PlyFault) → o ≡ Some (Refused kind place) → IfSome o (IsReached (mesh_reading tokens reader)) → place ≤ tokens.place + (tokens.to - tokens.from)
      is_reached None is p = absurd (cc is)
      is_reached (Some other) is p = let same : other ≡ Refused kind place = cc is in subst (IsReached (mesh_reading tokens reader)) same p

  -- the answer is what the text means
  pub answers : (scale : Scale) (start : Reading) (tokens : Tokens I g) (reader : MeshReader) (text : List ℕ) (source : Option (List ℕ)) (result : Result PlyMesh MeshFault) → IsStart start text
      → source ≡ g.rest tokens.input.now → MatchResult result (λ mesh. GaveAll scale start mesh (mesh_reading tokens reader)) (IsStopped scale start (mesh_reading tokens reader)) → Answers scale text source result
  answers scale start tokens reader text source (Ok mesh) begins same gave = mesh_answers scale start tokens reader text source mesh begins same gave
  answers scale start tokens reader text source (Err (Text fault)) begins same stop = refusal_answers scale start tokens reader text source fault begins same stop
  answers scale start tokens reader text source (Err Memory) begins same went = read_to start tokens reader text source 0 begins went same (omega arith)

-- the source counts no fault less
pub later_by : (scale : Scale) (start : Reading) (now : MeshReading) (result : Result PlyMesh MeshFault) → MatchResult result (λ mesh. GaveAll scale start mesh now) (IsStopped scale start now) → start.faults ≤ now.body.text.faults
later_by scale start now (Ok mesh) gave = gave.went.later
later_by scale start now (Err (Text fault)) stop = stop.0.went.later
later_by scale start now (Err Memory) went = went.later

-- a read fails only where the count rose
pub rose_by : (scale : Scale) (start : Reading) (now : MeshReading) (result : Result PlyMesh MeshFault) → MatchResult result (λ mesh. GaveAll scale start mesh now) (IsStopped scale start now)
    → result ≡ Err (Text ReadFault) → Rose start.faults now.body.text.faults
rose_by scale start now (Ok mesh) gave is = absurd (cc is)
rose_by scale start now (Err (Text fault)) stop is = let same : fault ≡ ReadFault = cc is in stop.0.failed (stop.1 ∙ ap Some same)
rose_by scale start now (Err Memory) went is = absurd (cc is)

-- counts by other names
pub later_source : {a b c d : ℕ} → a ≤ b → a ≡ c → d ≡ b → c ≤ d
later_source later first last = omega (arith, later, first, last)

pub rose_source : {a b c d : ℕ} → Rose a b → a ≡ c → d ≡ b → Rose c d
rose_source {a} {b} {c} {d} rose first last = subst (λ n. Rose n d) first (subst (λ n. Rose a n) (sym last) rose)
