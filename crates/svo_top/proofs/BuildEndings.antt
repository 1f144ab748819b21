-- From what the build of a job answers to what the command's run means.
use Rattle.std.proofs.Common.{◌⊎◌, ◌≡◌, ◌≢◌, ℕ, ◌<◌, ◌≤◌, List, [], ◌∷◌, ◌++◌, length, take, drop, refl, sym, ap, ◌∙◌, subst, inl, inr, Some, Result, Ok, Err, ⊎_elim, arith}
use Rattle.std.specs.Option.{option_map}
use Rattle.std.specs.Result.{result_err}
use Rattle.dev_traits.specs.Change.{Change, ChangeOf, ScratchChange, IsFaultless, IsFaulted, IsKept}
use Rattle.ply_binary.specs.AsciiChanges.{bytes_in, EndsWhole, IsReadAs, IsReadAsAscii}
use Rattle.ply_binary.specs.HeaderTexts.{ascii}
use Rattle.ply_reader.specs.WholeMeshes.{IsReadTo}
use Rattle.ply_reader.specs.PlyMeaning.{PlyMesh, ply_meaning}
use Rattle.ply_reader.specs.declared.fault.PlyFault.TheVariants.{Refused as IsRefused}
use Rattle.ply_reader.specs.declared.fault.PlyKind.{PlyKind}
use Rattle.octree_specs.specs.OctreeFile.{image_of, IsNodeFile}
use Rattle.std.proofs.lemmas.List.{take-append-drop, length-drop}
use Rattle.svo_base.specs.GridShape.{GridShape, IsGrid}
use Rattle.octree_specs.specs.Cells.{Cell, AreFacedCells}
use Rattle.octree_laws.proofs.Images.{no_proper_front}
use Rattle.build_core.specs.Building.{HasBegun}
use Rattle.build_core.specs.Meshes.{scale_of}
use Rattle.build_core.specs.declared.faults.BuildFault.{BuildFault}
use Rattle.build_core.specs.declared.faults.BuildFault.TheVariants as fault
use Rattle.build_core.specs.declared.jobs.Built.{Built}
use Rattle.build_core.specs.declared.jobs.Job.{Job}
use Rattle.svo_words.specs.declared.build.BuildWords.{BuildWords}
use Rattle.build_core.specs.Building.{devices_of}
use Rattle.svo_top.specs.Build.{BuildMeans, IsCutOff, Refused}
use Rattle.svo_top.specs.CoreRuns.{BuildsJob}
use Rattle.svo_top.specs.Endings.{status_of, ending_of, EndsBuild}
use Rattle.svo_top.specs.Ranges.{RangeIs, job_from, range_of_build}
use Rattle.svo_top.specs.declared.outcome.Status.TheVariants.{Done, Input, Range, Device, Memory}
use Rattle.svo_top.specs.declared.outcome.InputKind.{InputKind}
use Rattle.svo_top.specs.declared.outcome.InputKind.TheVariants.{Ply}
use Rattle.svo_top.specs.declared.outcome.Device.TheVariants.{Read, Scratch, Write}
use Rattle.svo_top.specs.declared.outcome.RangeFault.{RangeFault}

-- ---- no range is broken, and nothing else is

not_both : {A E : Type 0} (result : Result A E) (x : A) (e : E) → result ≡ Ok x → result_err result ≡ Some e → ⊥
not_both (Ok y) x e ok err = absurd cc
not_both (Err f) x e ok err = absurd cc

no_range : (words : BuildWords) (job : Job) (fault : RangeFault) → job_from words ≡ Ok job → range_of_build words ≡ Some fault → ⊥
no_range words job fault named broken = not_both (job_from words) job fault named broken

pub job_in_range : (words : BuildWords) (job : Job) (result : Result Built BuildFault) → job_from words ≡ Ok job → RangeIs (range_of_build words) (status_of (ending_of result))
job_in_range words job result named = record { comes = λ fault broken. absurd (no_range words job fault named broken); only = of result }
  where
    of : (r : Result Built BuildFault) (fault : RangeFault) → status_of (ending_of r) ≡ Range fault → range_of_build words ≡ Some fault
    of (Ok built) fault is = absurd cc
    of (Err (fault.Input kind place)) fault is = absurd cc
    of (Err fault.ReadFault) fault is = absurd cc
    of (Err fault.ScratchFault) fault is = absurd cc
    of (Err fault.WriteFault) fault is = absurd cc

-- ---- a build that was done

built_of : (words : BuildWords) (input out : Change) (scratch : ScratchChange) (job : Job) (at : List ℕ) (r : Result Built BuildFault) → job_from words ≡ Ok job → BuildsJob job at input out scratch r
    → EndsBuild words input out scratch (ending_of r)
built_of words input out scratch job at (Ok built) named runs =
    record { job = job; named = named; built = built; moves = runs.moves; moved = runs.moved; tests = runs.tests; tested = runs.tested; done = runs.builds; counts_are = refl }
built_of words input out scratch job at (Err (fault.Input kind place)) named runs = tt
built_of words input out scratch job at (Err fault.ReadFault) named runs = tt
built_of words input out scratch job at (Err fault.ScratchFault) named runs = tt
built_of words input out scratch job at (Err fault.WriteFault) named runs = tt

pub ends_build : (words : BuildWords) (input out : Change) (scratch : ScratchChange) (job : Job) (at : List ℕ) (r : Result Built BuildFault) → job_from words ≡ Ok job → BuildsJob job at input out scratch r
    → EndsBuild words input out scratch (ending_of r)
ends_build words input out scratch job at r named runs = built_of words input out scratch job at r named runs

-- ---- what a run means

-- a front of a node file that is not the whole is none
no_part : (grid : GridShape) (cells : List Cell) (count : ℕ) → IsGrid grid → AreFacedCells grid.depth cells → count < length (image_of 2 grid cells) → IsNodeFile (take count (image_of 2 grid cells)) → ⊥
no_part grid cells count limits are short file =
    let image = image_of 2 grid cells in
    let whole : IsNodeFile image = record { format = 2; grid = grid; cells = cells; file = record { limits = limits; cells_are = record { known = inr refl; map = are; faceless = λ one. absurd cc }; image = refl } } in
    let joined : take count image ++ drop count image ≡ image = take-append-drop count image in
    let none : drop count image ≡ [] = no_proper_front (take count image) (drop count image) file (subst IsNodeFile (sym joined) whole) in
    omega (arith, short, length-drop count image, ap length none)

is_cut_off : (words : BuildWords) (input out : Change) (scratch : ScratchChange) (job : Job) → job_from words ≡ Ok job → HasBegun job (devices_of input out scratch) → IsCutOff words input out scratch
is_cut_off words input out scratch job named begun = record {
  job = job;
  named = named;
  begun = begun;
  part = no_part begun.grid begun.cells begun.front.0 begun.limits begun.are;
}

-- all that one answer does not say
not_memory : (r : Result Built BuildFault) → status_of (ending_of r) ≡ Memory → ⊥
not_memory (Ok built) is = absurd cc
not_memory (Err (fault.Input kind place)) is = absurd cc
not_memory (Err fault.ReadFault) is = absurd cc
not_memory (Err fault.ScratchFault) is = absurd cc
not_memory (Err fault.WriteFault) is = absurd cc

means_kept : (input out : Change) (scratch : ScratchChange) (job : Job) (at : List ℕ) (r : Result Built BuildFault) → BuildsJob job at input out scratch r
    → status_of (ending_of r) ≢ Done → status_of (ending_of r) ≢ Device Write → status_of (ending_of r) ≢ Device Scratch → IsKept out
means_kept input out scratch job at (Ok built) runs done write spill = absurd (done refl)
means_kept input out scratch job at (Err (fault.Input kind place)) runs done write spill = runs.builds.1
means_kept input out scratch job at (Err fault.ReadFault) runs done write spill = runs.builds
means_kept input out scratch job at (Err fault.ScratchFault) runs done write spill = absurd (spill refl)
means_kept input out scratch job at (Err fault.WriteFault) runs done write spill = absurd (write refl)

means_cut_off : (words : BuildWords) (input out : Change) (scratch : ScratchChange) (job : Job) (at : List ℕ) (r : Result Built BuildFault) → job_from words ≡ Ok job → BuildsJob job at input out scratch r
    → status_of (ending_of r) ≡ Device Write → IsCutOff words input out scratch
means_cut_off words input out scratch job at (Ok built) named runs is = absurd cc
means_cut_off words input out scratch job at (Err (fault.Input kind place)) named runs is = absurd cc
means_cut_off words input out scratch job at (Err fault.ReadFault) named runs is = absurd cc
means_cut_off words input out scratch job at (Err fault.ScratchFault) named runs is = absurd cc
means_cut_off words input out scratch job at (Err fault.WriteFault) named runs is = is_cut_off words input out scratch job named runs.builds

means_cut_short : (words : BuildWords) (input out : Change) (scratch : ScratchChange) (job : Job) (at : List ℕ) (r : Result Built BuildFault) → job_from words ≡ Ok job → BuildsJob job at input out scratch r
    → status_of (ending_of r) ≡ Device Scratch → (out.after ≡ out.before) ⊎ IsCutOff words input out scratch
means_cut_short words input out scratch job at (Ok built) named runs is = absurd cc
means_cut_short words input out scratch job at (Err (fault.Input kind place)) named runs is = absurd cc
means_cut_short words input out scratch job at (Err fault.ReadFault) named runs is = absurd cc
means_cut_short words input out scratch job at (Err fault.ScratchFault) named runs is = ⊎_elim (λ none. inl none.0) (λ begun. inr (is_cut_off words input out scratch job named begun)) runs.builds
means_cut_short words input out scratch job at (Err fault.WriteFault) named runs is = absurd cc

means_refused : (words : BuildWords) (input out : Change) (scratch : ScratchChange) (job : Job) (at : List ℕ) (r : Result Built BuildFault) → job_from words ≡ Ok job → BuildsJob job at input out scratch r
    → (kind : InputKind) (place : ℕ) → status_of (ending_of r) ≡ Input kind place → Refused words kind place input
means_refused words input out scratch job at (Ok built) named runs kind place is = absurd cc
means_refused words input out scratch job at (Err (fault.Input ply there)) named runs kind place is =
    let same_kind : kind ≡ Ply ply = cc in
    let same_place : there ≡ place = cc in
    record {
      job = job;
      named = named;
      ply = ply;
      kind_is = same_kind;
      cause = subst (λ n. (text : List ℕ) → input.before ≡ Some text → (ply_meaning (scale_of job) text ≡ Err (IsRefused ply n)) × IsReadTo n text input.after) same_place runs.builds.0;
    }
means_refused words input out scratch job at (Err fault.ReadFault) named runs kind place is = absurd cc
means_refused words input out scratch job at (Err fault.ScratchFault) named runs kind place is = absurd cc
means_refused words input out scratch job at (Err fault.WriteFault) named runs kind place is = absurd cc

-- a count that rose did
unfaulted : {Told : Type 0} (change : ChangeOf Told) → IsFaulted change → IsFaultless change → ⊥
unfaulted change rose none = ⊎_elim (λ less. let no : ⊥ = omega (arith, less, none.0) in no) (λ last. none.1 last) rose

same_job : (words : BuildWords) (job other : Job) → job_from words ≡ Ok job → job_from words ≡ Ok other → other ≡ job
same_job words job other named also = let both : Ok other ≡ Ok job = sym also ∙ named in cc

means_accepts : (words : BuildWords) (input out : Change) (scratch : ScratchChange) (job : Job) (at : List ℕ) (r : Result Built BuildFault) → BuildsJob job at input out scratch r
    → (text : List ℕ) (mesh : PlyMesh) → input.before ≡ Some text → ply_meaning (scale_of job) text ≡ Ok mesh → IsFaultless input → IsFaultless out → IsFaultless scratch.streams
    → (status_of (ending_of r) ≡ Done) ⊎ (status_of (ending_of r) ≡ Memory)
means_accepts words input out scratch job at (Ok built) runs text mesh told means read put spilled = inl refl
means_accepts words input out scratch job at (Err (fault.Input ply place)) runs text mesh told means read put spilled =
    let refused = (runs.builds.0 text told).0 in
    absurd (let both : Ok mesh ≡ Err (IsRefused ply place) = sym means ∙ refused in cc)
means_accepts words input out scratch job at (Err fault.ReadFault) runs text mesh told means read put spilled = absurd (unfaulted input (runs.read refl) read)
means_accepts words input out scratch job at (Err fault.ScratchFault) runs text mesh told means read put spilled = absurd (unfaulted scratch.streams (runs.spilled refl) spilled)
means_accepts words input out scratch job at (Err fault.WriteFault) runs text mesh told means read put spilled = absurd (unfaulted out (runs.written refl) put)

-- a text that is refused means no mesh
no_mesh : (job : Job) (text : List ℕ) (mesh : PlyMesh) (ply : PlyKind) (place : ℕ) → ply_meaning (scale_of job) text ≡ Ok mesh → ply_meaning (scale_of job) text ≡ Err (IsRefused ply place) → ⊥
no_mesh job text mesh ply place means refused = let both : Ok mesh ≡ Err (IsRefused ply place) = sym means ∙ refused in absurd cc

means_rejects : (words : BuildWords) (input out : Change) (scratch : ScratchChange) (job : Job) (at : List ℕ) (r : Result Built BuildFault) → BuildsJob job at input out scratch r
    → (text : List ℕ) (ply : PlyKind) (place : ℕ) → input.before ≡ Some text → ply_meaning (scale_of job) text ≡ Err (IsRefused ply place) → IsFaultless input → IsFaultless scratch.streams
    → (status_of (ending_of r) ≡ Input (Ply ply) place) ⊎ (status_of (ending_of r) ≡ Memory)
means_rejects words input out scratch job at (Ok built) runs text ply place told refused read spilled = absurd (no_mesh job text runs.builds.mesh ply place (runs.builds.means text told) refused)
means_rejects words input out scratch job at (Err (fault.Input kind there)) runs text ply place told refused read spilled =
    let found = (runs.builds.0 text told).0 in
    let both : Err (IsRefused kind there) ≡ Err (IsRefused ply place) = sym found ∙ refused in
    let same_kind : kind ≡ ply = cc in
    let same_place : there ≡ place = cc in
    inl (rw (same_kind, same_place) refl)
means_rejects words input out scratch job at (Err fault.ReadFault) runs text ply place told refused read spilled = absurd (unfaulted input (runs.read refl) read)
means_rejects words input out scratch job at (Err fault.ScratchFault) runs text ply place told refused read spilled = absurd (unfaulted scratch.streams (runs.spilled refl) spilled)
means_rejects words input out scratch job at (Err fault.WriteFault) runs text ply place told refused read spilled = absurd (no_mesh job text runs.builds.mesh ply place (runs.builds.means text told) refused)

-- a text counts the faults of its input
faultless : (input text : Change) → IsReadAsAscii input text → IsFaultless input → IsFaultless text
faultless input text ascii none = rw (ascii.faults_before, ascii.faults_after) none

none_of : (xs : List ℕ) → length xs ≤ 0 → xs ≡ []
none_of [] none = refl
none_of (x ∷ xs) none = absurd (omega (arith, none))

-- what is left of an input whose text was given whole
read_by : (bytes behind left : List ℕ) → IsReadAs bytes behind left → left ≡ [] → (ascii bytes ≡ bytes) ⊎ EndsWhole bytes → behind ≡ []
read_by bytes behind left reads none (inl same) = none_of behind (omega (arith, reads.plain same, ap length none))
read_by bytes behind left reads none (inr whole) = reads.ended none whole

means_read : (input text out : Change) (scratch : ScratchChange) (job : Job) (at : List ℕ) (r : Result Built BuildFault) → BuildsJob job at text out scratch r → IsReadAsAscii input text
    → status_of (ending_of r) ≡ Done → (bytes : List ℕ) → input.before ≡ Some bytes → (ascii bytes ≡ bytes) ⊎ EndsWhole bytes → input.after ≡ Some []
means_read input text out scratch job at (Ok built) runs reads is bytes told which =
    let after = reads.told bytes told in
    let left : text.after ≡ Some [] = runs.builds.nothing_left (ascii bytes) (reads.before ∙ ap (option_map ascii) told) in
    after.0 ∙ ap Some (read_by bytes (bytes_in input.after) (bytes_in text.after) after.2 (ap bytes_in left) which)
means_read input text out scratch job at (Err (fault.Input kind place)) runs reads is bytes told which = absurd cc
means_read input text out scratch job at (Err fault.ReadFault) runs reads is bytes told which = absurd cc
means_read input text out scratch job at (Err fault.ScratchFault) runs reads is bytes told which = absurd cc
means_read input text out scratch job at (Err fault.WriteFault) runs reads is bytes told which = absurd cc

pub means_build : (words : BuildWords) (input text out : Change) (scratch : ScratchChange) (job : Job) (r : Result Built BuildFault) → job_from words ≡ Ok job → BuildsJob job words.scratch text out scratch r
    → IsReadAsAscii input text → BuildMeans words input text out scratch (status_of (ending_of r))
means_build words input text out scratch job r named runs ascii = record {
  untouched = λ fault broken. absurd (no_range words job fault named broken);
  memory = λ is. absurd (not_memory r is);
  asked = inr (record { job = job; named = named; asked = runs.asked });
  read = means_read input text out scratch job words.scratch r runs ascii;
  kept = means_kept text out scratch job words.scratch r runs;
  cut_off = means_cut_off words text out scratch job words.scratch r named runs;
  cut_short = means_cut_short words text out scratch job words.scratch r named runs;
  refused = means_refused words text out scratch job words.scratch r named runs;
  accepts = λ bytes other mesh also told means read put spilled.
      means_accepts words text out scratch job words.scratch r runs bytes mesh told (subst (λ j. ply_meaning (scale_of j) bytes ≡ Ok mesh) (same_job words job other named also) means) (faultless input text ascii read) put spilled;
  rejects = λ bytes other ply place also told refused read spilled.
      means_rejects words text out scratch job words.scratch r runs bytes ply place told (subst (λ j. ply_meaning (scale_of j) bytes ≡ Err (IsRefused ply place)) (same_job words job other named also) refused)
      (faultless input text ascii read) spilled;
}

-- ---- devices

pub read_cause : (input out : Change) (scratch : ScratchChange) (job : Job) (at : List ℕ) (r : Result Built BuildFault) → BuildsJob job at input out scratch r → status_of (ending_of r) ≡ Device Read → IsFaulted input
read_cause input out scratch job at (Ok built) runs is = absurd cc
read_cause input out scratch job at (Err (fault.Input kind place)) runs is = absurd cc
read_cause input out scratch job at (Err fault.ReadFault) runs is = runs.read refl
read_cause input out scratch job at (Err fault.ScratchFault) runs is = absurd cc
read_cause input out scratch job at (Err fault.WriteFault) runs is = absurd cc

pub write_cause : (input out : Change) (scratch : ScratchChange) (job : Job) (at : List ℕ) (r : Result Built BuildFault) → BuildsJob job at input out scratch r → status_of (ending_of r) ≡ Device Write → IsFaulted out
write_cause input out scratch job at (Ok built) runs is = absurd cc
write_cause input out scratch job at (Err (fault.Input kind place)) runs is = absurd cc
write_cause input out scratch job at (Err fault.ReadFault) runs is = absurd cc
write_cause input out scratch job at (Err fault.ScratchFault) runs is = absurd cc
write_cause input out scratch job at (Err fault.WriteFault) runs is = runs.written refl

pub scratch_cause : (input out : Change) (scratch : ScratchChange) (job : Job) (at : List ℕ) (r : Result Built BuildFault) → BuildsJob job at input out scratch r → status_of (ending_of r) ≡ Device Scratch → IsFaulted scratch.streams
scratch_cause input out scratch job at (Ok built) runs is = absurd cc
scratch_cause input out scratch job at (Err (fault.Input kind place)) runs is = absurd cc
scratch_cause input out scratch job at (Err fault.ReadFault) runs is = absurd cc
scratch_cause input out scratch job at (Err fault.ScratchFault) runs is = runs.spilled refl
scratch_cause input out scratch job at (Err fault.WriteFault) runs is = absurd cc
