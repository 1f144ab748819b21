-- What is found where two files are loaded by their names.
use Rattle.std.specs.Prelude.{◌≡◌, ℕ, ◌+◌, ◌*◌, ◌^◌, ◌<◌, ◌≤◌, ⊤, List, length, Option, None, Some, Result, Ok, Err, IsSome}
use Rattle.std.specs.Option.{ForSome}
use Rattle.svo_base.specs.GridShape.{IsGrid}
use Rattle.dev_traits.specs.Faults.{Rose}
use Rattle.dev_traits.specs.Files.{NamedFile, current_bytes, file_named}
use Rattle.node_file.specs.Loading.{FindsFrame, IsUnframed}
use Rattle.node_file.specs.declared.loading.Frame.{Frame}
use Rattle.node_file.specs.declared.loading.LoadFault.{LoadFault}
use Rattle.node_file.specs.declared.loading.LoadFault.TheVariants as load
use Rattle.node_merge.specs.declared.pair_loading.Frames.{Frames}
use Rattle.node_merge.specs.declared.pair_loading.PairFault.{PairFault}
use Rattle.node_merge.specs.declared.pair_loading.PairFault.TheVariants.{NoFirst, First, NoSecond, Second, Failed}

abbrev pub first_fault : LoadFault → PairFault
first_fault load.NoFile = NoFirst
first_fault load.NotNodes = First
first_fault load.Failed = Failed

abbrev pub second_fault : LoadFault → PairFault
second_fault load.NoFile = NoSecond
second_fault load.NotNodes = Second
second_fault load.Failed = Failed

-- a file has this frame, around at least one word
abbrev pub HasFirstFrame : Option (List ℕ) → Frame → Type 0
HasFirstFrame first frame = FindsFrame first (Ok frame) × (1 ≤ frame.totals.records)

-- the answer where the frames of two files are looked at, of which these are the bytes, if there are such files
abbrev pub FindsFrames : Option (List ℕ) → Option (List ℕ) → Result Frames PairFault → Type 0
FindsFrames first second (Ok frames) = FindsFrame first (Ok frames.first) × FindsFrame second (Ok frames.second)
FindsFrames first second (Err NoFirst) = first ≡ None
FindsFrames first second (Err First) = (b : List ℕ) × (first ≡ Some b) × IsUnframed b
FindsFrames first second (Err NoSecond) = (frame : Frame) × HasFirstFrame first frame × (second ≡ None)
FindsFrames first second (Err Second) = (frame : Frame) × HasFirstFrame first frame × ((b : List ℕ) × (second ≡ Some b) × IsUnframed b)
FindsFrames first second (Err Failed) = ⊤

-- the frame is within its limits, and a file of this name is long enough for it
pub record IsFrameIn (told : Option (List NamedFile)) (name : List ℕ) (frame : Frame) : Type 0 where
  pub limits : IsGrid frame.grid
  pub format : (1 ≤ frame.format) × (frame.format ≤ 2)
  pub some : 1 ≤ frame.totals.records
  pub few : 80 + 8 * frame.totals.records < 2 ^ 64
  pub there : ForSome told (λ files. IsSome (file_named files name))
  pub long : ForSome (current_bytes told (Some name)) (λ bytes. 80 + 8 * frame.totals.records ≤ length bytes)

-- a count of faults did not fall, and a load failed only where it rose
pub record FailsOnlyByRise {T : Type 0} (before after : ℕ) (result : Result T PairFault) : Type 0 where
  pub later : before ≤ after
  pub failed : result ≡ Err Failed → Rose before after
