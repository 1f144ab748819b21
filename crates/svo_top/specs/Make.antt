-- What a run of `make` does.
use Rattle.std.specs.Prelude.{◌≡◌, ◌≢◌, ◌⊎◌, ℕ, List, take, unsigned_abs, None}
use Rattle.dev_traits.specs.Change.{Change, ScratchChange, IsFaultless, IsKept, IsScratchKept, Grew}
use Rattle.mesh_maker.specs.MadeText.{made_text}
use Rattle.svo_words.specs.declared.made.MakeWords.{MakeWords}
use Rattle.svo_top.specs.Ranges.{range_of_make}
use Rattle.svo_top.specs.declared.outcome.Status.{Status}
use Rattle.svo_top.specs.declared.outcome.Status.TheVariants.{Done, Device, Memory}
use Rattle.svo_top.specs.declared.outcome.Device.TheVariants.{Write}

-- the mesh text that the words name
abbrev pub text_of_make : MakeWords → List ℕ
text_of_make words = made_text (unsigned_abs words.number) (unsigned_abs words.side)

-- the output grew by the text where it is done, by a front of it where the output failed, and else by nothing; and how a faultless run ends
pub record MakeMeans (words : MakeWords) (out : Change) (status : Status) : Type 0 where
  pub done : status ≡ Done → Grew out (text_of_make words)
  pub cut_off : status ≡ Device Write → (count : ℕ) × Grew out (take count (text_of_make words))
  pub kept : status ≢ Done → status ≢ Device Write → IsKept out
  pub makes : range_of_make words ≡ None → IsFaultless out → (status ≡ Done) ⊎ (status ≡ Memory)

-- a run of `make` reads nothing and keeps nothing on scratch, and has no line where it is done
pub record MakeRun (words : MakeWords) (input out : Change) (scratch : ScratchChange) (err : Change) (status : Status) : Type 0 where
  pub means : MakeMeans words out status
  pub unread : IsKept input
  pub unspilled : IsScratchKept scratch
  pub silent : status ≡ Done → IsKept err
