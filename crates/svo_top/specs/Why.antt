-- What a run of `why` does.
use Rattle.std.specs.Prelude.{◌≡◌, ◌≢◌, ◌⊎◌, ℕ, List, ◌++◌, take, codes, None, Some}
use Rattle.std.specs.Fmt.{decimal, signed_decimal}
use Rattle.dev_traits.specs.Change.{Change, ScratchChange, IsFaultless, IsKept, IsScratchKept, Grew}
use Rattle.svo_base.specs.declared.shapes.Triangle.{Triangle}
use Rattle.svo_base.specs.declared.shapes.Cube.{Cube}
use Rattle.tri_cube.specs.Verdicts.{Says as Judges}
use Rattle.tri_cube.specs.declared.verdicts.Verdict.{Verdict}
use Rattle.tri_cube.specs.declared.verdicts.Verdict.TheVariants.{Meets, Apart}
use Rattle.svo_words.specs.declared.why.WhyWords.{WhyWords}
use Rattle.svo_top.specs.WhyQuestion.{triangle_from, cube_from}
use Rattle.svo_top.specs.Ranges.{range_of_question}
use Rattle.svo_top.specs.declared.outcome.Status.{Status}
use Rattle.svo_top.specs.declared.outcome.Status.TheVariants.{Done, Device, Memory}
use Rattle.svo_top.specs.declared.outcome.Device.TheVariants.{Write}

-- the weights of the shared point, or the number of the separating axis
unfoldable pub verdict_line : Verdict → List ℕ
verdict_line (Meets w0 w1 w2) = codes "meets " ++ signed_decimal w0 ++ codes " " ++ signed_decimal w1 ++ codes " " ++ signed_decimal w2 ++ codes "\n"
verdict_line (Apart axis) = codes "apart " ++ decimal axis ++ codes "\n"

-- the answer to a question: why its triangle and its cube share a point, or do not
pub record Explains (question : WhyWords) (answer : List ℕ) : Type 0 where
  pub triangle : Triangle
  pub cube : Cube
  pub verdict : Verdict
  pub triangle_is : triangle_from question.triangle ≡ Some triangle
  pub cube_is : cube_from question.cube ≡ Some cube
  pub judged : Judges triangle cube verdict
  pub answer_is : answer ≡ verdict_line verdict

-- what each way to end means for the output, and how a faultless run ends
pub record WhyMeans (question : WhyWords) (out : Change) (status : Status) : Type 0 where
  pub done : status ≡ Done → (answer : List ℕ) × Explains question answer × Grew out answer
  pub cut_off : status ≡ Device Write → (answer : List ℕ) × (count : ℕ) × Explains question answer × Grew out (take count answer)
  pub kept : status ≢ Done → status ≢ Device Write → IsKept out
  pub answers : range_of_question question ≡ None → IsFaultless out → (status ≡ Done) ⊎ (status ≡ Memory)

-- a run of `why` reads nothing and keeps nothing on scratch, and has no line where it is done
pub record WhyRun (question : WhyWords) (input out : Change) (scratch : ScratchChange) (err : Change) (status : Status) : Type 0 where
  pub means : WhyMeans question out status
  pub unread : IsKept input
  pub unspilled : IsScratchKept scratch
  pub silent : status ≡ Done → IsKept err
