-- Answers that are given one after another.
use Rattle.std.proofs.Common.{◌≡◌, ℕ, List, [], ◌∷◌, ◌++◌, length, refl, sym, ap, ◌∙◌, append_assoc, append-nil}
use Rattle.std.specs.Prelude.{Option}
use Rattle.std.specs.Io.KnownBytes.{append_known}
use Rattle.std.proofs.Math.Seq.{take-length}
use Rattle.svo_base.specs.GridShape.{GridShape}
use Rattle.octree_specs.specs.Cells.{Cell}
use Rattle.node_check.specs.Stops.{PutsFront}
use Rattle.node_file.proofs.Fronts.{append_twice, front_onward, front_of_longer}
use Rattle.ray_answers.specs.declared.queries.Query.{Query}
use Rattle.ray_answers.specs.AnswerLines.{IsAnswer, AreAnswers}
use Rattle.ray_answers.specs.Runs.{AreGiven, AreCut}

-- one answer more
pub answers_more : (grid : GridShape) (cells : List Cell) (queries : List Query) (query : Query) (text line : List ℕ)
    → AreAnswers grid cells queries text → IsAnswer grid cells query line → AreAnswers grid cells (queries ++ query ∷ []) (text ++ line)
answers_more grid cells [] query text line none is =
    (line, [], is, refl, ap (λ t. t ++ line) none ∙ sym (append-nil line))
answers_more grid cells (first ∷ queries) query text line are is =
    let later : List ℕ = are.1 in
    (are.0, later ++ line, are.2, answers_more grid cells queries query later line are.3 is, ap (λ t. t ++ line) are.4 ∙ append_assoc are.0 later line)

-- a front of what waited was put
pub still_front : (start written after : Option (List ℕ)) (answers waiting : List ℕ) → PutsFront start written answers → append_known written waiting ≡ append_known start answers
    → PutsFront written after waiting → PutsFront start after answers
still_front start written after answers waiting front given more = front_onward start written after answers waiting front given more

-- an answer was added to what was given
pub given_more : (grid : GridShape) (cells : List Cell) (queries : List Query) (query : Query) (line : List ℕ) (start written after : Option (List ℕ)) (waiting left : List ℕ)
    → AreGiven grid cells queries start written waiting → IsAnswer grid cells query line
    → append_known after left ≡ append_known (append_known written waiting) line → PutsFront written after waiting
    → AreGiven grid cells (queries ++ query ∷ []) start after left
given_more grid cells queries query line start written after waiting left are is added more = record {
  answers = are.answers ++ line;
  are = answers_more grid cells queries query are.answers line are.are is;
  given = added ∙ ap (λ o. append_known o line) are.given ∙ append_twice start are.answers line;
  front = front_of_longer start after are.answers line (still_front start written after are.answers waiting are.front are.given more);
}

-- what was given stayed as it was
pub given_still : (grid : GridShape) (cells : List Cell) (queries : List Query) (start written after : Option (List ℕ)) (waiting left : List ℕ)
    → AreGiven grid cells queries start written waiting → append_known after left ≡ append_known written waiting → PutsFront written after waiting
    → AreGiven grid cells queries start after left
given_still grid cells queries start written after waiting left are same more = record {
  answers = are.answers;
  are = are.are;
  given = same ∙ are.given;
  front = still_front start written after are.answers waiting are.front are.given more;
}

-- the output failed
pub given_cut : (grid : GridShape) (cells : List Cell) (queries : List Query) (start written after : Option (List ℕ)) (waiting : List ℕ)
    → AreGiven grid cells queries start written waiting → PutsFront written after waiting → AreCut grid cells queries start after
given_cut grid cells queries start written after waiting are more = record {
  answers = are.answers;
  are = are.are;
  front = still_front start written after are.answers waiting are.front are.given more;
}

-- all that waits was put
pub front_of_all : (before after : Option (List ℕ)) (piece items : List ℕ) → piece ≡ items → after ≡ append_known before piece → PutsFront before after items
front_of_all before after piece items same put =
    (length items, put ∙ (ap (append_known before) same ∙ ap (append_known before) (sym (take-length items))))
