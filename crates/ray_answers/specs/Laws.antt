-- What the answers to rays and points are.
use Rattle.std.specs.Prelude.{◌≡◌, ℕ, List, Option}
use Rattle.svo_base.specs.GridShape.{GridShape}
use Rattle.octree_specs.specs.Cells.{Cell}
use Rattle.node_check.specs.Stops.{PutsFront}
use Rattle.ray_answers.specs.AnswerLines.{AreAnswers}
use Rattle.ray_answers.specs.declared.queries.Query.{Query}
use Rattle.ray_answers.specs.Answering.{PutsSomeAnswers}

-- queries have one text of answers at most
abbrev pub AnswersAreOne : Type 0
AnswersAreOne = (grid : GridShape) (cells : List Cell) (queries : List Query) (text other : List ℕ) → AreAnswers grid cells queries text → AreAnswers grid cells queries other → text ≡ other

-- what was put of the answers to the first queries is a front of the answers to all
abbrev pub FrontsOfAnswers : Type 0
FrontsOfAnswers = (grid : GridShape) (cells : List Cell) (queries : List Query) (before after : Option (List ℕ)) (answers : List ℕ)
    → PutsSomeAnswers grid cells queries before after → AreAnswers grid cells queries answers → PutsFront before after answers
