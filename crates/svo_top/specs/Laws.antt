-- That what a run answers does not depend on how many blocks of the file are kept, nor on whether there is memory for them.
use Rattle.std.specs.Prelude.{◌≡◌, ◌≢◌, ℕ, List, Option, None, Some}
use Rattle.svo_base.specs.GridShape.{GridShape}
use Rattle.dev_traits.specs.Change.{Change, StoreChange, IsFaultless}
use Rattle.octree_specs.specs.Cells.{Cell}
use Rattle.svo_top.specs.FileAnswers.{bar}
use Rattle.svo_top.specs.FileQuestion.{Asks}
use Rattle.svo_top.specs.NodeFiles.{Tells, Keeps}
use Rattle.svo_top.specs.declared.file_question.Question.{Question}
use Rattle.svo_top.specs.declared.outcome.Status.{Status}
use Rattle.svo_top.specs.declared.outcome.Status.TheVariants.{Memory}

-- a question about a file of these bytes was asked; the input told this text, and what the output told became another; no device failed, and memory did not run out
pub record IsAnswered (question : Question) (bytes : Option (List ℕ)) (text told put : List ℕ) (status : Status) : Type 0 where
  pub name : List ℕ
  pub input : Change
  pub out : Change
  pub nodes : StoreChange
  pub tells : Tells nodes name bytes
  pub reads : input.before ≡ Some text
  pub begins : out.before ≡ Some told
  pub ends : out.after ≡ Some put
  pub unfailed : IsFaultless input × IsFaultless out × IsFaultless nodes
  pub remembered : status ≢ Memory
  pub asks : Asks question name input out nodes status

-- over a node file of cells that has the question's code or layer, two such runs put out the same and end alike
abbrev pub AnswersAreOne : Type 0
AnswersAreOne = (question : Question) (bytes : Option (List ℕ)) (format : ℕ) (grid : GridShape) (cells : List Cell) (text told put other : List ℕ) (status ended : Status)
    → Keeps bytes format grid cells → bar question grid.depth ≡ None → IsAnswered question bytes text told put status → IsAnswered question bytes text told other ended → (put ≡ other) × (status ≡ ended)
