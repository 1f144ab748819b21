-- The queues of an octree whose cells are pushed in ascending order.
use Rattle.std.specs.Prelude.{◌≡◌, ℕ, suc, ◌-◌, ◌==◌, cond, List, ◌++◌, length, Option}
use Rattle.octree_specs.specs.Cells.{Cell}
use Rattle.octree_specs.specs.Formats.{face_leaves}
use Rattle.octree_specs.specs.Octree.{Leaf}
use Rattle.level_queues.specs.GivenWords.{with_words}
use Rattle.level_queues.specs.Queued.{AreQueued, queue_of}
use Rattle.level_queues.specs.declared.levels.LevelQueues.{LevelQueues}

-- after these leaves, with all below this height closed, these words were given
pub record IsQueuedAt (leaves : List Leaf) (height : ℕ) (queues : LevelQueues) (words : List ℕ) : Type 0 where
  pub queued : AreQueued leaves (queues.depth - suc height) height queues.last (queue_of queues.queues.entries queues.counts) words
  pub count : queues.words ≡ length words
  pub cells : queues.cells ≡ length leaves

-- the height from which on nothing is closed between two pushes: the highest before the first cell, and then the lowest
abbrev pub lowest_of : LevelQueues → ℕ
lowest_of queues = cond (queues.cells == 0) (queues.depth - 1) 0

-- after these cells, these words were given
abbrev pub IsQueued : List Cell → LevelQueues → List ℕ → Type 0
IsQueued cells queues words = IsQueuedAt (face_leaves cells) (lowest_of queues) queues words

-- the words that were given grew from these, and then this holds of all of them
pub record GoesOn (words : List ℕ) (before after : Option (List ℕ)) (Holds : List ℕ → Type 0) : Type 0 where
  pub more : List ℕ
  pub grown : after ≡ with_words before more
  pub holds : Holds (words ++ more)
