-- What a sink holds of the file of cells that are put into it, whatever cells still come.
use Rattle.std.specs.Prelude.{◌≡◌, ℕ, ◌^◌, ◌<◌, List, ◌++◌, Option, All}
use Rattle.std.specs.List.{flat_map}
use Rattle.std.specs.List.Sorted.{IsStrictlyIncreasing}
use Rattle.std.specs.Int.{w64, to_le_bytes}
use Rattle.svo_base.specs.GridShape.{GridShape}
use Rattle.node_file.specs.Waiting.{GrewByFront}
use Rattle.octree_specs.specs.Cells.{Cell, codes_of}
use Rattle.octree_specs.specs.OctreeFile.{image_of}

-- cells of an octree of this depth, in ascending order of their codes
pub record Ascend (depth : ℕ) (cells : List Cell) : Type 0 where
  pub ascending : IsStrictlyIncreasing (codes_of cells)
  pub inside : All (λ cell. cell.code < 8 ^ depth) cells

-- the sink of a writer grew by a front of the bytes that waited and of these words
pub record GrewByWords (before after : Option (List ℕ)) (waiting words : List ℕ) : Type 0 where
  pub front : GrewByFront before after (waiting ++ flat_map (to_le_bytes w64) words)

-- it grew by a front of the bytes that waited and of the words that bring those given before to all of these
pub record GrewToward (words all : List ℕ) (before after : Option (List ℕ)) (waiting : List ℕ) : Type 0 where
  pub rest : List ℕ
  pub whole : words ++ rest ≡ all
  pub front : GrewByFront before after (waiting ++ flat_map (to_le_bytes w64) rest)

-- whatever cells follow these, the sink grew by a front of their file
pub record HoldsFront (grid : GridShape) (cells : List Cell) (before after : Option (List ℕ)) : Type 0 where
  pub follows : (later : List Cell) → Ascend grid.depth (cells ++ later) → GrewByFront before after (image_of 2 grid (cells ++ later))
