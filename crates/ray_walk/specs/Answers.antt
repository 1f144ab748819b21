-- What a cast ray may answer.
use Rattle.std.specs.Prelude.{◌≡◌, ℕ, List, Option, None, Some}
use Rattle.svo_base.specs.GridShape.{GridShape}
use Rattle.octree_specs.specs.Cells.{Cell}
use Rattle.octree_specs.specs.Formats.{StandFor}
use Rattle.node_file.specs.FileView.{FileView}
use Rattle.ray_fraction.specs.Hits.{IsFirstHit, HitsNone}
use Rattle.ray_fraction.specs.RayShape.{RayShape}
use Rattle.ray_walk.specs.declared.hits.Hit.{Hit}

-- the words of a file are told, and stand for these cells
pub record TellsCells (file : FileView) (cells : List Cell) : Type 0 where
  pub words : List ℕ
  pub told : file.words ≡ Some words
  pub stand : StandFor file.format file.grid.depth words cells

-- the first hit of the ray among these cells, or none where it hits none
abbrev pub IsFirst : RayShape → GridShape → List Cell → Option Hit → Type 0
IsFirst ray grid cells None = HitsNone ray grid cells
IsFirst ray grid cells (Some hit) = IsFirstHit ray grid cells hit.code hit.time.n hit.time.m
