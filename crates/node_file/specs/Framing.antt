-- What is read of a file's header and of its trailer.
use Rattle.std.specs.Prelude.{◌≡◌, ℕ, ◌^◌, ◌<◌, List}
use Rattle.svo_base.specs.GridShape.{GridShape, IsGrid}
use Rattle.octree_specs.specs.Formats.{IsFormat}
use Rattle.octree_specs.specs.OctreeFile.{header_of, trailer_of}
use Rattle.node_file.specs.declared.records.Totals.{Totals}

-- the bytes are the header, in this format, of a grid within its limits
pub record IsHeader (format : ℕ) (grid : GridShape) (bytes : List ℕ) : Type 0 where
  pub known : IsFormat format
  pub limits : IsGrid grid
  pub header : bytes ≡ header_of format grid

-- the bytes are the trailer, in this format, of so many words and cells
pub record IsTrailer (format : ℕ) (totals : Totals) (bytes : List ℕ) : Type 0 where
  pub known : IsFormat format
  pub records : totals.records < 2 ^ 64
  pub cells : totals.cells < 2 ^ 64
  pub trailer : bytes ≡ trailer_of format totals.records totals.cells
