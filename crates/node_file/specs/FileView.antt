-- What contracts see of a node file whose words are read by number.
use Rattle.std.specs.Prelude.{◌≡◌, ℕ, ◌≤◌, List, length, Option, IfSome}
use Rattle.svo_base.specs.GridShape.{GridShape, IsGrid}
use Rattle.octree_specs.specs.Formats.{IsFormat}
use Rattle.node_file.specs.declared.records.Totals.{Totals}

-- its format, its grid, the numbers of its trailer, and its words, where they are told
pub record FileView : Type 0 where
  pub format : ℕ
  pub grid : GridShape
  pub totals : Totals
  pub words : Option (List ℕ)

-- the file is framed: its format is known, its grid within the limits, and it has at least one word, and as many as its trailer says
pub record IsFileView (file : FileView) : Type 0 where
  pub known : IsFormat file.format
  pub limits : IsGrid file.grid
  pub some : 1 ≤ file.totals.records
  pub told : IfSome file.words (λ words. length words ≡ file.totals.records)
