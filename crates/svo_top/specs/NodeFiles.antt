-- What a store tells of a name, and what the words of a loaded file say.
use Rattle.std.specs.Prelude.{◌≡◌, ℕ, List, length, Option, None, Some, IfSome}
use Rattle.svo_base.specs.GridShape.{GridShape}
use Rattle.dev_traits.specs.Change.{StoreChange}
use Rattle.dev_traits.specs.Files.{NamedFile, file_named}
use Rattle.octree_specs.specs.Cells.{Cell}
use Rattle.octree_specs.specs.Checking.{refused_in}
use Rattle.octree_specs.specs.Formats.{StandFor}
use Rattle.octree_specs.specs.OctreeFile.{IsFramed, IsFileOf}
use Rattle.node_file.specs.FileView.{FileView}
use Rattle.node_file.specs.Loading.{IsUnframed}
use Rattle.node_file.specs.Stored.{AreBytes}
use Rattle.svo_top.specs.declared.outcome.NodeRefusal.{NodeRefusal}
use Rattle.svo_top.specs.declared.outcome.NodeRefusal.TheVariants.{NoFile, NotNodes, Number, WithNoFile, WithNotNodes, WithNumber}

-- the store tells that the file of this name has these bytes, or that there is none
pub record Tells (nodes : StoreChange) (name : List ℕ) (bytes : Option (List ℕ)) : Type 0 where
  pub files : List NamedFile
  pub told : nodes.before ≡ Some files
  pub named : file_named files name ≡ bytes
  pub are : IfSome bytes AreBytes

-- they are framed, and their checker refuses this number
pub record IsRefusedAt (number : ℕ) (bytes : List ℕ) : Type 0 where
  pub format : ℕ
  pub grid : GridShape
  pub words : List ℕ
  pub cells : ℕ
  pub framed : IsFramed format grid words cells bytes
  pub refused : refused_in format grid.depth words cells ≡ Some number

-- why a named file is no node file; what is said of the second of two files comes of no single one
abbrev pub IsRefusedFor : NodeRefusal → Option (List ℕ) → Type 0
IsRefusedFor NoFile bytes = bytes ≡ None
IsRefusedFor NotNodes bytes = (b : List ℕ) × (bytes ≡ Some b) × IsUnframed b
IsRefusedFor (Number number) bytes = (b : List ℕ) × (bytes ≡ Some b) × IsRefusedAt number b
IsRefusedFor WithNoFile bytes = ⊥
IsRefusedFor WithNotNodes bytes = ⊥
IsRefusedFor (WithNumber number) bytes = ⊥

-- the named file is the node file, in this format, of this grid and these cells
pub record Keeps (bytes : Option (List ℕ)) (format : ℕ) (grid : GridShape) (cells : List Cell) : Type 0 where
  pub content : List ℕ
  pub is : bytes ≡ Some content
  pub file : IsFileOf format grid cells content

-- ---- a loaded file

-- the number that the checker refuses of its words, if any
abbrev pub refused_of : FileView → List ℕ → Option ℕ
refused_of file words = refused_in file.format file.grid.depth words file.totals.cells

-- its words are told, and stand for these cells, as many as it says
pub record KeepsCells (file : FileView) (cells : List Cell) : Type 0 where
  pub words : List ℕ
  pub told : file.words ≡ Some words
  pub stand : StandFor file.format file.grid.depth words cells
  pub count : length cells ≡ file.totals.cells
