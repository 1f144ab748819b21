-- A walk over all cells of a file, one after another.
use Rattle.std.specs.Prelude.{◌≡◌, ℕ, ◌-◌, ◌/◌, ◌%◌, ◌⊎◌, ⊤, true, List, length, Option, None, Some, Result, Ok, Err, IfSome, All}
use Rattle.svo_base.specs.declared.grids.TheConstants.{MAX_DEPTH}
use Rattle.octree_specs.specs.Cells.{Cell}
use Rattle.node_file.specs.FileView.{FileView, IsFileView}
use Rattle.node_check.specs.Stops.{IsNoCellAtAll}
use Rattle.node_check.specs.Walks.{face_at, has_child, IsWordOf, IsAbove, led_to, LeadsOn, IsNext}
use Rattle.node_check.specs.declared.cursor.CellWalk.{CellWalk}
use Rattle.node_check.specs.declared.cursor.FacedCell.{FacedCell}
use Rattle.node_check.specs.declared.paths.Path.{Path}
use Rattle.node_check.specs.declared.walking.Node.{Node}
use Rattle.node_check.specs.declared.walking.WalkFault.{WalkFault}
use Rattle.node_check.specs.declared.walking.WalkFault.TheVariants.{Failed, Refused}

-- each node that is kept has its own word
pub record IsKept (told : Option (List ℕ)) (records : ℕ) (path : Path) : Type 0 where
  pub nodes : All (λ (node : Node). IsWordOf told records node.number node.word) path.nodes
  pub twelve : length path.nodes ≡ MAX_DEPTH
  pub parent : IsWordOf told records path.parent.number path.parent.word

-- a walk goes over this file
pub record IsOn (file : FileView) (walk : CellWalk) : Type 0 where
  pub framed : IsFileView file
  pub deep : walk.depth ≡ file.grid.depth
  pub root : IsWordOf file.words file.totals.records walk.root.number walk.root.word
  pub last : walk.root.number ≡ file.totals.records - 1
  pub kept : IsKept file.words file.totals.records walk.path

-- the node just above a cell that was found below a node: the words lead to it where they lead to that node, and masks and bases lead from that node to it
pub record IsParent (told : Option (List ℕ)) (records format height code number cell : ℕ) (parent : Node) : Type 0 where
  pub own : IsWordOf told records parent.number parent.word
  pub bit : has_child parent.word (cell % 8) ≡ true
  pub leads : IfSome told (λ words. (cells : List Cell) → LeadsOn words format cells height code number → LeadsOn words format cells 1 (cell / 8) parent.number)
  pub led : IfSome told (λ words. led_to words height cell number ≡ led_to words 1 cell parent.number)

-- the face of a filled cell, unless a read failed
abbrev pub GivesFace : List Cell → ℕ → Result ℕ WalkFault → Type 0
GivesFace cells code (Ok face) = face_at cells code ≡ Some face
GivesFace cells code (Err Failed) = ⊤
GivesFace cells code (Err (Refused number word)) = ⊥

-- the next cell with its face, unless a read failed
abbrev pub GivesNextFaced : List Cell → ℕ → Result (Option FacedCell) WalkFault → Type 0
GivesNextFaced cells from (Ok (Some cell)) = IsNext cells from (Some cell.code) × (face_at cells cell.code ≡ Some cell.face)
GivesNextFaced cells from (Ok None) = IsNext cells from None
GivesNextFaced cells from (Err Failed) = ⊤
GivesNextFaced cells from (Err (Refused number word)) = ⊥

-- a walk for cells with faces refuses nothing but such words
abbrev pub RefusesAtNoCell : {T : Type 0} → Option (List ℕ) → ℕ → ℕ → Result T WalkFault → Type 0
RefusesAtNoCell told records depth (Ok answer) = ⊤
RefusesAtNoCell told records depth (Err Failed) = ⊤
RefusesAtNoCell told records depth (Err (Refused number word)) = IsAbove told records number word ⊎ IsNoCellAtAll told records depth number word
