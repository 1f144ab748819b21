-- A step of a walk over all cells.
use Rattle.std.proofs.Common.{◌≡◌, ℕ, ◌+◌, ◌-◌, ◌/◌, ◌^◌, ◌<◌, ◌≤◌, List, Option, None, Some, Result, refl, subst, arith, lit<, lit≤}
use Rattle.std.specs.Prelude.{IfSome, IfOk}
use Rattle.std.proofs.Math.Nat.{pow-le-pow_right, div-eq_of_lt}
use Rattle.svo_base.specs.declared.grids.TheConstants.{MAX_DEPTH}
use Rattle.octree_specs.specs.Cells.{Cell}
use Rattle.octree_specs.specs.Formats.{StandFor}
use Rattle.node_file.specs.FileView.{FileView, IsFileView}
use Rattle.node_check.specs.Cursors.{IsOn, IsParent}
use Rattle.node_check.specs.Walks.{GivesNext, LeadsOn}
use Rattle.node_check.specs.declared.cursor.CellWalk.{CellWalk}
use Rattle.node_check.specs.declared.walking.Node.{Node}
use Rattle.node_check.specs.declared.walking.WalkFault.{WalkFault}
use Rattle.node_check.proofs.NextCells.{Unders, power_some, within_top, next_inside, next_told}
use Rattle.node_check.proofs.Walks.{root_leads}

-- what the nodes below the root say of the walk
module _ (file : FileView) (walk : CellWalk) (on : IsOn file walk) where
  pub walk_told : (result : Result (Option ℕ) WalkFault) → IfOk result (λ next. IfSome next (λ cell. (walk.from ≤ cell) × (cell / 8 ^ walk.depth ≡ 0)))
      → Unders file.words file.format walk.depth 0 walk.root.number walk.from result
      → IfSome file.words (λ words. (cells : List Cell) → StandFor file.format file.grid.depth words cells → GivesNext cells walk.from result)
  walk_told result inside under =
      next_told file.words file.format file.grid.depth walk.depth walk.from walk.root.number result on.deep
      (root_leads file on.framed 0 walk.root.number (power_some file.grid.depth) on.last)
      (subst (λ d. IfOk result (λ next. IfSome next (λ cell. (walk.from ≤ cell) × (cell / 8 ^ d ≡ 0)))) on.deep inside) under

  pub walk_inside : (next : Option ℕ) → IfSome next (λ cell. (walk.from ≤ cell) × (cell / 8 ^ walk.depth ≡ 0)) → IfSome next (λ code. (walk.from ≤ code) × (code < 8 ^ file.grid.depth))
  walk_inside next inside = next_inside walk.from file.grid.depth next (subst (λ d. IfSome next (λ cell. (walk.from ≤ cell) × (cell / 8 ^ d ≡ 0))) on.deep inside)

  pub walk_small : (code : ℕ) → code / 8 ^ walk.depth ≡ 0 → code + 1 < 2 ^ 60
  walk_small code top =
      let inside : code < 8 ^ walk.depth = within_top code walk.depth top in
      let shallow : walk.depth ≤ MAX_DEPTH = omega (arith, on.deep, on.framed.limits.shallow) in
      let bound : 8 ^ walk.depth ≤ 8 ^ MAX_DEPTH = pow-le-pow_right {n = 8} (lit< tt) {i = walk.depth} {j = MAX_DEPTH} shallow in
      let whole : 8 ^ MAX_DEPTH ≤ 2 ^ 40 = lit≤ tt in
      omega (arith, inside, bound, whole)

root_stands : (file : FileView) → IsFileView file
    → IfSome file.words (λ words. (cells : List Cell) → StandFor file.format file.grid.depth words cells → LeadsOn words file.format cells file.grid.depth 0 (file.totals.records - 1))
root_stands file framed =
    let top : 0 / 8 ^ file.grid.depth ≡ 0 = div-eq_of_lt (power_some file.grid.depth) in
    subst (λ n. IfSome file.words (λ words. (cells : List Cell) → StandFor file.format file.grid.depth words cells → LeadsOn words file.format cells file.grid.depth n (file.totals.records - 1))) top
    (root_leads file framed 0 (file.totals.records - 1) (power_some file.grid.depth) refl)

-- the node above the cell is led to, where the words stand for cells
pub found_leads : (file : FileView) (code : ℕ) (parent : Node) → IsFileView file → IsParent file.words file.totals.records file.format file.grid.depth 0 (file.totals.records - 1) code parent
    → IfSome file.words (λ words. (cells : List Cell) → StandFor file.format file.grid.depth words cells → LeadsOn words file.format cells 1 (code / 8) parent.number)
found_leads file code parent framed is = on file.words is.leads (root_stands file framed)
  where
    on : (told : Option (List ℕ)) → IfSome told (λ words. (cells : List Cell) → LeadsOn words file.format cells file.grid.depth 0 (file.totals.records - 1) → LeadsOn words file.format cells 1 (code / 8) parent.number)
        → IfSome told (λ words. (cells : List Cell) → StandFor file.format file.grid.depth words cells → LeadsOn words file.format cells file.grid.depth 0 (file.totals.records - 1))
        → IfSome told (λ words. (cells : List Cell) → StandFor file.format file.grid.depth words cells → LeadsOn words file.format cells 1 (code / 8) parent.number)
    on None leads root = tt
    on (Some words) leads root = λ cells stand. leads cells (root cells stand)
