-- A node that a triangle does not meet has no cell that it meets.
use Rattle.std.proofs.Common.{◌≡◌, ℕ, ◌+◌, ◌-◌, ◌*◌, ◌/◌, ◌^◌, ◌<◌, ◌≤◌, Bool, false, List, length, get_or, set, arith, sym, subst}
use Rattle.svo_base.specs.GridShape.{GridShape}
use Rattle.svo_base.specs.declared.shapes.Triangle.{Triangle}
use Rattle.octree_specs.specs.Meeting.{Meets}
use Rattle.octree_specs.specs.NodeCube.{node_cube}
use Rattle.grid_parts.proofs.PartCells.{meets_above}
use Rattle.morton_scan.specs.Putting.{ArePut, MetUnder}
use Rattle.morton_scan.specs.Nodes.{HasSlots}
use Rattle.bit_grid.specs.Slots.{lesser_slot}
use Rattle.std.specs.Prelude.{IsTrue, ◌↔◌}
use Rattle.std.proofs.lemmas.Bool.{both_ways}
use Rattle.morton_scan.proofs.Putting.{none_put, put_cell}

-- so a node that is not met changes nothing
pub put_unmet : (grid : GridShape) (t : Triangle) (height node first face : ℕ) (slots : List ℕ) → height ≤ grid.depth
    → (Meets t (node_cube grid (grid.depth - height) node) → ⊥) → ArePut (MetUnder grid t height node (node + 1)) first face slots slots
put_unmet grid t height node first face slots within not_met =
    let whole : grid.depth - height + height ≡ grid.depth = omega arith in
    let none : (code : ℕ) → MetUnder grid t height node (node + 1) code → ⊥ = λ code chosen.
    let here : code / 8 ^ height ≡ node = omega (arith, chosen.0, chosen.1.0) in
    not_met (subst (λ n. Meets t (node_cube grid (grid.depth - height) n)) here
    (meets_above t grid height (grid.depth - height) code (omega arith) (subst (λ l. Meets t (node_cube grid l code)) (sym whole) chosen.1.1))) in
    none_put (MetUnder grid t height node (node + 1)) first face slots none

-- a test that fails
pub not_met : {M : Type 0} (result : Bool) → (IsTrue result ↔ M) → result ≡ false → M → ⊥
not_met result tells fails met = both_ways result fails (tells.1 met)

-- the slot of a cell that is met, which is a node of height 0
pub put_leaf : (grid : GridShape) (t : Triangle) (height code first face : ℕ) (old new : List ℕ) → height ≡ 0 → HasSlots first (length old) height code
    → Meets t (node_cube grid (grid.depth - height) code) → new ≡ set old (code - first) (lesser_slot (get_or old (code - first) 0) face)
    → ArePut (MetUnder grid t height code (code + 1)) first face old new
put_leaf grid t height code first face old new leaf has met is =
    let from : first ≤ code * 8 ^ 0 = subst (λ h. first ≤ code * 8 ^ h) leaf has.from in
    let to : (code + 1) * 8 ^ 0 ≤ first + length old = subst (λ h. (code + 1) * 8 ^ h ≤ first + length old) leaf has.to in
    let level : grid.depth - height ≡ grid.depth = omega (arith, leaf) in
    subst (λ h. ArePut (MetUnder grid t h code (code + 1)) first face old new) (sym leaf)
    (put_cell grid t code first face old new (omega (arith, from)) (omega (arith, from, to)) (subst (λ l. Meets t (node_cube grid l code)) level met) is)

-- the place of a cell, which is a node of height 0
pub leaf_place : (first count height code : ℕ) → height ≡ 0 → HasSlots first count height code → (first ≤ code) × (code - first < count)
leaf_place first count height code leaf has =
    let from : first ≤ code * 8 ^ 0 = subst (λ h. first ≤ code * 8 ^ h) leaf has.from in
    let to : (code + 1) * 8 ^ 0 ≤ first + count = subst (λ h. (code + 1) * 8 ^ h ≤ first + count) leaf has.to in
    (omega (arith, from), omega (arith, from, to))
