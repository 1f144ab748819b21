-- Codes of children, and what becomes of them.
use Rattle.std.proofs.Common.{◌≡◌, ℕ, suc, ◌+◌, ◌-◌, ◌*◌, ◌^◌, ◌<◌, ◌≤◌, true, false, cond, List, ℤ, Option, arith, refl, sym, ap, subst, ◌∙◌, inl, inr, lit≤}
use Rattle.std.proofs.Math.Nat.{pow-suc, pow-le-pow_right}
use Rattle.std.proofs.lemmas.Bool.{cases_Bool}
use Rattle.svo_base.specs.GridShape.{GridShape, IsGrid}
use Rattle.node_check.specs.Walks.{has_child}
use Rattle.near_query.specs.Distances.{distance_to}
use Rattle.near_query.specs.Nodes.{IsNode, IsStep, cell_at, improves_on, is_nearer_than}
use Rattle.near_query.specs.declared.cells.NearCell.{NearCell}
use Rattle.near_query.specs.declared.queues.Waiting.{Waiting}
use Rattle.near_query.specs.declared.steps.Step.{Step}
use Rattle.near_query.specs.declared.steps.Step.TheVariants.{Skip, Take}

pub child_inside : (point : List ℤ) (grid : GridShape) (node : Waiting) (place : ℕ) → IsNode point grid node → place < 8 → 8 * node.code + place < 8 ^ (grid.depth - (node.height - 1))
child_inside point grid node place is octant =
    let level : grid.depth - (node.height - 1) ≡ suc (grid.depth - node.height) = omega (arith, is.above, is.within) in
    rw (level, pow-suc 8 (grid.depth - node.height)) (omega (arith, is.inside, octant))

pub code_small : (point : List ℤ) (grid : GridShape) (node : Waiting) (place : ℕ) → IsGrid grid → IsNode point grid node → place < 8 → 8 * node.code + place < 2 ^ 36
code_small point grid node place limits is octant =
    let below : 8 * node.code + place < 8 ^ (grid.depth - (node.height - 1)) = child_inside point grid node place is octant in
    let shallow : grid.depth - (node.height - 1) ≤ 12 = omega (arith, limits.shallow) in
    let power : 8 ^ (grid.depth - (node.height - 1)) ≤ 8 ^ 12 = pow-le-pow_right {n = 8} (lit≤ tt) {i = grid.depth - (node.height - 1)} {j = 12} shallow in
    omega (arith, below, power)

-- a cell that is not farther than the best
pub cell_step : (point : List ℤ) (grid : GridShape) (node : Waiting) (word place distance : ℕ) (known : Option NearCell) (step : Step) → node.height ≡ 1
    → has_child word place ≡ true → distance ≡ distance_to point grid (node.height - 1) (8 * node.code + place) → is_nearer_than known distance ≡ false
    → step ≡ cond (improves_on (record { distance = distance; code = 8 * node.code + place }) known) (Take (record { distance = distance; code = 8 * node.code + place })) Skip
    → IsStep point grid node word place known step
cell_step point grid node word place distance known step low bit is near taken =
    let none : node.height - 1 ≡ 0 = omega (arith, low) in
    let at : distance ≡ distance_to point grid 0 (8 * node.code + place) = is ∙ ap (λ h. distance_to point grid h (8 * node.code + place)) none in
    let cell : record { distance = distance; code = 8 * node.code + place } ≡ cell_at point grid (8 * node.code + place) = ap (λ d. record { distance = d; code = 8 * node.code + place }) at in
    elim (cases_Bool (improves_on (record { distance = distance; code = 8 * node.code + place }) known)) [
      | inl better ↦
          let takes : step ≡ Take (record { distance = distance; code = 8 * node.code + place }) = taken ∙ rw better refl in
          subst (λ s. IsStep point grid node word place known s) (sym takes) (bit, low, cell, near, better)
      | inr not ↦
          let skips : step ≡ Skip = taken ∙ rw not refl in
          subst (λ s. IsStep point grid node word place known s) (sym skips) (inr (inr (low, subst (λ c. improves_on c known ≡ false) cell not)))
    ]
