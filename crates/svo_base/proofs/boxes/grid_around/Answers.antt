-- The grid begins at the box's corner, and its cells are the least that hold the box's width.
use Rattle.std.proofs.Common.{◌≡◌, ◌≤◌, ◌*◌, ◌^◌, ℕ, ℤ, List, [], ◌∷◌, arith, refl, ap, ◌∙◌, to_z, of_z, w32, w64}
use Rattle.std.specs.Prelude.{unsigned_abs}
use Rattle.std.proofs.lemmas.Int.{to_z-of_z, fits_signed_from_abs}
use Rattle.svo_base.specs.GridShape.{GridShape}
use Rattle.svo_base.specs.Boxes.{Holds, IsAround}
use Rattle.svo_base.specs.declared.boxes.Bounds.{Bounds}
use Rattle.svo_base.proofs.boxes.grid_around.Goals as goal

-- a number near 0 that is widened
widened_same : (z w : ℤ) → unsigned_abs z ≤ 2 ^ 30 → w ≡ to_z w32 (of_z w32 z) → to_z w64 (of_z w64 w) ≡ z
widened_same z w near is =
    let same : w ≡ z = is ∙ to_z-of_z w32 z (fits_signed_from_abs w32 z (omega arith)) in
    ap (λ v. to_z w64 (of_z w64 v)) same ∙ to_z-of_z w64 z (fits_signed_from_abs w64 z (omega arith))

three : (a b c x y z : ℤ) → a ≡ x → b ≡ y → c ≡ z → a ∷ b ∷ c ∷ [] ≡ x ∷ y ∷ z ∷ []
three a b c x y z sx sy sz = rw (sx, sy, sz) refl

around : (b : Bounds) (grid : GridShape) (depth width cell : ℕ) (origin : List ℤ) → grid ≡ record { depth = depth; origin = origin; cell = cell } → origin ≡ b.x.low ∷ b.y.low ∷ b.z.low ∷ []
    → 1 ≤ cell → width ≤ cell * 2 ^ depth → ((n : ℕ) → 1 ≤ n → width ≤ n * 2 ^ depth → cell ≤ n) → ((side : ℕ) → Holds side b → width ≤ side) → ((side : ℕ) → width ≤ side → Holds side b)
    → IsAround b grid
around b grid depth width cell origin is corner some wide least narrow holds =
    rw is record { corner = corner; some = some; holds = holds (cell * 2 ^ depth) wide; least = λ n one held. least n one (narrow (n * 2 ^ depth) held) }

pub returns-clause-around : goal.returns-clause-around
returns-clause-around c =
    around c.args.bounds.now c.within.result c.args.depth c.width_of.result c.cell_for.result
    (to_z w64 (of_z w64 c.from.result) ∷ to_z w64 (of_z w64 c.from-2.result) ∷ to_z w64 (of_z w64 c.from-3.result) ∷ []) c.within.ensures
    (three (to_z w64 (of_z w64 c.from.result)) (to_z w64 (of_z w64 c.from-2.result)) (to_z w64 (of_z w64 c.from-3.result)) c.args.bounds.now.x.low c.args.bounds.now.y.low c.args.bounds.now.z.low
    (widened_same c.args.bounds.now.x.low c.from.result c.requires.x.0 c.from.ensures)
    (widened_same c.args.bounds.now.y.low c.from-2.result c.requires.y.0 c.from-2.ensures)
    (widened_same c.args.bounds.now.z.low c.from-3.result c.requires.z.0 c.from-3.ensures))
    c.cell_for.ensures.some c.cell_for.ensures.wide c.cell_for.ensures.least c.width_of.ensures.least c.width_of.ensures.holds
