use Rattle.std.proofs.Common.{arith, ◌∙◌, ◌≡◌, refl, ap, ◌*ℤ◌, ◌-ℤ◌, ◌+ℤ◌, pos}
use Rattle.solid_parity.specs.Parity.{normal_of}
use Rattle.solid_parity.proofs.ColumnNumbers.{kept_64, kept_128, above_is}
use Rattle.solid_parity.proofs.prepared.Shape.heights.Goals as goal

pub returns-clause-above : goal.returns-clause-above
returns-clause-above c =
    let s = c.self.inside in
    let is = c.self.invariant in
    let base : c.base.result ≡ ((normal_of s.triangle).x *ℤ (c.args.column.now.x -ℤ (pos 2 *ℤ s.triangle.a.x))) +ℤ ((normal_of s.triangle).y *ℤ (c.args.column.now.y -ℤ (pos 2 *ℤ s.triangle.a.y))) =
    c.base.ensures.value ∙ rw (is.normal_is, is.a_is.x_is, is.a_is.y_is) refl
    in
    let corner = kept_64 c.twice.result (omega (arith, c.twice.ensures.within)) ∙ c.twice.ensures.value in
    λ place. rw (← c.self.view_is)
    (above_is s.triangle c.args.column.now.x c.args.column.now.y _ _ c.args.low.now _ c.args.step place
    (kept_128 s.normal.z (omega (arith, is.near.z)) ∙ ap (λ n. n.z) is.normal_is)
    (kept_128 c.base.result (omega (arith, c.base.ensures.within)) ∙ base)
    (kept_64 c.way.result (omega (arith, c.way.ensures.within)) ∙ (c.way.ensures.value ∙ ap (λ n. c.args.low.now -ℤ n) corner)))
