use Rattle.std.proofs.Common.{◌≡◌, ◌^◌, ◌≤◌, get_or, arith, pos, ◌-ℤ◌, ap, ◌∙◌, sym}
use Rattle.std.specs.Prelude.{unsigned_abs}
use mir.Val.{to_z, of_z}
use Rattle.std.specs.Int.{w64}
use Rattle.std.proofs.lemmas.List.Elements.{All-get_or}
use Rattle.ray_walk.proofs.Ways.{near_falling, near_rising, kept}
use Rattle.ray_walk.proofs.flights.way.Goals as goal

pub returns-then-is_falling-clause-value : goal.returns-then-is_falling-clause-value
returns-then-is_falling-clause-value c =
    let ray = c.args.ray.now in
    let axis = c.args.axis in
    let near : unsigned_abs (get_or ray.origin axis (pos 0)) ≤ 2 ^ 40 = All-get_or (λ o. unsigned_abs o ≤ 2 ^ 40) ray.origin axis (pos 0) (omega (arith, c.requires, c.origin.ensures.limits.origin_axes)) c.origin.ensures.limits.near in
    let begins : get_or c.origin.result axis (pos 0) ≡ get_or ray.origin axis (pos 0) = ap (λ o. get_or o axis (pos 0)) c.origin.ensures.value in
    let origin : to_z w64 (of_z w64 (get_or c.origin.result axis (pos 0))) ≡ get_or ray.origin axis (pos 0) = ap (λ z. to_z w64 (of_z w64 z)) begins ∙ kept (get_or ray.origin axis (pos 0)) (omega (arith, near)) in
    let upper : to_z w64 (of_z w64 c.upper.result) ≡ c.upper.result = kept c.upper.result (omega (arith, c.upper.ensures.within)) in
    let way : c.difference.result ≡ get_or ray.origin axis (pos 0) -ℤ c.upper.result = c.difference.ensures.value ∙ (ap (λ o. o -ℤ to_z w64 (of_z w64 c.upper.result)) origin ∙ ap (λ u. get_or ray.origin axis (pos 0) -ℤ u) upper) in
    kept c.difference.result c.difference.ensures.within ∙ near_falling ray c.args.grid.now axis c.difference.result c.upper.result c.requires (sym c.is_falling.ensures ∙ c.if-is_falling.true) c.upper.ensures.value way

pub returns-else-is_falling-clause-value : goal.returns-else-is_falling-clause-value
returns-else-is_falling-clause-value c =
    let ray = c.args.ray.now in
    let grid = c.args.grid.now in
    let axis = c.args.axis in
    let near : unsigned_abs (get_or ray.origin axis (pos 0)) ≤ 2 ^ 40 = All-get_or (λ o. unsigned_abs o ≤ 2 ^ 40) ray.origin axis (pos 0) (omega (arith, c.requires, c.origin.ensures.limits.origin_axes)) c.origin.ensures.limits.near in
    let begins : get_or c.origin.result axis (pos 0) ≡ get_or ray.origin axis (pos 0) = ap (λ o. get_or o axis (pos 0)) c.origin.ensures.value in
    let origin : to_z w64 (of_z w64 (get_or c.origin.result axis (pos 0))) ≡ get_or ray.origin axis (pos 0) = ap (λ z. to_z w64 (of_z w64 z)) begins ∙ kept (get_or ray.origin axis (pos 0)) (omega (arith, near)) in
    let near_low : unsigned_abs (get_or grid.origin axis (pos 0)) ≤ 2 ^ 30 = All-get_or (λ o. unsigned_abs o ≤ 2 ^ 30) grid.origin axis (pos 0) (omega (arith, c.requires, c.origin-else-is_falling.ensures.limits.axes)) c.origin-else-is_falling.ensures.limits.near in
    let from : get_or c.origin-else-is_falling.result axis (pos 0) ≡ get_or grid.origin axis (pos 0) = ap (λ o. get_or o axis (pos 0)) c.origin-else-is_falling.ensures.value in
    let low : to_z w64 (of_z w64 (get_or c.origin-else-is_falling.result axis (pos 0))) ≡ get_or grid.origin axis (pos 0) = ap (λ z. to_z w64 (of_z w64 z)) from ∙ kept (get_or grid.origin axis (pos 0)) (omega (arith, near_low)) in
    let way : c.difference-else-is_falling.result ≡ get_or grid.origin axis (pos 0) -ℤ get_or ray.origin axis (pos 0) =
    c.difference-else-is_falling.ensures.value ∙ (ap (λ l. l -ℤ to_z w64 (of_z w64 (get_or c.origin.result axis (pos 0)))) low ∙ ap (λ o. get_or grid.origin axis (pos 0) -ℤ o) origin) in
    kept c.difference-else-is_falling.result c.difference-else-is_falling.ensures.within ∙ near_rising ray grid axis c.difference-else-is_falling.result c.requires (sym c.is_falling.ensures ∙ c.if-is_falling.false) way
