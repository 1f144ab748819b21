use Rattle.std.proofs.Common.{◌*◌, ◌≤◌, arith}
use Rattle.std.proofs.lemmas.Nat.{mul-le}
use Rattle.slice_view.proofs.cameras.Camera.size.Goals as goal

pub overflow_mul-result : goal.overflow_mul-result
overflow_mul-result c =
    let most : c.width.result * c.height.result ≤ 4096 * 4096 = mul-le c.width.result c.height.result 4096 4096 (omega (arith, c.width.ensures.value, c.width.ensures.limits.width)) (omega (arith, c.height.ensures.value, c.height.ensures.limits.height)) in
    omega (arith, most)

pub returns-clause-within : goal.returns-clause-within
returns-clause-within c =
    let most : c.width.result * c.height.result ≤ 4096 * 4096 = mul-le c.width.result c.height.result 4096 4096 (omega (arith, c.width.ensures.value, c.width.ensures.limits.width)) (omega (arith, c.height.ensures.value, c.height.ensures.limits.height)) in
    omega (arith, most)
