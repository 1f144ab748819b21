-- Small codes are within each grid.
use Rattle.std.proofs.Common.{ℕ, ◌^◌, ◌<◌, ◌≤◌, arith, lit<}
use Rattle.std.proofs.Math.Nat.{pow-le-pow_right}

pub within_grid : (code depth : ℕ) → code < 8 → 1 ≤ depth → code < 8 ^ depth
within_grid code depth small deep =
    let power : 8 ^ 1 ≤ 8 ^ depth = pow-le-pow_right {n = 8} (lit< tt) {i = 1} {j = depth} deep in
    omega (arith, power, small)
