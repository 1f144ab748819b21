-- A power of 8 of at most 12 fits.
use Rattle.std.proofs.Common.{◌^◌, ◌≤◌, arith, lit<}
use Rattle.std.proofs.Math.Nat.{pow-le-pow_right}
use Rattle.svo_top.proofs.open_file.cell_count.Goals as goal

pub pow-requires : goal.pow-requires
pow-requires c =
    let most : 8 ^ c.args.depth ≤ 8 ^ 12 = pow-le-pow_right {n = 8} (lit< tt) {i = c.args.depth} {j = 12} c.requires in
    omega (arith, most)
