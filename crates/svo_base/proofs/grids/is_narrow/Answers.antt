-- A side is at most the quotient of the width exactly where the product is at most the width.
use Rattle.std.proofs.Common.{◌*◌, ◌/◌, ◌^◌, ◌≤◌, ◌↔◌, arith}
use Rattle.std.proofs.Math.Nat.{le-div_iff_mul-le}
use Rattle.std.proofs.lemmas.Nat.{pow_pos}
use Rattle.std.proofs.lemmas.Bool.Decides.{nat_tests}
use Rattle.svo_base.proofs.grids.is_narrow.Goals as goal

pub returns : goal.returns
returns c =
    let both : (c.args.cell ≤ 4294967296 / 2 ^ c.args.depth) ↔ (c.args.cell * 2 ^ c.args.depth ≤ 4294967296) = le-div_iff_mul-le (pow_pos c.args.depth) in
    let to = both.0 in
    let back = both.1 in
    grind (arith, nat_tests)
