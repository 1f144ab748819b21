-- A small power.
use Rattle.std.proofs.Common.{◌^◌, ◌≤◌, arith, lit<}
use Rattle.std.proofs.Math.Nat.{pow-le-pow_right}
use Rattle.svo_base.specs.declared.grids.TheConstants.{MAX_DEPTH}
use Rattle.slice_view.proofs.slicing.power.Goals as goal

pub returns-clause-within : goal.returns-clause-within
returns-clause-within c =
    let most : 2 ^ c.args.exponent ≤ 2 ^ MAX_DEPTH = pow-le-pow_right {n = 2} (lit< tt) {i = c.args.exponent} {j = MAX_DEPTH} c.requires in
    omega (arith, most)
