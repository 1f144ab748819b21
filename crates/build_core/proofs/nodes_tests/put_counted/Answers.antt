use Rattle.std.proofs.Common.{◌-◌, ◌^◌, ◌≤◌, lit<, arith}
use Rattle.std.proofs.Math.Nat.{pow-le-pow_right}
use Rattle.build_core.proofs.nodes_tests.put_counted.Goals as goal

pub write_nodes-requires-clause-slots : goal.write_nodes-requires-clause-slots
write_nodes-requires-clause-slots g c =
    let few : 8 ^ (c.args.grid.now.depth - c.args.split) ≤ 8 ^ 2 = pow-le-pow_right {n = 8} (lit< tt) {i = c.args.grid.now.depth - c.args.split} {j = 2} (omega (arith, c.requires.depth)) in
    omega (arith, few)

pub write_nodes-requires-clause-streams : goal.write_nodes-requires-clause-streams
write_nodes-requires-clause-streams g c =
    let few : 8 ^ c.args.split ≤ 8 ^ 1 = pow-le-pow_right {n = 8} (lit< tt) {i = c.args.split} {j = 1} c.requires.split in
    omega (arith, few, c.requires.streams)
