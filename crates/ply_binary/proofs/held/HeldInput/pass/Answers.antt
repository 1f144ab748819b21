use Rattle.std.proofs.Common.{◌≤◌, ◌-◌, refl, sym, arith}
use Rattle.ply_text.proofs.Blocks.{drop-held, length-held}
use Rattle.ply_binary.proofs.held.HeldInput.pass.Goals as goal

pub returns : goal.returns
returns g c =
    let s = c.args.self.now in
    let within : c.args.count ≤ s.to - s.from = omega (arith, c.requires, length-held s.block s.from s.to s.ordered s.inside) in
    record { keeps = record { input = refl }; input = refl; held_is = sym (drop-held s.block s.from s.to c.args.count within) }
