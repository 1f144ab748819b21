use Rattle.std.proofs.Common.{◌*◌, ◌^◌, sym}
use Rattle.std.proofs.Math.Nat.{add-mod}
use Rattle.mesh_maker.specs.MadeText.{next_number}
use Rattle.mesh_maker.proofs.generator.next_number.Goals as goal

pub returns : goal.returns
unfolding next_number
returns c = sym (add-mod (6364136223846793005 * c.args.number) 1442695040888963407 (2 ^ 64))
