use Rattle.std.proofs.Common.{◌*◌, ◌∙◌, arith, sym}
use Rattle.std.proofs.lemmas.Nat.{one_shl}
use Rattle.morton_code.proofs.Heights.{eights}
use Rattle.build_core.proofs.parts.part_count.Goals as goal

pub returns : goal.returns
returns c = one_shl (3 * c.args.split) 32 (omega (arith, c.requires)) ∙ sym (eights c.args.split)
