use Rattle.std.proofs.Common.{◌+◌, ◌-◌, take, drop, arith, ap, ◌∙◌, sym}
use Rattle.mesh_maker.proofs.GivenBytes.{given_front}
use Rattle.mesh_maker.proofs.made_mesh.MadeMesh.give.Goals as goal

pub returns-clause-bytes : goal.returns-clause-bytes
returns-clause-bytes c =
    given_front c.refill-self-inside.new.line.bytes c.args.into.now c.copy_from_slice.new.self c.refill-self-inside.new.body _ c.refill-self-inside.result c.min-count.result
    (sym c.self.view_is ∙ c.refill-self-inside.ensures.same) (omega (arith, c.min-count.ensures, c.len.ensures.value, c.refill-self-inside.ensures.bound))
    (c.copy_from_slice.ensures.after ∙ ap (λ l. take (c.refill-self-inside.result + c.min-count.result - c.refill-self-inside.result) (drop c.refill-self-inside.result l)) (c.as_bytes.ensures.value ∙ c.as_str.ensures.value))
