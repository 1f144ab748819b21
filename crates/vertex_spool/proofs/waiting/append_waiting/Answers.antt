-- Where nothing waits, nothing is appended.
use Rattle.std.proofs.Common.{take, sym, ap, ◌∙◌}
use Rattle.vertex_spool.specs.Spooling.{with_waiting}
use Rattle.dev_traits.proofs.GrownStreams.{known_none}
use Rattle.vertex_spool.proofs.waiting.append_waiting.Goals as goal

pub returns-then-used-eq0-clause-told : goal.returns-then-used-eq0-clause-told
returns-then-used-eq0-clause-told g c =
    sym (known_none (g.S.Scratch.told c.args.scratch.now) 0)
    ∙ ap (λ n. with_waiting (g.S.Scratch.told c.args.scratch.now) (take n c.args.block.now)) (sym c.if-used-eq0.true)
