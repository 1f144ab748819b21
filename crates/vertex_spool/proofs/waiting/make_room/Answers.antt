-- Nothing waits once it was appended.
use Rattle.std.proofs.Common.{◌∙◌}
use Rattle.dev_traits.proofs.GrownStreams.{known_none}
use Rattle.vertex_spool.proofs.waiting.make_room.Goals as goal

pub returns-clause-told : goal.returns-clause-told
returns-clause-told g c = known_none (g.S.Scratch.told c.append_waiting.new.scratch) 0 ∙ c.in_ok-append_waiting.ensures.told
