use Rattle.std.proofs.Common.{◌≡◌, ◌+◌, ap, sym, ◌∙◌, take, drop, slice_range}
use Rattle.ply_text.proofs.Blocks.{held_more}
use Rattle.ply_binary.specs.HeldStates.{held}
use Rattle.ply_binary.proofs.held.HeldInput.more.Goals as goal

pub returns-in-Ok-clause-holds : goal.returns-in-Ok-clause-holds
returns-in-Ok-clause-holds g c =
    let front = c.to_front.new.self in
    let bytes = held c.args.self.now in
    let after = c.read_behind.new.block in
    let count = c.in-Ok.count in
    let kept = c.to_front.ensures.keeps in
    let was : slice_range front.block 0 front.to ≡ bytes = ap (λ from. slice_range front.block from front.to) (sym c.to_front.ensures.front) ∙ c.to_front.ensures.held in
    record {
      keeps = record { input = kept.input };
      read = take count (drop front.to after);
      rest = ap (λ input. g.I.ByteSource.rest input) (sym c.to_front.ensures.input) ∙ c.in-Ok.ensures.bytes.0;
      held_is = ap (λ from. slice_range after from (front.to + count)) c.to_front.ensures.front ∙ held_more bytes front.block after front.to count was c.read_behind.ensures.kept;
    }
