use Rattle.std.proofs.Common.{◌≡◌, ◌+◌, ◌≤◌, ◌++◌, subst, ap, sym, refl, ◌∙◌, take, drop, length, slice_range}
use Rattle.std.specs.Io.KnownBytes.{prepend_known}
use Rattle.std.proofs.lemmas.List.{take_at}
use Rattle.ply_text.specs.Reading.{held}
use Rattle.ply_text.proofs.Blocks.{held_more, left_same}
use Rattle.ply_text.proofs.tokens.Tokens.more.Goals as goal

pub returns-in-Ok-clause-reads : goal.returns-in-Ok-clause-reads
returns-in-Ok-clause-reads g c =
    let front = c.to_front.new.self in
    let bytes = held c.args.self.now in
    let after = c.read_behind.new.block in
    let count = c.in-Ok.count in
    let more = take count (drop front.to after) in
    let rest = g.I.ByteSource.rest c.read_behind.new.input in
    let faults = g.I.ByteSource.faults in
    let kept = c.to_front.ensures.holds.keeps in
    let was : slice_range front.block.now 0 front.to ≡ bytes = ap (λ from. slice_range front.block.now from front.to) (sym c.to_front.ensures.front) ∙ c.to_front.ensures.held in
    let grown : slice_range after front.from (front.to + count) ≡ bytes ++ more =
    ap (λ from. slice_range after from (front.to + count)) c.to_front.ensures.front ∙ held_more bytes front.block.now after front.to count was c.read_behind.ensures.kept in
    record {
      holds = record {
        keeps = record { input = kept.input; block = kept.block; lender = c.read_behind.ensures.lender ∙ kept.lender; stopped = kept.stopped };
        place = c.to_front.ensures.holds.place;
        left = ap (λ held. prepend_known held rest) grown
            ∙ left_same bytes more rest (g.I.ByteSource.rest front.input.now) c.in-Ok.ensures.bytes.0
            ∙ ap (λ input. prepend_known bytes (g.I.ByteSource.rest input)) c.to_front.ensures.input;
        front = ap (take (length bytes)) grown ∙ take_at bytes more (length bytes) refl;
      };
      later = subst (λ input. faults input ≤ faults c.read_behind.new.input) c.to_front.ensures.input c.read_behind.ensures.cause.later;
      failed = tt;
    }
