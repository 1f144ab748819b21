use Rattle.std.proofs.Common.{◌≡◌, ◌+◌, ◌∙◌, min, ap, arith, length}
use Rattle.ply_reader.specs.Declarations.{declared}
use Rattle.ply_binary.specs.HeldStates.{held}
use Rattle.ply_binary.proofs.source.AsciiSource.take_line.Goals as goal

pub invariant_of-self-2 : goal.invariant_of-self-2
invariant_of-self-2 g c =
    let whole : c.whole_size-whole.result ≡ min (c.args.size + 1) (length (held c.args.self.now.held)) = c.whole_size-whole.ensures ∙ ap (λ n. min (c.args.size + 1) n) c.len.ensures in
    record { within = omega (arith, whole, c.in-Some.ensures.place); inside = c.new-self.ensures.inside (declared c.take-taken.new.self) }
