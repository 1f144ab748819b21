use Rattle.std.proofs.Common.{◌+◌, ap, ◌∙◌, arith, sym, slice_range}
use Rattle.std.specs.List.{prefix_len}
use Rattle.std.proofs.lemmas.List.Sums.{prefix_len-le-length}
use Rattle.ply_text.specs.Pieces.{belongs}
use Rattle.ply_text.specs.Reading.{held}
use Rattle.ply_text.proofs.Runs.{run-drop}
use Rattle.ply_text.proofs.Blocks.{drop-held, length-held}
use Rattle.ply_text.proofs.tokens.Tokens.held_size.Goals as goal

pub overflow_add-result : goal.overflow_add-result
overflow_add-result g c =
    let s = c.args.self.now in
    let long = length-held s.block.now (s.from + c.args.seen) s.to (omega (arith, c.requires.held, s.ordered)) s.inside in
    let short = prefix_len-le-length (belongs c.args.run) (slice_range s.block.now (s.from + c.args.seen) s.to) in
    omega (arith, c.front_size.ensures, c.requires.held, long, short)

pub returns : goal.returns
returns g c =
    let s = c.args.self.now in
    let p = belongs c.args.run in
    ap (λ n. c.args.seen + n) (c.front_size.ensures ∙ ap (prefix_len p) (sym (drop-held s.block.now s.from s.to c.args.seen c.requires.held)))
    ∙ sym (run-drop p c.args.seen (held s) c.requires.seen)
