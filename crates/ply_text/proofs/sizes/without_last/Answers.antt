use Rattle.std.proofs.Common.{◌+◌, ◌-◌, length, sym}
use Rattle.std.proofs.lemmas.List.{length-append}
use Rattle.ply_text.proofs.DigitRuns.{take-two, drop-two}
use Rattle.ply_text.proofs.sizes.without_last.Goals as goal

pub returns-clause-kept : goal.returns-clause-kept
returns-clause-kept c =
    let kept = length c.args.whole.now + length c.args.fraction.now - c.args.count in
    rw (length-append c.args.whole.now c.args.fraction.now, c.split_at.ensures.front, c.split_at-2.ensures.front, c.min.ensures, c.saturating_sub.ensures, c.saturating_sub-kept.ensures)
    (sym (take-two kept c.args.whole.now c.args.fraction.now))

pub returns-clause-cut : goal.returns-clause-cut
returns-clause-cut c =
    let kept = length c.args.whole.now + length c.args.fraction.now - c.args.count in
    rw (length-append c.args.whole.now c.args.fraction.now, c.split_at.ensures.back, c.split_at-2.ensures.back, c.min.ensures, c.saturating_sub.ensures, c.saturating_sub-kept.ensures)
    (sym (drop-two kept c.args.whole.now c.args.fraction.now))
