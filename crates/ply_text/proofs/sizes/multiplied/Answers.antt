use Rattle.std.proofs.Common.{◌<◌, arith}
use Rattle.ply_text.proofs.CappedSizes.{too_many_tens}
use Rattle.ply_text.proofs.sizes.multiplied.Goals as goal

pub returns-then-tens-gt-MAX_TENS : goal.returns-then-tens-gt-MAX_TENS
returns-then-tens-gt-MAX_TENS c =
    let some : 0 < c.args.size = omega (arith, c.if-size-eq0.false) in
    too_many_tens c.args.size c.args.tens some c.if-tens-gt-MAX_TENS.true
