use Rattle.std.proofs.Common.{arith}
use Rattle.ply_text.proofs.CappedSizes.{digits_value_after-more, digit_of_byte}
use Rattle.ply_text.proofs.sizes.value_after.Goals as goal

pub overflow_sub-byte : goal.overflow_sub-byte
overflow_sub-byte c =
    let digit = digit_of_byte c.args.digits.now c.loop-byte.byte-index c.requires.digits c.loop-byte-test.true in
    omega (arith, digit.0)

pub loop-byte-preserved : goal.loop-byte-preserved
loop-byte-preserved c =
    let digit = digit_of_byte c.args.digits.now c.loop-byte.byte-index c.requires.digits c.loop-byte-test.true in
    let more = digits_value_after-more c.args.before c.args.digits.now c.loop-byte.byte-index c.loop-byte-test.true in
    omega (arith, c.min-value.ensures, c.from.ensures, c.loop-byte.invariant, digit.1, more)
