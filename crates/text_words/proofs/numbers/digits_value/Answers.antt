use Rattle.std.proofs.Common.{arith}
use Rattle.std.proofs.lemmas.Int.Digits.{digits_value_more}
use Rattle.std.proofs.lemmas.List.{take_all}
use Rattle.text_words.proofs.Digits.{digit_is, next_within, value_within}
use Rattle.text_words.proofs.numbers.digits_value.Goals as goal

pub overflow_mul-value : goal.overflow_mul-value
overflow_mul-value c =
    let next = next_within c.args.text.now c.loop-digit.digit-index c.requires.digits c.requires.short c.loop-digit-test.true in
    omega (arith, c.loop-digit.invariant, next)

pub overflow_add-value : goal.overflow_add-value
overflow_add-value c =
    let next = next_within c.args.text.now c.loop-digit.digit-index c.requires.digits c.requires.short c.loop-digit-test.true in
    let digit = digit_is c.args.text.now c.loop-digit.digit-index c.requires.digits c.loop-digit-test.true in
    omega (arith, c.loop-digit.invariant, next, digit)

pub loop-digit-preserved : goal.loop-digit-preserved
loop-digit-preserved c =
    let more = digits_value_more 10 c.args.text.now c.loop-digit.digit-index c.loop-digit-test.true in
    let digit = digit_is c.args.text.now c.loop-digit.digit-index c.requires.digits c.loop-digit-test.true in
    omega (arith, c.loop-digit.invariant, more, digit)

pub returns-clause-within : goal.returns-clause-within
returns-clause-within c =
    let within = value_within c.args.text.now c.requires.digits c.requires.short in
    let all = take_all c.loop-digit.digit-index c.args.text.now (omega arith) in
    rw (c.loop-digit.invariant, all) within
