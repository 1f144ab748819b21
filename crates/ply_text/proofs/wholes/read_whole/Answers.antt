use Rattle.std.proofs.Common.{◌≡◌, ◌≤◌, ◌∙◌, ap, length, take, arith, take_all, get_or, subst, lit≤, Some, ◌+◌}
use Rattle.std.specs.Str.Parse.{digits_value, AllDigits}
use Rattle.std.proofs.lemmas.Bool.Decides.{nat_tests}
use Rattle.std.proofs.lemmas.Int.Digits.{digits_more}
use Rattle.std.proofs.lemmas.Str.Parse.{digit_at, digits_value-take-le}
use Rattle.std.proofs.lemmas.Str.{digit_value_digit}
use Rattle.ply_text.proofs.CappedSizes.{digits_value_after-more, digit_of_byte}
use Rattle.ply_text.proofs.WholeTokens.{IsWhole, granted, refused}
use Rattle.ply_text.proofs.wholes.read_whole.Goals as goal
use Rattle.ply_text.proofs.wholes.read_whole.Goals.{then-is_empty-via-then-is_empty, then-is_empty-via-else-is_empty+then-token-gt-MAX_WHOLE_DIGITS}

pub returns-then-is_empty : goal.returns-then-is_empty
returns-then-is_empty c =
    refused c.args.token.now c.args.limit (λ whole _.
    elim c.then-is_empty.branch [
      | then-is_empty-via-then-is_empty w ↦ grind (arith, nat_tests, c.is_empty.ensures, w.if-is_empty.true, whole.some)
      | then-is_empty-via-else-is_empty+then-token-gt-MAX_WHOLE_DIGITS w ↦ omega (arith, w.if-token-gt-MAX_WHOLE_DIGITS.true, whole.few)
    ])

pub returns-then-not-is_ascii_digit : goal.returns-then-not-is_ascii_digit
returns-then-not-is_ascii_digit c =
    refused c.args.token.now c.args.limit (λ whole _.
    grind (arith, digit_at c.args.token.now c.loop-byte.byte-index whole.digits c.loop-byte-test.true, c.if-not-is_ascii_digit.ensures.cases))

pub returns-in_err-checked_mul : goal.returns-in_err-checked_mul
returns-in_err-checked_mul c =
    c.from_residual.ensures
    ∙ refused c.args.token.now c.args.limit (λ whole within.
    let more = digits_value_after-more 0 c.args.token.now c.loop-byte.byte-index c.loop-byte-test.true in
    let front = digits_value-take-le 10 c.args.token.now (c.loop-byte.byte-index + 1) (lit≤ tt) in
    c.in_err-checked_mul.ensures (omega (arith, more, front, within, c.loop-byte.invariant.1, c.ranges.limit)))

pub returns-in_err-value : goal.returns-in_err-value
returns-in_err-value c =
    c.from_residual-in_err-value.ensures
    ∙ refused c.args.token.now c.args.limit (λ whole within.
    let more = digits_value_after-more 0 c.args.token.now c.loop-byte.byte-index c.loop-byte-test.true in
    let front = digits_value-take-le 10 c.args.token.now (c.loop-byte.byte-index + 1) (lit≤ tt) in
    let digit = digit_of_byte c.args.token.now c.loop-byte.byte-index whole.digits c.loop-byte-test.true in
    c.in_err-value.ensures (omega (arith, more, front, within, digit.1, c.loop-byte.invariant.1, c.ranges.limit, c.from.ensures, c.in_ok-checked_mul.ensures)))

pub loop-byte-preserved : goal.loop-byte-preserved
loop-byte-preserved c =
    let more = digits_value_after-more 0 c.args.token.now c.loop-byte.byte-index c.loop-byte-test.true in
    let digit = digit_value_digit (get_or c.args.token.now c.loop-byte.byte-index 0) c.if-not-is_ascii_digit.ensures.cases in (
      digits_more 10 c.args.token.now c.loop-byte.byte-index c.loop-byte-test.true c.loop-byte.invariant.0 c.if-not-is_ascii_digit.ensures.bound,
      omega (arith, more, digit, c.loop-byte.invariant.1, c.from.ensures, c.in_ok-checked_mul.ensures.1, c.in_ok-value.ensures.1),
    )

pub returns-then-value-limit : goal.returns-then-value-limit
returns-then-value-limit c =
    let all : take c.loop-byte.byte-index c.args.token.now ≡ c.args.token.now = take_all c.loop-byte.byte-index c.args.token.now c.loop-byte-test.false in
    let value : c.loop-byte.value ≡ digits_value 10 c.args.token.now = c.loop-byte.invariant.1 ∙ ap (digits_value 10) all in
    let some : 1 ≤ length c.args.token.now = grind (arith, nat_tests, c.if-is_empty.ensures) in
    let whole : IsWhole c.args.token.now = record { some = some; few = omega (arith, c.if-token-gt-MAX_WHOLE_DIGITS.false); digits = subst (AllDigits 10) all c.loop-byte.invariant.0 } in
    ap Some value ∙ granted c.args.token.now c.args.limit whole (omega (arith, value, c.if-value-limit.true))

pub returns-else-value-limit : goal.returns-else-value-limit
returns-else-value-limit c =
    let all : take c.loop-byte.byte-index c.args.token.now ≡ c.args.token.now = take_all c.loop-byte.byte-index c.args.token.now c.loop-byte-test.false in
    let value : c.loop-byte.value ≡ digits_value 10 c.args.token.now = c.loop-byte.invariant.1 ∙ ap (digits_value 10) all in
    refused c.args.token.now c.args.limit (λ _ within. omega (arith, value, within, c.if-value-limit.false))
