use Rattle.std.proofs.Common.{◌≡◌, ◌+◌, ◌∙◌, [], length, ap, arith, refl, option_copied, unwrap_or}
use Rattle.ply_text.proofs.NumeralLaws.{IsSplit, split_from}
use Rattle.ply_text.proofs.ReadNumbers.{no_exponent, no_digit, unwrap_digits, parts_read}
use Rattle.ply_text.proofs.numerals.take_apart.Goals as goal

pub returns-in_err-tens-clause-missing : goal.returns-in_err-tens-clause-missing
returns-in_err-tens-clause-missing c =
    let fraction = option_copied c.read_fraction.result.0 in
    let split : IsSplit c.args.token.now c.read_sign-sign.result.0 c.read_digits.result.0.now fraction c.read_fraction.result.1.now =
    split_from _ _ _ _ _ _ _ c.read_sign-sign.ensures.spelled c.read_sign-sign.ensures.none c.read_digits.ensures.spelled c.read_digits.ensures.digits c.read_digits.ensures.end c.read_fraction.ensures.spelled c.read_fraction.ensures.digits c.read_fraction.ensures.end in
    rw c.from_residual.ensures
    (no_exponent c.args.token.now c.read_digits.result.0.now c.read_fraction.result.1.now c.read_sign-sign.result.0 fraction split c.in_err-tens.ensures.missing)

pub returns-then-whole-fraction-eq0-clause-missing : goal.returns-then-whole-fraction-eq0-clause-missing
returns-then-whole-fraction-eq0-clause-missing c =
    let fraction = option_copied c.read_fraction.result.0 in
    let split : IsSplit c.args.token.now c.read_sign-sign.result.0 c.read_digits.result.0.now fraction c.read_fraction.result.1.now =
    split_from _ _ _ _ _ _ _ c.read_sign-sign.ensures.spelled c.read_sign-sign.ensures.none c.read_digits.ensures.spelled c.read_digits.ensures.digits c.read_digits.ensures.end c.read_fraction.ensures.spelled c.read_fraction.ensures.digits c.read_fraction.ensures.end in
    let decimals : c.unwrap_or-fraction.result.now ≡ unwrap_or fraction [] = ap (λ digits. digits.now) c.unwrap_or-fraction.ensures ∙ unwrap_digits c.read_fraction.result.0 _ refl in
    let empty : length c.read_digits.result.0.now + length (unwrap_or fraction []) ≡ 0 = omega (arith, c.if-whole-fraction-eq0.true, ap length decimals) in
    no_digit c.args.token.now c.read_digits.result.0.now c.read_fraction.result.1.now c.read_sign-sign.result.0 fraction split empty

pub returns-clause-found : goal.returns-clause-found
returns-clause-found c =
    let fraction = option_copied c.read_fraction.result.0 in
    let split : IsSplit c.args.token.now c.read_sign-sign.result.0 c.read_digits.result.0.now fraction c.read_fraction.result.1.now =
    split_from _ _ _ _ _ _ _ c.read_sign-sign.ensures.spelled c.read_sign-sign.ensures.none c.read_digits.ensures.spelled c.read_digits.ensures.digits c.read_digits.ensures.end c.read_fraction.ensures.spelled c.read_fraction.ensures.digits c.read_fraction.ensures.end in
    let decimals : c.unwrap_or-fraction.result.now ≡ unwrap_or fraction [] = ap (λ digits. digits.now) c.unwrap_or-fraction.ensures ∙ unwrap_digits c.read_fraction.result.0 _ refl in
    parts_read c.args.token.now c.read_fraction.result.1.now
    (record { sign = c.read_sign-sign.result.0; whole = c.read_digits.result.0; fraction = c.unwrap_or-fraction.result; tens = c.in_ok-tens.tens })
    fraction split c.in_ok-tens.ensures.found decimals c.if-whole-fraction-eq0.false
