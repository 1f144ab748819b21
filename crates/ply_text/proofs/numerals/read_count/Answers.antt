use Rattle.std.proofs.Common.{arith}
use Rattle.ply_text.proofs.ReadNumbers.{power_is_whole, no_count}
use Rattle.ply_text.proofs.WholeTokens.{IsRead, granted, answered}
use Rattle.ply_text.proofs.numerals.read_count.Goals as goal

pub returns-in_err-count-clause-missing : goal.returns-in_err-count-clause-missing
returns-in_err-count-clause-missing c =
    rw c.from_residual.ensures
    (no_count c.args.text.now c.read_sign-sign.result.1.now c.read_sign-sign.result.0 c.read_sign-sign.ensures.spelled c.read_sign-sign.ensures.none (λ power.
    let whole = power_is_whole c.read_sign-sign.result.1.now power in
    cc (granted c.read_sign-sign.result.1.now 9999 whole.0 whole.1, c.in_err-count.ensures)))

pub overflow_cast-result : goal.overflow_cast-result
overflow_cast-result c =
    let read : IsRead c.read_sign-sign.result.1.now 9999 c.in_ok-count.count = answered c.read_sign-sign.result.1.now 9999 c.in_ok-count.count c.in_ok-count.ensures in
    omega (arith, read.within)

pub returns-clause-found : goal.returns-clause-found
returns-clause-found c =
    let read : IsRead c.read_sign-sign.result.1.now 9999 c.in_ok-count.count = answered c.read_sign-sign.result.1.now 9999 c.in_ok-count.count c.in_ok-count.ensures in
    record {
      digits = c.read_sign-sign.result.1.now;
      good = record { all = read.whole.digits; some = read.whole.some; few = c.if-digits-gt-MAX_EXPONENT_DIGITS.false };
      spelled = c.read_sign-sign.ensures.spelled;
      number = read.number;
    }
