use Rattle.std.proofs.Common.{arith, ◌^◌, ◌∙◌, ap}
use Rattle.ply_text.specs.Scaled.{ReadsNumber, settled}
use Rattle.ply_text.proofs.FixedNumbers.{fixed_reads}
use Rattle.ply_text.proofs.ReadNumbers.{whole_read}
use Rattle.ply_text.proofs.WholeTokens.{IsRead, answered}
use Rattle.ply_text.proofs.numbers.read_fixed.Goals as goal

pub whole_times-requires : goal.whole_times-requires
whole_times-requires c =
    let read : IsRead c.read_sign-sign.result.1.now (2 ^ 30) c.in-Some.size = answered c.read_sign-sign.result.1.now (2 ^ 30) c.in-Some.size c.in-Some.ensures in
    omega (arith, read.within)

pub returns-in-Some-clause-reads : goal.returns-in-Some-clause-reads
returns-in-Some-clause-reads c =
    whole_read c.args.token.now c.read_sign-sign.result.1.now c.read_sign-sign.result.0 c.args.decimals c.in-Some.size c.whole_times.result.size c.args.cut c.settle.result
    c.read_sign-sign.ensures.spelled (answered c.read_sign-sign.result.1.now (2 ^ 30) c.in-Some.size c.in-Some.ensures) c.whole_times.ensures.size
    (c.settle.ensures.number ∙ ap (λ b. settled c.read_sign-sign.result.0 c.whole_times.result.size b c.args.cut) c.whole_times.ensures.is_whole)

pub returns-in-Some-clause-fixed : goal.returns-in-Some-clause-fixed
returns-in-Some-clause-fixed c =
    let reads : ReadsNumber c.args.token.now c.args.decimals c.args.cut c.settle.result =
    whole_read c.args.token.now c.read_sign-sign.result.1.now c.read_sign-sign.result.0 c.args.decimals c.in-Some.size c.whole_times.result.size c.args.cut c.settle.result
    c.read_sign-sign.ensures.spelled (answered c.read_sign-sign.result.1.now (2 ^ 30) c.in-Some.size c.in-Some.ensures) c.whole_times.ensures.size
    (c.settle.ensures.number ∙ ap (λ b. settled c.read_sign-sign.result.0 c.whole_times.result.size b c.args.cut) c.whole_times.ensures.is_whole) in
    fixed_reads c.args.token.now c.args.decimals c.args.cut c.settle.result reads

pub returns-in-None-clause-fixed : goal.returns-in-None-clause-fixed
returns-in-None-clause-fixed c = fixed_reads c.args.token.now c.args.decimals c.args.cut c.read_decimal.result c.read_decimal.ensures.reads
