use Rattle.std.proofs.Common.{arith}
use Rattle.morton_code.proofs.RunsLemmas.{height_within, run_is}
use Rattle.morton_code.proofs.runs.aligned_run.Goals as goal

pub overflow_sub-result : goal.overflow_sub-result
overflow_sub-result c =
    let within = height_within c.args.from c.args.to c.args.depth c.log_8.result c.requires.inside c.log_8.ensures.power in
    omega (arith, within)

pub returns : goal.returns
returns c =
    run_is c.args.from c.args.to c.args.depth c.alignment.result c.log_8.result c.min-height.result c.requires.some c.requires.inside c.requires.depth
    c.alignment.ensures.divides c.alignment.ensures.greatest c.log_8.ensures.power c.log_8.ensures.greatest c.min-height.ensures
