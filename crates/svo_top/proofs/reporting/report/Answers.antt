use Rattle.std.proofs.Common.{◌∙◌}
use Rattle.dev_traits.specs.Change.{change_of}
use Rattle.svo_top.proofs.Puts.{says}
use Rattle.svo_top.proofs.reporting.report.Goals as goal

pub returns-clause-says : goal.returns-clause-says
returns-clause-says g c =
    let same = c.as_bytes.ensures.value ∙ c.as_str.ensures.value ∙ c.line_of-line.ensures in
    rw (← same) (says (change_of g.E.ByteSink.written g.E.ByteSink.faults c.args.err.now c.put.new.self) c.as_bytes.result.now c.put.result c.put.ensures.bytes c.put.ensures.cause)
