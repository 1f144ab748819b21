-- Numbers read are those that were written.
use Rattle.node_file.proofs.Fields.{totals_are}
use Rattle.node_file.proofs.framing.totals_at.Goals as goal

pub returns : goal.returns
returns c = λ format totals is. totals_are format c.number_at.result c.number_at-2.result totals c.args.bytes.now is c.number_at.ensures c.number_at-2.ensures
