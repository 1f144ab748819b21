use Rattle.mesh_maker.proofs.MadeLines.{all_lines}
use Rattle.mesh_maker.proofs.body.Body.new.Goals as goal

pub returns : goal.returns
returns c = all_lines c.args.number c.args.side
