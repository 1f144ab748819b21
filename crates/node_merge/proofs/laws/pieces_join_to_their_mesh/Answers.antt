use Rattle.node_merge.proofs.Pieces.{pieces_join}
use Rattle.node_merge.proofs.laws.pieces_join_to_their_mesh.Goals as goal

pub returns : goal.returns
returns c = pieces_join
