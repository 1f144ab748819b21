use Rattle.mesh_laws.proofs.PlainTexts.{plain_means}
use Rattle.mesh_laws.proofs.laws.plain_texts_mean_their_mesh.Goals as goal

pub returns : goal.returns
returns c = plain_means
