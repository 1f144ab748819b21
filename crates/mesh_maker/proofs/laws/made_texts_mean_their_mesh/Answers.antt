use Rattle.mesh_maker.proofs.MadeTexts.{made_means}
use Rattle.mesh_maker.proofs.laws.made_texts_mean_their_mesh.Goals as goal

pub returns : goal.returns
returns c = made_means
