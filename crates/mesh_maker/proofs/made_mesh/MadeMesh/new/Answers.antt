use Rattle.std.proofs.Common.{refl}
use Rattle.mesh_maker.specs.MadeText.{made_text}
use Rattle.mesh_maker.proofs.made_mesh.MadeMesh.new.Goals as goal

pub returns : goal.returns
unfolding made_text
returns c = rw (c.write_header.ensures, c.new.ensures) refl
