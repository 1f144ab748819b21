-- What an answer says of a triangle and a cube.
use Rattle.std.specs.Prelude.{◌≡◌, Some}
use Rattle.svo_base.specs.declared.shapes.Triangle.{Triangle}
use Rattle.svo_base.specs.declared.shapes.Cube.{Cube}
use Rattle.octree_specs.specs.Meeting.{Meets as SharePoint}
use Rattle.octree_specs.specs.Vectors.{vector}
use Rattle.tri_cube.specs.declared.verdicts.Verdict.{Verdict}
use Rattle.tri_cube.specs.declared.verdicts.Verdict.TheVariants.{Meets, Apart}
use Rattle.tri_cube.specs.Axes.{first_separating}
use Rattle.tri_cube.specs.CandidatesInTurn.{first_good}

-- they share a point, and the weights are the first good candidate; or they share none, and the axis is the first that separates
abbrev pub Says : Triangle → Cube → Verdict → Type 0
Says t cube (Meets w0 w1 w2) = SharePoint t cube × (first_good t cube ≡ Some (vector w0 w1 w2))
Says t cube (Apart axis) = (SharePoint t cube → ⊥) × (first_separating t cube ≡ Some axis)
