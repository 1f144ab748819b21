-- Where no axis separates there is a good candidate.
use Rattle.std.proofs.Common.{Some, sym, ap, ◌∙◌, arith, to_z-of_z}
use Rattle.std.proofs.lemmas.Int.{ints}
use Rattle.octree_specs.proofs.Vectors.{vector_same}
use Rattle.tri_cube.proofs.FirstAxis.{one_is_found, unseparated_met}
use Rattle.tri_cube.proofs.verdicts.shared_point.Goals as goal

pub unreachable-requires : goal.unreachable-requires
unreachable-requires c =
    one_is_found c.args.triangle.now c.args.cube.now c.requires.unseparated (sym c.first_good_weights.ensures ∙ c.in-None.is)

pub returns : goal.returns
returns c = (
  unseparated_met c.args.triangle.now c.args.cube.now c.requires.unseparated,
  sym c.first_good_weights.ensures ∙ c.in-Some.is ∙ ap Some (vector_same _ _ _ _ _ _ (grind (arith, ints, to_z-of_z)) (grind (arith, ints, to_z-of_z)) (grind (arith, ints, to_z-of_z))),
)
