use Rattle.std.proofs.Common.{arith, to_z-of_z}
use Rattle.std.proofs.lemmas.Int.{ints}
use Rattle.slice_view.proofs.cameras.Camera.way.Goals as goal

pub overflow_add-result : goal.overflow_add-result
overflow_add-result c = grind (arith, ints, to_z-of_z)

pub returns-clause-value : goal.returns-clause-value
returns-clause-value c = grind (arith, ints, to_z-of_z)
