-- The numbers fit their types, so they are what they were before the casts.
use Rattle.std.proofs.Common.{◌≡◌, ◌∙◌, arith, to_z-of_z, refl, ℤ}
use Rattle.std.proofs.lemmas.Int.{ints}
use Rattle.tri_cube.specs.Extents.{between}
use Rattle.tri_cube.proofs.extents.WideExtent.around.Goals as goal

spans : (x y p q : ℤ) → x ≡ p → y ≡ q → between x y ≡ between p q
spans x y p q e f = rw (e, f) refl

pub returns : goal.returns
returns c = c.new.ensures ∙ spans _ _ _ _ (grind (arith, ints, to_z-of_z)) (grind (arith, ints, to_z-of_z))
