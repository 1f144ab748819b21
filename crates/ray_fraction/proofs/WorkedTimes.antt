-- Small cases that were worked out by hand, from the definitions alone.
use Rattle.std.proofs.Common.{ℕ, [], ◌∷◌, pos, negsuc, arith}
use Rattle.std.proofs.lemmas.Int.{ints}
use Rattle.svo_base.specs.declared.shapes.Cube.{Cube}
use Rattle.ray_fraction.specs.Fractions.{IsUpTo}
use Rattle.ray_fraction.specs.InCube.{InAt}
use Rattle.ray_fraction.specs.RayShape.{RayShape}

abbrev rising : RayShape
rising = record { origin = negsuc 0 ∷ pos 0 ∷ pos 0 ∷ []; direction = pos 4 ∷ pos 3 ∷ pos 3 ∷ [] }

abbrev plate : Cube
plate = record { lo = pos 1 ∷ pos 0 ∷ pos 0 ∷ []; hi = pos 2 ∷ pos 9 ∷ pos 9 ∷ [] }

-- the ray is at the plate's lower plane at 1 / 2, however that is written
enters : InAt rising plate 1 2
enters = record {
  some = omega arith;
  x = record { above = omega (arith, ints); below = omega (arith, ints) };
  y = record { above = omega (arith, ints); below = omega (arith, ints) };
  z = record { above = omega (arith, ints); below = omega (arith, ints) };
}

enters_too : InAt rising plate 2 4
enters_too = record {
  some = omega arith;
  x = record { above = omega (arith, ints); below = omega (arith, ints) };
  y = record { above = omega (arith, ints); below = omega (arith, ints) };
  z = record { above = omega (arith, ints); below = omega (arith, ints) };
}

-- and not before
enters_first : (n m : ℕ) → InAt rising plate n m → IsUpTo 1 2 n m
enters_first n m at = omega (arith, ints, at.x.above)

-- it is there until 3 / 4, and no longer
leaves : InAt rising plate 3 4
leaves = record {
  some = omega arith;
  x = record { above = omega (arith, ints); below = omega (arith, ints) };
  y = record { above = omega (arith, ints); below = omega (arith, ints) };
  z = record { above = omega (arith, ints); below = omega (arith, ints) };
}

leaves_last : (n m : ℕ) → InAt rising plate n m → IsUpTo n m 3 4
leaves_last n m at = omega (arith, ints, at.x.below)

abbrev passing : RayShape
passing = record { origin = pos 1 ∷ pos 7 ∷ pos 1 ∷ []; direction = pos 2 ∷ negsuc 1 ∷ pos 2 ∷ [] }

abbrev block : Cube
block = record { lo = pos 0 ∷ pos 0 ∷ pos 0 ∷ []; hi = pos 4 ∷ pos 4 ∷ pos 4 ∷ [] }

-- a corner is touched at one time, 3 / 2
touches : InAt passing block 3 2
touches = record {
  some = omega arith;
  x = record { above = omega (arith, ints); below = omega (arith, ints) };
  y = record { above = omega (arith, ints); below = omega (arith, ints) };
  z = record { above = omega (arith, ints); below = omega (arith, ints) };
}

touches_once : (n m : ℕ) → InAt passing block n m → IsUpTo 3 2 n m × IsUpTo n m 3 2
touches_once n m at = (omega (arith, ints, at.y.below), omega (arith, ints, at.x.below))

abbrev beside : RayShape
beside = record { origin = negsuc 1 ∷ pos 5 ∷ pos 0 ∷ []; direction = pos 3 ∷ pos 0 ∷ pos 0 ∷ [] }

-- a ray that keeps beside a plane is never there
misses : (n m : ℕ) → InAt beside block n m → ⊥
misses n m at = absurd (omega (arith, ints, at.some, at.y.below))
