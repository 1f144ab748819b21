-- A word that is refused, and orders of children, from the definitions alone.
use Rattle.std.proofs.Common.{◌≡◌, [], ◌∷◌, pos, negsuc, refl, lit<, lit≤}
use Rattle.ray_fraction.specs.RayShape.{RayShape}
use Rattle.ray_walk.specs.Faults.{IsMisplaced}
use Rattle.ray_walk.specs.Octants.{turn_of, visited}

-- the root's word of the eight cells around (2, 2, 2), with the base 8 at number 8
at_its_own_number : IsMisplaced 8 2303
unfolding lib.Count.ones
at_its_own_number = record { place = 0; octant = lit< tt; child = refl; late = lit≤ tt }

-- a ray that goes down along x and z
down : RayShape
down = record { origin = pos 5 ∷ pos 0 ∷ pos 3 ∷ []; direction = negsuc 0 ∷ pos 0 ∷ negsuc 6 ∷ [] }

turned : turn_of down ≡ 5
unfolding turn_of down
turned = refl

-- visits the child that is the upper one along both of these axes first, and the opposite one last
first_child : visited 5 0 ≡ 5
unfolding visited
first_child = refl

last_child : visited 5 7 ≡ 2
unfolding visited
last_child = refl
