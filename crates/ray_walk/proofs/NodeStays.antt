-- The lanes of a node: the times between them are those in its cube, and halves of them are the lanes of its children.
use Rattle.std.proofs.Common.{◌≡◌, ℕ, zero, suc, ◌+◌, ◌*◌, ◌/◌, ◌%◌, ◌^◌, ◌<◌, ◌≤◌, ◌↔◌, true, false, Bool, cond, ◌&&◌, None, Some, arith, refl, sym, ap, subst, ◌∙◌, inl, inr, ℤ, pos, negsuc, ◌+ℤ◌, ◌*ℤ◌}
use Rattle.std.specs.Prelude.{unsigned_abs, max, ◌==◌}
use Rattle.std.specs.Ordering.{int_eq}
use Rattle.std.proofs.lemmas.Bool.{cases_Bool}
use Rattle.std.proofs.lemmas.Bool.Decides.{Decides-int_eq}
use Rattle.std.proofs.lemmas.Int.{ints}
use Rattle.std.proofs.lemmas.Nat.{mul-le}
use Rattle.svo_base.specs.GridShape.{GridShape}
use Rattle.octree_specs.proofs.Integers.{*ℤ-+ℤ}
use Rattle.ray_fraction.specs.Crossings.{box_of}
use Rattle.ray_fraction.specs.Fractions.{IsUpTo}
use Rattle.ray_fraction.specs.InCube.{IsInAlong}
use Rattle.ray_fraction.specs.RayShape.{RayShape}
use Rattle.ray_fraction.specs.Spans.{HasGone}
use Rattle.ray_walk.specs.Lanes.{IsInLane, later_of, allows_at}
use Rattle.ray_walk.specs.Octants.{direction_along, turn_of, visited}
use Rattle.ray_walk.specs.Stays.{InBox, IsEntry, IsFlight, IsLane, IsPace, IsStay, box_side, near_of}
use Rattle.ray_walk.specs.declared.flights.Flight.{Flight}
use Rattle.ray_walk.specs.declared.flights.Stay.{Stay}
use Rattle.ray_walk.specs.declared.lanes.Lane.{Lane}
use Rattle.ray_walk.proofs.Ticks.{later_near, later_from, later_least, allowed_in, in_allows}
use Rattle.ray_walk.proofs.Ways.{near_of_child, twice_side, gone_finer, gone_along}

-- ---- lanes and cubes

pub lane_along : (ray : RayShape) (grid : GridShape) (axis height node pace scale : ℕ) (lane : Lane) (n m : ℕ) → axis < 3 → height ≤ grid.depth
    → IsLane ray grid pace axis height node lane → IsPace ray scale axis pace → IsInLane lane scale n m ↔ IsInAlong axis ray (box_of grid height node) n m
lane_along ray grid axis height node pace scale lane n m real within is paced =
    let near : ℤ = near_of ray grid axis height node in
    let side : ℕ = box_side grid height in
    let far : lane.far ≡ pos pace *ℤ (near +ℤ pos side) =
    is.far ∙ (ap (λ z. z +ℤ pos (pace * side)) is.near ∙ omega (arith, ints, *ℤ-+ℤ (pos pace) near (pos side))) in
    let ticks : cond lane.moving scale 0 ≡ pace * unsigned_abs (direction_along ray axis) = ap (λ b. cond b scale 0) is.moving ∙ sym paced.ticks in
    let finer : HasGone (pos pace *ℤ near) (pos pace *ℤ (near +ℤ pos side)) (pos (pace * unsigned_abs (direction_along ray axis))) n m ↔ HasGone near (near +ℤ pos side) (pos (unsigned_abs (direction_along ray axis))) n m =
    gone_finer pace near (near +ℤ pos side) (unsigned_abs (direction_along ray axis)) n m paced.some in
    let along : HasGone near (near +ℤ pos side) (pos (unsigned_abs (direction_along ray axis))) n m ↔ IsInAlong axis ray (box_of grid height node) n m = gone_along ray grid axis height node n m real within in
    rw (is.near, far, ticks) (λ gone. along.0 (finer.0 gone), λ at. finer.1 (along.1 at))

-- the ray is in all three lanes
record AreInLanes (stay : Stay) (scale n m : ℕ) : Type 0 where
  x : IsInLane stay.x scale n m
  y : IsInLane stay.y scale n m
  z : IsInLane stay.z scale n m

box_from_lanes : (flight : Flight) (height node : ℕ) (stay : Stay) (n m : ℕ) → height ≤ flight.grid.depth → IsFlight flight → IsStay flight height node stay → 1 ≤ m
    → AreInLanes stay flight.scale n m → InBox flight.ray flight.grid height node n m
box_from_lanes flight height node stay n m within flies is some lanes = record {
  some = some;
  x = (lane_along flight.ray flight.grid 0 height node flight.x flight.scale stay.x n m (omega arith) within is.x flies.x).0 lanes.x;
  y = (lane_along flight.ray flight.grid 1 height node flight.y flight.scale stay.y n m (omega arith) within is.y flies.y).0 lanes.y;
  z = (lane_along flight.ray flight.grid 2 height node flight.z flight.scale stay.z n m (omega arith) within is.z flies.z).0 lanes.z;
}

lanes_from_box : (flight : Flight) (height node : ℕ) (stay : Stay) (n m : ℕ) → height ≤ flight.grid.depth → IsFlight flight → IsStay flight height node stay
    → InBox flight.ray flight.grid height node n m → AreInLanes stay flight.scale n m
lanes_from_box flight height node stay n m within flies is at = record {
  x = (lane_along flight.ray flight.grid 0 height node flight.x flight.scale stay.x n m (omega arith) within is.x flies.x).1 at.x;
  y = (lane_along flight.ray flight.grid 1 height node flight.y flight.scale stay.y n m (omega arith) within is.y flies.y).1 at.y;
  z = (lane_along flight.ray flight.grid 2 height node flight.z flight.scale stay.z n m (omega arith) within is.z flies.z).1 at.z;
}

-- ---- the entry

pub entry_of : Stay → ℕ
entry_of stay = later_of stay.z (later_of stay.y (later_of stay.x 0))

all_allow : Stay → ℕ → Bool
all_allow stay ticks = allows_at stay.x ticks && allows_at stay.y ticks && allows_at stay.z ticks

entry_least : (stay : Stay) (scale n m : ℕ) → AreInLanes stay scale n m → IsUpTo (entry_of stay) scale n m
unfolding entry_of
entry_least stay scale n m lanes =
    let x : IsUpTo (later_of stay.x 0) scale n m = later_least stay.x.near stay.x.far stay.x.moving 0 scale n m (omega arith) lanes.x in
    let y : IsUpTo (later_of stay.y (later_of stay.x 0)) scale n m = later_least stay.y.near stay.y.far stay.y.moving (later_of stay.x 0) scale n m x lanes.y in
    later_least stay.z.near stay.z.far stay.z.moving (later_of stay.y (later_of stay.x 0)) scale n m y lanes.z

entry_in : (stay : Stay) (scale : ℕ) → allows_at stay.x (entry_of stay) ≡ true → allows_at stay.y (entry_of stay) ≡ true → allows_at stay.z (entry_of stay) ≡ true → AreInLanes stay scale (entry_of stay) scale
unfolding entry_of
entry_in stay scale x y z =
    let first : ℕ = later_of stay.x 0 in
    let second : ℕ = later_of stay.y first in
    let third : ℕ = later_of stay.z second in
    let up : first ≤ second = later_from stay.y.near stay.y.far stay.y.moving first in
    let over : second ≤ third = later_from stay.z.near stay.z.far stay.z.moving second in
    record {
      x = allowed_in stay.x.near stay.x.far stay.x.moving third scale (λ moves. omega (arith, ints, later_near stay.x.near stay.x.far stay.x.moving 0 moves, up, over)) x;
      y = allowed_in stay.y.near stay.y.far stay.y.moving third scale (λ moves. omega (arith, ints, later_near stay.y.near stay.y.far stay.y.moving first moves, over)) y;
      z = allowed_in stay.z.near stay.z.far stay.z.moving third scale (later_near stay.z.near stay.z.far stay.z.moving second) z;
    }

-- where all lanes allow the ticks they are the entry
pub enters : (flight : Flight) (height node : ℕ) (stay : Stay) (ticks : ℕ) → IsFlight flight → ticks ≡ entry_of stay
    → allows_at stay.x ticks ≡ true → allows_at stay.y ticks ≡ true → allows_at stay.z ticks ≡ true → height ≤ flight.grid.depth → IsStay flight height node stay
    → IsEntry (InBox flight.ray flight.grid height node) flight.scale (Some ticks)
enters flight height node stay ticks flies is x y z within stays =
    let lanes : AreInLanes stay flight.scale (entry_of stay) flight.scale =
    entry_in stay flight.scale (subst (λ t. allows_at stay.x t ≡ true) is x) (subst (λ t. allows_at stay.y t ≡ true) is y) (subst (λ t. allows_at stay.z t ≡ true) is z) in
    let entry : IsEntry (InBox flight.ray flight.grid height node) flight.scale (Some (entry_of stay)) = (
      box_from_lanes flight height node stay (entry_of stay) flight.scale within flies stays flies.some lanes,
      λ n m at. entry_least stay flight.scale n m (lanes_from_box flight height node stay n m within flies stays at),
    ) in
    subst (λ t. IsEntry (InBox flight.ray flight.grid height node) flight.scale (Some t)) (sym is) entry

-- where one does not the ray is never in the node
pub misses : (flight : Flight) (height node : ℕ) (stay : Stay) (ticks : ℕ) → IsFlight flight → ticks ≡ entry_of stay
    → (allows_at stay.x ticks ≡ true → allows_at stay.y ticks ≡ true → allows_at stay.z ticks ≡ true → ⊥) → height ≤ flight.grid.depth → IsStay flight height node stay
    → IsEntry (InBox flight.ray flight.grid height node) flight.scale None
misses flight height node stay ticks flies is fails within stays n m at =
    let lanes : AreInLanes stay flight.scale n m = lanes_from_box flight height node stay n m within flies stays at in
    let least : IsUpTo (entry_of stay) flight.scale n m = entry_least stay flight.scale n m lanes in
    let sooner : IsUpTo ticks flight.scale n m = subst (λ t. IsUpTo t flight.scale n m) (sym is) least in
    fails
    (in_allows stay.x.near stay.x.far stay.x.moving ticks flight.scale n m at.some sooner lanes.x)
    (in_allows stay.y.near stay.y.far stay.y.moving ticks flight.scale n m at.some sooner lanes.y)
    (in_allows stay.z.near stay.z.far stay.z.moving ticks flight.scale n m at.some sooner lanes.z)

-- ---- children

bit_as : (n : ℕ) → n < 2 → cond (n == 1) 1 0 ≡ n
bit_as zero below = refl
bit_as (suc zero) below = refl
bit_as (suc (suc n)) below = absurd (omega (arith, below))

bit_below : (n : ℕ) → n % 2 < 2
bit_below n = omega arith

pub lane_half : (ray : RayShape) (grid : GridShape) (axis height node pace k : ℕ) (lane half : Lane) (farther : Bool) → axis < 3 → height < grid.depth → k < 8
    → farther ≡ (k / 2 ^ axis % 2 == 1)
    → ((size : ℕ) → lane.far ≡ lane.near +ℤ pos (2 * size) → half.near ≡ lane.near +ℤ pos (size * cond farther 1 0))
    → ((size : ℕ) → lane.far ≡ lane.near +ℤ pos (2 * size) → half.far ≡ half.near +ℤ pos size)
    → half.moving ≡ lane.moving
    → IsLane ray grid pace axis (height + 1) node lane → IsLane ray grid pace axis height (8 * node + visited (turn_of ray) k) half
lane_half ray grid axis height node pace k lane half farther real within octant which near far moving is =
    let side : ℕ = box_side grid height in
    let size : ℕ = pace * side in
    let bit : ℕ = k / 2 ^ axis % 2 in
    let both : lane.far ≡ lane.near +ℤ pos (2 * size) = is.far ∙ ap (λ n. lane.near +ℤ pos n) (ap (λ s. pace * s) (twice_side grid height) ∙ omega arith) in
    let taken : cond farther 1 0 ≡ bit = ap (λ b. cond b 1 0) which ∙ bit_as bit (bit_below (k / 2 ^ axis)) in
    let at : half.near ≡ lane.near +ℤ pos (size * bit) = near size both ∙ ap (λ b. lane.near +ℤ pos (size * b)) taken in
    let way : near_of ray grid axis height (8 * node + visited (turn_of ray) k) ≡ near_of ray grid axis (height + 1) node +ℤ pos (side * bit) = near_of_child ray grid axis height node k real within octant in
    let split : pos pace *ℤ (near_of ray grid axis (height + 1) node +ℤ pos (side * bit)) ≡ (pos pace *ℤ near_of ray grid axis (height + 1) node) +ℤ (pos pace *ℤ pos (side * bit)) =
    *ℤ-+ℤ (pos pace) (near_of ray grid axis (height + 1) node) (pos (side * bit)) in
    let whole : (pos pace *ℤ near_of ray grid axis (height + 1) node) +ℤ pos (size * bit) ≡ (pos pace *ℤ near_of ray grid axis (height + 1) node) +ℤ (pos pace *ℤ pos (side * bit)) = omega (arith, ints) in
    record {
      near = at ∙ (ap (λ z. z +ℤ pos (size * bit)) is.near ∙ (whole ∙ (sym split ∙ ap (λ z. pos pace *ℤ z) (sym way))));
      far = far size both;
      moving = moving ∙ is.moving;
    }

-- ---- units

pub pace_is : (ray : RayShape) (axis factor others scale : ℕ) → factor ≡ max (unsigned_abs (direction_along ray axis)) 1 → scale ≡ factor * others → 1 ≤ others → others ≤ 2 ^ 60 → IsPace ray scale axis others
pace_is ray axis factor others scale is_factor is_scale some slow = record {
  some = some;
  ticks = elim (cases_Bool (int_eq (direction_along ray axis) (pos 0))) [
    | inl stands ↦
        let none : unsigned_abs (direction_along ray axis) ≡ 0 = stands_still (direction_along ray axis) stands in
        rw (stands, none) (omega arith)
    | inr moves ↦
        let size : factor ≡ unsigned_abs (direction_along ray axis) = is_factor ∙ moves_on (direction_along ray axis) moves in
        rw (moves, is_scale, size) (omega arith)
  ];
  slow = slow;
}
  where
    stands_still : (z : ℤ) → int_eq z (pos 0) ≡ true → unsigned_abs z ≡ 0
    stands_still z is = ap unsigned_abs ((Decides-int_eq z (pos 0)).0 is)

    moves_on : (z : ℤ) → int_eq z (pos 0) ≡ false → max (unsigned_abs z) 1 ≡ unsigned_abs z
    moves_on (pos zero) is = cc
    moves_on (pos (suc n)) is = omega arith
    moves_on (negsuc n) is = omega (arith, ints)

pub pace_some : (a b : ℕ) → 1 ≤ a → 1 ≤ b → 1 ≤ a * b
pace_some a b first second = omega (arith, mul-le 1 1 a b first second)

pub pace_slow : (a b : ℕ) → a ≤ 2 ^ 30 → b ≤ 2 ^ 30 → a * b ≤ 2 ^ 60
pace_slow a b first second = omega (arith, mul-le a b (2 ^ 30) (2 ^ 30) first second)

pub scale_some : (scale x y z : ℕ) → scale ≡ x * (y * z) → 1 ≤ x → 1 ≤ y → 1 ≤ z → 1 ≤ scale
scale_some scale x y z is first second third = rw is (pace_some x (y * z) first (pace_some y z second third))

pub entry_is : (stay : Stay) (x y z : ℕ) → x ≡ later_of stay.x 0 → y ≡ later_of stay.y x → z ≡ later_of stay.z y → z ≡ entry_of stay
unfolding entry_of
entry_is stay x y z first second third = third ∙ ap (later_of stay.z) (second ∙ ap (later_of stay.y) first)
