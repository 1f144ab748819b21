-- What becomes of a child, from its entry.
use Rattle.std.proofs.Common.{◌≡◌, ℕ, suc, ◌+◌, ◌-◌, ◌*◌, ◌/◌, ◌^◌, ◌<◌, ◌≤◌, true, false, cond, Option, None, Some, IfSome, arith, refl, sym, ap, subst, ◌∙◌, inl, inr, lit≤}
use Rattle.std.specs.Prelude.{nat_lt}
use Rattle.std.proofs.Math.Nat.{mul-le-mul_right, le_of_mul-le-mul_right, pow-le-pow_right, pow-suc}
use Rattle.std.proofs.lemmas.Bool.{cases_Bool, or_parts, or_cases}
use Rattle.std.proofs.lemmas.Bool.Decides.{Decides-ltb}
use Rattle.svo_base.specs.declared.grids.TheConstants.{MAX_DEPTH}
use Rattle.octree_specs.specs.Walking.{child_number}
use Rattle.ray_fraction.specs.Fractions.{IsUpTo}
use Rattle.ray_fraction.specs.Hits.{Precedes}
use Rattle.ray_fraction.proofs.Order.{not_less}
use Rattle.ray_walk.specs.Octants.{visited}
use Rattle.ray_walk.specs.Stays.{InBox, IsEntry, IsFlight, IsStay}
use Rattle.ray_walk.specs.Steps.{IsSpot, IsPassed, IsTaken, IsStep, has_child, is_sooner_than, improves_on}
use Rattle.ray_walk.specs.declared.flights.Flight.{Flight}
use Rattle.ray_walk.specs.declared.flights.Stay.{Stay}
use Rattle.ray_walk.specs.declared.hits.Candidate.{Candidate}
use Rattle.ray_walk.specs.declared.spots.Spot.{Spot}
use Rattle.ray_walk.specs.declared.spots.Step.{Step}
use Rattle.ray_walk.specs.declared.spots.Step.TheVariants.{Skip, Take, Enter}
use Rattle.ray_walk.proofs.FirstHits.{strictly_precedes}

-- ---- codes and planes of a child

-- a child's code is one of its level
pub child_code : (flight : Flight) (spot : Spot) (place : ℕ) → IsSpot flight spot → place < 8 → 8 * spot.code + place < 8 ^ (flight.grid.depth - (spot.height - 1))
child_code flight spot place is octant =
    let level : flight.grid.depth - (spot.height - 1) ≡ suc (flight.grid.depth - spot.height) = omega (arith, is.above, is.within) in
    rw (level, pow-suc 8 (flight.grid.depth - spot.height)) (omega (arith, is.node, octant))

pub code_small : (flight : Flight) (spot : Spot) (place : ℕ) → IsFlight flight → IsSpot flight spot → place < 8 → 8 * spot.code + place < 2 ^ 36
code_small flight spot place flies is octant =
    let below : 8 * spot.code + place < 8 ^ (flight.grid.depth - (spot.height - 1)) = child_code flight spot place is octant in
    let shallow : flight.grid.depth - (spot.height - 1) ≤ MAX_DEPTH = omega (arith, flies.grid.shallow) in
    let power : 8 ^ (flight.grid.depth - (spot.height - 1)) ≤ 8 ^ MAX_DEPTH = pow-le-pow_right {n = 8} (lit≤ tt) {i = flight.grid.depth - (spot.height - 1)} {j = MAX_DEPTH} shallow in
    omega (arith, below, power)

pub child_stay : (flight : Flight) (spot : Spot) (k : ℕ) (stay : Stay) → IsSpot flight spot
    → ((height node : ℕ) → height < flight.grid.depth → IsStay flight (height + 1) node spot.stay → IsStay flight height (8 * node + visited flight.turn k) stay)
    → IsStay flight (spot.height - 1) (8 * spot.code + visited flight.turn k) stay
child_stay flight spot k stay is halves =
    let up : spot.height ≡ (spot.height - 1) + 1 = omega (arith, is.above) in
    halves (spot.height - 1) spot.code (omega (arith, is.above, is.within)) (subst (λ h. IsStay flight h spot.code spot.stay) up is.stay)

-- ---- a child that is passed

pub missed : (flight : Flight) (known : Option Candidate) (height node : ℕ) → IsEntry (InBox flight.ray flight.grid height node) flight.scale None → IsPassed flight known height node
missed flight known height node never code n m under at = absurd (never n m at)

less_from : (a b : ℕ) → nat_lt a b ≡ true → a < b
less_from a b is = (Decides-ltb a b).0 is

from_less : (a b : ℕ) → nat_lt a b ≡ false → b ≤ a
from_less a b is = not_less (nat_lt a b) a b (Decides-ltb a b).1 is

pub later : (flight : Flight) (known : Option Candidate) (height node ticks : ℕ) → is_sooner_than known ticks ≡ true
    → ((n m : ℕ) → InBox flight.ray flight.grid height node n m → IsUpTo ticks flight.scale n m) → IsPassed flight known height node
later flight None height node ticks sooner least code n m under at = cc
later flight (Some best) height node ticks sooner least code n m under at =
    let before : best.ticks < ticks = less_from best.ticks ticks sooner in
    strictly_precedes best.ticks flight.scale best.code n m code (λ early.
    let whole : ticks * m ≤ best.ticks * m = omega (arith, least n m at, early) in
    let back : ticks ≤ best.ticks = le_of_mul-le-mul_right {m = ticks} {n = best.ticks} {k = m} whole at.some in
    omega (arith, before, back))

-- ---- a cell

cell_first : (flight : Flight) (known : Option Candidate) (cell : Candidate) → 1 ≤ flight.scale → is_sooner_than known cell.ticks ≡ false → improves_on cell known ≡ true
    → IfSome known (λ best. Precedes cell.ticks flight.scale cell.code best.ticks flight.scale best.code)
cell_first flight None cell some not_sooner improves = tt
cell_first flight (Some best) cell some not_sooner improves =
    let up : cell.ticks ≤ best.ticks = from_less best.ticks cell.ticks not_sooner in
    record {
      sooner = mul-le-mul_right flight.scale up;
      tie = λ late. elim (or_cases (nat_lt cell.ticks best.ticks) (nat_lt cell.code best.code) improves) [
        | inl strictly ↦ absurd (omega (arith, less_from cell.ticks best.ticks strictly, le_of_mul-le-mul_right {m = best.ticks} {n = cell.ticks} {k = flight.scale} late some))
        | inr less ↦ omega (arith, less_from cell.code best.code less)
      ];
    }

-- a cell that does not come before the best hit is behind it
cell_behind : (flight : Flight) (known : Option Candidate) (ticks node : ℕ) → is_sooner_than known ticks ≡ false → improves_on (record { ticks = ticks; code = node }) known ≡ false
    → ((n m : ℕ) → InBox flight.ray flight.grid 0 node n m → IsUpTo ticks flight.scale n m) → IsPassed flight known 0 node
cell_behind flight None ticks node not_sooner behind least code n m under at = cc
cell_behind flight (Some best) ticks node not_sooner behind least code n m under at =
    let parts : (nat_lt ticks best.ticks ≡ false) × (nat_lt node best.code ≡ false) = or_parts (nat_lt ticks best.ticks) (nat_lt node best.code) behind in
    let up : best.ticks ≤ ticks = from_less ticks best.ticks parts.0 in
    let code_up : best.code ≤ node = from_less node best.code parts.1 in
    let same : code ≡ node = (let whole : code / 8 ^ 0 ≡ code = omega arith in sym whole ∙ under) in
    record {
      sooner = omega (arith, mul-le-mul_right m up, least n m at);
      tie = λ late. rw same code_up;
    }

-- ---- the three steps

pub step_skips : (flight : Flight) (spot : Spot) (word k place : ℕ) (known : Option Candidate) → place ≡ visited flight.turn k
    → IsPassed flight known (spot.height - 1) (8 * spot.code + place) → IsStep flight spot word k known Skip
step_skips flight spot word k place known is passed = inr (subst (λ p. IsPassed flight known (spot.height - 1) (8 * spot.code + p)) is passed)

pub step_cell : (flight : Flight) (spot : Spot) (word k place ticks : ℕ) (known : Option Candidate) (step : Step) → IsFlight flight → place ≡ visited flight.turn k → has_child word place ≡ true → spot.height ≡ 1
    → IsEntry (InBox flight.ray flight.grid (spot.height - 1) (8 * spot.code + place)) flight.scale (Some ticks) → is_sooner_than known ticks ≡ false
    → step ≡ cond (improves_on (record { ticks = ticks; code = 8 * spot.code + place }) known) (Take (record { ticks = ticks; code = 8 * spot.code + place })) Skip
    → IsStep flight spot word k known step
step_cell flight spot word k place ticks known step flies is has leaf entry not_sooner step_is =
    let node : ℕ = 8 * spot.code + place in
    let low : spot.height - 1 ≡ 0 = omega (arith, leaf) in
    let entered : IsEntry (InBox flight.ray flight.grid 0 node) flight.scale (Some ticks) = subst (λ h. IsEntry (InBox flight.ray flight.grid h node) flight.scale (Some ticks)) low entry in
    elim (cases_Bool (improves_on (record { ticks = ticks; code = node }) known)) [
      | inl improves ↦
          let take : step ≡ Take (record { ticks = ticks; code = node }) = step_is ∙ ap (λ b. cond b (Take (record { ticks = ticks; code = node })) Skip) improves in
          let taken : IsTaken flight known node (record { ticks = ticks; code = node }) = record {
            code = refl;
            at = entered.0;
            first = entered.1;
            before = cell_first flight known (record { ticks = ticks; code = node }) flies.some not_sooner improves;
          } in
          subst (λ s. IsStep flight spot word k known s) (sym take)
          (subst (λ p. has_child word p ≡ true) is has, leaf, subst (λ p. IsTaken flight known (8 * spot.code + p) (record { ticks = ticks; code = node })) is taken)
      | inr behind ↦
          let skip : step ≡ Skip = step_is ∙ ap (λ b. cond b (Take (record { ticks = ticks; code = node })) Skip) behind in
          subst (λ s. IsStep flight spot word k known s) (sym skip)
          (step_skips flight spot word k place known is
          (subst (λ h. IsPassed flight known h node) (sym low) (cell_behind flight known ticks node not_sooner behind entered.1)))
    ]

in_time : (known : Option Candidate) (ticks : ℕ) → is_sooner_than known ticks ≡ false → IfSome known (λ best. ticks ≤ best.ticks)
in_time None ticks not_sooner = tt
in_time (Some best) ticks not_sooner = from_less best.ticks ticks not_sooner

pub step_enters : (flight : Flight) (spot : Spot) (word k place ticks number : ℕ) (stay : Stay) (known : Option Candidate) → IsSpot flight spot → place ≡ visited flight.turn k → place < 8 → has_child word place ≡ true
    → (spot.height ≡ 1 → ⊥) → IsStay flight (spot.height - 1) (8 * spot.code + visited flight.turn k) stay
    → IsEntry (InBox flight.ray flight.grid (spot.height - 1) (8 * spot.code + place)) flight.scale (Some ticks) → is_sooner_than known ticks ≡ false
    → number ≡ child_number word place → number < spot.number
    → IsStep flight spot word k known (Enter (record { number = number; height = spot.height - 1; code = 8 * spot.code + place; stay = stay }))
step_enters flight spot word k place ticks number stay known is_spot is octant has above stays entry not_sooner number_is before = (
  subst (λ p. has_child word p ≡ true) is has,
  record {
    above = omega (arith, is_spot.above, above);
    within = omega (arith, is_spot.within);
    node = child_code flight spot place is_spot octant;
    stay = subst (λ p. IsStay flight (spot.height - 1) (8 * spot.code + p) stay) (sym is) stays;
  },
  omega (arith, is_spot.above),
  ap (λ p. 8 * spot.code + p) is,
  number_is ∙ ap (child_number word) is,
  before,
  record { ticks = ticks; at = entry.0; in_time = in_time known ticks not_sooner },
)
