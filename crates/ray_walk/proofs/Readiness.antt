-- What a walk's reads rest on goes down from a node to its children.
use Rattle.std.proofs.Common.{◌≡◌, ℕ, ◌+◌, ◌*◌, ◌<◌, ◌≤◌, ◌⊎◌, true, Bool, List, Option, None, Some, IfSome, arith, refl, subst, inl, inr, ⊎_elim}
use Rattle.std.proofs.Math.Nat.{mul-le-mul_right}
use Rattle.std.proofs.lemmas.Bool.{cases_lt}
use Rattle.svo_base.specs.GridShape.{GridShape}
use Rattle.octree_specs.specs.Cells.{Cell}
use Rattle.ray_fraction.specs.Crossings.{IsOffPlanes}
use Rattle.ray_fraction.specs.Fractions.{IsUpTo}
use Rattle.ray_fraction.specs.Hits.{Precedes}
use Rattle.ray_fraction.specs.RayShape.{RayShape}
use Rattle.ray_fraction.proofs.Order.{up_to_trans}
use Rattle.ray_walk.specs.Octants.{turn_of, visited}
use Rattle.ray_walk.specs.Stays.{InBox}
use Rattle.ray_walk.specs.Walks.{MetUnder, MetBefore, IsBest, IsKnown, WithKnown, Limit, IsInTime, IsAhead, IsReady, IsEntered}
use Rattle.ray_walk.specs.declared.hits.Candidate.{Candidate}
use Rattle.ray_walk.proofs.Siblings.{siblings_in_order, visited_below, turn_below, child_in}
use Rattle.ray_walk.proofs.MetCells.{met_in, met_whole}

not_none : (best : Candidate) → Some best ≡ None → ⊥
not_none best is = cc

module _ (ray : RayShape) (grid : GridShape) (cells : List Cell) (scale : ℕ) where
  -- a node that is entered passes the test
  pub node_passes : (test : ℕ → ℕ → Bool) (limit : Option Limit) (known : Option Candidate) (height node : ℕ) → 1 ≤ scale → height ≤ grid.depth
      → IsReady ray grid cells scale test limit known height node → IsEntered ray grid scale known height node → test height node ≡ true
  node_passes test None known height node some within ready entered = ready.pass height node entered.ticks scale entered.at tt
  node_passes test (Some limit) (Some best) height node some within ready entered =
      let sooner : IsUpTo entered.ticks scale best.ticks scale = mul-le-mul_right scale entered.in_time in
      ready.pass height node entered.ticks scale entered.at (up_to_trans entered.ticks scale best.ticks scale limit.n limit.m some sooner ready.known_in)
  node_passes test (Some limit) None height node some within ready entered = ⊎_elim
      (λ (met : MetUnder ray grid cells height node limit.code limit.n limit.m). ready.pass height node limit.n limit.m (met_in ray grid cells height node limit.code limit.n limit.m within met) (omega arith))
      (λ (early : (n m : ℕ) → InBox ray grid height node n m → IsUpTo n m limit.n limit.m). ready.pass height node entered.ticks scale entered.at (early entered.ticks scale entered.at))
      (ready.ahead refl)

  -- where a hit lies: before, in or after the k-th child
  record IsAfter (height node k : ℕ) (limit : Limit) : Type 0 where
    place : ℕ
    after : k < place
    below : place < 8
    met : MetUnder ray grid cells height (8 * node + visited (turn_of ray) place) limit.code limit.n limit.m

  where_is : (height node k : ℕ) (limit : Limit) → MetUnder ray grid cells (height + 1) node limit.code limit.n limit.m
      → MetBefore ray grid cells height node k limit.code limit.n limit.m ⊎ (MetUnder ray grid cells height (8 * node + visited (turn_of ray) k) limit.code limit.n limit.m ⊎ IsAfter height node k limit)
  where_is height node k limit met =
      let whole : MetBefore ray grid cells height node 8 limit.code limit.n limit.m = met_whole ray grid cells height node limit.code limit.n limit.m met in
      elim (cases_lt whole.place k) [
        | inl earlier ↦ inl (record { place = whole.place; before = earlier; met = whole.met })
        | inr from ↦ elim (cases_lt k whole.place) [
          | inl later ↦ inr (inr (record { place = whole.place; after = later; below = whole.before; met = whole.met }))
          | inr to ↦
              let same : whole.place ≡ k = omega (arith, from, to) in
              inr (inl (subst (λ place. MetUnder ray grid cells height (8 * node + visited (turn_of ray) place) limit.code limit.n limit.m) same whole.met))
        ]
      ]

  -- a hit in an earlier child is not later than the limit
  earlier_in_time : (height node k : ℕ) (limit : Limit) (best : Candidate) → IsOffPlanes ray grid → height < grid.depth → k < 8
      → IsAhead ray grid cells (height + 1) node limit → MetBefore ray grid cells height node k best.code best.ticks scale
      → ((code n m : ℕ) → MetBefore ray grid cells height node k code n m → Precedes best.ticks scale best.code n m code) → IsUpTo best.ticks scale limit.n limit.m
  earlier_in_time height node k limit best off within octant ahead met first = ⊎_elim
      (λ (under : MetUnder ray grid cells (height + 1) node limit.code limit.n limit.m). ⊎_elim
      (λ (before : MetBefore ray grid cells height node k limit.code limit.n limit.m). (first limit.code limit.n limit.m before).sooner)
      (λ (from : MetUnder ray grid cells height (8 * node + visited (turn_of ray) k) limit.code limit.n limit.m ⊎ IsAfter height node k limit). ⊎_elim
      (λ (here : MetUnder ray grid cells height (8 * node + visited (turn_of ray) k) limit.code limit.n limit.m). in_order met.place k met.before octant met.met here)
      (λ (after : IsAfter height node k limit). in_order met.place after.place (omega (arith, met.before, after.after)) after.below met.met after.met)
      from)
      (where_is height node k limit under))
      (λ (early : (n m : ℕ) → InBox ray grid (height + 1) node n m → IsUpTo n m limit.n limit.m). early best.ticks scale
      (child_in ray grid height node (visited (turn_of ray) met.place) best.ticks scale within (visited_below (turn_of ray) met.place (turn_below ray) (omega (arith, met.before, octant)))
      (met_in ray grid cells height (8 * node + visited (turn_of ray) met.place) best.code best.ticks scale (omega (arith, within)) met.met)))
      ahead
    where
      in_order : (i j : ℕ) → i < j → j < 8 → MetUnder ray grid cells height (8 * node + visited (turn_of ray) i) best.code best.ticks scale
          → MetUnder ray grid cells height (8 * node + visited (turn_of ray) j) limit.code limit.n limit.m → IsUpTo best.ticks scale limit.n limit.m
      in_order i j order below first_met second_met =
          siblings_in_order ray grid off height node i j best.ticks scale limit.n limit.m within order below
          (met_in ray grid cells height (8 * node + visited (turn_of ray) i) best.code best.ticks scale (omega (arith, within)) first_met)
          (met_in ray grid cells height (8 * node + visited (turn_of ray) j) limit.code limit.n limit.m (omega (arith, within)) second_met)

  -- what lies ahead of a child, where nothing was hit before
  child_ahead : (height node k : ℕ) (limit : Limit) → IsOffPlanes ray grid → height < grid.depth → k < 8 → IsAhead ray grid cells (height + 1) node limit
      → ((code n m : ℕ) → MetBefore ray grid cells height node k code n m → ⊥) → IsAhead ray grid cells height (8 * node + visited (turn_of ray) k) limit
  child_ahead height node k limit off within octant ahead none = ⊎_elim
      (λ (under : MetUnder ray grid cells (height + 1) node limit.code limit.n limit.m). ⊎_elim
      (λ (before : MetBefore ray grid cells height node k limit.code limit.n limit.m). absurd (none limit.code limit.n limit.m before))
      (λ (from : MetUnder ray grid cells height (8 * node + visited (turn_of ray) k) limit.code limit.n limit.m ⊎ IsAfter height node k limit). ⊎_elim
      (λ (here : MetUnder ray grid cells height (8 * node + visited (turn_of ray) k) limit.code limit.n limit.m). inl here)
      (λ (after : IsAfter height node k limit). inr (λ n m at. siblings_in_order ray grid off height node k after.place n m limit.n limit.m within after.after after.below at
      (met_in ray grid cells height (8 * node + visited (turn_of ray) after.place) limit.code limit.n limit.m (omega (arith, within)) after.met)))
      from)
      (where_is height node k limit under))
      (λ (early : (n m : ℕ) → InBox ray grid (height + 1) node n m → IsUpTo n m limit.n limit.m).
      inr (λ n m at. early n m (child_in ray grid height node (visited (turn_of ray) k) n m within (visited_below (turn_of ray) k (turn_below ray) octant) at)))
      ahead

  known_in_time : (height node k : ℕ) (test : ℕ → ℕ → Bool) (limit : Option Limit) (known before : Option Candidate) → height < grid.depth → k < 8
      → IsReady ray grid cells scale test limit known (height + 1) node → IsBest (WithKnown scale known (MetBefore ray grid cells height node k)) scale before → 1 ≤ scale → IfSome before (λ best. IsInTime limit best.ticks scale)
  known_in_time height node k test limit known None within octant ready first some = tt
  known_in_time height node k test None known (Some best) within octant ready first some = tt
  known_in_time height node k test (Some limit) (Some old) (Some best) within octant ready first some =
      up_to_trans best.ticks scale old.ticks scale limit.n limit.m some (first.first old.code old.ticks scale (inl (refl, refl, refl))).sooner ready.known_in
  known_in_time height node k test (Some limit) None (Some best) within octant ready first some = ⊎_elim
      (λ (never : IsKnown scale None best.code best.ticks scale). absurd never)
      (λ (met : MetBefore ray grid cells height node k best.code best.ticks scale).
      earlier_in_time height node k limit best ready.off within octant (ready.ahead refl) met (λ code n m there. first.first code n m (inr there)))
      first.met

  still_ahead : (height node k : ℕ) (test : ℕ → ℕ → Bool) (limit : Option Limit) (known before : Option Candidate) → height < grid.depth → k < 8
      → IsReady ray grid cells scale test limit known (height + 1) node → IsBest (WithKnown scale known (MetBefore ray grid cells height node k)) scale before
      → before ≡ None → IfSome limit (λ hit. IsAhead ray grid cells height (8 * node + visited (turn_of ray) k) hit)
  still_ahead height node k test None known before within octant ready first none = tt
  still_ahead height node k test (Some limit) None None within octant ready first none =
      child_ahead height node k limit ready.off within octant (ready.ahead refl) (λ code n m met. first code n m (inr met))
  still_ahead height node k test (Some limit) (Some old) None within octant ready first none = absurd (first old.code old.ticks scale (inl (refl, refl, refl)))
  still_ahead height node k test (Some limit) known (Some best) within octant ready first none = absurd (not_none best none)

  pub ready_child : (height node k : ℕ) (test : ℕ → ℕ → Bool) (limit : Option Limit) (known before : Option Candidate) → 1 ≤ scale → height < grid.depth → k < 8
      → IsReady ray grid cells scale test limit known (height + 1) node → IsBest (WithKnown scale known (MetBefore ray grid cells height node k)) scale before
      → IsReady ray grid cells scale test limit before height (8 * node + visited (turn_of ray) k)
  ready_child height node k test limit known before some within octant ready first = record {
    pass = ready.pass;
    off = ready.off;
    known_in = known_in_time height node k test limit known before within octant ready first some;
    ahead = still_ahead height node k test limit known before within octant ready first;
  }
