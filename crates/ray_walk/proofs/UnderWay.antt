-- The children of a node one after the other.
use Rattle.std.proofs.Common.{◌≡◌, ℕ, ◌+◌, ◌*◌, ◌/◌, ◌^◌, ◌<◌, ◌≤◌, ◌⊎◌, true, false, Bool, cond, List, Option, None, Some, IfSome, arith, sym, subst, inl, inr, ⊎_elim, lit≤}
use Rattle.svo_base.specs.GridShape.{GridShape}
use Rattle.octree_specs.specs.Cells.{Cell}
use Rattle.octree_specs.specs.Formats.{face_leaves}
use Rattle.octree_specs.specs.Octree.{is_nonempty}
use Rattle.ray_fraction.specs.Crossings.{count_of}
use Rattle.ray_fraction.specs.Hits.{Precedes}
use Rattle.ray_fraction.specs.RayShape.{RayShape}
use Rattle.ray_walk.specs.Octants.{turn_of, visited}
use Rattle.ray_walk.specs.Stays.{InBox}
use Rattle.ray_walk.specs.Steps.{IsBeaten}
use Rattle.ray_walk.specs.Walks.{MetUnder, MetBefore, IsBest, IsKnown, WithKnown, Limit, IsReady, AreWithin, IsEntered}
use Rattle.ray_walk.specs.declared.hits.Candidate.{Candidate}
use Rattle.ray_walk.proofs.Siblings.{turn_below}
use Rattle.ray_walk.proofs.MetCells.{met_nonempty, met_in, met_whole, met_part, met_at, met_earlier, met_split}
use Rattle.ray_walk.proofs.Costs.{cost_before, one_cost_more, cost_some, count_by_order, cost_grows}
use Rattle.ray_walk.proofs.FirstHits.{best_at_first, best_stays, best_taken, best_of_both}
use Rattle.ray_walk.proofs.Readiness.{node_passes, ready_child}

-- after so many children of a node: the best hit so far, and the reads, of which one was the node's own
pub record IsUnderWay (ray : RayShape) (grid : GridShape) (cells : List Cell) (scale height node k : ℕ) (known best : Option Candidate) (before after : ℕ) : Type 0 where
  pub best_is : IsBest (WithKnown scale known (MetBefore ray grid cells height node k)) scale best
  pub reads : (test : ℕ → ℕ → Bool) (limit : Option Limit) → IsReady ray grid cells scale test limit known (height + 1) node → after ≤ before + 1 + cost_before test cells height node (turn_of ray) k

module _ (ray : RayShape) (grid : GridShape) (cells : List Cell) (scale : ℕ) where
  -- hits before and after one more child
  grows : (height node k : ℕ) (known : Option Candidate) (code n m : ℕ) → WithKnown scale known (MetBefore ray grid cells height node k) code n m → WithKnown scale known (MetBefore ray grid cells height node (k + 1)) code n m
  grows height node k known code n m met = ⊎_elim (λ (is : IsKnown scale known code n m). inl is) (λ (there : MetBefore ray grid cells height node k code n m). inr (met_earlier ray grid cells height node k code n m there)) met

  splits : (height node k : ℕ) (known : Option Candidate) (code n m : ℕ) → WithKnown scale known (MetBefore ray grid cells height node (k + 1)) code n m
      → WithKnown scale known (MetBefore ray grid cells height node k) code n m ⊎ MetUnder ray grid cells height (8 * node + visited (turn_of ray) k) code n m
  splits height node k known code n m met = ⊎_elim
      (λ (is : IsKnown scale known code n m). inl (inl is))
      (λ (there : MetBefore ray grid cells height node (k + 1) code n m). ⊎_elim
      (λ (earlier : MetBefore ray grid cells height node k code n m). inl (inr earlier))
      (λ (last : MetUnder ray grid cells height (8 * node + visited (turn_of ray) k) code n m). inr last)
      (met_split ray grid cells height node k code n m there))
      met

  sized : (height node k : ℕ) (known : Option Candidate) → 1 ≤ scale → (code n m : ℕ) → WithKnown scale known (MetBefore ray grid cells height node k) code n m → 1 ≤ m
  sized height node k None some code n m met = ⊎_elim (λ (never : IsKnown scale None code n m). absurd never) (λ (there : MetBefore ray grid cells height node k code n m). there.met.at.some) met
  sized height node k (Some best) some code n m met = ⊎_elim (λ (is : IsKnown scale (Some best) code n m). subst (λ s. 1 ≤ s) (sym is.2) some) (λ (there : MetBefore ray grid cells height node k code n m). there.met.at.some) met

  none_before : (height node : ℕ) (code n m : ℕ) → MetBefore ray grid cells height node 0 code n m → ⊥
  none_before height node code n m met = omega (arith, met.before)

  pub begins : (height node : ℕ) (known : Option Candidate) (before after : ℕ) → after ≤ before + 1 → IsUnderWay ray grid cells scale height node 0 known known before after
  begins height node known before after one = record {
    best_is = best_at_first scale (MetBefore ray grid cells height node 0) known (none_before height node);
    reads = λ test limit ready. omega (arith, one);
  }

  -- nothing under the child comes before the best hit
  pub passes_on : (height node k : ℕ) (known best : Option Candidate) (before after : ℕ)
      → ((code n m : ℕ) → MetUnder ray grid cells height (8 * node + visited (turn_of ray) k) code n m → IsBeaten scale best n m code)
      → IsUnderWay ray grid cells scale height node k known best before after → IsUnderWay ray grid cells scale height node (k + 1) known best before after
  passes_on height node k known best before after beaten way = record {
    best_is = best_stays scale (WithKnown scale known (MetBefore ray grid cells height node k)) (WithKnown scale known (MetBefore ray grid cells height node (k + 1))) best (grows height node k known)
        (λ code n m met. ⊎_elim (λ (old : WithKnown scale known (MetBefore ray grid cells height node k) code n m). inl old)
        (λ (there : MetUnder ray grid cells height (8 * node + visited (turn_of ray) k) code n m). inr (beaten code n m there)) (splits height node k known code n m met)) way.best_is;
    reads = λ test limit ready. omega (arith, way.reads test limit ready, one_cost_more test cells height node (turn_of ray) k);
  }

  -- an empty child has nothing
  pub none_under : (height node : ℕ) (best : Option Candidate) → is_nonempty (face_leaves cells) height node ≡ false
      → (code n m : ℕ) → MetUnder ray grid cells height node code n m → IsBeaten scale best n m code
  none_under height node best empty code n m met = let some : is_nonempty (face_leaves cells) height node ≡ true = met_nonempty ray grid cells height node code n m met in cc

  -- what a child that is passed has is behind
  pub passed_under : (height node : ℕ) (best : Option Candidate) → height ≤ grid.depth
      → ((code n m : ℕ) → code / 8 ^ height ≡ node → InBox ray grid height node n m → IsBeaten scale best n m code)
      → (code n m : ℕ) → MetUnder ray grid cells height node code n m → IsBeaten scale best n m code
  passed_under height node best within passed code n m met = passed code n m met.under (met_in ray grid cells height node code n m within met)

  -- a cell that is hit before the best
  pub takes : (node k : ℕ) (known best : Option Candidate) (cell : Candidate) (before after : ℕ) → 1 ≤ scale
      → MetUnder ray grid cells 0 (8 * node + visited (turn_of ray) k) cell.code cell.ticks scale
      → ((code n m : ℕ) → MetUnder ray grid cells 0 (8 * node + visited (turn_of ray) k) code n m → Precedes cell.ticks scale cell.code n m code)
      → IfSome best (λ b. Precedes cell.ticks scale cell.code b.ticks scale b.code)
      → IsUnderWay ray grid cells scale 0 node k known best before after → IsUnderWay ray grid cells scale 0 node (k + 1) known (Some cell) before after
  takes node k known best cell before after some met first sooner way = record {
    best_is = best_taken scale (WithKnown scale known (MetBefore ray grid cells 0 node k)) (WithKnown scale known (MetBefore ray grid cells 0 node (k + 1))) best cell some (sized 0 node k known some)
        (inr (met_at ray grid cells 0 node k cell.code cell.ticks scale met))
        (λ code n m there. ⊎_elim (λ (old : WithKnown scale known (MetBefore ray grid cells 0 node k) code n m). inl old)
        (λ (new : MetUnder ray grid cells 0 (8 * node + visited (turn_of ray) k) code n m). inr (first code n m new)) (splits 0 node k known code n m there)) sooner way.best_is;
    reads = λ test limit ready. omega (arith, way.reads test limit ready, one_cost_more test cells 0 node (turn_of ray) k);
  }

  -- the reads once a child was walked, whether it was walked to its end or not
  pub reads_on : (height node k : ℕ) (known best : Option Candidate) (before between after : ℕ) → 1 ≤ scale → height < grid.depth → k < 8
      → is_nonempty (face_leaves cells) height (8 * node + visited (turn_of ray) k) ≡ true
      → AreWithin ray grid cells scale best height (8 * node + visited (turn_of ray) k) between after
      → IsUnderWay ray grid cells scale height node k known best before between
      → (test : ℕ → ℕ → Bool) (limit : Option Limit) → IsReady ray grid cells scale test limit known (height + 1) node → after ≤ before + 1 + cost_before test cells height node (turn_of ray) (k + 1)
  reads_on height node k known best before between after some within octant full few way test limit ready =
      let child : IsReady ray grid cells scale test limit best height (8 * node + visited (turn_of ray) k) = ready_child ray grid cells scale height node k test limit known best some within octant ready way.best_is in
      omega (arith, way.reads test limit ready, few test limit child, one_cost_more test cells height node (turn_of ray) k, cost_some test cells height node (visited (turn_of ray) k) full)

  pub walks_on : (height node k : ℕ) (known best found : Option Candidate) (before between after : ℕ) → 1 ≤ scale → height < grid.depth → k < 8
      → is_nonempty (face_leaves cells) height (8 * node + visited (turn_of ray) k) ≡ true
      → IsBest (WithKnown scale best (MetUnder ray grid cells height (8 * node + visited (turn_of ray) k))) scale found
      → AreWithin ray grid cells scale best height (8 * node + visited (turn_of ray) k) between after
      → IsUnderWay ray grid cells scale height node k known best before between → IsUnderWay ray grid cells scale height node (k + 1) known found before after
  walks_on height node k known best found before between after some within octant full first few way = record {
    best_is = best_of_both scale (WithKnown scale known (MetBefore ray grid cells height node k)) (MetUnder ray grid cells height (8 * node + visited (turn_of ray) k)) (WithKnown scale known (MetBefore ray grid cells height node (k + 1)))
        best found some (sized height node k known some) (grows height node k known) (λ code n m met. inr (met_at ray grid cells height node k code n m met)) (splits height node k known) way.best_is first;
    reads = reads_on height node k known best before between after some within octant full few way;
  }

  -- the reads of a walk that stopped among the children
  pub stops_within : (height node k : ℕ) (known : Option Candidate) (before after : ℕ) → 1 ≤ scale → height < grid.depth → k ≤ 8 → IsEntered ray grid scale known (height + 1) node
      → ((test : ℕ → ℕ → Bool) (limit : Option Limit) → IsReady ray grid cells scale test limit known (height + 1) node → after ≤ before + 1 + cost_before test cells height node (turn_of ray) k)
      → AreWithin ray grid cells scale known (height + 1) node before after
  stops_within height node k known before after some within octant entered reads test limit ready =
      let passes : test (height + 1) node ≡ true = node_passes ray grid cells scale test limit known (height + 1) node some (omega (arith, within)) ready entered in
      let count : count_of test cells (height + 1) node ≡ cond (test (height + 1) node) 1 0 + cost_before test cells height node (turn_of ray) 8 = count_by_order test cells height node (turn_of ray) (turn_below ray) in
      let one : 1 ≤ cond (test (height + 1) node) 1 0 = rw passes (lit≤ tt) in
      omega (arith, reads test limit ready, count, one, cost_grows test cells height node (turn_of ray) k octant)

  pub ends_with : (height node : ℕ) (known best : Option Candidate) (before after : ℕ) → IsUnderWay ray grid cells scale height node 8 known best before after
      → IsBest (WithKnown scale known (MetUnder ray grid cells (height + 1) node)) scale best
  ends_with height node known best before after way = best_stays scale (WithKnown scale known (MetBefore ray grid cells height node 8)) (WithKnown scale known (MetUnder ray grid cells (height + 1) node)) best
      (λ code n m met. ⊎_elim (λ (is : IsKnown scale known code n m). inl is) (λ (there : MetBefore ray grid cells height node 8 code n m). inr (met_part ray grid cells height node 8 code n m (omega arith) there)) met)
      (λ code n m met. ⊎_elim (λ (is : IsKnown scale known code n m). inl (inl is)) (λ (there : MetUnder ray grid cells (height + 1) node code n m). inl (inr (met_whole ray grid cells height node code n m there))) met)
      way.best_is
