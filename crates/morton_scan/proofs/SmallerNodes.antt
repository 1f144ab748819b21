-- Where one child of a node alone may be met, it may take the node's place.
use Rattle.std.proofs.Common.{◌≡◌, ◌≢◌, ℕ, zero, suc, ◌+◌, ◌-◌, ◌*◌, ◌/◌, ◌%◌, ◌^◌, ◌<◌, ◌≤◌, Bool, List, inl, inr, arith, refl, sym, ap, subst, ◌∙◌}
use Rattle.std.proofs.lemmas.Bool.{cases_eq}
use Rattle.std.proofs.lemmas.List.Sums.{sum_by-cons}
use Rattle.std.specs.List.{sum_by, range_with_len}
use Rattle.svo_base.specs.GridShape.{GridShape}
use Rattle.svo_base.specs.declared.shapes.Triangle.{Triangle}
use Rattle.octree_specs.specs.Meeting.{Meets}
use Rattle.octree_specs.specs.NodeCube.{node_cube}
use Rattle.octree_specs.specs.Parts.{passing}
use Rattle.grid_parts.proofs.PartCells.{meets_above}
use Rattle.morton_scan.specs.declared.nodes.Node.{Node}
use Rattle.morton_scan.specs.Narrowing.{IsChildUnmet, IsNarrowed}
use Rattle.morton_scan.specs.Nodes.{IsNode}
use Rattle.morton_scan.specs.Putting.{ArePut, MetUnder}
use Rattle.morton_scan.proofs.Levels.{child_slots}
use Rattle.morton_scan.proofs.NodesBelow.{put_unmet}
use Rattle.morton_scan.proofs.Putting.{one_higher, put_child, same_put}

-- one number of a sum
pub one_of_sum : (f : ℕ → ℕ) (from count at : ℕ) → at < count → f (from + at) ≤ sum_by f (range_with_len from count)
one_of_sum f from zero at below = absurd (omega (arith, below))
one_of_sum f from (suc count) zero below =
    let e : from + 0 ≡ from = omega arith in
    let whole : sum_by f (range_with_len from (suc count)) ≡ f from + sum_by f (range_with_len (from + 1) count) = sum_by-cons f from (range_with_len (from + 1) count) in
    rw e (omega (arith, whole))
one_of_sum f from (suc count) (suc at) below =
    let whole : sum_by f (range_with_len from (suc count)) ≡ f from + sum_by f (range_with_len (from + 1) count) = sum_by-cons f from (range_with_len (from + 1) count) in
    let e : from + suc at ≡ from + 1 + at = omega arith in
    let rest = one_of_sum f (from + 1) count at (omega (arith, below)) in
    rw e (omega (arith, rest, whole))

-- the nodes that pass under a child pass under its parent
child_passing : (test : ℕ → ℕ → Bool) (lower height node octant : ℕ) → height ≡ suc lower → octant < 8 → passing test lower (8 * node + octant) ≤ passing test height node
child_passing test lower height node octant up below =
    let one = one_of_sum (passing test lower) (8 * node) 8 octant below in
    rw up (omega (arith, one))

-- no node is left out yet
pub not_narrowed : (grid : GridShape) (t : Triangle) (node : Node) → IsNarrowed grid t node node
not_narrowed grid t node = record {
  lower = omega arith;
  there = λ code chosen. chosen;
  back = λ code chosen. chosen;
  slots = λ first count has. has;
  fewer = λ test. omega arith;
}

-- a node narrowed twice
pub narrowed_on : (grid : GridShape) (t : Triangle) (whole middle narrow : Node) → IsNarrowed grid t whole middle → IsNarrowed grid t middle narrow → IsNarrowed grid t whole narrow
narrowed_on grid t whole middle narrow before then = record {
  lower = omega (arith, before.lower, then.lower);
  there = λ code chosen. then.there code (before.there code chosen);
  back = λ code chosen. before.back code (then.back code chosen);
  slots = λ first count has. then.slots first count (before.slots first count has);
  fewer = λ test. omega (arith, before.fewer test, then.fewer test);
}

-- a code under a node lies under one of its children
under_child : (grid : GridShape) (t : Triangle) (node : Node) (octant code : ℕ) → IsNode grid node → 0 < node.height → octant < 8
    → ((other : ℕ) → other < 8 → other ≢ octant → IsChildUnmet grid t node other) → MetUnder grid t node.height node.code (node.code + 1) code
    → code / 8 ^ (node.height - 1) ≡ 8 * node.code + octant
under_child grid t node octant code is above below only chosen =
    let lower : ℕ = node.height - 1 in
    let up : node.height ≡ suc lower = omega (arith, above) in
    let higher : code / 8 ^ lower / 8 ≡ code / 8 ^ node.height = one_higher code lower ∙ ap (λ h. code / 8 ^ h) (sym up) in
    let here : code / 8 ^ lower ≡ 8 * node.code + code / 8 ^ lower % 8 = omega (arith, higher, chosen.0, chosen.1.0) in
    let whole : grid.depth - lower + lower ≡ grid.depth = omega (arith, is.within) in
    let cell : Meets t (node_cube grid (grid.depth - lower + lower) code) = subst (λ l. Meets t (node_cube grid l code)) (sym whole) chosen.1.1 in
    let met = meets_above t grid lower (grid.depth - lower) code (omega (arith, is.within)) cell in
    elim (cases_eq (code / 8 ^ lower % 8) octant) [
      | inl same ↦ here ∙ ap (λ n. 8 * node.code + n) same
      | inr apart ↦ absurd (only (code / 8 ^ lower % 8) (omega arith) apart (subst (λ n. Meets t (node_cube grid (grid.depth - lower) n)) here met))
    ]

-- a child that alone may be met
pub narrowed_child : (grid : GridShape) (t : Triangle) (node child : Node) (octant : ℕ) → IsNode grid node → 0 < node.height → octant < 8
    → child.height + 1 ≡ node.height → child.code ≡ 8 * node.code + octant
    → ((other : ℕ) → other < 8 → other ≢ octant → IsChildUnmet grid t node other) → IsNarrowed grid t node child
narrowed_child grid t node child octant is above below is_height is_code only =
    let same : node.height - 1 ≡ child.height = omega (arith, is_height) in
    let up : node.height ≡ suc child.height = omega (arith, is_height) in
    let higher : (code : ℕ) → code / 8 ^ child.height / 8 ≡ code / 8 ^ node.height = λ code. one_higher code child.height ∙ ap (λ h. code / 8 ^ h) (sym up) in
    record {
      lower = omega (arith, is_height);
      there = λ code chosen.
          let at : code / 8 ^ child.height ≡ 8 * node.code + octant = subst (λ h. code / 8 ^ h ≡ 8 * node.code + octant) same (under_child grid t node octant code is above below only chosen) in
          (omega (arith, at, is_code), (omega (arith, at, is_code), chosen.1.1));
      back = λ code chosen. (omega (arith, higher code, chosen.0, chosen.1.0, is_code, below), (omega (arith, higher code, chosen.0, chosen.1.0, is_code, below), chosen.1.1));
      slots = λ first count has. rw is_code (child_slots first count node.height child.height node.code octant up below has);
      fewer = λ test. rw is_code (child_passing test child.height node.height node.code octant up below);
    }

-- what is put under the smaller node is put under the greater one
pub put_narrowed : (grid : GridShape) (t : Triangle) (whole narrow : Node) (first face : ℕ) (old new : List ℕ) → IsNarrowed grid t whole narrow
    → ArePut (MetUnder grid t narrow.height narrow.code (narrow.code + 1)) first face old new → ArePut (MetUnder grid t whole.height whole.code (whole.code + 1)) first face old new
put_narrowed grid t whole narrow first face old new is are_put =
    same_put (MetUnder grid t narrow.height narrow.code (narrow.code + 1)) (MetUnder grid t whole.height whole.code (whole.code + 1)) first face old new is.back is.there are_put

-- a child that is not met is passed with nothing put
pub put_unmet_octant : (grid : GridShape) (t : Triangle) (node : Node) (octant first face : ℕ) (old new : List ℕ) → IsNode grid node → IsChildUnmet grid t node octant
    → ArePut (MetUnder grid t (node.height - 1) (8 * node.code) (8 * node.code + octant)) first face old new
    → ArePut (MetUnder grid t (node.height - 1) (8 * node.code) (8 * node.code + (octant + 1))) first face old new
put_unmet_octant grid t node octant first face old new is unmet before =
    put_child grid t (node.height - 1) (8 * node.code) octant (node.height - 1) (8 * node.code + octant) first face old new new refl refl before
    (put_unmet grid t (node.height - 1) (8 * node.code + octant) first face new (omega (arith, is.within)) unmet)
