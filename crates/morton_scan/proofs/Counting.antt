-- How many tests a walk makes.
use Rattle.std.proofs.Common.{◌≡◌, ℕ, zero, suc, ◌+◌, ◌-◌, ◌*◌, ◌≤◌, Bool, true, [], ◌∷◌, ◌++◌, zero-add, arith, refl, ap, subst, ◌∙◌}
use Rattle.std.proofs.lemmas.List.Sums.{sum_by-append}
use Rattle.std.specs.List.{sum_by, range_with_len}
use Rattle.svo_base.specs.GridShape.{GridShape}
use Rattle.svo_base.specs.declared.shapes.Triangle.{Triangle}
use Rattle.octree_specs.specs.Meeting.{Meets}
use Rattle.octree_specs.specs.NodeCube.{node_cube}
use Rattle.octree_specs.specs.Parts.{passing, PassWhereMet}

-- the nodes that pass a test under so many of a node's children, from the first one on; `lower` is the children's height
unfoldable pub passing_children : (ℕ → ℕ → Bool) → ℕ → ℕ → ℕ → ℕ
passing_children test lower node count = sum_by (passing test lower) (range_with_len (8 * node) count)

-- one number more at the end
range_more : (from count : ℕ) → range_with_len from (suc count) ≡ range_with_len from count ++ (from + count) ∷ []
range_more from zero = let e : from + 0 ≡ from = omega arith in rw e refl
range_more from (suc count) =
    let e : from + 1 + count ≡ from + suc count = omega arith in
    rw (← e) (ap (λ rest. from ∷ rest) (range_more (from + 1) count))

sum_more : (f : ℕ → ℕ) (from count : ℕ) → sum_by f (range_with_len from (suc count)) ≡ sum_by f (range_with_len from count) + f (from + count)
sum_more f from count =
    ap (λ numbers. sum_by f numbers) (range_more from count)
    ∙ sum_by-append f (range_with_len from count) ((from + count) ∷ [])
    ∙ ap (λ n. sum_by f (range_with_len from count) + n) (zero-add (f (from + count)))

pub no_children_passing : (test : ℕ → ℕ → Bool) (lower node : ℕ) → passing_children test lower node 0 ≡ 0
unfolding passing_children
no_children_passing test lower node = refl

pub one_more_passing : (test : ℕ → ℕ → Bool) (lower node count : ℕ) → passing_children test lower node (count + 1) ≡ passing_children test lower node count + passing test lower (8 * node + count)
unfolding passing_children
one_more_passing test lower node count =
    let e : suc count ≡ count + 1 = omega arith in
    subst (λ n. sum_by (passing test lower) (range_with_len (8 * node) n) ≡ sum_by (passing test lower) (range_with_len (8 * node) count) + passing test lower (8 * node + count)) e
    (sum_more (passing test lower) (8 * node) count)

-- a node that is met, and all of its children
pub met_passing : (grid : GridShape) (t : Triangle) (test : ℕ → ℕ → Bool) (lower height node : ℕ) → height ≡ suc lower → PassWhereMet grid t test
    → Meets t (node_cube grid (grid.depth - height) node) → passing test height node ≡ 1 + passing_children test lower node 8
unfolding passing_children
met_passing grid t test lower height node up pass met =
    let passes : test (suc lower) node ≡ true = pass (suc lower) node (subst (λ h. Meets t (node_cube grid (grid.depth - h) node)) up met) in
    rw (up, passes) refl

-- the tests after a node that is met, whose eight children were each asked
pub tests_within : (grid : GridShape) (t : Triangle) (test : ℕ → ℕ → Bool) (before after height node place : ℕ) → (height ≡ 0 → ⊥) → place ≡ 8 → PassWhereMet grid t test
    → Meets t (node_cube grid (grid.depth - height) node) → after ≤ before + 1 + place + 8 * passing_children test (height - 1) node place → after ≤ before + 1 + 8 * passing test height node
tests_within grid t test before after height node place above last pass met counted =
    let all : after ≤ before + 1 + 8 + 8 * passing_children test (height - 1) node 8 = subst (λ n. after ≤ before + 1 + n + 8 * passing_children test (height - 1) node n) last counted in
    omega (arith, all, met_passing grid t test (height - 1) height node (omega (arith, above)) pass met)

-- the tests after one child more
pub child_tests : (test : ℕ → ℕ → Bool) (before now after lower node place height code : ℕ) → height ≡ lower → code ≡ 8 * node + place
    → now ≤ before + 1 + place + 8 * passing_children test lower node place → after ≤ now + 1 + 8 * passing test height code
    → after ≤ before + 1 + (place + 1) + 8 * passing_children test lower node (place + 1)
child_tests test before now after lower node place height code is_height is_code counted more =
    let same : after ≤ now + 1 + 8 * passing test lower (8 * node + place) =
    subst (λ n. after ≤ now + 1 + 8 * passing test lower n) is_code (subst (λ h. after ≤ now + 1 + 8 * passing test h code) is_height more) in
    omega (arith, counted, same, one_more_passing test lower node place)
