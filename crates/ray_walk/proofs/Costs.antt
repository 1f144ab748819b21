-- How many nodes under a node pass a test, child by child.
use Rattle.std.proofs.Common.{◌≡◌, ℕ, zero, suc, ◌+◌, ◌-◌, ◌*◌, ◌<◌, ◌≤◌, true, Bool, cond, List, [], ◌∷◌, arith, refl, ap, subst, ◌∙◌, inl, inr}
use Rattle.std.specs.List.{sum_by}
use Rattle.std.proofs.lemmas.Bool.{cases_Bool}
use Rattle.std.proofs.lemmas.List.Sums.{sum_by-append}
use Rattle.octree_specs.specs.Cells.{Cell}
use Rattle.octree_specs.specs.Formats.{face_leaves}
use Rattle.octree_specs.specs.Octree.{is_nonempty, first_children, children_of}
use Rattle.octree_laws.proofs.FirstChildren.{first_children-zero, one_in, one_out}
use Rattle.ray_fraction.specs.Crossings.{count_of}
use Rattle.ray_walk.specs.Octants.{visited}

module _ (test : ℕ → ℕ → Bool) (cells : List Cell) (height node : ℕ) where
  -- those under the child at a place, of which there is none where it is empty
  pub cost_of : ℕ → ℕ
  cost_of place = cond (is_nonempty (face_leaves cells) height (8 * node + place)) (count_of test cells height (8 * node + place)) 0

  -- under the children at the first places
  pub first_cost : ℕ → ℕ
  first_cost zero = 0
  first_cost (suc count) = first_cost count + cost_of count

  sum_first : (count : ℕ) → sum_by (count_of test cells height) (first_children (face_leaves cells) height node count) ≡ first_cost count
  unfolding first_cost cost_of
  sum_first zero = ap (λ nodes. sum_by (count_of test cells height) nodes) (first_children-zero (face_leaves cells) height node)
  sum_first (suc count) =
      let up : suc count ≡ count + 1 = omega arith in
      elim (cases_Bool (is_nonempty (face_leaves cells) height (8 * node + count))) [
        | inl some ↦
            ap (λ n. sum_by (count_of test cells height) (first_children (face_leaves cells) height node n)) up
            ∙ (ap (λ nodes. sum_by (count_of test cells height) nodes) (one_in (face_leaves cells) height node count some)
            ∙ (sum_by-append (count_of test cells height) (first_children (face_leaves cells) height node count) ((8 * node + count) ∷ [])
            ∙ rw (some, sum_first count) (omega arith)))
        | inr none ↦
            ap (λ n. sum_by (count_of test cells height) (first_children (face_leaves cells) height node n)) up
            ∙ (ap (λ nodes. sum_by (count_of test cells height) nodes) (one_out (face_leaves cells) height node count none)
            ∙ rw (none, sum_first count) (omega arith))
      ]

  pub no_cost : first_cost 0 ≡ 0
  unfolding first_cost
  no_cost = refl

  -- one child more, whether it is nonempty or not
  pub first_cost_grows : (place : ℕ) → first_cost place ≤ first_cost (place + 1)
  unfolding first_cost
  first_cost_grows place = let up : place + 1 ≡ suc place = omega arith in rw up (omega arith)

  pub one_more : (place : ℕ) → is_nonempty (face_leaves cells) height (8 * node + place) ≡ true → first_cost (place + 1) ≡ first_cost place + count_of test cells height (8 * node + place)
  unfolding first_cost cost_of
  one_more place some = let up : place + 1 ≡ suc place = omega arith in rw up (rw some refl)

  pub count_by_children : count_of test cells (height + 1) node ≡ cond (test (height + 1) node) 1 0 + first_cost 8
  count_by_children =
      let up : height + 1 ≡ suc height = omega arith in
      let all : sum_by (count_of test cells height) (children_of (face_leaves cells) height node) ≡ first_cost 8 = sum_first 8 in
      rw (up, all) refl

-- of so many children in the order in which they are visited
pub cost_before : (test : ℕ → ℕ → Bool) (cells : List Cell) (height node turn : ℕ) → ℕ → ℕ
cost_before test cells height node turn zero = 0
cost_before test cells height node turn (suc k) = cost_before test cells height node turn k + cost_of test cells height node (visited turn k)

pub no_cost_before : (test : ℕ → ℕ → Bool) (cells : List Cell) (height node turn : ℕ) → cost_before test cells height node turn 0 ≡ 0
unfolding cost_before
no_cost_before test cells height node turn = refl

pub one_cost_more : (test : ℕ → ℕ → Bool) (cells : List Cell) (height node turn k : ℕ)
    → cost_before test cells height node turn (k + 1) ≡ cost_before test cells height node turn k + cost_of test cells height node (visited turn k)
unfolding cost_before
one_cost_more test cells height node turn k = let up : k + 1 ≡ suc k = omega arith in ap (cost_before test cells height node turn) up

-- a child that is nonempty
pub cost_some : (test : ℕ → ℕ → Bool) (cells : List Cell) (height node place : ℕ) → is_nonempty (face_leaves cells) height (8 * node + place) ≡ true
    → cost_of test cells height node place ≡ count_of test cells height (8 * node + place)
unfolding cost_of
cost_some test cells height node place some = rw some refl

-- all eight, in each of the eight orders
in_each_order : (test : ℕ → ℕ → Bool) (cells : List Cell) (height node turn : ℕ) → turn < 8 → first_cost test cells height node 8 ≡ cost_before test cells height node turn 8
unfolding cost_before first_cost visited
in_each_order test cells height node zero turned = refl
in_each_order test cells height node (suc zero) turned = omega arith
in_each_order test cells height node (suc (suc zero)) turned = omega arith
in_each_order test cells height node (suc (suc (suc zero))) turned = omega arith
in_each_order test cells height node (suc (suc (suc (suc zero)))) turned = omega arith
in_each_order test cells height node (suc (suc (suc (suc (suc zero))))) turned = omega arith
in_each_order test cells height node (suc (suc (suc (suc (suc (suc zero)))))) turned = omega arith
in_each_order test cells height node (suc (suc (suc (suc (suc (suc (suc zero))))))) turned = omega arith
in_each_order test cells height node (suc (suc (suc (suc (suc (suc (suc (suc turn)))))))) turned = absurd (omega (arith, turned))

pub count_by_order : (test : ℕ → ℕ → Bool) (cells : List Cell) (height node turn : ℕ) → turn < 8
    → count_of test cells (height + 1) node ≡ cond (test (height + 1) node) 1 0 + cost_before test cells height node turn 8
count_by_order test cells height node turn turned =
    let up : height + 1 ≡ suc height = omega arith in
    let all : sum_by (count_of test cells height) (children_of (face_leaves cells) height node) ≡ cost_before test cells height node turn 8 =
    sum_first test cells height node 8 ∙ in_each_order test cells height node turn turned in
    rw (up, all) refl

-- more children do not cost less
cost_later : (test : ℕ → ℕ → Bool) (cells : List Cell) (height node turn k more : ℕ) → cost_before test cells height node turn k ≤ cost_before test cells height node turn (k + more)
cost_later test cells height node turn k zero = let same : k + 0 ≡ k = omega arith in rw same (omega arith)
cost_later test cells height node turn k (suc more) =
    let up : k + suc more ≡ (k + more) + 1 = omega arith in
    rw up (omega (arith, cost_later test cells height node turn k more, one_cost_more test cells height node turn (k + more)))

pub cost_grows : (test : ℕ → ℕ → Bool) (cells : List Cell) (height node turn k : ℕ) → k ≤ 8 → cost_before test cells height node turn k ≤ cost_before test cells height node turn 8
cost_grows test cells height node turn k within =
    let whole : k + (8 - k) ≡ 8 = omega (arith, within) in
    subst (λ n. cost_before test cells height node turn k ≤ cost_before test cells height node turn n) whole (cost_later test cells height node turn k (8 - k))
