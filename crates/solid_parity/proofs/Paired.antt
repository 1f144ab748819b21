-- Where edges are paired, each column goes through an even number of triangles.
use Rattle.std.proofs.Common.{◌≡◌, ℕ, ◌+◌, ◌%◌, Bool, true, false, List, [], ◌∷◌, inl, inr, arith, refl, sym, ap, ◌∙◌}
use Rattle.std.specs.Prelude.{◌==◌, ◌⊎◌, ◌&&◌, not}
use Rattle.std.specs.List.{sum_by}
use Rattle.std.specs.Ordering.{int_eq}
use Rattle.std.proofs.Math.Bool.{and_comm, or_comm}
use Rattle.std.proofs.lemmas.Bool.{or_cases}
use Rattle.std.proofs.lemmas.Bool.Decides.{Decides-int_eq}
use Rattle.std.proofs.lemmas.List.Concat.{flat_map-cons}
use Rattle.svo_base.specs.GridShape.{GridShape}
use Rattle.svo_base.specs.declared.shapes.Vector.{Vector}
use Rattle.octree_specs.specs.FacedTriangles.{Faced}
use Rattle.solid_parity.specs.Edges.{Edge, same_place, is_same_pair, edges_of, all_edges, ArePaired}
use Rattle.solid_parity.specs.Laws.{number_under, AgreeFromBelow}
use Rattle.solid_parity.specs.Parity.{one, rises, crosses, crossings, centre_of, is_covered, is_above, is_solid}
use Rattle.solid_parity.proofs.Totals.{total, total_is, total-append, odd_terms, IsSameness, even_sum}

pub both_parts : (p q : Bool) → (p && q) ≡ true → (p ≡ true) × (q ≡ true)
both_parts true q h = (refl, h)
both_parts false q h = absurd (cc)

place_itself : (u : Vector) → same_place u u ≡ true
place_itself u = rw ((Decides-int_eq u.x u.x).1 refl, (Decides-int_eq u.y u.y).1 refl, (Decides-int_eq u.z u.z).1 refl) refl

one_place : (u v : Vector) → same_place u v ≡ true → u ≡ v
one_place u v same =
    let parts = both_parts (int_eq u.x v.x) (int_eq u.y v.y && int_eq u.z v.z) same in
    let rest = both_parts (int_eq u.y v.y) (int_eq u.z v.z) parts.1 in
    let x : u.x ≡ v.x = (Decides-int_eq u.x v.x).0 parts.0 in
    let y : u.y ≡ v.y = (Decides-int_eq u.y v.y).0 rest.0 in
    let z : u.z ≡ v.z = (Decides-int_eq u.z v.z).0 rest.1 in
    λ i. record { x = x i; y = y i; z = z i }

turned : Edge → Edge
turned e = record { from = e.to; to = e.from }

-- the same pair is the same edge, or the edge turned
edge_from : (e g : Edge) → is_same_pair e g ≡ true → (e ≡ g) ⊎ (e ≡ turned g)
unfolding is_same_pair turned
edge_from e g same = elim (or_cases (same_place e.from g.from && same_place e.to g.to) (same_place e.from g.to && same_place e.to g.from) same) [
  | inl straight ↦
      let parts = both_parts (same_place e.from g.from) (same_place e.to g.to) straight in
      let p : e.from ≡ g.from = one_place e.from g.from parts.0 in
      let q : e.to ≡ g.to = one_place e.to g.to parts.1 in
      inl (λ i. record { from = p i; to = q i })
  | inr crossed ↦
      let parts = both_parts (same_place e.from g.to) (same_place e.to g.from) crossed in
      let p : e.from ≡ g.to = one_place e.from g.to parts.0 in
      let q : e.to ≡ g.from = one_place e.to g.from parts.1 in
      inr (λ i. record { from = p i; to = q i })
]

turned_left : (g h : Edge) → is_same_pair (turned g) h ≡ is_same_pair g h
unfolding is_same_pair turned
turned_left g h =
    rw (and_comm (same_place g.to h.from) (same_place g.from h.to), and_comm (same_place g.to h.to) (same_place g.from h.from))
    (or_comm (same_place g.from h.to && same_place g.to h.from) (same_place g.from h.from && same_place g.to h.to))

turned_right : (e h : Edge) → is_same_pair e (turned h) ≡ is_same_pair e h
unfolding is_same_pair turned
turned_right e h = or_comm (same_place e.from h.to && same_place e.to h.from) (same_place e.from h.from && same_place e.to h.to)

pair_itself : (e : Edge) → is_same_pair e e ≡ true
unfolding is_same_pair
pair_itself e = rw (place_itself e.from, place_itself e.to) refl

pair_left : (e g h : Edge) → is_same_pair e g ≡ true → is_same_pair e h ≡ is_same_pair g h
pair_left e g h same = elim (edge_from e g same) [
  | inl straight ↦ ap (λ k. is_same_pair k h) straight
  | inr crossed ↦ ap (λ k. is_same_pair k h) crossed ∙ turned_left g h
]

pair_right : (e g h : Edge) → is_same_pair g h ≡ true → is_same_pair e g ≡ is_same_pair e h
pair_right e g h same = elim (edge_from g h same) [
  | inl straight ↦ ap (λ k. is_same_pair e k) straight
  | inr crossed ↦ ap (λ k. is_same_pair e k) crossed ∙ turned_right e h
]

pub crosses_turned : (u v q : Vector) → crosses u v q ≡ crosses v u q
unfolding crosses
crosses_turned u v q = or_comm (rises u v q) (rises v u q)

crossing : Vector → Edge → ℕ
crossing q e = one (crosses e.from e.to q)

crossing_alike : (q : Vector) (e g : Edge) → is_same_pair e g ≡ true → crossing q g ≡ crossing q e
unfolding crossing turned
crossing_alike q e g same = elim (edge_from e g same) [
  | inl straight ↦ ap (λ k. crossing q k) (sym straight)
  | inr crossed ↦ ap one (crosses_turned g.from g.to q) ∙ ap (λ k. crossing q k) (sym crossed)
]

same_pairs : (q : Vector) → IsSameness is_same_pair (crossing q)
same_pairs q = record { itself = pair_itself; left = pair_left; right = pair_right; alike = crossing_alike q }

-- the edges of all triangles are crossed as often as the triangles' edges are
edges_cross : (q : Vector) (faced : List Faced) → total (crossing q) (all_edges faced) ≡ total (λ x. crossings x.triangle q) faced
unfolding crossing crossings
edges_cross q [] = refl
edges_cross q (x ∷ xs) =
    ap (λ edges. total (crossing q) edges) (flat_map-cons edges_of x xs) ∙ (total-append (crossing q) (edges_of x) (all_edges xs) ∙ omega (arith, edges_cross q xs))

pub covered_even : (faced : List Faced) (q : Vector) → ArePaired faced → sum_by (λ x. one (is_covered x.triangle q)) faced % 2 ≡ 0
unfolding is_covered
covered_even faced q paired =
    let pairs : (e : Edge) → total (λ g. one (is_same_pair e g)) (all_edges faced) % 2 ≡ 0 =
    λ e. ap (λ n. n % 2) (sym (total_is (λ g. one (is_same_pair e g)) (all_edges faced))) ∙ paired e
    in
    let edges = even_sum is_same_pair (crossing q) (same_pairs q) (all_edges faced) pairs in
    ap (λ n. n % 2) (total_is (λ x. one (crossings x.triangle q % 2 == 1)) faced)
    ∙ (odd_terms (λ x. crossings x.triangle q) faced ∙ (ap (λ n. n % 2) (sym (edges_cross q faced)) ∙ edges))

one_or_other : (b c : Bool) → one (b && c) + one (b && not c) ≡ one b
one_or_other true true = refl
one_or_other true false = refl
one_or_other false c = refl

-- each triangle that covers a column is above or not
above_or_not : (q : Vector) (faced : List Faced) →
    total (λ x. one (is_covered x.triangle q && is_above x.triangle q)) faced + total (λ x. one (is_covered x.triangle q && not (is_above x.triangle q))) faced
    ≡ total (λ x. one (is_covered x.triangle q)) faced
above_or_not q [] = refl
above_or_not q (x ∷ xs) = omega (arith, above_or_not q xs, one_or_other (is_covered x.triangle q) (is_above x.triangle q))

solid_from_below : (grid : GridShape) (faced : List Faced) (code : ℕ) → ArePaired faced → is_solid grid faced code ≡ (number_under grid faced code % 2 == 1)
unfolding is_solid
solid_from_below grid faced code paired =
    let q : Vector = centre_of grid code in
    let even = covered_even faced q paired in
    let whole = total_is (λ x. one (is_covered x.triangle q)) faced in
    let over = total_is (λ x. one (is_covered x.triangle q && is_above x.triangle q)) faced in
    let under = total_is (λ x. one (is_covered x.triangle q && not (is_above x.triangle q))) faced in
    ap (λ n. n == 1) (parities _ _ _ _ _ _ whole over under (above_or_not q faced) even)
  where
    parities : (whole over under w o u : ℕ) → whole ≡ w → over ≡ o → under ≡ u → o + u ≡ w → whole % 2 ≡ 0 → over % 2 ≡ under % 2
    parities whole over under w o u e f g sum even = omega (arith, e, f, g, sum, even)

pub agree_from_below : AgreeFromBelow
agree_from_below = record { even = covered_even; below = solid_from_below }
