-- A direction that clears some rows, and is behind on a target, is turned until it is across two of the rows that are not on one line.
use Rattle.std.proofs.Common.{◌≡◌, List, inl, inr, arith, sym, ◌∙◌, ℤ, pos, ◌*ℤ◌, neg_ℤ, ◌≤ℤ◌, ◌<ℤ◌}
use Rattle.std.proofs.lemmas.Int.{ints, by_lt_z}
use Rattle.svo_base.specs.declared.shapes.Vector.{Vector}
use Rattle.octree_specs.specs.Vectors.{dot_of, cross_of, opposite_of}
use Rattle.octree_specs.proofs.Integers.{product_negative, product_not_positive, factor_zero}
use Rattle.octree_specs.proofs.SignedTerms.{the, plus, times, same}
use Rattle.octree_specs.proofs.Vectors.{IsZero, IsNonzero, mixed, dot_of-mixed, norm_positive, cross_of-first, cross_of-second, triple_product, dot_of-opposite_of, dot_of-zero, opposite_nonzero, unit_x}
use Rattle.octree_specs.proofs.Cones.{Among, Clears, IsFirst, first_or_none, step_to}
use Rattle.octree_specs.proofs.Along.{IsAlong, along, products_along}

pub dot_commutes : (a b : Vector) → dot_of a b ≡ dot_of b a
dot_commutes a b =
    same
    (plus (plus (times (the a.x) (the b.x)) (times (the a.y) (the b.y))) (times (the a.z) (the b.z)))
    (plus (plus (times (the b.x) (the a.x)) (times (the b.y) (the a.y))) (times (the b.z) (the a.z)))
    (omega arith)

-- a direction that is not zero, clears the rows, and is behind on f
pub record IsKept (rows : List Vector) (f m : Vector) : Type 0 where
  pub some : IsNonzero m
  pub clears : Clears rows m
  pub behind : dot_of m f <ℤ pos 0

-- each such direction is ahead on g, and g is across no row of the turns
pub record IsPointed (rows : List Vector) (g : Vector) : Type 0 where
  pub ahead : (m : Vector) → IsNonzero m → Clears rows m → pos 0 <ℤ dot_of m g

-- ---- vectors along one line

swapped : (p q : ℤ) → p *ℤ q ≡ q *ℤ p
swapped p q = same (times (the p) (the q)) (times (the q) (the p)) (omega arith)

-- what is along a direction that is ahead on g, and across g, is zero
level_along : (w u g : Vector) → pos 0 <ℤ dot_of w g → dot_of u g ≡ pos 0 → IsNonzero w → IsZero (cross_of w u) → IsZero u
level_along w u g ahead level some line = record {
  x = factor_zero (dot_of w w) u.x (norm_positive w some) (number u.x w.x is.x);
  y = factor_zero (dot_of w w) u.y (norm_positive w some) (number u.y w.y is.y);
  z = factor_zero (dot_of w w) u.z (norm_positive w some) (number u.z w.z is.z);
}
  where
    is : IsAlong w u
    is = along w u line

    nothing : (p : ℤ) → p *ℤ pos 0 ≡ pos 0
    nothing p = omega (arith, ints)

    across : dot_of w u ≡ pos 0
    across =
        factor_zero (dot_of w g) (dot_of w u) ahead
        (swapped (dot_of w g) (dot_of w u) ∙ sym (products_along w u g is) ∙ rw level (nothing (dot_of w w)))

    number : (p q : ℤ) → p *ℤ dot_of w w ≡ q *ℤ dot_of w u → dot_of w w *ℤ p ≡ pos 0
    number p q e = swapped (dot_of w w) p ∙ e ∙ rw across (nothing q)

-- ---- one turn

-- the direction after a turn from m about a
pub record IsTurned (rows : List Vector) (f m a to row : Vector) : Type 0 where
  pub kept : IsKept rows f to
  pub among : Among rows row
  pub level : dot_of to row ≡ pos 0
  pub row_some : IsNonzero row
  pub differ : IsNonzero (cross_of a row)
  pub keeps : dot_of m a ≡ pos 0 → dot_of to a ≡ pos 0

abbrev Turned : List Vector → Vector → Vector → Vector → Type 0
Turned rows f m a = (to : Vector) × (row : Vector) × IsTurned rows f m a to row

-- a way to turn: across g and a, not ahead on f
record IsWay (f g a u : Vector) : Type 0 where
  some : IsNonzero u
  level : dot_of u g ≡ pos 0
  about : dot_of u a ≡ pos 0
  not_ahead : dot_of u f ≤ℤ pos 0
  turns : (row : Vector) → dot_of u row <ℤ pos 0 → IsNonzero (cross_of a row)

behind_after : (m u row f : Vector) → dot_of u row <ℤ pos 0 → pos 0 ≤ℤ dot_of m row → dot_of m f <ℤ pos 0 → dot_of u f ≤ℤ pos 0
    → dot_of (mixed (neg_ℤ (dot_of u row)) m (dot_of m row) u) f <ℤ pos 0
behind_after m u row f falls over behind not_ahead =
    rw (dot_of-mixed (neg_ℤ (dot_of u row)) m (dot_of m row) u f)
    (omega (
      arith,
      ints,
      product_negative (neg_ℤ (dot_of u row)) (dot_of m f) (omega (arith, ints, falls)) behind,
      product_not_positive (dot_of m row) (dot_of u f) over not_ahead,
    ))

turn_to : (rows : List Vector) (f g m a u row : Vector) → IsPointed rows g → IsKept rows f m → IsWay f g a u → IsFirst m u rows row → Turned rows f m a
turn_to rows f g m a u row pointed kept way is =
    let apart : IsNonzero (cross_of m u) = λ line. way.some (level_along m u g (pointed.ahead m kept.some kept.clears) way.level kept.some line) in
    let to = step_to m u rows row kept.clears apart is in (
      mixed (neg_ℤ (dot_of u row)) m (dot_of m row) u,
      row,
      record {
        kept = record { some = to.some; clears = to.clears; behind = behind_after m u row f is.falls (kept.clears row is.among) kept.behind way.not_ahead };
        among = is.among;
        level = to.level;
        row_some = λ none. fell (dot_of u row) is.falls (dot_of-zero u row none);
        differ = way.turns row is.falls;
        keeps = λ level. to.keeps a level way.about;
      },
    )
  where
    fell : (n : ℤ) → n <ℤ pos 0 → n ≡ pos 0 → ⊥
    fell n below e = omega (arith, ints, below, e)

-- some row is reached, since a direction across g clears them all only where it is zero
turn_by : (rows : List Vector) (f g m a u : Vector) → IsPointed rows g → IsKept rows f m → IsWay f g a u → Turned rows f m a
turn_by rows f g m a u pointed kept way = elim (first_or_none m u rows) [
  | inl none ↦ absurd (clash (dot_of u g) (pointed.ahead u way.some none) way.level)
  | inr found ↦ turn_to rows f g m a u found.0 pointed kept way found.1
]
  where
    clash : (n : ℤ) → pos 0 <ℤ n → n ≡ pos 0 → ⊥
    clash n above e = omega (arith, ints, above, e)

-- across g and a there are two ways, and one of them is not ahead on f
no_turn : (g a row : Vector) → IsZero (cross_of a row) → dot_of (cross_of g a) row ≡ pos 0
no_turn g a row none = triple_product g a row ∙ dot_of-zero g (cross_of a row) none

way_about : (f g a : Vector) → IsNonzero (cross_of g a) → (u : Vector) × IsWay f g a u
way_about f g a some =
    by_lt_z (pos 0) (dot_of u f)
    (λ ahead. (
      opposite_of u,
      record {
        some = opposite_nonzero u some;
        level = omega (arith, ints, dot_of-opposite_of u g, cross_of-first g a);
        about = omega (arith, ints, dot_of-opposite_of u a, cross_of-second g a);
        not_ahead = omega (arith, ints, dot_of-opposite_of u f, ahead);
        turns = λ row below none. omega (arith, ints, below, dot_of-opposite_of u row, no_turn g a row none);
      },
    ))
    (λ not_ahead. (
      u,
      record {
        some = some;
        level = cross_of-first g a;
        about = cross_of-second g a;
        not_ahead = not_ahead;
        turns = λ row below none. omega (arith, ints, below, no_turn g a row none);
      },
    ))
  where
    u : Vector
    u = cross_of g a

turned_about : (rows : List Vector) (f g m a : Vector) → IsPointed rows g → IsKept rows f m → IsNonzero (cross_of g a) → Turned rows f m a
turned_about rows f g m a pointed kept some =
    let way = way_about f g a some in turn_by rows f g m a way.0 pointed kept way.1

-- ---- two turns

-- a direction that is across two rows that are not on one line
pub record IsSharp (rows : List Vector) (f m a b : Vector) : Type 0 where
  pub kept : IsKept rows f m
  pub first : Among rows a
  pub second : Among rows b
  pub differ : IsNonzero (cross_of a b)
  pub first_level : dot_of m a ≡ pos 0
  pub second_level : dot_of m b ≡ pos 0

pub sharpened : (rows : List Vector) (f g m : Vector) → IsPointed rows g → IsNonzero g → IsNonzero (cross_of g unit_x) → IsKept rows f m
    → (to : Vector) × (a : Vector) × (b : Vector) × IsSharp rows f to a b
sharpened rows f g m pointed some beside kept =
    let (n, a, one) = turned_about rows f g m unit_x pointed kept beside in
    let ahead : pos 0 <ℤ dot_of g n = rw (dot_commutes g n) (pointed.ahead n one.kept.some one.kept.clears) in
    let apart : IsNonzero (cross_of g a) = λ line. one.row_some (level_along g a n ahead (dot_commutes a n ∙ one.level) some line) in
    let (to, b, two) = turned_about rows f g n a pointed one.kept apart in (
      to,
      a,
      b,
      record { kept = two.kept; first = one.among; second = two.among; differ = two.differ; first_level = two.keeps one.level; second_level = two.level },
    )
