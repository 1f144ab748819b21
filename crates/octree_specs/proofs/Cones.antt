-- Directions whose product with no row of a list is below 0. If one of them is not zero, and the unit rows are in the list, then one is across two rows that are not on one line.
use Rattle.std.proofs.Common.{◌≡◌, List, [], ◌∷◌, inl, inr, refl, subst, arith, ◌∙◌, ℤ, pos, negsuc, ◌+ℤ◌, ◌-ℤ◌, ◌*ℤ◌, neg_ℤ, ◌≤ℤ◌, ◌<ℤ◌}
use Rattle.std.specs.Prelude.{◌⊎◌}
use Rattle.std.proofs.lemmas.Int.{ints, by_lt_z}
use lib.Signed.{clash_ℤ, ≤ℤ_refl}
use Rattle.svo_base.specs.declared.shapes.Vector.{Vector}
use Rattle.octree_specs.specs.Vectors.{vector, dot_of, cross_of, opposite_of}
use Rattle.octree_specs.proofs.Integers.{product_not_negative, product_at_most, factor_at_most, *ℤ-neg_ℤ}
use Rattle.octree_specs.proofs.SignedTerms.{the, plus, times, negated, same}
use Rattle.octree_specs.proofs.Vectors.{IsZero, IsNonzero, mixed, dot_of-mixed, mixed_nonzero, cross_of-second, triple_product, across_differs, dot_of-opposite_of, cross_of-opposite_nonzero, cross_of-zero, dot_of-zero, unit_x, unit_y, unit_z, dot_of-unit_x, dot_of-unit_y, dot_of-unit_z}

-- a row of the list
abbrev pub Among : List Vector → Vector → Type 0
Among [] r = ⊥
Among (x ∷ rows) r = (x ≡ r) ⊎ Among rows r

-- no product with a row is below 0
abbrev pub Clears : List Vector → Vector → Type 0
Clears rows w = (r : Vector) → Among rows r → pos 0 ≤ℤ dot_of w r

-- ---- the row that is reached first

-- of three ratios, each with a denominator above 0, the first is at most the third where the second lies between
ratio_trans : (f0 g0 f1 g1 f g : ℤ) → pos 0 <ℤ g0 → pos 0 <ℤ g1 → pos 0 <ℤ g → (f0 *ℤ g1) ≤ℤ (f1 *ℤ g0) → (f1 *ℤ g) ≤ℤ (f *ℤ g1) → (f0 *ℤ g) ≤ℤ (f *ℤ g0)
ratio_trans f0 g0 f1 g1 f g p0 p1 p first second =
    factor_at_most g1 (f0 *ℤ g) (f *ℤ g0) p1
    (omega (
      arith,
      ints,
      product_at_most g (f0 *ℤ g1) (f1 *ℤ g0) (omega (arith, ints, p)) first,
      product_at_most g0 (f1 *ℤ g) (f *ℤ g1) (omega (arith, ints, p0)) second,
      swapped g1 f0 g,
      swapped g f1 g0,
      swapped g0 f g1,
    ))
  where
    swapped : (a b c : ℤ) → a *ℤ (b *ℤ c) ≡ c *ℤ (b *ℤ a)
    swapped a b c = same (times (the a) (times (the b) (the c))) (times (the c) (times (the b) (the a))) (omega arith)

-- on the way from w in the direction u, the row whose product comes to 0 first
pub record IsFirst (w u : Vector) (rows : List Vector) (row : Vector) : Type 0 where
  pub among : Among rows row
  pub falls : dot_of u row <ℤ pos 0
  pub least : (r : Vector) → Among rows r → dot_of u r <ℤ pos 0 → (dot_of w row *ℤ neg_ℤ (dot_of u r)) ≤ℤ (dot_of w r *ℤ neg_ℤ (dot_of u row))

-- there is such a row, or no product falls
abbrev pub FirstOrNone : Vector → Vector → List Vector → Type 0
FirstOrNone w u rows = ((r : Vector) → Among rows r → pos 0 ≤ℤ dot_of u r) ⊎ ((row : Vector) × IsFirst w u rows row)

-- one more row in front
one_more : (w u x : Vector) (rows : List Vector) → FirstOrNone w u rows → FirstOrNone w u (x ∷ rows)
one_more w u x rows (inl none) =
    by_lt_z (dot_of u x) (pos 0)
    (λ falls. inr (
      x,
      record {
        among = inl refl;
        falls = falls;
        least = λ r among below. elim among [
          | inl here ↦ subst (λ v. (dot_of w x *ℤ neg_ℤ (dot_of u v)) ≤ℤ (dot_of w v *ℤ neg_ℤ (dot_of u x))) here (≤ℤ_refl (dot_of w x *ℤ neg_ℤ (dot_of u x)))
          | inr later ↦ clash_ℤ below (none r later)
        ];
      },
    ))
    (λ stays. inl (λ r among. elim among [
      | inl here ↦ subst (λ v. pos 0 ≤ℤ dot_of u v) here stays
      | inr later ↦ none r later
    ]))
one_more w u x rows (inr found) =
    let row = found.0 in
    let is = found.1 in
    by_lt_z (dot_of u x) (pos 0)
    (λ falls. by_lt_z (dot_of w row *ℤ neg_ℤ (dot_of u x)) (dot_of w x *ℤ neg_ℤ (dot_of u row))
    (λ sooner. inr (
      row,
      record {
        among = inr is.among;
        falls = is.falls;
        least = λ r among below. elim among [
          | inl here ↦ subst (λ v. (dot_of w row *ℤ neg_ℤ (dot_of u v)) ≤ℤ (dot_of w v *ℤ neg_ℤ (dot_of u row))) here (omega (arith, ints, sooner))
          | inr later ↦ is.least r later below
        ];
      },
    ))
    (λ later_than. inr (
      x,
      record {
        among = inl refl;
        falls = falls;
        least = λ r among below. elim among [
          | inl here ↦ subst (λ v. (dot_of w x *ℤ neg_ℤ (dot_of u v)) ≤ℤ (dot_of w v *ℤ neg_ℤ (dot_of u x))) here (≤ℤ_refl (dot_of w x *ℤ neg_ℤ (dot_of u x)))
          | inr later ↦ ratio_trans (dot_of w x) (neg_ℤ (dot_of u x)) (dot_of w row) (neg_ℤ (dot_of u row)) (dot_of w r) (neg_ℤ (dot_of u r))
              (above (dot_of u x) falls) (above (dot_of u row) is.falls) (above (dot_of u r) below) later_than (is.least r later below)
        ];
      },
    )))
    (λ stays. inr (
      row,
      record {
        among = inr is.among;
        falls = is.falls;
        least = λ r among below. elim among [
          | inl here ↦ clash_ℤ below (subst (λ v. pos 0 ≤ℤ dot_of u v) here stays)
          | inr later ↦ is.least r later below
        ];
      },
    ))
  where
    above : (a : ℤ) → a <ℤ pos 0 → pos 0 <ℤ neg_ℤ a
    above a below = omega (arith, ints, below)

pub first_or_none : (w u : Vector) (rows : List Vector) → FirstOrNone w u rows
first_or_none w u [] = inl (λ r among. absurd among)
first_or_none w u (x ∷ rows) = one_more w u x rows (first_or_none w u rows)

-- ---- a step that ends at a row

-- a direction that still clears the rows, and has product 0 with a row that the step came nearer to
pub record IsStep (w u : Vector) (rows : List Vector) (to row : Vector) : Type 0 where
  pub among : Among rows row
  pub falls : dot_of u row <ℤ pos 0
  pub some : IsNonzero to
  pub clears : Clears rows to
  pub level : dot_of to row ≡ pos 0
  pub keeps : (r : Vector) → dot_of w r ≡ pos 0 → dot_of u r ≡ pos 0 → dot_of to r ≡ pos 0

pub step_to : (w u : Vector) (rows : List Vector) (row : Vector) → Clears rows w → IsNonzero (cross_of w u) → IsFirst w u rows row → IsStep w u rows (mixed (neg_ℤ (dot_of u row)) w (dot_of w row) u) row
step_to w u rows row given differ is = record {
  among = is.among;
  falls = is.falls;
  some = mixed_nonzero s w k u ahead differ;
  clears = λ r among. rw (dot_of-mixed s w k u r) (by_lt_z (dot_of u r) (pos 0)
      (λ below. kept (dot_of w r) (dot_of u r) (is.least r among below))
      (λ over. grown (dot_of w r) (dot_of u r) (given row is.among) (given r among) over));
  level = dot_of-mixed s w k u row ∙ nothing (dot_of u row) (dot_of w row);
  keeps = λ r first second. dot_of-mixed s w k u r ∙ rw (first, second) (none s k);
}
  where
    s : ℤ
    s = neg_ℤ (dot_of u row)

    k : ℤ
    k = dot_of w row

    ahead : pos 0 <ℤ neg_ℤ (dot_of u row)
    ahead = omega (arith, ints, is.falls)

    kept : (f g : ℤ) → (k *ℤ neg_ℤ g) ≤ℤ (f *ℤ s) → pos 0 ≤ℤ ((s *ℤ f) +ℤ (k *ℤ g))
    kept f g h = omega (arith, ints, h, *ℤ-neg_ℤ k g, same (times (the s) (the f)) (times (the f) (the s)) (omega arith))

    grown : (f g : ℤ) → pos 0 ≤ℤ k → pos 0 ≤ℤ f → pos 0 ≤ℤ g → pos 0 ≤ℤ ((s *ℤ f) +ℤ (k *ℤ g))
    grown f g ahead_of p q =
        omega (arith, ints, product_not_negative s f (omega (arith, ints, ahead)) p, product_not_negative k g ahead_of q)

    nothing : (a b : ℤ) → (neg_ℤ a *ℤ b) +ℤ (b *ℤ a) ≡ pos 0
    nothing a b = same (plus (times (negated (the a)) (the b)) (times (the b) (the a))) (the (pos 0)) (omega arith)

    none : (a b : ℤ) → (a *ℤ pos 0) +ℤ (b *ℤ pos 0) ≡ pos 0
    none a b = omega (arith, ints)

-- a step in a direction in which some product falls
pub step : (w u : Vector) (rows : List Vector) (r : Vector) → Clears rows w → IsNonzero (cross_of w u) → Among rows r → dot_of u r <ℤ pos 0 →
    (to : Vector) × (row : Vector) × IsStep w u rows to row
step w u rows r clear differ among below = elim (first_or_none w u rows) [
  | inl none ↦ clash_ℤ below (none r among)
  | inr found ↦ (mixed (neg_ℤ (dot_of u found.0)) w (dot_of w found.0) u, found.0, step_to w u rows found.0 clear differ found.1)
]

-- ---- directions from a unit row

pub record HasUnits (rows : List Vector) : Type 0 where
  pub x : Among rows unit_x
  pub y : Among rows unit_y
  pub z : Among rows unit_z

-- a vector or its opposite has a product below 0 with one of a list's unit rows
abbrev Falls : List Vector → Vector → Type 0
Falls rows u = (row : Vector) × Among rows row × (dot_of u row <ℤ pos 0)

falls_on : (rows : List Vector) (u row : Vector) (n : ℤ) → Among rows row → dot_of u row ≡ n → (n ≡ pos 0 → ⊥) → Falls rows u ⊎ Falls rows (opposite_of u)
falls_on rows u row n among is some =
    by_lt_z (dot_of u row) (pos 0)
    (λ below. inl (row, among, below))
    (λ over. by_lt_z (pos 0) (dot_of u row)
    (λ above. inr (row, among, omega (arith, ints, above, dot_of-opposite_of u row)))
    (λ under. absurd (some (omega (arith, ints, over, under, is)))))

is_zero_or_not : (a : ℤ) → (a ≡ pos 0) ⊎ (a ≡ pos 0 → ⊥)
is_zero_or_not a =
    by_lt_z a (pos 0)
    (λ below. inr (λ e. omega (arith, ints, below, e)))
    (λ over. by_lt_z (pos 0) a (λ above. inr (λ e. omega (arith, ints, above, e))) (λ under. inl (omega (arith, ints, over, under))))

falls_somewhere : (rows : List Vector) (u : Vector) → HasUnits rows → IsNonzero u → Falls rows u ⊎ Falls rows (opposite_of u)
falls_somewhere rows u units some = elim (is_zero_or_not u.x) [
  | inr at_x ↦ falls_on rows u unit_x u.x units.x (dot_of-unit_x u) at_x
  | inl none_x ↦ elim (is_zero_or_not u.y) [
    | inr at_y ↦ falls_on rows u unit_y u.y units.y (dot_of-unit_y u) at_y
    | inl none_y ↦ falls_on rows u unit_z u.z units.z (dot_of-unit_z u) (λ none_z. some (record { x = none_x; y = none_y; z = none_z }))
  ]
]

-- ---- across one row

-- a direction that clears the rows and has product 0 with one that is not zero
pub record IsOnOne (rows : List Vector) (w r : Vector) : Type 0 where
  pub some : IsNonzero w
  pub clears : Clears rows w
  pub among : Among rows r
  pub row_some : IsNonzero r
  pub level : dot_of w r ≡ pos 0

pub on_one : (rows : List Vector) (w : Vector) → HasUnits rows → IsNonzero w → Clears rows w → (v : Vector) × (r : Vector) × IsOnOne rows v r
on_one rows w units some clear = elim (is_zero_or_not w.y) [
  | inl none ↦ (
    w,
    unit_y,
    record {
      some = some;
      clears = clear;
      among = units.y;
      row_some = λ zero_row. one_is_not zero_row.y;
      level = dot_of-unit_y w ∙ none;
    },
  )
  | inr high ↦
      let back : Vector = vector (negsuc 0) (pos 0) (pos 0) in
      let differ : IsNonzero (cross_of w back) = λ zero_cross. high (last w.x w.y zero_cross.z) in
      let to = step w back rows unit_x clear differ units.x (omega (arith, ints)) in (
        to.0,
        to.1,
        record {
          some = to.2.some;
          clears = to.2.clears;
          among = to.2.among;
          row_some = λ zero_row. fell (dot_of back to.1) to.2.falls (dot_of-zero back to.1 zero_row);
          level = to.2.level;
        },
      )
]
  where
    one_is_not : pos 1 ≡ pos 0 → ⊥
    one_is_not e = omega (arith, ints, e)

    last : (p q : ℤ) → ((p *ℤ pos 0) -ℤ (q *ℤ negsuc 0)) ≡ pos 0 → q ≡ pos 0
    last p q e = omega (arith, ints, e)

    fell : (a : ℤ) → a <ℤ pos 0 → a ≡ pos 0 → ⊥
    fell a below e = omega (arith, ints, below, e)

-- ---- across two rows that differ

-- a direction across r and beside w, along which no row that is on one line with r falls
record IsBeside (w r u : Vector) : Type 0 where
  pub level : dot_of u r ≡ pos 0
  pub differs : IsNonzero (cross_of w u)
  pub turns : (other : Vector) → dot_of u other <ℤ pos 0 → IsNonzero (cross_of r other)

no_turn : (w r other : Vector) → IsZero (cross_of r other) → dot_of (cross_of w r) other ≡ pos 0
no_turn w r other none = triple_product w r other ∙ dot_of-zero w (cross_of r other) none

beside : (w r : Vector) → IsNonzero w → IsNonzero r → dot_of w r ≡ pos 0 → IsBeside w r (cross_of w r)
beside w r some_w some_r level = record {
  level = cross_of-second w r;
  differs = across_differs w r some_w some_r level;
  turns = λ other below none. clash_below (dot_of (cross_of w r) other) below (no_turn w r other none);
}
  where
    clash_below : (a : ℤ) → a <ℤ pos 0 → a ≡ pos 0 → ⊥
    clash_below a below e = omega (arith, ints, below, e)

opposite_beside : (w r : Vector) → IsNonzero w → IsNonzero r → dot_of w r ≡ pos 0 → IsBeside w r (opposite_of (cross_of w r))
opposite_beside w r some_w some_r level = record {
  level = omega (arith, ints, dot_of-opposite_of (cross_of w r) r, cross_of-second w r);
  differs = cross_of-opposite_nonzero w (cross_of w r) (across_differs w r some_w some_r level);
  turns = λ other below none. omega (arith, ints, below, dot_of-opposite_of (cross_of w r) other, no_turn w r other none);
}

-- a direction that clears the rows and has product 0 with two of them that are not on one line
pub record IsOnTwo (rows : List Vector) (w a b : Vector) : Type 0 where
  pub some : IsNonzero w
  pub clears : Clears rows w
  pub first : Among rows a
  pub second : Among rows b
  pub differ : IsNonzero (cross_of a b)
  pub first_level : dot_of w a ≡ pos 0
  pub second_level : dot_of w b ≡ pos 0

abbrev pub OnTwo : List Vector → Type 0
OnTwo rows = (w : Vector) × (a : Vector) × (b : Vector) × IsOnTwo rows w a b

step_beside : (rows : List Vector) (w r u : Vector) → IsOnOne rows w r → IsBeside w r u → Falls rows u → OnTwo rows
step_beside rows w r u on is falls =
    let to = step w u rows falls.0 on.clears is.differs falls.1 falls.2 in (
      to.0,
      r,
      to.1,
      record {
        some = to.2.some;
        clears = to.2.clears;
        first = on.among;
        second = to.2.among;
        differ = is.turns to.1 to.2.falls;
        first_level = to.2.keeps r on.level is.level;
        second_level = to.2.level;
      },
    )

pub on_two : (rows : List Vector) (w r : Vector) → HasUnits rows → IsOnOne rows w r → OnTwo rows
on_two rows w r units on =
    let some_cross : IsNonzero (cross_of w r) = λ none. across_differs w r on.some on.row_some on.level (cross_of-zero w (cross_of w r) none) in
    elim (falls_somewhere rows (cross_of w r) units some_cross) [
      | inl falls ↦ step_beside rows w r (cross_of w r) on (beside w r on.some on.row_some on.level) falls
      | inr falls ↦ step_beside rows w r (opposite_of (cross_of w r)) on (opposite_beside w r on.some on.row_some on.level) falls
    ]
