-- Farkas' lemma for rows of three numbers: either some vector clears all rows and has a product above 0 with a target, or sums of the rows, with factors that are not negative, come to the opposite of a multiple of the target.
use Rattle.std.proofs.Common.{◌≡◌, ℕ, zero, suc, ◌≤◌, List, [], ◌∷◌, length, inl, inr, refl, subst, arith, ◌∙◌, sym, ap, ℤ, pos, ◌+ℤ◌, ◌*ℤ◌, neg_ℤ, ◌≤ℤ◌, ◌<ℤ◌}
use Rattle.std.specs.Prelude.{◌⊎◌}
use Rattle.std.proofs.lemmas.Int.{ints, by_lt_z}
use Rattle.svo_base.specs.declared.shapes.Vector.{Vector}
use Rattle.octree_specs.specs.Vectors.{vector, dot_of}
use Rattle.octree_specs.proofs.Integers.{product_not_negative, product_positive, square_not_negative, square_zero}
use Rattle.octree_specs.proofs.SignedTerms.{the, plus, times, negated, same}
use Rattle.octree_specs.proofs.Vectors.{mixed, dot_of-mixed}
use Rattle.octree_specs.proofs.Cones.{Among, Clears}

-- sums with factors that are not negative keep the property
abbrev pub IsClosed : (Vector → Type 0) → Type 0
IsClosed P = (s k : ℤ) (a b : Vector) → pos 0 ≤ℤ s → pos 0 ≤ℤ k → P a → P b → P (mixed s a k b)

-- v is the opposite of p times a number above 0
pub record IsAgainst (v : Vector) (g : ℤ) (p : Vector) : Type 0 where
  pub above : pos 0 <ℤ g
  pub x : v.x ≡ neg_ℤ (g *ℤ p.x)
  pub y : v.y ≡ neg_ℤ (g *ℤ p.y)
  pub z : v.z ≡ neg_ℤ (g *ℤ p.z)

-- the two cases: a vector that clears the rows and is ahead on the target, or one with the property that is against the target
abbrev pub Cleared : List Vector → Vector → Type 0
Cleared rows p = (w : Vector) × Clears rows w × (pos 0 <ℤ dot_of w p)

abbrev pub Against : (Vector → Type 0) → Vector → Type 0
Against P p = (v : Vector) × (g : ℤ) × P v × IsAgainst v g p

abbrev pub nowhere : Vector
nowhere = vector (pos 0) (pos 0) (pos 0)

-- ---- products with sums of two vectors

pub dot_mixed : (v : Vector) (s : ℤ) (a : Vector) (k : ℤ) (r : Vector) → dot_of v (mixed s a k r) ≡ (s *ℤ dot_of v a) +ℤ (k *ℤ dot_of v r)
dot_mixed v s a k r =
    same
    (plus (plus (times (the v.x) (plus (times (the s) (the a.x)) (times (the k) (the r.x)))) (times (the v.y) (plus (times (the s) (the a.y)) (times (the k) (the r.y))))) (times (the v.z) (plus (times (the s) (the a.z)) (times (the k) (the r.z)))))
    (plus (times (the s) (plus (plus (times (the v.x) (the a.x)) (times (the v.y) (the a.y))) (times (the v.z) (the a.z)))) (times (the k) (plus (plus (times (the v.x) (the r.x)) (times (the v.y) (the r.y))) (times (the v.z) (the r.z)))))
    (omega arith)

-- a row with so much of r that its product with w is 0, and so each row of a list
abbrev level_with : Vector → Vector → Vector → Vector
level_with w r a = mixed (neg_ℤ (dot_of w r)) a (dot_of w a) r

abbrev levelled : Vector → Vector → List Vector → List Vector
levelled w r [] = []
levelled w r (a ∷ rows) = level_with w r a ∷ levelled w r rows

length-levelled : (w r : Vector) (rows : List Vector) → length (levelled w r rows) ≡ length rows
length-levelled w r [] = refl
length-levelled w r (a ∷ rows) = ap suc (length-levelled w r rows)

-- v with so much of w that its product with r is 0
abbrev swung : Vector → Vector → Vector → Vector
swung w r v = mixed (neg_ℤ (dot_of w r)) v (dot_of v r) w

swing : (w r v a : Vector) → dot_of (swung w r v) a ≡ dot_of v (level_with w r a)
swing w r v a =
    dot_of-mixed (neg_ℤ (dot_of w r)) v (dot_of v r) w a
    ∙ turned (neg_ℤ (dot_of w r) *ℤ dot_of v a) (dot_of v r) (dot_of w a)
    ∙ sym (dot_mixed v (neg_ℤ (dot_of w r)) a (dot_of w a) r)
  where
    turned : (s p q : ℤ) → s +ℤ (p *ℤ q) ≡ s +ℤ (q *ℤ p)
    turned s p q = same (plus (the s) (times (the p) (the q))) (plus (the s) (times (the q) (the p))) (omega arith)

swing_level : (w r v : Vector) → dot_of (swung w r v) r ≡ pos 0
swing_level w r v = dot_of-mixed (neg_ℤ (dot_of w r)) v (dot_of v r) w r ∙ none (dot_of w r) (dot_of v r)
  where
    none : (p q : ℤ) → (neg_ℤ p *ℤ q) +ℤ (q *ℤ p) ≡ pos 0
    none p q = same (plus (times (negated (the p)) (the q)) (times (the q) (the p))) (the (pos 0)) (omega arith)

swing_clears : (w r v : Vector) (rows : List Vector) → Clears (levelled w r rows) v → Clears rows (swung w r v)
swing_clears w r v [] clears a among = absurd among
swing_clears w r v (x ∷ rows) clears a among = elim among [
  | inl here ↦ subst (λ u. pos 0 ≤ℤ dot_of (swung w r v) u) here (rw (swing w r v x) (clears (level_with w r x) (inl refl)))
  | inr later ↦ swing_clears w r v rows (λ u in_levelled. clears u (inr in_levelled)) a later
]

-- ---- one more row

-- levelled rows keep the property
level_keeps : (P : Vector → Type 0) → IsClosed P → (w r : Vector) → dot_of w r <ℤ pos 0 → P r → (rows : List Vector) → Clears rows w → ((a : Vector) → Among rows a → P a)
    → (a : Vector) → Among (levelled w r rows) a → P a
level_keeps P closed w r below has [] clears all a among = absurd among
level_keeps P closed w r below has (x ∷ rows) clears all a among = elim among [
  | inl here ↦ subst P here (closed (neg_ℤ (dot_of w r)) (dot_of w x) x r (omega (arith, ints, below)) (clears x (inl refl)) (all x (inl refl)) has)
  | inr later ↦ level_keeps P closed w r below has rows (λ u in_rows. clears u (inr in_rows)) (λ u in_rows. all u (inr in_rows)) a later
]

-- what is against a levelled target gives what is against the target
one_number : (v g s k p r : ℤ) → v ≡ neg_ℤ (g *ℤ ((s *ℤ p) +ℤ (k *ℤ r))) → (pos 1 *ℤ v) +ℤ ((g *ℤ k) *ℤ r) ≡ neg_ℤ ((g *ℤ s) *ℤ p)
one_number v g s k p r is =
    rw is (same
    (plus (times (the (pos 1)) (negated (times (the g) (plus (times (the s) (the p)) (times (the k) (the r)))))) (times (times (the g) (the k)) (the r)))
    (negated (times (times (the g) (the s)) (the p)))
    (omega arith))

against_before : (P : Vector → Type 0) → IsClosed P → (w r p : Vector) → dot_of w r <ℤ pos 0 → pos 0 <ℤ dot_of w p → P r → Against P (level_with w r p) → Against P p
against_before P closed w r p below ahead has (v, g, has_v, is) =
    let s = neg_ℤ (dot_of w r) in
    let k = dot_of w p in (
      mixed (pos 1) v (g *ℤ k) r,
      g *ℤ s,
      closed (pos 1) (g *ℤ k) v r (omega (arith, ints)) (product_not_negative g k (omega (arith, ints, is.above)) (omega (arith, ints, ahead))) has_v has,
      record {
        above = product_positive g s is.above (omega (arith, ints, below));
        x = one_number v.x g s k p.x r.x is.x;
        y = one_number v.y g s k p.y r.y is.y;
        z = one_number v.z g s k p.z r.z is.z;
      },
    )

-- a vector that clears the levelled rows and is ahead on the levelled target is swung until its product with the row is 0
cleared_before : (w r p : Vector) (rows : List Vector) → Cleared (levelled w r rows) (level_with w r p) → Cleared (r ∷ rows) p
cleared_before w r p rows (v, clears, ahead) = (
  swung w r v,
  λ a among. elim among [
    | inl here ↦ subst (λ u. pos 0 ≤ℤ dot_of (swung w r v) u) here (not_below (dot_of (swung w r v) r) (swing_level w r v))
    | inr later ↦ swing_clears w r v rows clears a later
  ],
  rw (swing w r v p) ahead,
)
  where
    not_below : (a : ℤ) → a ≡ pos 0 → pos 0 ≤ℤ a
    not_below a e = omega (arith, ints, e)

-- ---- the lemma

-- with no rows, the target itself is ahead, or it is zero
no_rows : (P : Vector → Type 0) → P nowhere → (p : Vector) → Cleared [] p ⊎ Against P p
no_rows P none p =
    by_lt_z (pos 0) (dot_of p p)
    (λ above. inl (p, λ r among. absurd among, above))
    (λ under.
    let x = square_not_negative p.x in
    let y = square_not_negative p.y in
    let z = square_not_negative p.z in
    inr (
      nowhere,
      pos 1,
      none,
      record {
        above = omega (arith, ints);
        x = zero_target p.x (square_zero p.x (omega (arith, ints, under, x, y, z)));
        y = zero_target p.y (square_zero p.y (omega (arith, ints, under, x, y, z)));
        z = zero_target p.z (square_zero p.z (omega (arith, ints, under, x, y, z)));
      },
    ))
  where
    zero_target : (a : ℤ) → a ≡ pos 0 → pos 0 ≡ neg_ℤ (pos 1 *ℤ a)
    zero_target a e = rw e refl

-- a row in front of rows that a vector clears
row_in_front : (P : Vector → Type 0) → IsClosed P → (n : ℕ) (rows : List Vector) (r p : Vector) → length rows ≤ n → P r → ((a : Vector) → Among rows a → P a)
    → ((levels : List Vector) → length levels ≤ n → ((a : Vector) → Among levels a → P a) → (q : Vector) → Cleared levels q ⊎ Against P q)
    → Cleared rows p → Cleared (r ∷ rows) p ⊎ Against P p
row_in_front P closed n rows r p fits has all solve (w, clears, ahead) =
    by_lt_z (dot_of w r) (pos 0)
    (λ below. elim (solve (levelled w r rows) (omega (arith, length-levelled w r rows)) (level_keeps P closed w r below has rows clears all) (level_with w r p)) [
      | inl cleared ↦ inl (cleared_before w r p rows cleared)
      | inr against ↦ inr (against_before P closed w r p below ahead has against)
    ])
    (λ over. inl (
      w,
      λ a among. elim among [
        | inl here ↦ subst (λ u. pos 0 ≤ℤ dot_of w u) here over
        | inr later ↦ clears a later
      ],
      ahead,
    ))

pub cleared_or_against : (P : Vector → Type 0) → IsClosed P → P nowhere → (n : ℕ) (rows : List Vector) → length rows ≤ n → ((a : Vector) → Among rows a → P a) → (p : Vector) → Cleared rows p ⊎ Against P p
cleared_or_against P closed none n [] fits all p = no_rows P none p
cleared_or_against P closed none zero (r ∷ rows) fits all p = absurd (omega arith)
cleared_or_against P closed none (suc n) (r ∷ rows) fits all p =
    elim (cleared_or_against P closed none n rows (omega arith) (λ a among. all a (inr among)) p) [
      | inl cleared ↦ row_in_front P closed n rows r p (omega arith) (all r (inl refl)) (λ a among. all a (inr among)) (cleared_or_against P closed none n) cleared
      | inr against ↦ inr against
    ]
