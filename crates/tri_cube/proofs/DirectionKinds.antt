-- Where a triangle is before a box in some direction, it is so in one of a kind: along an axis, across an edge and an axis, or across all edges.
use Rattle.std.proofs.Common.{◌≡◌, List, [], ◌∷◌, inl, inr, refl, subst, arith, sym, ◌∙◌, ℤ, pos, negsuc, ◌-ℤ◌, ◌*ℤ◌, neg_ℤ, ◌≤ℤ◌, ◌<ℤ◌}
use Rattle.std.proofs.lemmas.Int.{ints, by_lt_z}
use lib.Signed.{≤ℤ_refl}
use Rattle.svo_base.specs.declared.shapes.Vector.{Vector}
use Rattle.octree_specs.specs.Vectors.{vector, dot_of, cross_of}
use Rattle.octree_specs.proofs.Integers.{product_at_most, neg_ℤ-*ℤ}
use Rattle.octree_specs.proofs.SignedTerms.{the, plus, minus, times, same}
use Rattle.octree_specs.proofs.Vectors.{IsZero, IsNonzero, dot_of-zero, opposite_nonzero, cross_of-turned, cross_of-same}
use Rattle.octree_specs.proofs.Cones.{Among, Clears}
use Rattle.tri_cube.proofs.Directions.{IsIn, IsBefore, Each, each_among}
use Rattle.tri_cube.proofs.Turns.{IsKept, IsPointed, dot_commutes, sharpened}

-- the lower planes are not above the upper ones
pub record IsBox (lo hi : Vector) : Type 0 where
  pub x : lo.x ≤ℤ hi.x
  pub y : lo.y ≤ℤ hi.y
  pub z : lo.z ≤ℤ hi.z

-- ---- the plane of a box that a direction meets first, axis by axis

-- `sign` is 1 or -1, and what goes the same way as the direction meets no part of the box before `plane`
record IsFacing (n lo hi sign plane : ℤ) : Type 0 where
  along : pos 0 ≤ℤ (n *ℤ sign)
  low : lo ≤ℤ plane
  high : plane ≤ℤ hi
  leaves : (m x : ℤ) → pos 0 ≤ℤ (m *ℤ sign) → lo ≤ℤ x → x ≤ℤ hi → (m *ℤ plane) ≤ℤ (m *ℤ x)
  none : (m : ℤ) → m *ℤ sign ≡ pos 0 → m ≡ pos 0

facing : (n lo hi : ℤ) → lo ≤ℤ hi → (sign : ℤ) × (plane : ℤ) × IsFacing n lo hi sign plane
facing n lo hi in_order =
    by_lt_z n (pos 0)
    (λ below. (
      negsuc 0,
      hi,
      record {
        along = omega (arith, ints, below);
        low = in_order;
        high = ≤ℤ_refl hi;
        leaves = λ m x same_way over under. omega (arith, ints, product_at_most (neg_ℤ m) x hi (omega (arith, ints, same_way)) under, neg_ℤ-*ℤ m x, neg_ℤ-*ℤ m hi);
        none = λ m level. omega (arith, ints, level);
      },
    ))
    (λ over. (
      pos 1,
      lo,
      record {
        along = omega (arith, ints, over);
        low = ≤ℤ_refl lo;
        high = in_order;
        leaves = λ m x same_way above under. product_at_most m lo x (omega (arith, ints, same_way)) above;
        none = λ m level. omega (arith, ints, level);
      },
    ))

record Faces (n lo hi sign plane : Vector) : Type 0 where
  x : IsFacing n.x lo.x hi.x sign.x plane.x
  y : IsFacing n.y lo.y hi.y sign.y plane.y
  z : IsFacing n.z lo.z hi.z sign.z plane.z

faces : (n lo hi : Vector) → IsBox lo hi → (sign : Vector) × (plane : Vector) × Faces n lo hi sign plane
faces n lo hi is =
    let (sx, px, x) = facing n.x lo.x hi.x is.x in
    let (sy, py, y) = facing n.y lo.y hi.y is.y in
    let (sz, pz, z) = facing n.z lo.z hi.z is.z in
    (vector sx sy sz, vector px py pz, record { x = x; y = y; z = z })

plane_in : (n lo hi sign plane : Vector) → Faces n lo hi sign plane → IsIn lo hi plane
plane_in n lo hi sign plane is =
    record { low_x = is.x.low; high_x = is.x.high; low_y = is.y.low; high_y = is.y.high; low_z = is.z.low; high_z = is.z.high }

-- ---- five rows: the same planes are met first, and the same corner is the farthest

abbrev pub minus_of : Vector → Vector → Vector
minus_of a b = vector (a.x -ℤ b.x) (a.y -ℤ b.y) (a.z -ℤ b.z)

pub dot_of-minus_of : (m a b : Vector) → dot_of m (minus_of a b) ≡ dot_of m a -ℤ dot_of m b
dot_of-minus_of m a b =
    same
    (plus (plus (times (the m.x) (minus (the a.x) (the b.x))) (times (the m.y) (minus (the a.y) (the b.y)))) (times (the m.z) (minus (the a.z) (the b.z))))
    (minus (plus (plus (times (the m.x) (the a.x)) (times (the m.y) (the a.y))) (times (the m.z) (the a.z))) (plus (plus (times (the m.x) (the b.x)) (times (the m.y) (the b.y))) (times (the m.z) (the b.z))))
    (omega arith)

abbrev sign_x : Vector → Vector
sign_x sign = vector sign.x (pos 0) (pos 0)

abbrev sign_y : Vector → Vector
sign_y sign = vector (pos 0) sign.y (pos 0)

abbrev sign_z : Vector → Vector
sign_z sign = vector (pos 0) (pos 0) sign.z

abbrev five_rows : Vector → Vector → Vector → List Vector
five_rows sign d e = sign_x sign ∷ sign_y sign ∷ sign_z sign ∷ d ∷ e ∷ []

-- what it is to clear the five rows
record ClearsFive (sign p q r m : Vector) : Type 0 where
  x : pos 0 ≤ℤ (m.x *ℤ sign.x)
  y : pos 0 ≤ℤ (m.y *ℤ sign.y)
  z : pos 0 ≤ℤ (m.z *ℤ sign.z)
  first : dot_of m q ≤ℤ dot_of m p
  second : dot_of m r ≤ℤ dot_of m p

five_says : (sign p q r m : Vector) → Clears (five_rows sign (minus_of p q) (minus_of p r)) m → ClearsFive sign p q r m
five_says sign p q r m clears = record {
  x = omega (arith, ints, clears (sign_x sign) (inl refl));
  y = omega (arith, ints, clears (sign_y sign) (inr (inl refl)));
  z = omega (arith, ints, clears (sign_z sign) (inr (inr (inl refl))));
  first = omega (arith, ints, clears (minus_of p q) (inr (inr (inr (inl refl)))), dot_of-minus_of m p q);
  second = omega (arith, ints, clears (minus_of p r) (inr (inr (inr (inr (inl refl))))), dot_of-minus_of m p r);
}

five_from : (sign p q r m : Vector) → ClearsFive sign p q r m → Clears (five_rows sign (minus_of p q) (minus_of p r)) m
five_from sign p q r m is =
    each_among (λ row. pos 0 ≤ℤ dot_of m row) (five_rows sign (minus_of p q) (minus_of p r)) (
      omega (arith, ints, is.x),
      (
        omega (arith, ints, is.y),
        (
          omega (arith, ints, is.z),
          (omega (arith, ints, is.first, dot_of-minus_of m p q), (omega (arith, ints, is.second, dot_of-minus_of m p r), tt)),
        ),
      ),
    )

-- a direction that clears them is ahead on the signs
pointed : (n lo hi sign plane p q r : Vector) → Faces n lo hi sign plane → IsPointed (five_rows sign (minus_of p q) (minus_of p r)) sign
pointed n lo hi sign plane p q r is = record {
  ahead = λ m some clears.
      let five = five_says sign p q r m clears in
      by_lt_z (pos 0) (dot_of m sign) (λ above. above)
      (λ under. absurd (some (record {
        x = is.x.none m.x (omega (arith, ints, under, five.x, five.y, five.z));
        y = is.y.none m.y (omega (arith, ints, under, five.x, five.y, five.z));
        z = is.z.none m.z (omega (arith, ints, under, five.x, five.y, five.z));
      })));
}

-- and is before the box, where the farthest corner is before the plane
still_before : (n lo hi sign plane p q r m : Vector) → Faces n lo hi sign plane → ClearsFive sign p q r m → dot_of m (minus_of p plane) <ℤ pos 0 → IsBefore lo hi p q r m
still_before n lo hi sign plane p q r m is five behind = record {
  first = record { behind = λ x in_box. corner_behind p x in_box (≤ℤ_refl (dot_of m p)) };
  second = record { behind = λ x in_box. corner_behind q x in_box five.first };
  third = record { behind = λ x in_box. corner_behind r x in_box five.second };
}
  where
    corner_behind : (v x : Vector) → IsIn lo hi x → dot_of m v ≤ℤ dot_of m p → dot_of m v <ℤ dot_of m x
    corner_behind v x in_box most =
        omega (
          arith,
          ints,
          most,
          behind,
          dot_of-minus_of m p plane,
          is.x.leaves m.x x.x five.x in_box.low_x in_box.high_x,
          is.y.leaves m.y x.y five.y in_box.low_y in_box.high_y,
          is.z.leaves m.z x.z five.z in_box.low_z in_box.high_z,
        )

-- ---- kinds of directions

-- the axes in turn
abbrev pub turned : Vector → Vector
turned v = vector v.y v.z v.x

-- seen along x, the direction is across the edge from p to q, and r is not farther
pub record IsSide (p q r m : Vector) : Type 0 where
  pub across : m.x ≡ pos 0
  pub level : dot_of m p ≡ dot_of m q
  pub most : dot_of m r ≤ℤ dot_of m p
  pub seen : p.y ≡ q.y → p.z ≡ q.z → ⊥

pub data Sides (p q r m : Vector) : Type 0 where
  on_first : IsSide p q r m → Sides p q r m
  on_second : IsSide q r p m → Sides p q r m
  on_third : IsSide r p q m → Sides p q r m

-- the direction is across all edges, of a triangle that is not flat
pub record IsAcross (p q r m : Vector) : Type 0 where
  pub first : dot_of m p ≡ dot_of m q
  pub second : dot_of m p ≡ dot_of m r
  pub differ : IsNonzero (cross_of (minus_of p q) (minus_of p r))

pub data Kind (p q r m : Vector) : Type 0 where
  along_x : m.y ≡ pos 0 → m.z ≡ pos 0 → Kind p q r m
  along_y : m.z ≡ pos 0 → m.x ≡ pos 0 → Kind p q r m
  along_z : m.x ≡ pos 0 → m.y ≡ pos 0 → Kind p q r m
  side_x : Sides p q r m → Kind p q r m
  side_y : Sides (turned p) (turned q) (turned r) (turned m) → Kind p q r m
  side_z : Sides (turned (turned p)) (turned (turned q)) (turned (turned r)) (turned (turned m)) → Kind p q r m
  across_all : IsAcross p q r m → Kind p q r m

-- ---- each pair of rows

-- a relation on each two rows of a list, the earlier one first
abbrev Pairs : (Vector → Vector → Type 0) → List Vector → Type 0
Pairs R [] = Unit {0}
Pairs R (x ∷ rows) = Each (R x) rows × Pairs R rows

-- one order stands for both
each_pair : (R : Vector → Vector → Type 0) → ((a : Vector) → R a a) → ((a b : Vector) → R a b → R b a) → (rows : List Vector) → Pairs R rows
    → (a b : Vector) → Among rows a → Among rows b → R a b
each_pair R alike swap [] pairs a b first second = absurd first
each_pair R alike swap (x ∷ rows) pairs a b first second = elim first [
  | inl a_here ↦ elim second [
    | inl b_here ↦ subst (λ v. R v b) a_here (subst (λ v. R x v) b_here (alike x))
    | inr b_later ↦ subst (λ v. R v b) a_here (each_among (R x) rows pairs.0 b b_later)
  ]
  | inr a_later ↦ elim second [
    | inl b_here ↦ subst (λ v. R a v) b_here (swap x a (each_among (R x) rows pairs.0 a a_later))
    | inr b_later ↦ each_pair R alike swap rows pairs.1 a b a_later b_later
  ]
]

-- the direction m has a kind if it is across two rows that are not on one line
abbrev GivesKind : (p q r m a b : Vector) → Type 0
GivesKind p q r m a b = IsNonzero (cross_of a b) → dot_of m a ≡ pos 0 → dot_of m b ≡ pos 0 → Kind p q r m

-- ---- what a row says that is across the direction

dot_of-turned : (a b : Vector) → dot_of (turned a) (turned b) ≡ dot_of a b
dot_of-turned a b = omega (arith, ints)

no_product : (s a b : ℤ) → a ≡ b → s *ℤ (a -ℤ b) ≡ pos 0
no_product s a b e =
    let none : (a -ℤ b) ≡ pos 0 = omega (arith, ints, e) in rw none (omega (arith, ints))

module _ (sign p q : Vector) where
  -- an edge that is seen along an axis, since it is not along that axis
  seen_x : IsNonzero (cross_of (sign_x sign) (minus_of p q)) → p.y ≡ q.y → p.z ≡ q.z → ⊥
  seen_x differ e f =
      differ (record {
        x = omega (arith, ints);
        y = omega (arith, ints, no_product sign.x p.z q.z f);
        z = omega (arith, ints, no_product sign.x p.y q.y e);
      })

  seen_y : IsNonzero (cross_of (sign_y sign) (minus_of p q)) → p.z ≡ q.z → p.x ≡ q.x → ⊥
  seen_y differ e f =
      differ (record {
        x = omega (arith, ints, no_product sign.y p.z q.z e);
        y = omega (arith, ints);
        z = omega (arith, ints, no_product sign.y p.x q.x f);
      })

  seen_z : IsNonzero (cross_of (sign_z sign) (minus_of p q)) → p.x ≡ q.x → p.y ≡ q.y → ⊥
  seen_z differ e f =
      differ (record {
        x = omega (arith, ints, no_product sign.z p.y q.y f);
        y = omega (arith, ints, no_product sign.z p.x q.x e);
        z = omega (arith, ints);
      })

turn_side : (p q r m : Vector) → m.y ≡ pos 0 → dot_of m p ≡ dot_of m q → dot_of m r ≤ℤ dot_of m p → (p.z ≡ q.z → p.x ≡ q.x → ⊥) → IsSide (turned p) (turned q) (turned r) (turned m)
turn_side p q r m across level most seen = record {
  across = across;
  level = rw (dot_of-turned m p, dot_of-turned m q) level;
  most = rw (dot_of-turned m p, dot_of-turned m r) most;
  seen = seen;
}

module _ (sign p q r m : Vector) (none_x : (k : ℤ) → k *ℤ sign.x ≡ pos 0 → k ≡ pos 0) (none_y : (k : ℤ) → k *ℤ sign.y ≡ pos 0 → k ≡ pos 0) (none_z : (k : ℤ) → k *ℤ sign.z ≡ pos 0 → k ≡ pos 0) (five : ClearsFive sign p q r m) where
  level_x : dot_of m (sign_x sign) ≡ pos 0 → m.x ≡ pos 0
  level_x level = none_x m.x (omega (arith, ints, level))

  level_y : dot_of m (sign_y sign) ≡ pos 0 → m.y ≡ pos 0
  level_y level = none_y m.y (omega (arith, ints, level))

  level_z : dot_of m (sign_z sign) ≡ pos 0 → m.z ≡ pos 0
  level_z level = none_z m.z (omega (arith, ints, level))

  level_edge : (o : Vector) → dot_of m (minus_of p o) ≡ pos 0 → dot_of m p ≡ dot_of m o
  level_edge o level = omega (arith, ints, level, dot_of-minus_of m p o)

  -- the edge from p to q, and that from r to p, seen along each axis
  pairs : Pairs (GivesKind p q r m) (five_rows sign (minus_of p q) (minus_of p r))
  pairs = (
    (
      λ differ a b. along_z (level_x a) (level_y b),
      (
        λ differ a b. along_y (level_z b) (level_x a),
        (
          λ differ a b. side_x (on_first (record { across = level_x a; level = level_edge q b; most = five.second; seen = seen_x sign p q differ })),
          (λ differ a b. side_x (on_third (back (record { across = level_x a; level = level_edge r b; most = five.first; seen = seen_x sign p r differ }))), tt),
        ),
      ),
    ),
    (
      (
        λ differ a b. along_x (level_y a) (level_z b),
        (
          λ differ a b. side_y (on_first (turn_side p q r m (level_y a) (level_edge q b) five.second (seen_y sign p q differ))),
          (λ differ a b. side_y (on_third (back (turn_side p r q m (level_y a) (level_edge r b) five.first (seen_y sign p r differ)))), tt),
        ),
      ),
      (
        (
          λ differ a b. side_z (on_first (twice p q r (level_z a) (level_edge q b) five.second (seen_z sign p q differ))),
          (λ differ a b. side_z (on_third (back (twice p r q (level_z a) (level_edge r b) five.first (seen_z sign p r differ)))), tt),
        ),
        ((λ differ a b. across_all (record { first = level_edge q a; second = level_edge r b; differ = differ }), tt), (tt, tt)),
      ),
    ),
  )
    where
      -- the same edge the other way round
      back : {u v w k : Vector} → IsSide u v w k → IsSide v u w k
      back {u} {v} {w} {k} is = record {
        across = is.across;
        level = sym is.level;
        most = subst (λ n. dot_of k w ≤ℤ n) is.level is.most;
        seen = λ e f. is.seen (sym e) (sym f);
      }

      twice : (u v w : Vector) → m.z ≡ pos 0 → dot_of m u ≡ dot_of m v → dot_of m w ≤ℤ dot_of m u → (u.x ≡ v.x → u.y ≡ v.y → ⊥) → IsSide (turned (turned u)) (turned (turned v)) (turned (turned w)) (turned (turned m))
      twice u v w across level most seen =
          turn_side (turned u) (turned v) (turned w) (turned m) across
          (rw (dot_of-turned m u, dot_of-turned m v) level) (rw (dot_of-turned m u, dot_of-turned m w) most) seen

  kind_of : (a b : Vector) → Among (five_rows sign (minus_of p q) (minus_of p r)) a → Among (five_rows sign (minus_of p q) (minus_of p r)) b → GivesKind p q r m a b
  kind_of a b =
      each_pair (GivesKind p q r m)
      (λ v differ first second. absurd (differ (cross_of-same v)))
      (λ v w kind differ first second. kind (swapped v w differ) second first)
      (five_rows sign (minus_of p q) (minus_of p r)) pairs a b
    where
      swapped : (v w : Vector) → IsNonzero (cross_of w v) → IsNonzero (cross_of v w)
      swapped v w differ none = opposite_nonzero (cross_of w v) differ (subst IsZero (cross_of-turned w v) none)

-- ---- near the direction there is one of a kind

-- a direction of some kind, before the box
pub record HasKind (lo hi a b c m : Vector) : Type 0 where
  pub before : IsBefore lo hi a b c m
  pub some : IsNonzero m
  pub kind : Kind a b c m

is_nonzero : (lo hi p q r n : Vector) → IsBox lo hi → IsBefore lo hi p q r n → IsNonzero n
is_nonzero lo hi p q r n is_box before none =
    let in_box : IsIn lo hi lo = record { low_x = ≤ℤ_refl lo.x; high_x = is_box.x; low_y = ≤ℤ_refl lo.y; high_y = is_box.y; low_z = ≤ℤ_refl lo.z; high_z = is_box.z } in
    clash (dot_of n p) (dot_of n lo) (before.first.behind lo in_box) (dot_commutes n p ∙ dot_of-zero p n none) (dot_commutes n lo ∙ dot_of-zero lo n none)
  where
    clash : (a b : ℤ) → a <ℤ b → a ≡ pos 0 → b ≡ pos 0 → ⊥
    clash a b less e f = omega (arith, ints, less, e, f)

near_farthest : (lo hi p q r n : Vector) → IsBox lo hi → IsBefore lo hi p q r n → dot_of n q ≤ℤ dot_of n p → dot_of n r ≤ℤ dot_of n p → (m : Vector) × HasKind lo hi p q r m
near_farthest lo hi p q r n is_box before first second =
    let (sign, plane, is) = faces n lo hi is_box in
    let five : ClearsFive sign p q r n = record { x = is.x.along; y = is.y.along; z = is.z.along; first = first; second = second } in
    let behind : dot_of n (minus_of p plane) <ℤ pos 0 = less (dot_of n p) (dot_of n plane) _ (before.first.behind plane (plane_in n lo hi sign plane is)) (dot_of-minus_of n p plane) in
    let kept : IsKept (five_rows sign (minus_of p q) (minus_of p r)) (minus_of p plane) n = record { some = is_nonzero lo hi p q r n is_box before; clears = five_from sign p q r n five; behind = behind } in
    let (m, a, b, sharp) = sharpened (five_rows sign (minus_of p q) (minus_of p r)) (minus_of p plane) sign n (pointed n lo hi sign plane p q r is)
    (λ none. one_is_not (is.x.none (pos 1) (rw none.x (omega (arith, ints))))) (λ none. one_is_not (is.z.none (pos 1) (omega (arith, ints, none.y)))) kept in
    let after = five_says sign p q r m sharp.kept.clears in (
      m,
      record {
        before = still_before n lo hi sign plane p q r m is after sharp.kept.behind;
        some = sharp.kept.some;
        kind = kind_of sign p q r m is.x.none is.y.none is.z.none after a b sharp.first sharp.second sharp.differ sharp.first_level sharp.second_level;
      },
    )
  where
    less : (a b d : ℤ) → a <ℤ b → d ≡ a -ℤ b → d <ℤ pos 0
    less a b d h e = omega (arith, ints, h, e)

    one_is_not : pos 1 ≡ pos 0 → ⊥
    one_is_not e = omega (arith, ints, e)

-- ---- the corners in turn

pub before_turned : (lo hi a b c n : Vector) → IsBefore lo hi a b c n → IsBefore lo hi b c a n
before_turned lo hi a b c n is = record { first = is.second; second = is.third; third = is.first }

sides_turned : (a b c m : Vector) → Sides a b c m → Sides b c a m
sides_turned a b c m (on_first is) = on_third is
sides_turned a b c m (on_second is) = on_first is
sides_turned a b c m (on_third is) = on_second is

-- one number of the cross product of two edges is that of the next two
pub area_turned : (ap aq bp bq cp cq : ℤ) →
    (((ap -ℤ bp) *ℤ (aq -ℤ cq)) -ℤ ((aq -ℤ bq) *ℤ (ap -ℤ cp))) ≡ ((bp -ℤ cp) *ℤ (bq -ℤ aq)) -ℤ ((bq -ℤ cq) *ℤ (bp -ℤ ap))
area_turned ap aq bp bq cp cq =
    same
    (minus (times (minus (the ap) (the bp)) (minus (the aq) (the cq))) (times (minus (the aq) (the bq)) (minus (the ap) (the cp))))
    (minus (times (minus (the bp) (the cp)) (minus (the bq) (the aq))) (times (minus (the bq) (the cq)) (minus (the bp) (the ap))))
    (omega arith)

across_turned : (a b c m : Vector) → IsAcross a b c m → IsAcross b c a m
across_turned a b c m is = record {
  first = sym is.first ∙ is.second;
  second = sym is.first;
  differ = λ none. is.differ (record {
    x = area_turned a.y a.z b.y b.z c.y c.z ∙ none.x;
    y = area_turned a.z a.x b.z b.x c.z c.x ∙ none.y;
    z = area_turned a.x a.y b.x b.y c.x c.y ∙ none.z;
  });
}

kind_turned : (a b c m : Vector) → Kind a b c m → Kind b c a m
kind_turned a b c m (along_x y z) = along_x y z
kind_turned a b c m (along_y z x) = along_y z x
kind_turned a b c m (along_z x y) = along_z x y
kind_turned a b c m (side_x is) = side_x (sides_turned a b c m is)
kind_turned a b c m (side_y is) = side_y (sides_turned (turned a) (turned b) (turned c) (turned m) is)
kind_turned a b c m (side_z is) =
    side_z (sides_turned (turned (turned a)) (turned (turned b)) (turned (turned c)) (turned (turned m)) is)
kind_turned a b c m (across_all is) = across_all (across_turned a b c m is)

turn_corners : (lo hi a b c m : Vector) → HasKind lo hi a b c m → HasKind lo hi b c a m
turn_corners lo hi a b c m is =
    record { before = before_turned lo hi a b c m is.before; some = is.some; kind = kind_turned a b c m is.kind }

-- a direction in which the triangle is before a box leads to one of a kind
pub direction_of_kind : (lo hi a b c n : Vector) → IsBox lo hi → IsBefore lo hi a b c n → (m : Vector) × HasKind lo hi a b c m
direction_of_kind lo hi a b c n is_box before =
    by_lt_z (dot_of n a) (dot_of n b)
    (λ a_less. by_lt_z (dot_of n b) (dot_of n c)
    (λ b_less. third (omega (arith, ints, a_less, b_less)) (omega (arith, ints, b_less)))
    (λ c_most. second c_most (omega (arith, ints, a_less))))
    (λ b_most. by_lt_z (dot_of n a) (dot_of n c)
    (λ a_less. third (omega (arith, ints, a_less)) (omega (arith, ints, a_less, b_most)))
    (λ c_most. near_farthest lo hi a b c n is_box before b_most c_most))
  where
    second : dot_of n c ≤ℤ dot_of n b → dot_of n a ≤ℤ dot_of n b → (m : Vector) × HasKind lo hi a b c m
    second c_most a_most =
        let (m, is) = near_farthest lo hi b c a n is_box (before_turned lo hi a b c n before) c_most a_most in
        (m, turn_corners lo hi c a b m (turn_corners lo hi b c a m is))

    third : dot_of n a ≤ℤ dot_of n c → dot_of n b ≤ℤ dot_of n c → (m : Vector) × HasKind lo hi a b c m
    third a_most b_most =
        let (m, is) = near_farthest lo hi c a b n is_box (before_turned lo hi b c a n (before_turned lo hi a b c n before)) a_most b_most in
        (m, turn_corners lo hi c a b m is)
