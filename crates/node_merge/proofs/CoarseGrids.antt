-- The grid of so many levels less.
use Rattle.std.proofs.Common.{◌≡◌, ℕ, ◌+◌, ◌-◌, ◌*◌, ◌%◌, ◌^◌, ◌<◌, ◌≤◌, true, List, [], ◌∷◌, Result, Ok, refl, sym, ap, subst, ◌∙◌, arith, ℤ, pos, lit<}
use Rattle.std.specs.Prelude.{All, unsigned_abs, nat_le}
use Rattle.std.specs.Result.{IsOk}
use Rattle.std.specs.Int.{w64, cast_signed, cast_unsigned}
use Rattle.std.specs.List.{list_all}
use Rattle.std.proofs.Math.Nat.{one-le-pow, mul-le-mul_left, mod-eq_of_lt}
use Rattle.std.proofs.lemmas.Bool.{le-leb}
use Rattle.std.proofs.lemmas.Int.{to_z-of_z, fits_signed_from_abs}
use Rattle.std.proofs.lemmas.List.Elements.{All-head, All-tail}
use Rattle.std.proofs.lemmas.Nat.{pow-add}
use Rattle.svo_base.specs.GridLimits.{is_within, grid_from}
use Rattle.svo_base.specs.GridShape.{GridShape, IsGrid}
use Rattle.svo_base.specs.declared.grids.GridFault.{GridFault}
use Rattle.svo_base.specs.declared.grids.TheConstants.{MAX_DEPTH}
use Rattle.node_merge.specs.Combined.{coarse_grid}

-- a whole number as it is passed on by value
abbrev through : ℤ → ℤ
through z = cast_signed w64 (cast_unsigned w64 z)

through_same : (z : ℤ) (n : ℕ) → z ≡ pos n → n ≤ 2 ^ 32 → through z ≡ pos n
through_same z n same few = ap through same ∙ to_z-of_z w64 (pos n) (fits_signed_from_abs w64 (pos n) (omega (arith, few)))

module _ (levels : ℕ) (grid : GridShape) (less : levels < grid.depth) (limits : IsGrid grid) where
  whole : grid.cell * 2 ^ levels * 2 ^ (grid.depth - levels) ≡ grid.cell * 2 ^ grid.depth
  whole =
      let parts : 2 ^ (levels + (grid.depth - levels)) ≡ 2 ^ levels * 2 ^ (grid.depth - levels) = pow-add 2 levels (grid.depth - levels) in
      let power : 2 ^ grid.depth ≡ 2 ^ levels * 2 ^ (grid.depth - levels) = ap (λ d. 2 ^ d) (omega (arith, less)) ∙ parts in
      omega (arith, ap (λ p. grid.cell * p) power)

  coarse_limits : IsGrid (coarse_grid levels grid)
  coarse_limits =
      let one : 1 ≤ 2 ^ levels = one-le-pow levels 2 (lit< tt) in
      let side : grid.cell * 1 ≤ grid.cell * 2 ^ levels = mul-le-mul_left grid.cell one in
      record {
        halved = omega (arith, less);
        shallow = omega (arith, limits.shallow);
        axes = limits.axes;
        near = limits.near;
        solid = omega (arith, side, limits.solid);
        narrow = omega (arith, whole, limits.narrow);
      }

  pub side_few : grid.cell * 2 ^ levels ≤ 2 ^ 32
  side_few =
      let one : 1 ≤ 2 ^ (grid.depth - levels) = one-le-pow (grid.depth - levels) 2 (lit< tt) in
      let wide : grid.cell * 2 ^ levels * 1 ≤ grid.cell * 2 ^ levels * 2 ^ (grid.depth - levels) = mul-le-mul_left (grid.cell * 2 ^ levels) one in
      omega (arith, wide, whole, limits.narrow)

  cell_few : grid.cell ≤ 2 ^ 32
  cell_few =
      let one : 1 ≤ 2 ^ levels = one-le-pow levels 2 (lit< tt) in
      let side : grid.cell * 1 ≤ grid.cell * 2 ^ levels = mul-le-mul_left grid.cell one in
      omega (arith, side, side_few)

  -- the side that was shifted
  pub side_is : (cell : ℤ) (size : ℕ) → cell ≡ pos grid.cell → size ≡ unsigned_abs (through cell) → size * 2 ^ levels % 2 ^ 64 ≡ grid.cell * 2 ^ levels
  side_is cell size passed is =
      let same : size ≡ grid.cell = is ∙ ap unsigned_abs (through_same cell grid.cell passed cell_few) in
      ap (λ n. n * 2 ^ levels % 2 ^ 64) same ∙ mod-eq_of_lt (omega (arith, side_few))

all_near : (origin : List ℤ) → All (λ o. unsigned_abs o ≤ 2 ^ 30) origin → list_all (is_within (2 ^ 30)) origin ≡ true
all_near [] near = refl
all_near (o ∷ rest) near =
    let first : is_within (2 ^ 30) o ≡ true = le-leb (unsigned_abs o) (2 ^ 30) (All-head (λ o. unsigned_abs o ≤ 2 ^ 30) o rest near) in
    rw first (all_near rest (All-tail (λ o. unsigned_abs o ≤ 2 ^ 30) o rest near))

-- the numbers of a grid make it
grid_made : (grid : GridShape) → IsGrid grid → grid_from (pos grid.depth) grid.origin (pos grid.cell) ≡ Ok grid
unfolding grid_from
grid_made grid limits =
    let deep : nat_le 1 grid.depth ≡ true = le-leb 1 grid.depth limits.halved in
    let shallow : nat_le grid.depth MAX_DEPTH ≡ true = le-leb grid.depth MAX_DEPTH limits.shallow in
    let near : list_all (is_within (2 ^ 30)) grid.origin ≡ true = all_near grid.origin limits.near in
    let solid : nat_le 1 grid.cell ≡ true = le-leb 1 grid.cell limits.solid in
    let narrow : nat_le (grid.cell * 2 ^ grid.depth) (2 ^ 32) ≡ true = le-leb (grid.cell * 2 ^ grid.depth) (2 ^ 32) limits.narrow in
    rw (deep, shallow, near, solid, narrow) refl

module _ (levels : ℕ) (grid : GridShape) (less : levels < grid.depth) (limits : IsGrid grid) where
  pub coarse_made : (depth side : ℤ) (origin : List ℤ) → depth ≡ pos (grid.depth - levels) → origin ≡ grid.origin → side ≡ pos (grid.cell * 2 ^ levels)
      → grid_from (through depth) origin (through side) ≡ Ok (coarse_grid levels grid)
  coarse_made depth side origin deep same wide =
      let deep_same : through depth ≡ pos (grid.depth - levels) = through_same depth (grid.depth - levels) deep (omega (arith, limits.shallow)) in
      let wide_same : through side ≡ pos (grid.cell * 2 ^ levels) = through_same side (grid.cell * 2 ^ levels) wide (side_few levels grid less limits) in
      (λ i. grid_from (deep_same i) (same i) (wide_same i)) ∙ grid_made (coarse_grid levels grid) (coarse_limits levels grid less limits)

pub ok_same : (result : Result GridShape GridFault) (a b : GridShape) → result ≡ Ok a → result ≡ Ok b → a ≡ b
ok_same result a b one other = let same : ◌≡◌ {A = Result GridShape GridFault} (Ok a) (Ok b) = sym one ∙ other in cc

pub is_made : (result : Result GridShape GridFault) (grid : GridShape) → result ≡ Ok grid → IsOk result
is_made result grid made = subst IsOk (sym made) refl
