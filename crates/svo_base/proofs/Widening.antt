-- A box that is widened by one point more, and the cells that hold it.
use Rattle.std.proofs.Common.{◌≡◌, ℕ, zero, suc, ◌^◌, ◌+◌, ◌*◌, ◌/◌, ◌%◌, ◌<◌, ◌≤◌, min, max, Bool, true, false, ℤ, List, [], ◌∷◌, ◌++◌, map, All, rules, w32, arith}
use Rattle.std.specs.Int.{int_min, int_max}
use Rattle.std.specs.Prelude.{◌≤ℤ◌, int_lt, cond, unsigned_abs, Option, None, Some}
use Rattle.std.specs.List.{Contains}
use Rattle.std.proofs.lemmas.Int.{ints, clamps, fits_signed_from_abs}
use Rattle.std.proofs.lemmas.List.Elements.{All-push, All-weaker, All-map, All-contains, Contains-append_left, Contains-append_right}
use Rattle.std.proofs.lemmas.Grind.{div_ceil_times}
use Rattle.svo_base.specs.declared.grids.TheConstants.{MAX_DEPTH}
use Rattle.svo_base.specs.declared.boxes.Extent.{Extent}
use Rattle.svo_base.specs.declared.boxes.Bounds.{Bounds}
use Rattle.svo_base.specs.declared.shapes.Point.{Point}
use Rattle.svo_base.specs.Boxes.{IsExtentOf, IsBoxOf, IsPoint, IsNearPoint, IsNearExtent, IsNearBox}

last_of : (numbers : List ℤ) (z : ℤ) → Contains (numbers ++ z ∷ []) z
last_of numbers z = Contains-append_right numbers (z ∷ []) z (search rules)

-- the lesser and the greater of a number of the list and one more are numbers of the longer list
lesser_there : (numbers : List ℤ) (low z : ℤ) → Contains numbers low → Contains (numbers ++ z ∷ []) (int_min low z)
lesser_there numbers low z there = by (int_lt z low)
  where
    by : (t : Bool) → Contains (numbers ++ z ∷ []) (cond t z low)
    by true = last_of numbers z
    by false = Contains-append_left numbers (z ∷ []) low there

greater_there : (numbers : List ℤ) (high z : ℤ) → Contains numbers high → Contains (numbers ++ z ∷ []) (int_max high z)
greater_there numbers high z there = by (int_lt z high)
  where
    by : (t : Bool) → Contains (numbers ++ z ∷ []) (cond t high z)
    by true = Contains-append_left numbers (z ∷ []) high there
    by false = last_of numbers z

pub widened_extent : (numbers : List ℤ) (e new : Extent) (z : ℤ) → new.low ≡ int_min e.low z → new.high ≡ int_max e.high z → IsExtentOf numbers e → IsExtentOf (numbers ++ z ∷ []) new
widened_extent numbers e new z low high extent =
    record {
      inside = All-push (λ y. (new.low ≤ℤ y) × (y ≤ℤ new.high)) numbers z
          (All-weaker (λ y. (e.low ≤ℤ y) × (y ≤ℤ e.high)) (λ y. (new.low ≤ℤ y) × (y ≤ℤ new.high))
          (λ y between. (rw low (omega (arith, ints, clamps, between.0)), rw high (omega (arith, ints, clamps, between.1)))) numbers extent.inside)
          (rw low (omega (arith, ints, clamps)), rw high (omega (arith, ints, clamps)));
      least = rw low (lesser_there numbers e.low z extent.least);
      greatest = rw high (greater_there numbers e.high z extent.greatest);
    }

-- the least number of cells of one side that is not shorter than a width
pub least_side : (width side cell : ℕ) → 0 < side → 1 ≤ cell → width ≤ cell * side → max (width / side + min 1 (width % side)) 1 ≤ cell
least_side width side cell some one wide =
    let q = width / side + min 1 (width % side) in
    let times = div_ceil_times width side some in
    let short : q * side < cell * side + side = omega (arith, times.1, wide) in
    let less : q < cell + 1 = mul_less q (cell + 1) side (omega (arith, short)) in
    omega (arith, less, one)
  where
    mul_less : (a b n : ℕ) → a * n < b * n → a < b
    mul_less a b n less = grind (arith, less)

pub side_within : (width side : ℕ) → 0 < side → side ≤ 2 ^ MAX_DEPTH → width ≤ 2 ^ 31 → max (width / side + min 1 (width % side)) 1 * side ≤ 2 ^ 32
side_within width side some small short =
    let q = width / side + min 1 (width % side) in
    let times = div_ceil_times width side some in
    by q times.1
  where
    by : (q : ℕ) → q * side < width + side → max q 1 * side ≤ 2 ^ 32
    by zero less = omega (arith, small)
    by (suc k) less =
        let same : max (suc k) 1 ≡ suc k = omega arith in
        rw same (omega (arith, less, small, short))

-- ---- points near 0

pub near_point_fits : (p : Point) → IsNearPoint p → IsPoint p
near_point_fits p near =
    record {
      x = fits_signed_from_abs w32 p.x (omega (arith, near.0));
      y = fits_signed_from_abs w32 p.y (omega (arith, near.1));
      z = fits_signed_from_abs w32 p.z (omega (arith, near.2));
    }

near_extent : (at : Point → ℤ) (points : List Point) (e : Extent) → All (λ p. unsigned_abs (at p) ≤ 2 ^ 30) points → IsExtentOf (map at points) e → IsNearExtent e
near_extent at points e near extent =
    let numbers = All-map (λ z. unsigned_abs z ≤ 2 ^ 30) at points near in
    (All-contains (λ z. unsigned_abs z ≤ 2 ^ 30) (map at points) e.low numbers extent.least, All-contains (λ z. unsigned_abs z ≤ 2 ^ 30) (map at points) e.high numbers extent.greatest)

-- the box around points that are near 0 is near 0
pub near_box : (points : List Point) (bounds : Option Bounds) → All IsNearPoint points → IsBoxOf points bounds → IsNearBox bounds
near_box points None near is = tt
near_box points (Some b) near is = (
  near_extent (λ p. p.x) points b.x (All-weaker IsNearPoint (λ p. unsigned_abs p.x ≤ 2 ^ 30) (λ p n. n.0) points near) is.0,
  near_extent (λ p. p.y) points b.y (All-weaker IsNearPoint (λ p. unsigned_abs p.y ≤ 2 ^ 30) (λ p n. n.1) points near) is.1,
  near_extent (λ p. p.z) points b.z (All-weaker IsNearPoint (λ p. unsigned_abs p.z ≤ 2 ^ 30) (λ p n. n.2) points near) is.2,
)
