-- Whatever is counted of the parts in a box of parts is counted of the reached parts, each once.
use Rattle.std.proofs.Common.{◌≡◌, ◌≤◌, ◌<◌, ◌+◌, ◌-◌, ◌*◌, ◌/◌, ◌^◌, ℕ, zero, suc, Bool, true, false, cond, min, [], ◌∷◌, filter, inl, inr, refl, arith, sym, ap, ◌∙◌}
use Rattle.std.specs.List.{sum_by, range_with_len}
use Rattle.std.proofs.Math.Nat.{pow-suc, zero-add}
use Rattle.std.proofs.lemmas.List.Elements.{filter-append}
use Rattle.std.proofs.lemmas.Bool.Decides.{leb_tells}
use Rattle.std.proofs.lemmas.List.Sums.{sum_by-append}
use Rattle.octree_specs.specs.NodeCube.{code_of}
use Rattle.tri_partition.specs.declared.part_ranges.PartRange.{PartRange}
use Rattle.tri_partition.specs.PartRanges.{in_range, parts_in}
use Rattle.tri_partition.proofs.SpilledRuns.{range_more}

-- ---- sums over all numbers below one

unfoldable pub total : (ℕ → ℕ) → ℕ → ℕ
total f zero = 0
total f (suc n) = total f n + f n

pub total_same : (f g : ℕ → ℕ) (n : ℕ) → ((k : ℕ) → k < n → f k ≡ g k) → total f n ≡ total g n
unfolding total
total_same f g zero same = refl
total_same f g (suc n) same =
    let before : total f n ≡ total g n = total_same f g n (λ k within. same k (omega (arith, within))) in
    let here : f n ≡ g n = same n (omega arith) in
    omega (arith, before, here)

total_add : (f g : ℕ → ℕ) (n : ℕ) → total (λ k. f k + g k) n ≡ total f n + total g n
unfolding total
total_add f g zero = refl
total_add f g (suc n) = omega (arith, total_add f g n)

pub total_cond : (b : Bool) (f : ℕ → ℕ) (n : ℕ) → total (λ k. cond b (f k) 0) n ≡ cond b (total f n) 0
unfolding total
total_cond true f n = refl
total_cond false f zero = refl
total_cond false f (suc n) = omega (arith, total_cond false f n)

total_double : (f : ℕ → ℕ) (n : ℕ) → total f (2 * n) ≡ total (λ k. f (2 * k) + f (2 * k + 1)) n
unfolding total
total_double f zero = refl
total_double f (suc n) =
    let two : 2 * suc n ≡ suc (suc (2 * n)) = omega arith in
    let one : suc (2 * n) ≡ 2 * n + 1 = omega arith in
    let last : f (suc (2 * n)) ≡ f (2 * n + 1) = ap f one in
    ap (total f) two ∙ omega (arith, total_double f n, last)

octet : (ℕ → ℕ) → ℕ → ℕ
octet f q = ((f (8 * q + 0) + f (8 * q + 1)) + (f (8 * q + 2) + f (8 * q + 3))) + ((f (8 * q + 4) + f (8 * q + 5)) + (f (8 * q + 6) + f (8 * q + 7)))

total_octets : (f : ℕ → ℕ) (n : ℕ) → total f (8 * n) ≡ total (octet f) n
unfolding total octet
total_octets f zero = refl
total_octets f (suc n) =
    let eight : 8 * suc n ≡ suc (suc (suc (suc (suc (suc (suc (suc (8 * n)))))))) = omega arith in
    let next : (a b : ℕ) → a ≡ b → f a ≡ f b = λ a b same. ap f same in
    ap (total f) eight
    ∙ omega (
      arith,
      total_octets f n,
      next (8 * n) (8 * n + 0) (omega arith),
      next (suc (8 * n)) (8 * n + 1) (omega arith),
      next (suc (suc (8 * n))) (8 * n + 2) (omega arith),
      next (suc (suc (suc (8 * n)))) (8 * n + 3) (omega arith),
      next (suc (suc (suc (suc (8 * n))))) (8 * n + 4) (omega arith),
      next (suc (suc (suc (suc (suc (8 * n)))))) (8 * n + 5) (omega arith),
      next (suc (suc (suc (suc (suc (suc (8 * n))))))) (8 * n + 6) (omega arith),
      next (suc (suc (suc (suc (suc (suc (suc (8 * n)))))))) (8 * n + 7) (omega arith),
    )

-- ---- sums over the places of a cube of so many along each axis

unfoldable pub cube_total : (ℕ → ℕ → ℕ → ℕ) → ℕ → ℕ
cube_total h n = total (λ z. total (λ y. total (λ x. h z y x) n) n) n

pub cube_same : (g h : ℕ → ℕ → ℕ → ℕ) (n : ℕ) → ((z y x : ℕ) → z < n → y < n → x < n → g z y x ≡ h z y x) → cube_total g n ≡ cube_total h n
unfolding cube_total
cube_same g h n same =
    total_same (λ z. total (λ y. total (λ x. g z y x) n) n) (λ z. total (λ y. total (λ x. h z y x) n) n) n
    (λ z z_in. total_same (λ y. total (λ x. g z y x) n) (λ y. total (λ x. h z y x) n) n
    (λ y y_in. total_same (λ x. g z y x) (λ x. h z y x) n (λ x x_in. same z y x z_in y_in x_in)))

-- the two places of a row, four of a layer and eight of a cube whose halves are these
pair : (ℕ → ℕ) → ℕ → ℕ
pair h x = h (2 * x) + h (2 * x + 1)

square : (ℕ → ℕ → ℕ) → ℕ → ℕ → ℕ
square h y x = pair (h (2 * y)) x + pair (h (2 * y + 1)) x

block : (ℕ → ℕ → ℕ → ℕ) → ℕ → ℕ → ℕ → ℕ
block h z y x = square (h (2 * z)) y x + square (h (2 * z + 1)) y x

row_double : (h : ℕ → ℕ) (n : ℕ) → total h (2 * n) ≡ total (pair h) n
unfolding pair
row_double h n = total_double h n

layer_double : (h : ℕ → ℕ → ℕ) (n : ℕ) → total (λ y. total (h y) (2 * n)) (2 * n) ≡ total (λ y. total (square h y) n) n
unfolding square
layer_double h n =
    total_double (λ y. total (h y) (2 * n)) n
    ∙ total_same (λ y. total (h (2 * y)) (2 * n) + total (h (2 * y + 1)) (2 * n)) (λ y. total (λ x. pair (h (2 * y)) x + pair (h (2 * y + 1)) x) n) n
    (λ y within. joined y)
  where
    joined : (y : ℕ) → total (h (2 * y)) (2 * n) + total (h (2 * y + 1)) (2 * n) ≡ total (λ x. pair (h (2 * y)) x + pair (h (2 * y + 1)) x) n
    joined y =
        let low = row_double (h (2 * y)) n in
        let high = row_double (h (2 * y + 1)) n in
        let both = total_add (pair (h (2 * y))) (pair (h (2 * y + 1))) n in
        omega (arith, low, high, both)

cube_double : (h : ℕ → ℕ → ℕ → ℕ) (n : ℕ) → cube_total h (2 * n) ≡ cube_total (block h) n
unfolding cube_total block
cube_double h n =
    total_double (λ z. total (λ y. total (h z y) (2 * n)) (2 * n)) n
    ∙ total_same (λ z. layers (2 * z) + layers (2 * z + 1)) (λ z. total (λ y. total (λ x. square (h (2 * z)) y x + square (h (2 * z + 1)) y x) n) n) n
    (λ z within. joined z)
  where
    layers : ℕ → ℕ
    layers z = total (λ y. total (h z y) (2 * n)) (2 * n)

    joined : (z : ℕ) → layers (2 * z) + layers (2 * z + 1) ≡ total (λ y. total (λ x. square (h (2 * z)) y x + square (h (2 * z + 1)) y x) n) n
    joined z =
        let low = layer_double (h (2 * z)) n in
        let high = layer_double (h (2 * z + 1)) n in
        let both = total_add (λ y. total (square (h (2 * z)) y) n) (λ y. total (square (h (2 * z + 1)) y) n) n in
        let rows = total_same (λ y. total (λ x. square (h (2 * z)) y x + square (h (2 * z + 1)) y x) n) (λ y. total (square (h (2 * z)) y) n + total (square (h (2 * z + 1)) y) n) n
        (λ y within. total_add (square (h (2 * z)) y) (square (h (2 * z + 1)) y) n) in
        omega (arith, low, high, both, rows)

-- ---- each code of so many digits has its place, once

child_code : (digits x y z i j k : ℕ) → i < 2 → j < 2 → k < 2 → code_of (suc digits) (2 * x + i) (2 * y + j) (2 * z + k) ≡ 8 * code_of digits x y z + (i + 2 * j + 4 * k)
unfolding code_of
child_code digits x y z i j k a b c =
    let x_half : (2 * x + i) / 2 ≡ x = omega (arith, a) in
    let y_half : (2 * y + j) / 2 ≡ y = omega (arith, b) in
    let z_half : (2 * z + k) / 2 ≡ z = omega (arith, c) in
    rw (x_half, y_half, z_half) (omega (arith, a, b, c))

octet_block : (g : ℕ → ℕ) (digits z y x : ℕ) → octet g (code_of digits x y z) ≡ block (λ z y x. g (code_of (suc digits) x y z)) z y x
unfolding octet block square pair
octet_block g digits z y x =
    let code : ℕ = code_of digits x y z in
    let child : (i j k place : ℕ) → i < 2 → j < 2 → k < 2 → i + 2 * j + 4 * k ≡ place → g (8 * code + place) ≡ g (code_of (suc digits) (2 * x + i) (2 * y + j) (2 * z + k)) =
    λ i j k place a b c same. ap g (sym (child_code digits x y z i j k a b c ∙ ap (λ n. 8 * code + n) same)) in
    let at_zero : (n : ℕ) → 2 * n + 0 ≡ 2 * n = λ n. omega arith in
    let p = child 0 0 0 0 (omega arith) (omega arith) (omega arith) refl in
    let q = child 1 0 0 1 (omega arith) (omega arith) (omega arith) refl in
    let r = child 0 1 0 2 (omega arith) (omega arith) (omega arith) refl in
    let s = child 1 1 0 3 (omega arith) (omega arith) (omega arith) refl in
    let t = child 0 0 1 4 (omega arith) (omega arith) (omega arith) refl in
    let u = child 1 0 1 5 (omega arith) (omega arith) (omega arith) refl in
    let v = child 0 1 1 6 (omega arith) (omega arith) (omega arith) refl in
    let w = child 1 1 1 7 (omega arith) (omega arith) (omega arith) refl in
    rw (p, q, r, s, t, u, v, w) (rw (at_zero x, at_zero y, at_zero z) refl)

pub codes_once : (g : ℕ → ℕ) (digits : ℕ) → total g (8 ^ digits) ≡ cube_total (λ z y x. g (code_of digits x y z)) (2 ^ digits)
unfolding cube_total total code_of
codes_once g zero = omega arith
codes_once g (suc digits) =
    let eight : 8 ^ suc digits ≡ 8 * 8 ^ digits = omega (arith, pow-suc 8 digits) in
    let two : 2 ^ suc digits ≡ 2 * 2 ^ digits = omega (arith, pow-suc 2 digits) in
    let of_code : ℕ → ℕ → ℕ → ℕ = λ z y x. g (code_of (suc digits) x y z) in
    ap (total g) eight
    ∙ (total_octets g (8 ^ digits)
    ∙ (codes_once (octet g) digits
    ∙ (cube_same (λ z y x. octet g (code_of digits x y z)) (block of_code) (2 ^ digits) (λ z y x z_in y_in x_in. octet_block g digits z y x)
    ∙ (sym (cube_double of_code (2 ^ digits)) ∙ ap (cube_total of_code) (sym two)))))

-- ---- sums over a range, and over a filtered one

pub sum_filter : (f : ℕ → ℕ) (p : ℕ → Bool) (n : ℕ) → sum_by f (filter p (range_with_len 0 n)) ≡ total (λ k. cond (p k) (f k) 0) n
unfolding total
sum_filter f p zero = refl
sum_filter f p (suc n) =
    ap (λ l. sum_by f (filter p l)) (range_more 0 n)
    ∙ (ap (sum_by f) (filter-append p (range_with_len 0 n) ((0 + n) ∷ []))
    ∙ (sum_by-append f (filter p (range_with_len 0 n)) (filter p ((0 + n) ∷ []))
    ∙ (ap (λ k. sum_by f (filter p (range_with_len 0 n)) + sum_by f (filter p (k ∷ []))) (zero-add n)
    ∙ let before = sum_filter f p n in
    let here = one (p n) in
    omega (arith, before, here))))
  where
    one : (b : Bool) → sum_by f (cond b (n ∷ []) []) ≡ cond b (f n) 0
    one true = omega arith
    one false = refl

-- so far as it goes below a number
range_below : (f : ℕ → ℕ) (range : PartRange) (n : ℕ) → sum_by f (range_with_len range.from (min range.to n - range.from)) ≡ total (λ k. cond (in_range range k) (f k) 0) n
unfolding total
range_below f range zero =
    let none : min range.to 0 - range.from ≡ 0 = omega arith in
    ap (λ count. sum_by f (range_with_len range.from count)) none
range_below f range (suc n) = elim (leb_tells range.from n) [
  | inl begun ↦ elim (leb_tells (suc n) range.to) [
    | inl inside ↦
        let count : min range.to (suc n) - range.from ≡ suc (min range.to n - range.from) = omega (arith, begun.1, inside.1) in
        let last : range.from + (min range.to n - range.from) ≡ n = omega (arith, begun.1, inside.1) in
        let before = range_below f range n in
        let here : cond (in_range range n) (f n) 0 ≡ f n = rw (begun.0, inside.0) refl in
        ap (λ count. sum_by f (range_with_len range.from count)) count
        ∙ (ap (sum_by f) (range_more range.from (min range.to n - range.from))
        ∙ (sum_by-append f (range_with_len range.from (min range.to n - range.from)) ((range.from + (min range.to n - range.from)) ∷ [])
        ∙ (ap (λ k. sum_by f (range_with_len range.from (min range.to n - range.from)) + sum_by f (k ∷ [])) last ∙ omega (arith, before, here))))
    | inr beyond ↦
        let count : min range.to (suc n) - range.from ≡ min range.to n - range.from = omega (arith, beyond.1) in
        let before = range_below f range n in
        let here : cond (in_range range n) (f n) 0 ≡ 0 = rw (begun.0, beyond.0) refl in
        ap (λ count. sum_by f (range_with_len range.from count)) count ∙ omega (arith, before, here)
  ]
  | inr early ↦
      let count : min range.to (suc n) - range.from ≡ min range.to n - range.from = omega (arith, early.1) in
      let before = range_below f range n in
      let here : cond (in_range range n) (f n) 0 ≡ 0 = rw (early.0) refl in
      ap (λ count. sum_by f (range_with_len range.from count)) count ∙ omega (arith, before, here)
]

pub sum_range : (f : ℕ → ℕ) (range : PartRange) (n : ℕ) → range.to ≤ n → sum_by f (parts_in range) ≡ total (λ k. cond (in_range range k) (f k) 0) n
sum_range f range n within =
    let all : range.to - range.from ≡ min range.to n - range.from = omega (arith, within) in
    ap (λ count. sum_by f (range_with_len range.from count)) all ∙ range_below f range n
