-- Lists and files that have one number are the same.
use Rattle.std.proofs.Common.{◌≡◌, ℕ, zero, suc, ◌+◌, ◌*◌, ◌^◌, ◌<◌, List, [], ◌∷◌, map, drop, get_or, Option, None, Some, ℤ, pos, negsuc, refl, sym, ap, ◌∙◌, arith}
use Rattle.std.proofs.Math.Nat.{pow-suc}
use Rattle.std.proofs.lemmas.Nat.{pow_pos}
use Rattle.node_file.specs.FileView.{FileView}
use Rattle.node_merge.specs.Numbered.{list_number, told_number, signed_number, view_number}

twice : (n x : ℕ) → 2 ^ suc n * x ≡ 2 * (2 ^ n * x)
twice n x =
    let power : 2 ^ suc n ≡ 2 * 2 ^ n = omega (arith, pow-suc 2 n) in
    ap (λ p. p * x) power ∙ omega arith

parts : (m n a b : ℕ) → 2 ^ m * (2 * a + 1) ≡ 2 ^ n * (2 * b + 1) → (m ≡ n) × (a ≡ b)
parts zero zero a b same = (refl, omega (arith, same))
parts zero (suc n) a b same =
    let even : 2 ^ suc n * (2 * b + 1) ≡ 2 * (2 ^ n * (2 * b + 1)) = twice n (2 * b + 1) in
    let k : ℕ = 2 ^ n * (2 * b + 1) in
    let odd : 2 * a + 1 ≡ 2 * k = omega (arith, same, even) in
    absurd (omega (arith, odd))
parts (suc m) zero a b same =
    let even : 2 ^ suc m * (2 * a + 1) ≡ 2 * (2 ^ m * (2 * a + 1)) = twice m (2 * a + 1) in
    let k : ℕ = 2 ^ m * (2 * a + 1) in
    let odd : 2 * k ≡ 2 * b + 1 = omega (arith, same, even) in
    absurd (omega (arith, odd))
parts (suc m) (suc n) a b same =
    let k : ℕ = 2 ^ m * (2 * a + 1) in
    let j : ℕ = 2 ^ n * (2 * b + 1) in
    let twices : 2 * k ≡ 2 * j = sym (twice m (2 * a + 1)) ∙ (same ∙ twice n (2 * b + 1)) in
    let here : (m ≡ n) × (a ≡ b) = parts m n a b (omega (arith, twices)) in
    (ap (λ i. suc i) here.0, here.1)

some_number : (n : ℕ) (rest : List ℕ) → 0 ≡ list_number (n ∷ rest) → ⊥
unfolding list_number
some_number n rest none =
    let power : 0 < 2 ^ n = pow_pos n in
    let k : ℕ = list_number rest in
    let whole : 2 ^ n * (2 * k + 1) ≡ 2 * (2 ^ n * k) + 2 ^ n = omega arith in
    omega (arith, none, power, whole)

pub one_list : (xs ys : List ℕ) → list_number xs ≡ list_number ys → xs ≡ ys
unfolding list_number
one_list [] [] same = refl
one_list [] (y ∷ ys) same = absurd (some_number y ys same)
one_list (x ∷ xs) [] same = absurd (some_number x xs (sym same))
one_list (x ∷ xs) (y ∷ ys) same =
    let here : (x ≡ y) × (list_number xs ≡ list_number ys) = parts x y (list_number xs) (list_number ys) same in
    let rest : xs ≡ ys = one_list xs ys here.1 in
    λ i. here.0 i ∷ rest i

one_told : (xs ys : Option (List ℕ)) → told_number xs ≡ told_number ys → xs ≡ ys
one_told None None same = refl
one_told None (Some ys) same = absurd (omega (arith, same))
one_told (Some xs) None same = absurd (omega (arith, same))
one_told (Some xs) (Some ys) same = ap (λ l. Some l) (one_list xs ys (omega (arith, same)))

one_signed : (a b : ℤ) → signed_number a ≡ signed_number b → a ≡ b
one_signed (pos m) (pos n) same = let e : m ≡ n = omega (arith, same) in ap pos e
one_signed (pos m) (negsuc n) same = absurd (omega (arith, same))
one_signed (negsuc m) (pos n) same = absurd (omega (arith, same))
one_signed (negsuc m) (negsuc n) same = let e : m ≡ n = omega (arith, same) in ap negsuc e

one_row : (xs ys : List ℤ) → map signed_number xs ≡ map signed_number ys → xs ≡ ys
one_row [] [] same = refl
one_row [] (y ∷ ys) same = cc
one_row (x ∷ xs) [] same = cc
one_row (x ∷ xs) (y ∷ ys) same =
    let head : x ≡ y = one_signed x y (ap (λ l. get_or l 0 0) same) in
    let rest : xs ≡ ys = one_row xs ys (ap (drop 1) same) in
    λ i. head i ∷ rest i

pub one_view : (a b : FileView) → view_number a ≡ view_number b → a ≡ b
unfolding view_number
one_view a b same =
    let row = one_list _ _ same in
    let format : a.format ≡ b.format = ap (λ l. get_or l 0 0) row in
    let depth : a.grid.depth ≡ b.grid.depth = ap (λ l. get_or l 1 0) row in
    let origin : a.grid.origin ≡ b.grid.origin = one_row a.grid.origin b.grid.origin (one_list (map signed_number a.grid.origin) (map signed_number b.grid.origin) (ap (λ l. get_or l 2 0) row)) in
    let cell : a.grid.cell ≡ b.grid.cell = ap (λ l. get_or l 3 0) row in
    let records : a.totals.records ≡ b.totals.records = ap (λ l. get_or l 4 0) row in
    let cells : a.totals.cells ≡ b.totals.cells = ap (λ l. get_or l 5 0) row in
    let words : a.words ≡ b.words = one_told a.words b.words (ap (λ l. get_or l 6 0) row) in
    λ i. record {
      format = format i;
      grid = record { depth = depth i; origin = origin i; cell = cell i };
      totals = record { records = records i; cells = cells i };
      words = words i;
    }
