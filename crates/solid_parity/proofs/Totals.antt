-- Sums over lists, from the front, and which of them are even.
use Rattle.std.proofs.Common.{◌≡◌, ℕ, suc, ◌+◌, ◌*◌, ◌/◌, ◌%◌, ◌≤◌, ◌<◌, zero, Bool, true, false, List, [], ◌∷◌, ◌++◌, length, filter, inl, inr, arith, refl, sym, ap, ◌∙◌}
use Rattle.std.specs.Prelude.{◌==◌, not}
use Rattle.std.specs.List.{sum_by}
use Rattle.std.proofs.lemmas.Bool.{cases_Bool, eqb-true}
use Rattle.std.proofs.lemmas.Bool.Decides.{nat_tests}
use Rattle.std.proofs.lemmas.List.Sums.{sum_by-cons}
use Rattle.solid_parity.specs.Parity.{one}

abbrev pub total : {A : Type 0} → (A → ℕ) → List A → ℕ
total f [] = 0
total f (x ∷ xs) = f x + total f xs

pub total_is : {A : Type 0} (f : A → ℕ) (xs : List A) → sum_by f xs ≡ total f xs
total_is f [] = refl
total_is f (x ∷ xs) = sum_by-cons f x xs ∙ ap (λ n. f x + n) (total_is f xs)

pub total-append : {A : Type 0} (f : A → ℕ) (xs ys : List A) → total f (xs ++ ys) ≡ total f xs + total f ys
total-append f [] ys = omega arith
total-append f (x ∷ xs) ys = omega (arith, total-append f xs ys)

pub total-same : {A : Type 0} (f g : A → ℕ) (xs : List A) → ((x : A) → f x ≡ g x) → total f xs ≡ total g xs
total-same f g [] same = refl
total-same f g (x ∷ xs) same = omega (arith, same x, total-same f g xs same)

-- a sum is as even as the number of its odd terms
pub odd_terms : {A : Type 0} (f : A → ℕ) (xs : List A) → total (λ x. one (f x % 2 == 1)) xs % 2 ≡ total f xs % 2
odd_terms f [] = refl
odd_terms f (x ∷ xs) = step (f x) (total (λ y. one (f y % 2 == 1)) xs) (total f xs) (odd_terms f xs)
  where
    small : (r : ℕ) → r == 1 ≡ false → r < 2 → 0 ≡ r
    small r differs below = grind (arith, nat_tests)

    parity : (n : ℕ) → one (n % 2 == 1) ≡ n % 2
    parity n = elim (cases_Bool (n % 2 == 1)) [
      | inl odd ↦ rw odd (sym (eqb-true (n % 2) 1 odd))
      | inr even ↦ rw even (small (n % 2) even (omega arith))
    ]

    step : (n many sum : ℕ) → many % 2 ≡ sum % 2 → (one (n % 2 == 1) + many) % 2 ≡ (n + sum) % 2
    step n many sum e = rw (parity n) (omega (arith, e))

-- ---- items that count as the same

-- a relation of sameness, by which a count does not tell items apart
pub record IsSameness {A : Type 0} (same : A → A → Bool) (f : A → ℕ) : Type 0 where
  pub itself : (e : A) → same e e ≡ true
  pub left : (e g h : A) → same e g ≡ true → same e h ≡ same g h
  pub right : (e g h : A) → same g h ≡ true → same e g ≡ same e h
  pub alike : (e g : A) → same e g ≡ true → f g ≡ f e

abbrev pub times : {A : Type 0} → (A → A → Bool) → A → List A → ℕ
times same e xs = total (λ g. one (same e g)) xs

abbrev pub others : {A : Type 0} → (A → A → Bool) → A → List A → List A
others same e xs = filter (λ g. not (same e g)) xs

split : {A : Type 0} (same : A → A → Bool) (f : A → ℕ) → IsSameness same f → (e : A) (xs : List A) → total f xs ≡ f e * times same e xs + total f (others same e xs)
split same f is e [] = omega arith
split same f is e (x ∷ xs) = elim (cases_Bool (same e x)) [
  | inl alike ↦ rw alike (omega (arith, split same f is e xs, is.alike e x alike))
  | inr other ↦ rw other (omega (arith, split same f is e xs))
]

-- among the others of an item it stands no more
none_left : {A : Type 0} (same : A → A → Bool) (f : A → ℕ) → IsSameness same f → (e h : A) (xs : List A) → same e h ≡ true → times same h (others same e xs) ≡ 0
none_left same f is e h [] alike = refl
none_left same f is e h (x ∷ xs) alike = elim (cases_Bool (same e x)) [
  | inl first ↦ rw first (none_left same f is e h xs alike)
  | inr other ↦ rw (other, sym (is.left e h x alike) ∙ other) (omega (arith, none_left same f is e h xs alike))
]

-- and all that are not the same stand as often as before
all_left : {A : Type 0} (same : A → A → Bool) (f : A → ℕ) → IsSameness same f → (e h : A) (xs : List A) → same e h ≡ false → times same h (others same e xs) ≡ times same h xs
all_left same f is e h [] differ = refl
all_left same f is e h (x ∷ xs) differ = elim (cases_Bool (same e x)) [
  | inl first ↦ elim (cases_Bool (same h x)) [
    | inl alike ↦
        let both : true ≡ false = sym first ∙ (sym (is.right e h x alike) ∙ differ) in absurd (cc)
    | inr apart ↦ rw (first, apart) (omega (arith, all_left same f is e h xs differ))
  ]
  | inr other ↦ rw other (ap (λ n. one (same h x) + n) (all_left same f is e h xs differ))
]

shorter : {A : Type 0} (p : A → Bool) (xs : List A) → length (filter p xs) ≤ length xs
shorter p [] = omega arith
shorter p (x ∷ xs) = elim (cases_Bool (p x)) [
  | inl kept ↦ rw kept (omega (arith, shorter p xs))
  | inr left ↦ rw left (omega (arith, shorter p xs))
]

even_product : (a t : ℕ) → t % 2 ≡ 0 → a * t % 2 ≡ 0
even_product a t even =
    let half : t ≡ 2 * (t / 2) = omega (arith, even) in
    let whole : a * t ≡ a * (2 * (t / 2)) = ap (λ n. a * n) half in
    omega (arith, whole)

-- where each item stands an even number of times, the sum is even
even_within : {A : Type 0} (same : A → A → Bool) (f : A → ℕ) → IsSameness same f → (bound : ℕ) (xs : List A) → length xs ≤ bound
    → ((e : A) → times same e xs % 2 ≡ 0) → total f xs % 2 ≡ 0
even_within same f is bound [] short even = refl
even_within same f is zero (x ∷ xs) short even = absurd (omega (arith, short))
even_within same f is (suc bound) (x ∷ xs) short even =
    let first : same x x ≡ true = is.itself x in
    let rest : others same x (x ∷ xs) ≡ others same x xs = rw first refl in
    let fewer : length (others same x (x ∷ xs)) ≤ bound = rw rest (omega (arith, short, shorter (λ g. not (same x g)) xs)) in
    let still : (h : _) → times same h (others same x (x ∷ xs)) % 2 ≡ 0 = λ h. elim (cases_Bool (same x h)) [
      | inl alike ↦ rw (none_left same f is x h (x ∷ xs) alike) refl
      | inr differ ↦ rw (all_left same f is x h (x ∷ xs) differ) (even h)
    ]
    in
    let left = even_within same f is bound (others same x (x ∷ xs)) fewer still in
    let parts = split same f is x (x ∷ xs) in
    let product = even_product (f x) (times same x (x ∷ xs)) (even x) in
    sum_even (total f (x ∷ xs)) (f x * times same x (x ∷ xs)) (total f (others same x (x ∷ xs))) parts product left
  where
    sum_even : (n a b : ℕ) → n ≡ a + b → a % 2 ≡ 0 → b % 2 ≡ 0 → n % 2 ≡ 0
    sum_even n a b e p q = omega (arith, e, p, q)

pub even_sum : {A : Type 0} (same : A → A → Bool) (f : A → ℕ) → IsSameness same f → (xs : List A) → ((e : A) → times same e xs % 2 ≡ 0) → total f xs % 2 ≡ 0
even_sum same f is xs even = even_within same f is (length xs) xs (omega arith) even
