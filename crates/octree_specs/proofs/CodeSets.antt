-- Sets of numbers as ascending lists: how one grows number by number, and that there is one list for a set.
use Rattle.std.proofs.Common.{◌≡◌, ℕ, zero, suc, ◌+◌, ◌<◌, Bool, true, false, List, [], ◌∷◌, ◌++◌, length, get_or, filter, inl, inr, arith, refl, sym, ap, subst, ◌∙◌, add-one, zero-add}
use Rattle.std.specs.Prelude.{◌⊎◌, All}
use Rattle.std.specs.List.{range_with_len, Contains, AllPairs}
use Rattle.std.specs.List.Sorted.{IsStrictlyIncreasing}
use Rattle.std.proofs.lemmas.Bool.{cases_Bool, cases_order, cases_eq}
use Rattle.std.proofs.lemmas.Grind.{common_steps}
use Rattle.std.proofs.lemmas.List.{append-nil}
use Rattle.std.proofs.lemmas.List.Elements.{filter-append, All-nil, All-push, All-weaker, All-contains, Contains-push, Contains-append_left}
use Rattle.std.proofs.lemmas.List.Kept.{AllPairs-from_increasing}

-- the numbers below a bound that have a property, in ascending order
pub record AreAllBelow (P : ℕ → Type 0) (bound : ℕ) (numbers : List ℕ) : Type 0 where
  pub ascending : IsStrictlyIncreasing numbers
  pub inside : All (λ n. n < bound) numbers
  pub right : All P numbers
  pub complete : (n : ℕ) → n < bound → P n → Contains numbers n

pub none_below : (P : ℕ → Type 0) → AreAllBelow P 0 []
none_below P = record {
  ascending = λ k within. absurd (omega (arith, within));
  inside = All-nil (λ n. n < 0);
  right = All-nil P;
  complete = λ n below holds. absurd (omega (arith, below));
}

-- a greater number at the end keeps the order
increasing_push : (numbers : List ℕ) (n : ℕ) → IsStrictlyIncreasing numbers → All (λ m. m < n) numbers → IsStrictlyIncreasing (numbers ++ n ∷ [])
increasing_push numbers n ascending inside k within = elim (cases_eq (k + 1) (length numbers)) [
  | inl last ↦ grind (arith, common_steps, inside k 0)
  | inr before ↦ grind (arith, common_steps, ascending k)
]

-- the bound itself joins
pub one_in : (P : ℕ → Type 0) (bound : ℕ) (numbers : List ℕ) → P bound → AreAllBelow P bound numbers → AreAllBelow P (bound + 1) (numbers ++ bound ∷ [])
one_in P bound numbers holds are = record {
  ascending = increasing_push numbers bound are.ascending are.inside;
  inside = All-push (λ n. n < bound + 1) numbers bound (All-weaker (λ n. n < bound) (λ n. n < bound + 1) (λ n below. omega (arith, below)) numbers are.inside) (omega arith);
  right = All-push P numbers bound are.right holds;
  complete = λ n below has. elim (cases_order n bound) [
    | inl same ↦ subst (λ m. Contains (numbers ++ bound ∷ []) m) (sym same) (Contains-push numbers bound)
    | inr apart ↦ elim apart [
      | inl under ↦ Contains-append_left numbers (bound ∷ []) n (are.complete n under has)
      | inr over ↦ absurd (omega (arith, below, over))
    ]
  ];
}

-- or stays out
pub one_out : (P : ℕ → Type 0) (bound : ℕ) (numbers : List ℕ) → (P bound → ⊥) → AreAllBelow P bound numbers → AreAllBelow P (bound + 1) numbers
one_out P bound numbers fails are = record {
  ascending = are.ascending;
  inside = All-weaker (λ n. n < bound) (λ n. n < bound + 1) (λ n below. omega (arith, below)) numbers are.inside;
  right = are.right;
  complete = λ n below has. elim (cases_order n bound) [
    | inl same ↦ absurd (fails (subst P same has))
    | inr apart ↦ elim apart [
      | inl under ↦ are.complete n under has
      | inr over ↦ absurd (omega (arith, below, over))
    ]
  ];
}

-- ---- by a test

range_more : (a n : ℕ) → range_with_len a (suc n) ≡ range_with_len a n ++ (a + n) ∷ []
range_more a zero = let same : a + 0 ≡ a = omega arith in rw same refl
range_more a (suc n) =
    let same : a + 1 + n ≡ a + suc n = omega arith in
    ap (λ rest. a ∷ rest) (range_more (a + 1) n ∙ ap (λ last. range_with_len (a + 1) n ++ last ∷ []) same)

filter_more : (p : ℕ → Bool) (n : ℕ) → filter p (range_with_len 0 (n + 1)) ≡ filter p (range_with_len 0 n) ++ filter p (n ∷ [])
filter_more p n =
    ap (λ m. filter p (range_with_len 0 m)) (add-one n) ∙ ap (λ codes. filter p codes) (range_more 0 n)
    ∙ filter-append p (range_with_len 0 n) ((0 + n) ∷ []) ∙ ap (λ last. filter p (range_with_len 0 n) ++ filter p (last ∷ [])) (zero-add n)

pub passed : (p : ℕ → Bool) (n : ℕ) → p n ≡ true → filter p (range_with_len 0 (n + 1)) ≡ filter p (range_with_len 0 n) ++ n ∷ []
passed p n holds = filter_more p n ∙ rw holds refl

pub passed_over : (p : ℕ → Bool) (n : ℕ) → p n ≡ false → filter p (range_with_len 0 (n + 1)) ≡ filter p (range_with_len 0 n)
passed_over p n fails = filter_more p n ∙ rw (fails, append-nil (filter p (range_with_len 0 n))) refl

-- the numbers that pass a test are those that have the property that it decides
pub all_that_pass : (P : ℕ → Type 0) (p : ℕ → Bool) → ((n : ℕ) → p n ≡ true → P n) → ((n : ℕ) → p n ≡ false → P n → ⊥) → (bound : ℕ) → AreAllBelow P bound (filter p (range_with_len 0 bound))
all_that_pass P p right wrong zero = none_below P
all_that_pass P p right wrong (suc n) = elim (cases_Bool (p n)) [
  | inl holds ↦ at_next (subst (AreAllBelow P (n + 1)) (sym (passed p n holds)) (one_in P n (filter p (range_with_len 0 n)) (right n holds) (all_that_pass P p right wrong n)))
  | inr fails ↦ at_next (subst (AreAllBelow P (n + 1)) (sym (passed_over p n fails)) (one_out P n (filter p (range_with_len 0 n)) (wrong n fails) (all_that_pass P p right wrong n)))
]
  where
    at_next : AreAllBelow P (n + 1) (filter p (range_with_len 0 (n + 1))) → AreAllBelow P (suc n) (filter p (range_with_len 0 (suc n)))
    at_next are = subst (λ m. AreAllBelow P m (filter p (range_with_len 0 m))) (add-one n) are

-- ---- one list for a set

abbrev Rises : List ℕ → Type 0
Rises = AllPairs (λ a b. a < b)

contains_cases : (x : ℕ) (xs : List ℕ) (n k : ℕ) → k < length (x ∷ xs) → get_or (x ∷ xs) k n ≡ n → (x ≡ n) ⊎ Contains xs n
contains_cases x xs n zero within is = inl is
contains_cases x xs n (suc k) within is = inr (k, omega (arith, within), is)

rises_above : (x : ℕ) (xs : List ℕ) (n : ℕ) → Rises (x ∷ xs) → Contains xs n → x < n
rises_above x xs n rises has =
    let above : x < get_or xs has.0 n = rises 0 (suc has.0) n (omega arith) (omega (arith, has.1)) in
    rw has.2 at above

rises_rest : (x : ℕ) (xs : List ℕ) → Rises (x ∷ xs) → Rises xs
rises_rest x xs rises i j d below within = rises (suc i) (suc j) d (omega (arith, below)) (omega (arith, within))

abbrev Within : List ℕ → List ℕ → Type 0
Within xs ys = (n : ℕ) → Contains xs n → Contains ys n

in_cases : (x : ℕ) (xs : List ℕ) (n : ℕ) → Contains (x ∷ xs) n → (x ≡ n) ⊎ Contains xs n
in_cases x xs n has = contains_cases x xs n has.0 has.1 has.2

in_first : (x : ℕ) (xs : List ℕ) → Contains (x ∷ xs) x
in_first x xs = (0, omega arith, refl)

in_rest : (x : ℕ) (xs : List ℕ) (n : ℕ) → Contains xs n → Contains (x ∷ xs) n
in_rest x xs n has = (suc has.0, omega (arith, has.1), has.2)

-- the first numbers of two such lists are one
same_first : (x y : ℕ) (xs ys : List ℕ) → Rises (x ∷ xs) → Rises (y ∷ ys) → Contains (y ∷ ys) x → Contains (x ∷ xs) y → x ≡ y
same_first x y xs ys rises_x rises_y x_in y_in = elim (in_cases y ys x x_in) [
  | inl same ↦ sym same
  | inr x_later ↦ elim (in_cases x xs y y_in) [
    | inl same ↦ same
    | inr y_later ↦ absurd (omega (arith, rises_above x xs y rises_x y_later, rises_above y ys x rises_y x_later))
  ]
]

-- what is in a list's rest is in the other's
rest_within : (x y : ℕ) (xs ys : List ℕ) → Rises (x ∷ xs) → x ≡ y → Within (x ∷ xs) (y ∷ ys) → Within xs ys
rest_within x y xs ys rises same within n has = elim (in_cases y ys n (within n (in_rest x xs n has))) [
  | inl first ↦ absurd (omega (arith, rises_above x xs n rises has, same, first))
  | inr later ↦ later
]

one_list : (xs ys : List ℕ) → Rises xs → Rises ys → Within xs ys → Within ys xs → xs ≡ ys
one_list [] [] rises_x rises_y there back = refl
one_list [] (y ∷ ys) rises_x rises_y there back = absurd (omega (arith, (back y (in_first y ys)).1))
one_list (x ∷ xs) [] rises_x rises_y there back = absurd (omega (arith, (there x (in_first x xs)).1))
one_list (x ∷ xs) (y ∷ ys) rises_x rises_y there back =
    let same : x ≡ y = same_first x y xs ys rises_x rises_y (there x (in_first x xs)) (back y (in_first y ys)) in
    let rest : xs ≡ ys = one_list xs ys (rises_rest x xs rises_x) (rises_rest y ys rises_y) (rest_within x y xs ys rises_x same there) (rest_within y x ys xs rises_y (sym same) back) in
    rw (same, rest) refl

-- two such lists of one property and one bound
pub one_set : (P : ℕ → Type 0) (bound : ℕ) (xs ys : List ℕ) → AreAllBelow P bound xs → AreAllBelow P bound ys → xs ≡ ys
one_set P bound xs ys first second =
    one_list xs ys (AllPairs-from_increasing xs first.ascending) (AllPairs-from_increasing ys second.ascending)
    (λ n has. second.complete n (All-contains (λ m. m < bound) xs n first.inside has) (All-contains P xs n first.right has))
    (λ n has. first.complete n (All-contains (λ m. m < bound) ys n second.inside has) (All-contains P ys n second.right has))
