-- Runs at the front of a list, and of a list that is held in part.
use Rattle.std.proofs.Common.{◌≡◌, ℕ, zero, suc, ◌+◌, ◌<◌, ◌≤◌, Bool, true, false, cond, List, [], ◌∷◌, ◌++◌, length, take, drop, refl, sym, ap, ◌∙◌, arith, subst, not, nat_lt, MatchBool}
use Rattle.ply_text.specs.Pieces.{belongs, is_white}
use Rattle.ply_text.specs.declared.run.Run.TheVariants.{White, Token}
use Rattle.std.specs.List.{prefix_len, AllPass}
use Rattle.std.proofs.lemmas.List.Sums.{prefix_len-le-length, prefix_len_passes}
use Rattle.std.proofs.lemmas.List.{get_or-take, length-take-le}
use Rattle.std.proofs.lemmas.Bool.Decides.{nat_tests}

-- a run of a front of a list is no longer than the list's
pub run-take : (p : ℕ → Bool) (n : ℕ) (xs : List ℕ) → prefix_len p (take n xs) ≤ prefix_len p xs
run-take p zero xs = omega arith
run-take p (suc n) [] = omega arith
run-take p (suc n) (x ∷ xs) = elim (p x) as (λ b. cond b (1 + prefix_len p (take n xs)) 0 ≤ cond b (1 + prefix_len p xs) 0)
    [ true ↦ omega (arith, run-take p n xs) | false ↦ omega arith ]

-- a run goes on behind a part of it
pub run-drop : (p : ℕ → Bool) (n : ℕ) (xs : List ℕ) → n ≤ prefix_len p xs → prefix_len p xs ≡ n + prefix_len p (drop n xs)
run-drop p zero xs = λ h. omega arith
run-drop p (suc n) [] = λ h. omega (arith, h)
run-drop p (suc n) (x ∷ xs) = elim (p x) as (λ b. suc n ≤ cond b (1 + prefix_len p xs) 0 → cond b (1 + prefix_len p xs) 0 ≡ suc n + prefix_len p (drop n xs))
    [ true ↦ λ h. omega (arith, run-drop p n xs (omega (arith, h))) | false ↦ λ h. omega (arith, h) ]

-- a run that ends within the front stays as it is when bytes come behind
pub run-append : (p : ℕ → Bool) (xs ys : List ℕ) → prefix_len p xs < length xs → prefix_len p (xs ++ ys) ≡ prefix_len p xs
run-append p [] ys = λ h. absurd (omega (arith, h))
run-append p (x ∷ xs) ys = elim (p x) as (λ b. cond b (1 + prefix_len p xs) 0 < suc (length xs) → cond b (1 + prefix_len p (xs ++ ys)) 0 ≡ cond b (1 + prefix_len p xs) 0)
    [ true ↦ λ h. ap (λ n. 1 + n) (run-append p xs ys (omega (arith, h))) | false ↦ λ h. refl ]

-- bytes that come behind make no run shorter
pub run-append-le : (p : ℕ → Bool) (xs ys : List ℕ) → prefix_len p xs ≤ prefix_len p (xs ++ ys)
run-append-le p [] ys = omega arith
run-append-le p (x ∷ xs) ys = elim (p x) as (λ b. cond b (1 + prefix_len p xs) 0 ≤ cond b (1 + prefix_len p (xs ++ ys)) 0)
    [ true ↦ omega (arith, run-append-le p xs ys) | false ↦ omega arith ]

-- each byte of a front of the run passes
pub run-passes : (p : ℕ → Bool) (n : ℕ) (xs : List ℕ) → n ≤ prefix_len p xs → AllPass p (take n xs)
run-passes p n xs h = λ k d within.
    let long : length (take n xs) ≡ n = length-take-le n xs (omega (arith, h, prefix_len-le-length p xs)) in
    let lt : k < n = omega (arith, within, long) in
    ap p (get_or-take n xs k d lt) ∙ prefix_len_passes p xs k d (omega (arith, lt, h))

-- what a list and a longer one have in common belongs to the same run
pub run-front : (p : ℕ → Bool) (n : ℕ) (xs ys : List ℕ) → take n ys ≡ xs → prefix_len p xs ≤ prefix_len p ys
run-front p n xs ys same = let Q : List ℕ → Type 0 = λ front. prefix_len p front ≤ prefix_len p ys in subst Q same (run-take p n ys)

-- behind white space a token begins, or nothing is left
abbrev BehindWhite : ℕ → List ℕ → Type 0
BehindWhite n xs = MatchBool (nat_lt n (length xs)) (0 < prefix_len (belongs Token) (drop n xs)) (drop n xs ≡ [])

behind_white-step : (b : Bool) (x : ℕ) (xs : List ℕ) → is_white x ≡ b → BehindWhite (prefix_len (belongs White) xs) xs → BehindWhite (cond b (1 + prefix_len (belongs White) xs) 0) (x ∷ xs)
unfolding belongs
behind_white-step true x xs e h =
    let n = prefix_len (belongs White) xs in
    let test : nat_lt (1 + n) (suc (length xs)) ≡ nat_lt n (length xs) = grind (arith, nat_tests) in
    let P : ℕ → Type 0 = λ m. MatchBool (nat_lt (1 + n) (suc (length xs))) (0 < prefix_len (belongs Token) (drop m (x ∷ xs))) (drop m (x ∷ xs) ≡ []) in
    let Q : Bool → Type 0 = λ b. MatchBool b (0 < prefix_len (belongs Token) (drop n xs)) (drop n xs ≡ []) in
    let next : suc n ≡ 1 + n = omega arith in
    subst P next (subst Q (sym test) h)
behind_white-step false x xs e h =
    let test : nat_lt 0 (suc (length xs)) ≡ true = grind (arith, nat_tests) in
    let Q : Bool → Type 0 = λ b. MatchBool b (0 < prefix_len (belongs Token) (x ∷ xs)) ((x ∷ xs) ≡ []) in
    let W : Bool → Type 0 = λ w. 0 < cond (not w) (1 + prefix_len (belongs Token) xs) 0 in
    let first : 0 < prefix_len (belongs Token) (x ∷ xs) = subst W (sym e) (omega arith) in
    subst Q (sym test) first

pub behind_white : (xs : List ℕ) → BehindWhite (prefix_len (belongs White) xs) xs
unfolding belongs
behind_white [] = refl
behind_white (x ∷ xs) = behind_white-step (is_white x) x xs refl (behind_white xs)

-- where a token begins, no white space stands
pub no_white : (xs : List ℕ) → 0 < prefix_len (belongs Token) xs → prefix_len (belongs White) xs ≡ 0
unfolding belongs
no_white [] = λ h. refl
no_white (x ∷ xs) = elim (is_white x) as (λ b. 0 < cond (not b) (1 + prefix_len (belongs Token) xs) 0 → cond b (1 + prefix_len (belongs White) xs) 0 ≡ 0)
    [ true ↦ λ h. absurd (omega (arith, h)) | false ↦ λ h. refl ]
