-- Runs of digits: their parts, and where they end.
use Rattle.std.proofs.Common.{◌≡◌, ℕ, zero, suc, ◌+◌, ◌-◌, min, List, [], ◌∷◌, ◌++◌, length, get_or, take, drop, refl, sym, ap, ◌∙◌, arith, ⊎_elim, append-nil}
use Rattle.std.specs.Char.{IsNotAsciiDigit}
use Rattle.std.specs.Int.{IsInRange}
use Rattle.std.specs.Str.Parse.{AllDigits}
use Rattle.std.proofs.Math.Seq.{take-append-add, drop-append-add, take-length, drop-length}
use Rattle.std.proofs.lemmas.Bool.{cases_lt}
use Rattle.std.proofs.lemmas.List.{take-append-le, drop-append-le}
use Rattle.std.proofs.lemmas.Str.Parse.{digit_from_value}

pub AllDigits-append : (xs ys : List ℕ) → AllDigits 10 xs → AllDigits 10 ys → AllDigits 10 (xs ++ ys)
AllDigits-append [] ys these those = those
AllDigits-append (x ∷ xs) ys these those = (these.0, AllDigits-append xs ys these.1 those)

pub AllDigits-front : (xs ys : List ℕ) → AllDigits 10 (xs ++ ys) → AllDigits 10 xs
AllDigits-front [] ys both = tt
AllDigits-front (x ∷ xs) ys both = (both.0, AllDigits-front xs ys both.1)

pub AllDigits-back : (xs ys : List ℕ) → AllDigits 10 (xs ++ ys) → AllDigits 10 ys
AllDigits-back [] ys both = both
AllDigits-back (x ∷ xs) ys both = AllDigits-back xs ys both.1

pub AllDigits-take : (count : ℕ) (ds : List ℕ) → AllDigits 10 ds → AllDigits 10 (take count ds)
AllDigits-take zero ds digits = tt
AllDigits-take (suc count) [] digits = tt
AllDigits-take (suc count) (d ∷ ds) digits = (digits.0, AllDigits-take count ds digits.1)

pub AllDigits-drop : (count : ℕ) (ds : List ℕ) → AllDigits 10 ds → AllDigits 10 (drop count ds)
AllDigits-drop zero ds digits = digits
AllDigits-drop (suc count) [] digits = tt
AllDigits-drop (suc count) (d ∷ ds) digits = AllDigits-drop count ds digits.1

-- a front of two lists is a front of each
pub take-two : (count : ℕ) (xs ys : List ℕ) → take count (xs ++ ys) ≡ take (min count (length xs)) xs ++ take (count - length xs) ys
take-two count xs ys =
    ⊎_elim
    (λ short.
    let all : min count (length xs) ≡ count = omega arith in
    let none : count - length xs ≡ 0 = omega arith in
    rw (all, none) (take-append-le count xs ys (omega arith) ∙ sym (append-nil (take count xs))))
    (λ long.
    let all : min count (length xs) ≡ length xs = omega arith in
    let whole : count ≡ length xs + (count - length xs) = omega arith in
    rw (all, take-length) (ap (λ k. take k (xs ++ ys)) whole ∙ take-append-add xs ys (count - length xs)))
    (cases_lt count (length xs))

-- and what is behind it
pub drop-two : (count : ℕ) (xs ys : List ℕ) → drop count (xs ++ ys) ≡ drop (min count (length xs)) xs ++ drop (count - length xs) ys
drop-two count xs ys =
    ⊎_elim
    (λ short.
    let all : min count (length xs) ≡ count = omega arith in
    let none : count - length xs ≡ 0 = omega arith in
    rw (all, none) (drop-append-le count xs ys (omega arith)))
    (λ long.
    let all : min count (length xs) ≡ length xs = omega arith in
    let whole : count ≡ length xs + (count - length xs) = omega arith in
    rw (all, drop-length) (ap (λ k. drop k (xs ++ ys)) whole ∙ drop-append-add xs ys (count - length xs)))
    (cases_lt count (length xs))

-- two runs of digits with no digit behind them are one run, where the texts are one
pub runs_agree : (a b r s : List ℕ) → AllDigits 10 a → AllDigits 10 b → IsNotAsciiDigit (get_or r 0 0) → IsNotAsciiDigit (get_or s 0 0) → a ++ r ≡ b ++ s → (a ≡ b) × (r ≡ s)
runs_agree [] [] r s x y p q e = (refl, e)
runs_agree [] (b ∷ bs) r s x y p q e =
    let digit : IsInRange 48 57 b = digit_from_value b y.0 in
    let first : get_or r 0 0 ≡ b = ap (λ l. get_or l 0 0) e in
    absurd (grind (arith, p, digit, first))
runs_agree (a ∷ cs) [] r s x y p q e =
    let digit : IsInRange 48 57 a = digit_from_value a x.0 in
    let first : a ≡ get_or s 0 0 = ap (λ l. get_or l 0 0) e in
    absurd (grind (arith, q, digit, first))
runs_agree (a ∷ cs) (b ∷ bs) r s x y p q e =
    let first : a ≡ b = ap (λ l. get_or l 0 0) e in
    let rest : cs ++ r ≡ bs ++ s = ap (drop 1) e in
    let behind = runs_agree cs bs r s x.1 y.1 p q rest in
    (λ i. first i ∷ behind.0 i, behind.1)
