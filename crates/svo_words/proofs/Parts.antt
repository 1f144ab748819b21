-- A text cut at its first `=`.
use Rattle.std.proofs.Common.{◌≡◌, ℕ, ◌+◌, Bool, List, [], ◌∷◌, length, take, drop, Option, None, Some, arith, refl, inl, inr}
use Rattle.std.specs.Prelude.{◌==◌, nat_lt}
use Rattle.std.specs.List.{list_any, position, position_or_len}
use Rattle.std.proofs.lemmas.Bool.{cases_Bool, ltb-false, lt-ltb}
use Rattle.std.proofs.lemmas.Bool.Decides.{nat_tests}
use Rattle.std.proofs.lemmas.List.{take_all}
use Rattle.clap.specs.Lexer.{name_and_value}

pub any_is_place : {A : Type 0} (p : A → Bool) (xs : List A) → list_any p xs ≡ nat_lt (position_or_len p xs) (length xs)
any_is_place p [] = refl
any_is_place p (x ∷ xs) = elim (cases_Bool (p x)) [
  | inl here ↦ rw (here, lt-ltb 0 (length (x ∷ xs)) (omega arith)) refl
  | inr later ↦ rw later (grind (arith, nat_tests, any_is_place p xs))
]

abbrev place_of : List ℕ → ℕ
place_of = position_or_len (λ byte. byte == 61)

pub parts_none : (text : List ℕ) → position (λ byte. byte == 61) text ≡ None → ◌≡◌ {A = List ℕ × Option (List ℕ)} (text, None) (name_and_value text)
parts_none text none = elim (cases_Bool (nat_lt (place_of text) (length text))) [
  | inl found ↦ let none_here : Some (place_of text) ≡ None = rw found at none in absurd cc
  | inr past ↦
      let whole = take_all (place_of text) text (ltb-false (place_of text) (length text) past) in
      rw (any_is_place (λ byte. byte == 61) text, past, whole) refl
]

pub parts_at : (text : List ℕ) (at : ℕ) → position (λ byte. byte == 61) text ≡ Some at
    → ◌≡◌ {A = List ℕ × Option (List ℕ)} (take at text, Some (drop (at + 1) text)) (name_and_value text)
parts_at text at found = elim (cases_Bool (nat_lt (place_of text) (length text))) [
  | inl here ↦
      let same : Some (place_of text) ≡ Some at = rw here at found in
      let place : place_of text ≡ at = cc in
      rw (any_is_place (λ byte. byte == 61) text, here, place) refl
  | inr past ↦ let none_here : None ≡ Some at = rw past at found in absurd cc
]
