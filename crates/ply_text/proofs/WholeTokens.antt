-- Tokens that are whole numbers, and tokens that are none.
use Rattle.std.proofs.Common.{◌≡◌, ℕ, ◌≤◌, Bool, true, false, cond, ◌&&◌, nat_le, List, length, refl, sym, arith, None, Some}
use Rattle.std.specs.Str.{all_ascii_digits}
use Rattle.std.specs.Str.Parse.{AllDigits, digits_value}
use Rattle.std.proofs.lemmas.Bool.{and_parts, and_from, cond-true, cond-false, false_from_ne_true, leb-true, le-leb}
use Rattle.std.proofs.lemmas.Str.Parse.{IsNumeralModel, numerals_by_value, tells_all_ascii_digits}
use Rattle.ply_text.specs.Wholes.{is_whole, whole_of}

-- `all_ascii_digits` is `AllDigits`, as a test
pub digits_test : IsNumeralModel (λ ds. all_ascii_digits ds ≡ true) (digits_value 10)
digits_test = numerals_by_value (λ ds. all_ascii_digits ds ≡ true) tells_all_ascii_digits

-- 1 to 20 digits, as facts
pub record IsWhole (token : List ℕ) : Type 0 where
  pub some : 1 ≤ length token
  pub few : length token ≤ 20
  pub digits : AllDigits 10 token

is_whole_tells : (token : List ℕ) → is_whole token ≡ true → IsWhole token
is_whole_tells token true_is =
    let parts = and_parts (nat_le 1 (length token) && nat_le (length token) 20) (all_ascii_digits token) true_is in
    let sizes = and_parts (nat_le 1 (length token)) (nat_le (length token) 20) parts.0 in
    record { some = leb-true 1 (length token) sizes.0; few = leb-true (length token) 20 sizes.1; digits = digits_test.to token parts.1 }

is_whole_from : (token : List ℕ) → IsWhole token → is_whole token ≡ true
is_whole_from token whole =
    and_from (nat_le 1 (length token) && nat_le (length token) 20) (all_ascii_digits token)
    (and_from (nat_le 1 (length token)) (nat_le (length token) 20) (le-leb 1 (length token) whole.some) (le-leb (length token) 20 whole.few))
    (digits_test.from token whole.digits)

-- a number within the limit is the answer
pub granted : (token : List ℕ) (limit : ℕ) → IsWhole token → digits_value 10 token ≤ limit → Some (digits_value 10 token) ≡ whole_of token limit
unfolding whole_of
granted token limit whole within =
    sym (cond-true _ _ _ (and_from (is_whole token) (nat_le (digits_value 10 token) limit) (is_whole_from token whole) (le-leb (digits_value 10 token) limit within)))

-- what is no number within the limit has no answer
pub refused : (token : List ℕ) (limit : ℕ) → (IsWhole token → digits_value 10 token ≤ limit → ⊥) → None ≡ whole_of token limit
unfolding whole_of
refused token limit never =
    sym (cond-false _ _ _ (false_from_ne_true (is_whole token && nat_le (digits_value 10 token) limit) (λ true_is.
    let parts = and_parts (is_whole token) (nat_le (digits_value 10 token) limit) true_is in
    never (is_whole_tells token parts.0) (leb-true (digits_value 10 token) limit parts.1))))

-- an answer is the number of a whole token, within the limit
pub record IsRead (token : List ℕ) (limit n : ℕ) : Type 0 where
  pub whole : IsWhole token
  pub number : n ≡ digits_value 10 token
  pub within : n ≤ limit

read_by : (token : List ℕ) (limit n : ℕ) (test : Bool) → (is_whole token && nat_le (digits_value 10 token) limit) ≡ test → Some n ≡ cond test (Some (digits_value 10 token)) None → IsRead token limit n
read_by token limit n true passed answer =
    let parts = and_parts (is_whole token) (nat_le (digits_value 10 token) limit) passed in
    let number : n ≡ digits_value 10 token = cc answer in
    record { whole = is_whole_tells token parts.0; number = number; within = omega (arith, number, leb-true (digits_value 10 token) limit parts.1) }
read_by token limit n false passed answer = absurd (cc answer)

pub answered : (token : List ℕ) (limit n : ℕ) → Some n ≡ whole_of token limit → IsRead token limit n
unfolding whole_of
answered token limit n answer = read_by token limit n (is_whole token && nat_le (digits_value 10 token) limit) refl answer
