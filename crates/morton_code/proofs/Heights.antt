-- Heights of nodes: powers of 8 that divide a code or lie below a number.
use Rattle.std.proofs.Common.{◌≡◌, ℕ, zero, suc, ◌+◌, ◌*◌, ◌/◌, ◌%◌, ◌^◌, ◌<◌, ◌≤◌, refl, sym, ap, ◌∙◌, ⊎_elim, arith, lit<, w64}
use Rattle.std.specs.Int.{bit_at, trailing_zeros}
use Rattle.std.specs.Int.Count.{count_trailing_zeros}
use Rattle.std.proofs.Math.Nat.{pow-suc, pow-le-pow_right, zero-mod}
use Rattle.std.proofs.lemmas.Bool.{cases_lt, cases_eq}
use Rattle.std.proofs.lemmas.Nat.{pow-add, pow_pos, mod_below, shr_split}
use Rattle.std.proofs.lemmas.Nat.Bits.{bit_at-zero, bit_at_cat_low, bit_at-trailing_zeros, same_from_bits_below}

-- a power of 8 is one of 2
pub eights : (k : ℕ) → 8 ^ k ≡ 2 ^ (3 * k)
eights zero = refl
eights (suc k) =
    let more : 3 * suc k ≡ 3 * k + 3 = omega arith in
    let power : 2 ^ (3 * k + 3) ≡ 2 ^ (3 * k) * 8 = pow-add 2 (3 * k) 3 in
    rw more (omega (arith, power, eights k, pow-suc 8 k))

pub eight_pos : (k : ℕ) → 0 < 8 ^ k
eight_pos k = rw eights (pow_pos (3 * k))

-- the greater power has the greater exponent
pub exponent_within : (j k number : ℕ) → 8 ^ j ≤ number → number < 8 * 8 ^ k → j ≤ k
exponent_within j k number below above = ⊎_elim (λ low. omega arith)
    (λ high.
    let grows : 2 ^ (3 * suc k) ≤ 2 ^ (3 * j) = pow-le-pow_right {n = 2} (lit< tt) {i = 3 * suc k} {j = 3 * j} (omega arith) in
    absurd (omega (arith, grows, eights j, eights (suc k), pow-suc 8 k)))
    (cases_lt j (suc k))

-- a number whose low bits are 0 is a multiple
pub multiple_from_bits : (number k : ℕ) → ((i : ℕ) → i < k → bit_at number i ≡ 0) → number % 2 ^ k ≡ 0
multiple_from_bits number k zeros =
    same_from_bits_below k (number % 2 ^ k) 0 (mod_below number (2 ^ k) (pow_pos k)) (pow_pos k)
    (λ i low.
    let same : bit_at (number / 2 ^ k * 2 ^ k + number % 2 ^ k) i ≡ bit_at (number % 2 ^ k) i = bit_at_cat_low (number / 2 ^ k) k (number % 2 ^ k) i low in
    sym same ∙ (ap (λ whole. bit_at whole i) (shr_split number k) ∙ zeros i low) ∙ sym (bit_at-zero i))

-- and the low bits of a multiple are 0
pub bits_of_multiple : (number k i : ℕ) → number % 2 ^ k ≡ 0 → i < k → bit_at number i ≡ 0
bits_of_multiple number k i multiple low =
    let same : bit_at (number / 2 ^ k * 2 ^ k + number % 2 ^ k) i ≡ bit_at (number % 2 ^ k) i = bit_at_cat_low (number / 2 ^ k) k (number % 2 ^ k) i low in
    sym (ap (λ whole. bit_at whole i) (shr_split number k)) ∙ same ∙ (ap (λ rest. bit_at rest i) multiple ∙ bit_at-zero i)

-- 0 has as many low zeros as there is room
zeros_of_zero : trailing_zeros w64 0 ≡ 64
unfolding count_trailing_zeros
zeros_of_zero = refl

-- what the count of low zeros says
pub height_divides : (number height : ℕ) → number < 2 ^ 64 → height ≤ trailing_zeros w64 number / 3 → number % 8 ^ height ≡ 0
height_divides number height fits within = ⊎_elim
    (λ none. rw none (zero-mod (8 ^ height)))
    (λ some.
    let lowest = bit_at-trailing_zeros w64 number (omega arith) fits in
    rw eights (multiple_from_bits number (3 * height) (λ i low. lowest.2 i (omega arith))))
    (cases_eq number 0)

pub height_is_greatest : (number height : ℕ) → number < 2 ^ 64 → height ≤ 20 → number % 8 ^ height ≡ 0 → height ≤ trailing_zeros w64 number / 3
height_is_greatest number height fits low multiple = ⊎_elim
    (λ none. rw none (omega (arith, low, zeros_of_zero)))
    (λ some.
    let lowest = bit_at-trailing_zeros w64 number (omega arith) fits in
    let even : number % 2 ^ (3 * height) ≡ 0 = rw eights at multiple in
    ⊎_elim (λ more.
    let clear : bit_at number (trailing_zeros w64 number) ≡ 0 = bits_of_multiple number (3 * height) (trailing_zeros w64 number) even (omega arith) in
    absurd (omega (arith, clear, lowest.1)))
    (λ within. within) (cases_lt (trailing_zeros w64 number / 3) height))
    (cases_eq number 0)

-- a third of the binary logarithm
pub power_below : (number log : ℕ) → 2 ^ log ≤ number → 8 ^ (log / 3) ≤ number
power_below number log below =
    let grows : 2 ^ (3 * (log / 3)) ≤ 2 ^ log = pow-le-pow_right {n = 2} (lit< tt) {i = 3 * (log / 3)} {j = log} (omega arith) in
    rw eights (omega (arith, grows))

pub power_above : (number log : ℕ) → number < 2 * 2 ^ log → number < 8 * 8 ^ (log / 3)
power_above number log above =
    let grows : 2 ^ suc log ≤ 2 ^ (3 * suc (log / 3)) = pow-le-pow_right {n = 2} (lit< tt) {i = suc log} {j = 3 * suc (log / 3)} (omega arith) in
    omega (arith, grows, pow-suc 2 log, eights (suc (log / 3)), pow-suc 8 (log / 3))
