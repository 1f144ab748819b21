-- The order of fractions.
use Rattle.std.proofs.Common.{◌≡◌, ℕ, ◌*◌, ◌<◌, ◌≤◌, arith, Bool, true, false, ⊎_elim}
use Rattle.std.proofs.lemmas.Bool.{cases_lt}
use Rattle.std.proofs.Math.Nat.{mul-le-mul_right, le_of_mul-le-mul_right}
use Rattle.ray_fraction.specs.Fractions.{IsUpTo}

-- a / b ≤ c / d ≤ e / f
pub up_to_trans : (a b c d e f : ℕ) → 1 ≤ d → IsUpTo a b c d → IsUpTo c d e f → IsUpTo a b e f
up_to_trans a b c d e f some first second =
    let grown : a * f * d ≤ e * b * d = omega (arith, mul-le-mul_right f first, mul-le-mul_right b second) in
    le_of_mul-le-mul_right {m = a * f} {n = e * b} {k = d} grown some

-- what is not seen to be less is not less
pub not_less : (seen : Bool) (x y : ℕ) → (x < y → seen ≡ true) → seen ≡ false → y ≤ x
not_less seen x y sees not_seen =
    ⊎_elim (λ (less : x < y). let is_seen = sees less in cc) (λ (rest : y ≤ x). rest) (cases_lt x y)

-- a fraction of the same value is where the other is
pub same_start : (a b n m k l : ℕ) → 1 ≤ b → n * b ≡ a * m → IsUpTo a b k l → IsUpTo n m k l
same_start a b n m k l some same up = up_to_trans n m a b k l some (omega (arith, same)) up

pub same_end : (a b n m k l : ℕ) → 1 ≤ b → n * b ≡ a * m → IsUpTo k l a b → IsUpTo k l n m
same_end a b n m k l some same up = up_to_trans k l a b n m some up (omega (arith, same))
