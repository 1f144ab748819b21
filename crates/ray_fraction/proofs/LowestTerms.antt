-- Two numbers divided by their greatest common divisor, and fractions in lowest terms.
use Rattle.std.proofs.Common.{◌≡◌, ℕ, zero, suc, ◌+◌, ◌-◌, ◌*◌, ◌/◌, ◌%◌, ◌<◌, ◌≤◌, arith, ap, sym, subst, ⊎_elim}
use Prim.Native.Nat.{◌∣◌}
use Rattle.std.specs.Int.{IsGcd}
use Rattle.std.proofs.Math.Nat.{mul-div_cancel', mul-dvd-mul_left, mul-le-mul_left, le_of_mul-le-mul_right, div-add-mod, mod-lt, dvd-mul_right, dvd-mod_iff, one-dvd}
use Rattle.std.proofs.lemmas.Bool.{cases_lt}
use Rattle.std.proofs.lemmas.Nat.Gcd.{le_of_dvd, dvd_refl, dvd_antisymm, dvd_of_mod-eq-zero}
use Rattle.ray_fraction.specs.Fractions.{IsReduced}

crossed : (g p q n m : ℕ) → g * p ≡ n → g * q ≡ m → p * m ≡ n * q
crossed g p q n m top bottom = rw (← top, ← bottom) (omega arith)

-- the value stays
pub same_value : (n m g : ℕ) → IsGcd n m g → n / g * m ≡ n * (m / g)
same_value n m g divisor = crossed g (n / g) (m / g) n m (mul-div_cancel' g divisor.0) (mul-div_cancel' g divisor.1)

some_factor : (g q m : ℕ) → g * q ≡ m → 1 ≤ m → 1 ≤ q
some_factor g zero m whole some = omega (arith, whole)
some_factor g (suc q) m whole some = omega arith

-- a quotient of a number that is not 0 is not 0
pub some_quotient : (n m g : ℕ) → IsGcd n m g → 1 ≤ m → 1 ≤ m / g
some_quotient n m g divisor some = some_factor g (m / g) m (mul-div_cancel' g divisor.1) some

at_most_one : (g d : ℕ) → 1 ≤ g → g * d ≤ g → d ≤ 1
at_most_one g d some within =
    ⊎_elim (λ (more : 1 < d). let twice : g * 2 ≤ g * d = mul-le-mul_left g more in absurd (omega arith)) (λ (few : d ≤ 1). few) (cases_lt 1 d)

-- no number above 1 divides both quotients
pub lowest_terms : (n m g : ℕ) → IsGcd n m g → 1 ≤ g → IsReduced (n / g) (m / g)
lowest_terms n m g divisor some d top bottom =
    let above : g * d ∣ n = let P : ℕ → Type 0 = λ whole. g * d ∣ whole in subst P (mul-div_cancel' g divisor.0) (mul-dvd-mul_left d g top) in
    let below : g * d ∣ m = let P : ℕ → Type 0 = λ whole. g * d ∣ whole in subst P (mul-div_cancel' g divisor.1) (mul-dvd-mul_left d g bottom) in
    at_most_one g d some (le_of_dvd some (divisor.2 (g * d) above below))

-- ---- a value has one fraction in lowest terms

step_down : (n m q r k l less : ℕ) → m * q + r ≡ n → k ≡ less + q * l → n * l ≡ k * m → m * less ≡ l * r
step_down n m q r k l less parts split same = omega (arith, ap (λ x. x * l) parts, ap (λ x. x * m) split, same)

step_up : (m r l less c : ℕ) → 1 ≤ r → r * c ≡ less → m * less ≡ l * r → m * c ≡ l
step_up m r l less c some whole same =
    let grown : m * c * r ≡ l * r = omega (arith, ap (λ x. m * x) whole, same) in
    let up = le_of_mul-le-mul_right {m = m * c} {n = l} {k = r} (omega (arith, grown)) some in
    let down = le_of_mul-le-mul_right {m = l} {n = m * c} {k = r} (omega (arith, grown)) some in
    omega (arith, up, down)

reduced_rest : (n m : ℕ) → IsReduced n m → IsReduced m (n % m)
reduced_rest n m reduced d whole rest = reduced d ((dvd-mod_iff d whole).0 rest) whole

-- a denominator in lowest terms divides every other one of the same value
divides : (bound n m k l : ℕ) → m ≤ bound → 1 ≤ m → IsReduced n m → n * l ≡ k * m → m ∣ l
divides zero n m k l within some reduced same = absurd (omega (arith, within, some))
divides (suc bound) n m k l within some reduced same =
    let parts : m * (n / m) + n % m ≡ n = div-add-mod n m in
    let below : n % m < m = mod-lt n some in
    let fits : n / m * l ≤ k = le_of_mul-le-mul_right {m = n / m * l} {n = k} {k = m} (omega (arith, ap (λ x. x * l) parts, same)) some in
    ⊎_elim (λ (rest : 0 < n % m).
    let down = step_down n m (n / m) (n % m) k l (k - n / m * l) parts (omega (arith, fits)) same in
    let shared = divides bound m (n % m) l (k - n / m * l) (omega (arith, within, below)) rest (reduced_rest n m reduced) down in
    let c = (k - n / m * l) / (n % m) in
    let whole : m * c ≡ l = step_up m (n % m) l (k - n / m * l) c rest (mul-div_cancel' (n % m) shared) down in
    subst (λ x. m ∣ x) whole (dvd-mul_right m c)) (λ (none : n % m ≤ 0).
    let one : m ≡ 1 = omega (arith, some, reduced m (dvd_of_mod-eq-zero m (omega (arith, none))) (dvd_refl m)) in
    subst (λ x. x ∣ l) (sym one) (one-dvd l)) (cases_lt 0 (n % m))

-- fractions of the same value, both in lowest terms, are the same
pub same_terms : (n m k l : ℕ) → 1 ≤ m → 1 ≤ l → IsReduced n m → IsReduced k l → n * l ≡ k * m → (n ≡ k) × (m ≡ l)
same_terms n m k l some_m some_l reduced_n reduced_k same =
    let below = dvd_antisymm (divides m n m k l (omega arith) some_m reduced_n same) (divides l k l n m (omega arith) some_l reduced_k (sym same)) in
    let whole : n * l ≡ k * l = omega (arith, same, ap (λ x. k * x) below) in
    let up = le_of_mul-le-mul_right {m = n} {n = k} {k = l} (omega (arith, whole)) some_l in
    let down = le_of_mul-le-mul_right {m = k} {n = n} {k = l} (omega (arith, whole)) some_l in
    (omega (arith, up, down), below)
