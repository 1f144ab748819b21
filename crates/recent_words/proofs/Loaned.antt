-- Two numbers out of one.
use Rattle.std.proofs.Common.{◌≡◌, ℕ, zero, suc, ◌+◌, ◌*◌, ◌^◌, refl, sym, ap, ◌∙◌, subst, arith}
use Rattle.std.proofs.Math.Nat.{pow-suc}
use Rattle.recent_words.specs.Loans.{loan_number}

twice : (n x : ℕ) → 2 ^ suc n * x ≡ 2 * (2 ^ n * x)
twice n x =
    let power : 2 ^ suc n ≡ 2 * 2 ^ n = omega (arith, pow-suc 2 n) in
    ap (λ p. p * x) power ∙ omega arith

parts : (m n a b : ℕ) → 2 ^ m * (2 * a + 1) ≡ 2 ^ n * (2 * b + 1) → (m ≡ n) × (a ≡ b)
parts zero zero a b same = (refl, omega (arith, same))
parts zero (suc n) a b same =
    let even : 2 ^ suc n * (2 * b + 1) ≡ 2 * (2 ^ n * (2 * b + 1)) = twice n (2 * b + 1) in
    let k : ℕ = 2 ^ n * (2 * b + 1) in
    let odd : 2 * a + 1 ≡ 2 * k = omega (arith, same, even) in
    absurd (omega (arith, odd))
parts (suc m) zero a b same =
    let even : 2 ^ suc m * (2 * a + 1) ≡ 2 * (2 ^ m * (2 * a + 1)) = twice m (2 * a + 1) in
    let k : ℕ = 2 ^ m * (2 * a + 1) in
    let odd : 2 * k ≡ 2 * b + 1 = omega (arith, same, even) in
    absurd (omega (arith, odd))
parts (suc m) (suc n) a b same =
    let k : ℕ = 2 ^ m * (2 * a + 1) in
    let j : ℕ = 2 ^ n * (2 * b + 1) in
    let twices : 2 * k ≡ 2 * j = sym (twice m (2 * a + 1)) ∙ (same ∙ twice n (2 * b + 1)) in
    let here : (m ≡ n) × (a ≡ b) = parts m n a b (omega (arith, twices)) in
    (ap (λ i. suc i) here.0, here.1)

pub same_loans : (name other behind before : ℕ) → loan_number name behind ≡ loan_number other before → (name ≡ other) × (behind ≡ before)
unfolding loan_number
same_loans name other behind before same = parts name other behind before same

-- ---- what holds of a file and of what was read through the table holds of the lent file before and after

pub given_back : {R : Type 0} (P : R → R → Type 0) (first before after given : R) → first ≡ before → given ≡ after → P first after → P before given
given_back P first before after given begins ends holds = subst (λ r. P r given) begins (subst (λ r. P first r) (sym ends) holds)
