-- Octal digits by bits.
use Rattle.std.proofs.Common.{◌≡◌, ◌≢◌, ℕ, zero, suc, ◌+◌, ◌*◌, ◌/◌, ◌^◌, ◌<◌, refl, sym, ap, ◌∙◌, inl, inr, arith}
use Rattle.std.proofs.Math.Nat.{pow-suc, div-eq_of_lt, eq-or-lt_of_le}

pub octal_digits : (height : ℕ) → 2 ^ (3 * height) ≡ 8 ^ height
octal_digits zero = refl
octal_digits (suc height) =
    let e : 3 * suc height ≡ suc (suc (suc (3 * height))) = omega arith in
    let twice : 2 ^ (3 * suc height) ≡ 2 ^ (3 * height) * 8 =
    ap (λ n. 2 ^ n) e ∙ omega (arith, pow-suc 2 (suc (suc (3 * height))), pow-suc 2 (suc (3 * height)), pow-suc 2 (3 * height)) in
    twice ∙ (ap (λ n. n * 8) (octal_digits height) ∙ sym (pow-suc 8 height))

-- where cells of an octree lie under different nodes, these are below the root
pub below_root : (last code depth height : ℕ) → last < 8 ^ depth → code < 8 ^ depth → height < depth → code / 8 ^ (height + 1) ≢ last / 8 ^ (height + 1) → height + 1 < depth
below_root last code depth height last_in code_in within apart =
    elim (eq-or-lt_of_le {n = height + 1} {m = depth} (omega (arith, within))) [
      | inl root ↦ absurd (apart (ap (λ n. code / 8 ^ n) root ∙ (div-eq_of_lt code_in ∙ (sym (div-eq_of_lt last_in) ∙ ap (λ n. last / 8 ^ n) (sym root)))))
      | inr less ↦ less
    ]
