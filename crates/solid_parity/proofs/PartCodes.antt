-- The codes of a part's cells, and their coordinates.
use Rattle.std.proofs.Common.{◌≡◌, ℕ, zero, suc, ◌+◌, ◌*◌, ◌/◌, ◌%◌, ◌^◌, ◌<◌, arith, refl, ap, ◌∙◌}
use Rattle.std.proofs.Math.Nat.{pow-succ'}
use Rattle.octree_specs.specs.NodeCube.{coordinate_of}

-- the last octal digit's bit of an axis
low_bit : (axis m l : ℕ) → axis < 3 → (8 * m + l) / 2 ^ axis % 2 ≡ l / 2 ^ axis % 2
low_bit zero m l below = omega arith
low_bit (suc zero) m l below = omega arith
low_bit (suc (suc zero)) m l below = omega arith
low_bit (suc (suc (suc axis))) m l below = absurd (omega (arith, below))

code_step : (axis h part place rest next : ℕ) → axis < 3 → next ≡ rest → (8 * (part * 8 ^ h) + place) / 2 ^ axis % 2 + 2 * next ≡ place / 2 ^ axis % 2 + 2 * rest
code_step axis h part place rest next three is = rw (low_bit axis (part * 8 ^ h) place three, is) refl

pub coordinate_in_part : (axis split height levels part place : ℕ) → levels ≡ height + split → axis < 3 → place < 8 ^ height
    → coordinate_of axis levels (part * 8 ^ height + place) ≡ coordinate_of axis split part * 2 ^ height + coordinate_of axis height place
unfolding coordinate_of
coordinate_in_part axis split zero levels part place is three below =
    let same : levels ≡ split = omega (arith, is) in
    let code : part * 1 + place ≡ part = omega (arith, below) in
    rw same (ap (coordinate_of axis split) code ∙ omega arith)
coordinate_in_part axis split (suc height) zero part place is three below = absurd (omega (arith, is))
coordinate_in_part axis split (suc height) (suc levels) part place is three below =
    let eight : 8 ^ suc height ≡ 8 * 8 ^ height = pow_suc 8 height in
    let two : 2 ^ suc height ≡ 2 * 2 ^ height = pow_suc 2 height in
    let whole : part * 8 ^ suc height + place ≡ 8 * (part * 8 ^ height) + place = rw eight (omega arith) in
    let short : place / 8 < 8 ^ height = omega (arith, below, eight) in
    let quotient : (8 * (part * 8 ^ height) + place) / 8 ≡ part * 8 ^ height + place / 8 = omega arith in
    let rest = coordinate_in_part axis split height levels part (place / 8) (omega (arith, is)) three short in
    let part_of : coordinate_of axis split part * 2 ^ suc height ≡ 2 * (coordinate_of axis split part * 2 ^ height) = rw two (omega arith) in
    ap (λ code. code / 2 ^ axis % 2 + 2 * coordinate_of axis levels (code / 8)) whole
    ∙ (code_step axis height part place _ _ three (ap (coordinate_of axis levels) quotient ∙ rest) ∙ omega (arith, part_of))
  where
    pow_suc : (base n : ℕ) → base ^ suc n ≡ base * base ^ n
    pow_suc base n = pow-succ' base n
