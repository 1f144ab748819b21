-- What the masks of `spread` and `gather` compute.
use Rattle.std.proofs.Common.{◌≡◌, ℕ, zero, suc, ◌+◌, ◌*◌, ◌/◌, ◌%◌, ◌^◌, ◌<◌, ◌≤◌, refl, sym, ap, ◌∙◌, arith, bit_and, bit_or, lit<, lit≤, mod-eq_of_lt}
use Rattle.std.proofs.Math.Nat.{mod-mod}
use Rattle.std.proofs.lemmas.Nat.{and_block, or_block, or_lt, or_shifted, or_comm, and_le_r, and_mask, and_mod, or_mod}
use Rattle.octree_specs.specs.NodeCube.{code_of, coordinate_of}
use Rattle.morton_code.proofs.Coordinates.{coordinate_below, code_below}
use Rattle.morton_code.proofs.Blocks.{blocks, ones, halves_apart, halves_together}

-- what is shifted out of 64 bits lies outside the mask
mask_covers : (c d mask : ℕ) → mask < 2 ^ 64 → bit_and (bit_or c (d % 2 ^ 64)) mask ≡ bit_and (bit_or c d) mask
mask_covers c d mask fits =
    let low : (a : ℕ) → bit_and a mask ≡ bit_and (a % 2 ^ 64) (mask % 2 ^ 64) = λ a.
    let short : bit_and a mask < 2 ^ 64 = let under : bit_and a mask ≤ mask = and_le_r a mask in omega (arith, under) in
    sym (mod-eq_of_lt short) ∙ and_mod a mask 64 in
    let same : bit_or c (d % 2 ^ 64) % 2 ^ 64 ≡ bit_or c d % 2 ^ 64 =
    or_mod c (d % 2 ^ 64) 64 ∙ ap (bit_or (c % 2 ^ 64)) (mod-mod d (2 ^ 64)) ∙ sym (or_mod c d 64) in
    low (bit_or c (d % 2 ^ 64)) ∙ ap (λ a. bit_and a (mask % 2 ^ 64)) same ∙ sym (low (bit_or c d))

-- a step of `spread`
abbrev step_up : ℕ → ℕ → ℕ → ℕ
step_up shift mask c = bit_and (bit_or c (c * 2 ^ shift % 2 ^ 64)) mask

step_up_is : (b n m x : ℕ) → m ≤ n + n → ones b m < 2 ^ 64 → step_up (b + b) (ones b m) (blocks (b + b) n x) ≡ blocks b m x
step_up_is b n m x few fits = mask_covers (blocks (b + b) n x) (blocks (b + b) n x * 2 ^ (b + b)) (ones b m) fits ∙ halves_apart b n m x few

-- a number of one block
one_block : (b x : ℕ) → x < 2 ^ b → blocks b 1 x ≡ x
unfolding blocks
one_block b x short =
    let alone : 0 * 2 ^ (b + b + b) + x % 2 ^ b ≡ x % 2 ^ b = omega arith in
    rw alone (mod-eq_of_lt short)

-- blocks of one bit make the code of one coordinate
blocks_are_code : (n x : ℕ) → blocks 1 n x ≡ code_of n x 0 0
unfolding blocks code_of
blocks_are_code zero x = refl
blocks_are_code (suc n) x = omega (arith, blocks_are_code n (x / 2))

-- all steps of `spread`
pub spread_is : (x : ℕ) → x < 2 ^ 20 →
    step_up 2 0x0249249249249249 (step_up 4 0x00c30c30c30c30c3 (step_up 8 0x000f00f00f00f00f (step_up 16 0x00ff0000ff0000ff (step_up 32 0xffff00000000ffff x)))) ≡ code_of 20 x 0 0
unfolding ones
spread_is x short =
    let by_32 : x ≡ blocks 32 1 x = sym (one_block 32 x (omega arith)) in
    let by_16 : step_up 32 0xffff00000000ffff (blocks 32 1 x) ≡ blocks 16 2 x = step_up_is 16 1 2 x (lit≤ tt) (lit< tt) in
    let by_8 : step_up 16 0x00ff0000ff0000ff (blocks 16 2 x) ≡ blocks 8 3 x = step_up_is 8 2 3 x (lit≤ tt) (lit< tt) in
    let by_4 : step_up 8 0x000f00f00f00f00f (blocks 8 3 x) ≡ blocks 4 5 x = step_up_is 4 3 5 x (lit≤ tt) (lit< tt) in
    let by_2 : step_up 4 0x00c30c30c30c30c3 (blocks 4 5 x) ≡ blocks 2 10 x = step_up_is 2 5 10 x (lit≤ tt) (lit< tt) in
    let by_1 : step_up 2 0x0249249249249249 (blocks 2 10 x) ≡ blocks 1 20 x = step_up_is 1 10 20 x (lit≤ tt) (lit< tt) in
    ap (step_up 2 0x0249249249249249) (ap (step_up 4 0x00c30c30c30c30c3) (ap (step_up 8 0x000f00f00f00f00f) (ap (step_up 16 0x00ff0000ff0000ff) (ap (step_up 32 0xffff00000000ffff) by_32 ∙ by_16) ∙ by_8) ∙ by_4) ∙ by_2) ∙ by_1 ∙ blocks_are_code 20 x

-- the bits that a mask of every third bit keeps
mask_thirds : (n code : ℕ) → bit_and code (ones 1 n) ≡ blocks 1 n (coordinate_of 0 n code)
unfolding ones blocks coordinate_of
mask_thirds zero code = let under : bit_and code 0 ≤ 0 = and_le_r code 0 in omega (arith, under)
mask_thirds (suc n) code =
    let cut : code ≡ code / 8 * 8 + code % 8 = omega arith in
    let digit : code % 8 < 2 ^ 3 = omega arith in
    let lowest : bit_and (code % 8) 1 ≡ code % 2 = and_mask (code % 8) 1 ∙ omega arith in
    let parts : bit_and (code / 8 * 8 + code % 8) (ones 1 n * 8 + 1) ≡ bit_and (code / 8) (ones 1 n) * 8 + bit_and (code % 8) 1 =
    and_block 3 (code / 8) (ones 1 n) (code % 8) 1 digit (lit< tt) in
    let rest : (code / 1 % 2 + 2 * coordinate_of 0 n (code / 8)) / 2 ≡ coordinate_of 0 n (code / 8) = omega arith in
    let bit : (code / 1 % 2 + 2 * coordinate_of 0 n (code / 8)) % 2 ≡ code % 2 = omega arith in
    ap (λ whole. bit_and whole (ones 1 n * 8 + 1)) cut ∙ parts ∙ rw (rest, bit, lowest, mask_thirds n (code / 8)) refl

-- a step of `gather`
abbrev step_down : ℕ → ℕ → ℕ → ℕ
step_down shift mask f = bit_and (bit_or f (f / 2 ^ shift)) mask

-- no block is above the number's bits
no_sixth : (x : ℕ) → x < 2 ^ 20 → blocks 4 5 x ≡ blocks 4 6 x
unfolding blocks
no_sixth x short = omega arith

no_fourth : (x : ℕ) → x < 2 ^ 20 → blocks 8 3 x ≡ blocks 8 4 x
unfolding blocks
no_fourth x short = omega arith

-- all steps of `gather`
pub gather_is : (code : ℕ) →
    step_down 32 0xffffffff (step_down 16 0xffff00000000ffff (step_down 8 0x00ff0000ff0000ff (step_down 4 0x000f00f00f00f00f (step_down 2 0x00c30c30c30c30c3 (bit_and code 0x0249249249249249))))) ≡ coordinate_of 0 20 code
unfolding ones
gather_is code =
    let x : ℕ = coordinate_of 0 20 code in
    let short : x < 2 ^ 20 = coordinate_below 0 20 code in
    let by_1 : bit_and code 0x0249249249249249 ≡ blocks 1 20 x = mask_thirds 20 code in
    let by_2 : step_down 2 0x00c30c30c30c30c3 (blocks 1 20 x) ≡ blocks 2 10 x = halves_together 1 10 20 x refl in
    let by_4 : step_down 4 0x000f00f00f00f00f (blocks 2 10 x) ≡ blocks 4 5 x = halves_together 2 5 10 x refl in
    let by_8 : step_down 8 0x00ff0000ff0000ff (blocks 4 6 x) ≡ blocks 8 3 x = halves_together 4 3 6 x refl in
    let by_16 : step_down 16 0xffff00000000ffff (blocks 8 4 x) ≡ blocks 16 2 x = halves_together 8 2 4 x refl in
    let by_32 : step_down 32 0xffffffff (blocks 16 2 x) ≡ blocks 32 1 x = halves_together 16 1 2 x refl in
    ap (step_down 32 0xffffffff) (ap (step_down 16 0xffff00000000ffff) (ap (step_down 8 0x00ff0000ff0000ff) (ap (step_down 4 0x000f00f00f00f00f) (ap (step_down 2 0x00c30c30c30c30c3) by_1 ∙ by_2) ∙ by_4 ∙ no_sixth x short) ∙ by_8 ∙ no_fourth x short) ∙ by_16) ∙ by_32 ∙ one_block 32 x (omega (arith, short))

pub gather_below : (code : ℕ) →
    step_down 32 0xffffffff (step_down 16 0xffff00000000ffff (step_down 8 0x00ff0000ff0000ff (step_down 4 0x000f00f00f00f00f (step_down 2 0x00c30c30c30c30c3 (bit_and code 0x0249249249249249))))) < 2 ^ 20
gather_below code = rw (gather_is code) (coordinate_below 0 20 code)

-- three bits side by side
bits_joined : (a b c : ℕ) → a < 2 → b < 2 → c < 2 → bit_or (bit_or a (b * 2)) (c * 4) ≡ a + 2 * b + 4 * c
bits_joined a b c p q r =
    let two : bit_or a (b * 2) ≡ b * 2 + a = or_comm a (b * 2) ∙ or_shifted b 1 a p in
    let three : bit_or (b * 2 + a) (c * 4) ≡ c * 4 + (b * 2 + a) = or_comm (b * 2 + a) (c * 4) ∙ or_shifted c 2 (b * 2 + a) (omega arith) in
    rw two (three ∙ omega arith)

-- the codes of the coordinates alone, one place and two places up, make the code of all three
codes_joined : (n x y z : ℕ) → bit_or (bit_or (code_of n x 0 0) (code_of n y 0 0 * 2)) (code_of n z 0 0 * 4) ≡ code_of n x y z
unfolding code_of
codes_joined zero x y z = refl
codes_joined (suc n) x y z =
    let a : ℕ = x % 2 in
    let b : ℕ = y % 2 in
    let c : ℕ = z % 2 in
    let p : ℕ = code_of n (x / 2) 0 0 in
    let q : ℕ = code_of n (y / 2) 0 0 in
    let r : ℕ = code_of n (z / 2) 0 0 in
    let a_bit : a < 2 = omega arith in
    let b_bit : b < 2 = omega arith in
    let c_bit : c < 2 = omega arith in
    let pair : bit_or (p * 8 + a) (q * 2 * 8 + b * 2) ≡ bit_or p (q * 2) * 8 + bit_or a (b * 2) = or_block 3 p (q * 2) a (b * 2) (omega arith) (omega arith) in
    let whole : bit_or (bit_or p (q * 2) * 8 + bit_or a (b * 2)) (r * 4 * 8 + c * 4) ≡ bit_or (bit_or p (q * 2)) (r * 4) * 8 + bit_or (bit_or a (b * 2)) (c * 4) =
    or_block 3 (bit_or p (q * 2)) (r * 4) (bit_or a (b * 2)) (c * 4) (or_lt 3 a (b * 2) (omega arith) (omega arith)) (omega arith) in
    let x_cut : a + 0 + 0 + 8 * p ≡ p * 8 + a = omega arith in
    let y_cut : (b + 0 + 0 + 8 * q) * 2 ≡ q * 2 * 8 + b * 2 = omega arith in
    let z_cut : (c + 0 + 0 + 8 * r) * 4 ≡ r * 4 * 8 + c * 4 = omega arith in
    rw (x_cut, y_cut, z_cut, pair, whole, codes_joined n (x / 2) (y / 2) (z / 2), bits_joined a b c a_bit b_bit c_bit) (omega arith)

-- what `encode` computes
pub encode_is : (x y z p q r : ℕ) → p ≡ code_of 20 x 0 0 → q ≡ code_of 20 y 0 0 → r ≡ code_of 20 z 0 0 → bit_or (bit_or p (q * 2 % 2 ^ 64)) (r * 4 % 2 ^ 64) ≡ code_of 20 x y z
encode_is x y z p q r is_p is_q is_r =
    let q_fits : code_of 20 y 0 0 * 2 % 2 ^ 64 ≡ code_of 20 y 0 0 * 2 = omega (arith, code_below 20 y 0 0) in
    let r_fits : code_of 20 z 0 0 * 4 % 2 ^ 64 ≡ code_of 20 z 0 0 * 4 = omega (arith, code_below 20 z 0 0) in
    rw (is_p, is_q, is_r, q_fits, r_fits) (codes_joined 20 x y z)
