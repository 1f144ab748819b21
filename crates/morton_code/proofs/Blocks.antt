-- Numbers cut into blocks of so many bits that are put apart, each at the bottom of three times its room, and how shifts and masks go from blocks of one size to those of half or double that size.
use Rattle.std.proofs.Common.{◌≡◌, ℕ, zero, suc, ◌+◌, ◌-◌, ◌*◌, ◌/◌, ◌%◌, ◌^◌, ◌<◌, ◌≤◌, refl, ◌∙◌, arith, bit_and, bit_or, lit<, zero-add, zero-mul, mod-eq_of_lt, div-add-mod', lt_of_lt_of_le, add-zero}
use Rattle.std.proofs.Math.Nat.{pow-le-pow_right, mul-mod_left, add-mul-mod_self_right}
use Rattle.std.proofs.lemmas.Nat.{pow-add, pow_pos, and_block, or_block, or_shifted, or_comm, and_le_r, or_lt, and_mask, or_mod, mod_low, mod-pow-add, field_of, shr-shr, shr_high, mul-add-lt, shl_below, shr_below, mod_below}

-- so many blocks of b bits
unfoldable pub blocks : ℕ → ℕ → ℕ → ℕ
blocks b zero x = 0
blocks b (suc n) x = blocks b n (x / 2 ^ b) * 2 ^ (b + b + b) + x % 2 ^ b

-- so many blocks of ones
unfoldable pub ones : ℕ → ℕ → ℕ
ones b zero = 0
ones b (suc n) = ones b n * 2 ^ (b + b + b) + (2 ^ b - 1)

-- powers of sums of a number with itself
square : (b : ℕ) → 2 ^ (b + b) ≡ 2 ^ b * 2 ^ b
square b = pow-add 2 b b

cube : (b : ℕ) → 2 ^ (b + b + b) ≡ 2 ^ (b + b) * 2 ^ b
cube b = pow-add 2 (b + b) b

sixth : (b : ℕ) → 2 ^ ((b + b) + (b + b) + (b + b)) ≡ 2 ^ (b + b + b) * 2 ^ (b + b + b)
sixth b =
    let same : (b + b) + (b + b) + (b + b) ≡ (b + b + b) + (b + b + b) = omega arith in
    rw same (pow-add 2 (b + b + b) (b + b + b))

-- a number of twice b bits, and one of three times b bits, by their parts
pair_below : (b h l : ℕ) → h < 2 ^ b → l < 2 ^ b → h * 2 ^ b + l < 2 ^ (b + b)
pair_below b h l p q = rw square (mul-add-lt h (2 ^ b) l (2 ^ b) p q)

triple_below : (b a l : ℕ) → a < 2 ^ (b + b) → l < 2 ^ b → a * 2 ^ b + l < 2 ^ (b + b + b)
triple_below b a l p q =
    let small : a * 2 ^ b + l < 2 ^ b * 2 ^ (b + b) = mul-add-lt a (2 ^ b) l (2 ^ (b + b)) p q in
    omega (arith, cube b, small)

-- two numbers of b bits, one at the bottom and one above three times b bits
far_pair_below : (b h l : ℕ) → h < 2 ^ (b + b + b) → l < 2 ^ (b + b + b) → h * 2 ^ (b + b + b) + l < 2 ^ ((b + b) + (b + b) + (b + b))
far_pair_below b h l p q = rw sixth (mul-add-lt h (2 ^ (b + b + b)) l (2 ^ (b + b + b)) p q)

block_below : (b l : ℕ) → l < 2 ^ b → l < 2 ^ (b + b + b)
block_below b l p = rw (← zero-add l, ← zero-mul (2 ^ b)) (triple_below b 0 l (pow_pos (b + b)) p)

-- nothing is left under a mask of zeros
and_none : (a : ℕ) → bit_and a 0 ≡ 0
and_none a = let none : bit_and a 0 ≤ 0 = and_le_r a 0 in omega (arith, none)

or_none : (a : ℕ) → bit_or a 0 ≡ a
or_none a = or_comm a 0

-- a number of twice b bits is its halves
halves : (b v : ℕ) → v / 2 ^ b * 2 ^ b + v % 2 ^ b ≡ v
halves b v = div-add-mod' v (2 ^ b)

half_below : (b v : ℕ) → v < 2 ^ (b + b) → v / 2 ^ b < 2 ^ b
half_below b v short = shr_below v b b short

-- a block above its copy, by halves of it
copy_cut : (v h l room : ℕ) → h * room + l ≡ v → v * (room * room) + v ≡ h * (room * room * room) + ((l * room + h) * room + l)
copy_cut v h l room whole = rw (← whole) (omega arith)

-- in one room of six times b bits: of a block of twice b bits and its copy, the low half stays and the high half goes up
lane_up : (b v : ℕ) → v < 2 ^ (b + b) →
    bit_and (bit_or v (v * 2 ^ (b + b))) ((2 ^ b - 1) * 2 ^ (b + b + b) + (2 ^ b - 1)) ≡ v / 2 ^ b * 2 ^ (b + b + b) + v % 2 ^ b
lane_up b v short =
    let h : ℕ = v / 2 ^ b in
    let l : ℕ = v % 2 ^ b in
    let h_below : h < 2 ^ b = half_below b v short in
    let l_below : l < 2 ^ b = mod_below v (2 ^ b) (pow_pos b) in
    let ones_below : 2 ^ b - 1 < 2 ^ (b + b + b) = block_below b (2 ^ b - 1) (omega (arith, pow_pos b)) in
    let joined : bit_or v (v * 2 ^ (b + b)) ≡ v * 2 ^ (b + b) + v = or_comm v (v * 2 ^ (b + b)) ∙ or_shifted v (b + b) v short in
    let low : ℕ = (l * 2 ^ b + h) * 2 ^ b + l in
    let low_below : low < 2 ^ (b + b + b) = triple_below b (l * 2 ^ b + h) l (pair_below b l h l_below h_below) l_below in
    let cut : v * 2 ^ (b + b) + v ≡ h * 2 ^ (b + b + b) + low = rw (cube b, square b) (copy_cut v h l (2 ^ b) (halves b v)) in
    let masked : bit_and (h * 2 ^ (b + b + b) + low) ((2 ^ b - 1) * 2 ^ (b + b + b) + (2 ^ b - 1)) ≡ bit_and h (2 ^ b - 1) * 2 ^ (b + b + b) + bit_and low (2 ^ b - 1) =
    and_block (b + b + b) h (2 ^ b - 1) low (2 ^ b - 1) low_below ones_below in
    let high_part : bit_and h (2 ^ b - 1) ≡ h = and_mask h b ∙ mod-eq_of_lt h_below in
    let low_part : bit_and low (2 ^ b - 1) ≡ l = and_mask low b ∙ mod_low (l * 2 ^ b + h) b l l_below in
    rw (joined, cut, masked, high_part, low_part) refl

-- the low b bits of a number are those of its low 2 * b bits
low_of_pair : (b x : ℕ) → x % 2 ^ (b + b) % 2 ^ b ≡ x % 2 ^ b
low_of_pair b x = rw (mod-pow-add x b b) (mod_low (x / 2 ^ b % 2 ^ b) b (x % 2 ^ b) (mod_below x (2 ^ b) (pow_pos b)))

-- one room more, under a mask with two blocks more
room_up : (b rest mask next v : ℕ) → v < 2 ^ (b + b) → bit_and (bit_or rest (rest * 2 ^ (b + b))) mask ≡ next →
    bit_and (bit_or (rest * 2 ^ ((b + b) + (b + b) + (b + b)) + v) ((rest * 2 ^ ((b + b) + (b + b) + (b + b)) + v) * 2 ^ (b + b))) ((mask * 2 ^ (b + b + b) + (2 ^ b - 1)) * 2 ^ (b + b + b) + (2 ^ b - 1))
    ≡ (next * 2 ^ (b + b + b) + v / 2 ^ b) * 2 ^ (b + b + b) + v % 2 ^ b
room_up b rest mask next v short above =
    let room : ℕ = (b + b) + (b + b) + (b + b) in
    let block : ℕ = (2 ^ b - 1) * 2 ^ (b + b + b) + (2 ^ b - 1) in
    let ones_below : 2 ^ b - 1 < 2 ^ (b + b + b) = block_below b (2 ^ b - 1) (omega (arith, pow_pos b)) in
    let block_fits : block < 2 ^ room = far_pair_below b (2 ^ b - 1) (2 ^ b - 1) ones_below ones_below in
    let v_fits : v < 2 ^ room = block_below (b + b) v short in
    let copy_fits : v * 2 ^ (b + b) < 2 ^ room = lt_of_lt_of_le (shl_below v (b + b) (b + b) short) (pow-le-pow_right {n = 2} (lit< tt) (omega arith)) in
    let copied : (rest * 2 ^ room + v) * 2 ^ (b + b) ≡ (rest * 2 ^ (b + b)) * 2 ^ room + v * 2 ^ (b + b) = omega arith in
    let mask_cut : (mask * 2 ^ (b + b + b) + (2 ^ b - 1)) * 2 ^ (b + b + b) + (2 ^ b - 1) ≡ mask * 2 ^ room + block = rw sixth (omega arith) in
    let next_cut : (next * 2 ^ (b + b + b) + v / 2 ^ b) * 2 ^ (b + b + b) + v % 2 ^ b ≡ next * 2 ^ room + (v / 2 ^ b * 2 ^ (b + b + b) + v % 2 ^ b) = rw sixth (omega arith) in
    let joined : bit_or (rest * 2 ^ room + v) ((rest * 2 ^ (b + b)) * 2 ^ room + v * 2 ^ (b + b)) ≡ bit_or rest (rest * 2 ^ (b + b)) * 2 ^ room + bit_or v (v * 2 ^ (b + b)) =
    or_block room rest (rest * 2 ^ (b + b)) v (v * 2 ^ (b + b)) v_fits copy_fits in
    let masked : bit_and (bit_or rest (rest * 2 ^ (b + b)) * 2 ^ room + bit_or v (v * 2 ^ (b + b))) (mask * 2 ^ room + block) ≡ bit_and (bit_or rest (rest * 2 ^ (b + b))) mask * 2 ^ room + bit_and (bit_or v (v * 2 ^ (b + b))) block =
    and_block room (bit_or rest (rest * 2 ^ (b + b))) mask (bit_or v (v * 2 ^ (b + b))) block (or_lt room v (v * 2 ^ (b + b)) v_fits copy_fits) block_fits in
    rw (copied, mask_cut, next_cut, joined, masked, above, lane_up b v short) refl

-- the lowest block alone
lowest_up : (b rest v : ℕ) → bit_and (bit_or (rest * 2 ^ ((b + b) + (b + b) + (b + b)) + v) ((rest * 2 ^ ((b + b) + (b + b) + (b + b)) + v) * 2 ^ (b + b))) (2 ^ b - 1) ≡ v % 2 ^ b
lowest_up b rest v =
    let c : ℕ = rest * 2 ^ ((b + b) + (b + b) + (b + b)) + v in
    let room : 2 ^ ((b + b) + (b + b) + (b + b)) ≡ 2 ^ (b + b + b) * (2 ^ (b + b) * 2 ^ b) = rw (← cube b) (sixth b) in
    let low : c % 2 ^ b ≡ v % 2 ^ b =
    let cut : c ≡ v + rest * (2 ^ (b + b + b) * 2 ^ (b + b)) * 2 ^ b = rw room (omega arith) in
    rw cut (add-mul-mod_self_right v (rest * (2 ^ (b + b + b) * 2 ^ (b + b))) (2 ^ b)) in
    let copy : c * 2 ^ (b + b) % 2 ^ b ≡ 0 =
    let cut : c * 2 ^ (b + b) ≡ (c * 2 ^ b) * 2 ^ b = rw square (omega arith) in
    rw cut (mul-mod_left (c * 2 ^ b) (2 ^ b)) in
    rw (and_mask (bit_or c (c * 2 ^ (b + b))) b, or_mod c (c * 2 ^ (b + b)) b, copy, low) (or_none (v % 2 ^ b))

-- of blocks of twice b bits and their copies, the low halves stay and the high halves go up
pub halves_apart : (b n m x : ℕ) → m ≤ n + n → bit_and (bit_or (blocks (b + b) n x) (blocks (b + b) n x * 2 ^ (b + b))) (ones b m) ≡ blocks b m x
unfolding blocks ones
halves_apart b n zero x few = and_none (bit_or (blocks (b + b) n x) (blocks (b + b) n x * 2 ^ (b + b)))
halves_apart b zero (suc m) x few = absurd (omega arith)
halves_apart b (suc n) (suc zero) x few =
    let lowest = lowest_up b (blocks (b + b) n (x / 2 ^ (b + b))) (x % 2 ^ (b + b)) in
    let ones_alone : 0 * 2 ^ (b + b + b) + (2 ^ b - 1) ≡ 2 ^ b - 1 = omega arith in
    let block_alone : 0 * 2 ^ (b + b + b) + x % 2 ^ b ≡ x % 2 ^ b = omega arith in
    rw (ones_alone, block_alone) (lowest ∙ low_of_pair b x)
halves_apart b (suc n) (suc (suc m)) x few =
    let v : ℕ = x % 2 ^ (b + b) in
    let above : bit_and (bit_or (blocks (b + b) n (x / 2 ^ (b + b))) (blocks (b + b) n (x / 2 ^ (b + b)) * 2 ^ (b + b))) (ones b m) ≡ blocks b m (x / 2 ^ b / 2 ^ b) =
    rw (shr-shr x b b) (halves_apart b n m (x / 2 ^ (b + b)) (omega arith)) in
    let step = room_up b (blocks (b + b) n (x / 2 ^ (b + b))) (ones b m) (blocks b m (x / 2 ^ b / 2 ^ b)) v (mod_below x (2 ^ (b + b)) (pow_pos (b + b))) above in
    rw (← field_of x b b, ← low_of_pair b x) step

-- what a shift takes off the low end of a room
shift_cut : (rest q r wide pair half h l : ℕ) → q * pair + r ≡ rest →
    rest * (wide * pair) + (h * (pair * half) + l) ≡ (q * (wide * pair) + (r * wide + h * half)) * pair + l
shift_cut rest q r wide pair half h l whole = rw (← whole) (omega arith)

-- one room down: the high half comes to the low half's side
room_down : (b rest h l mask next : ℕ) → h < 2 ^ b → l < 2 ^ b → bit_and (bit_or rest (rest / 2 ^ (b + b))) mask ≡ next →
    bit_and (bit_or ((rest * 2 ^ (b + b + b) + h) * 2 ^ (b + b + b) + l) (((rest * 2 ^ (b + b + b) + h) * 2 ^ (b + b + b) + l) / 2 ^ (b + b))) (mask * 2 ^ ((b + b) + (b + b) + (b + b)) + (2 ^ (b + b) - 1))
    ≡ next * 2 ^ ((b + b) + (b + b) + (b + b)) + (h * 2 ^ b + l)
room_down b rest h l mask next h_below l_below above =
    let room : ℕ = (b + b) + (b + b) + (b + b) in
    let pair : ℕ = 2 ^ (b + b) in
    let far : ℕ = h * 2 ^ (b + b + b) + l in
    let near : ℕ = rest % pair * 2 ^ ((b + b) + (b + b)) + h * 2 ^ b in
    let far_fits : far < 2 ^ room = far_pair_below b h l (block_below b h h_below) (block_below b l l_below) in
    let high_fits : h * 2 ^ b < pair = rw (← add-zero (h * 2 ^ b)) (pair_below b h 0 h_below (pow_pos b)) in
    let l_fits : l < pair = lt_of_lt_of_le l_below (pow-le-pow_right {n = 2} (lit< tt) (omega arith)) in
    let near_fits : near < 2 ^ room =
    let high_wide : h * 2 ^ b < 2 ^ ((b + b) + (b + b)) = lt_of_lt_of_le high_fits (pow-le-pow_right {n = 2} (lit< tt) (omega arith)) in
    rw (cube (b + b)) (mul-add-lt (rest % pair) (2 ^ ((b + b) + (b + b))) (h * 2 ^ b) pair (mod_below rest pair (pow_pos (b + b))) high_wide) in
    let mask_fits : pair - 1 < 2 ^ room = block_below (b + b) (pair - 1) (omega (arith, pow_pos (b + b))) in
    let cut : (rest * 2 ^ (b + b + b) + h) * 2 ^ (b + b + b) + l ≡ rest * 2 ^ room + far = rw sixth (omega arith) in
    let shifted : (rest * 2 ^ room + far) / pair ≡ rest / pair * 2 ^ room + near =
    let shift : rest * 2 ^ room + far ≡ (rest / pair * 2 ^ room + near) * pair + l =
    rw (cube (b + b), cube b) (shift_cut rest (rest / pair) (rest % pair) (2 ^ ((b + b) + (b + b))) pair (2 ^ b) h l (div-add-mod' rest pair)) in
    rw shift (shr_high (rest / pair * 2 ^ room + near) (b + b) l l_fits) in
    let joined : bit_or (rest * 2 ^ room + far) (rest / pair * 2 ^ room + near) ≡ bit_or rest (rest / pair) * 2 ^ room + bit_or far near =
    or_block room rest (rest / pair) far near far_fits near_fits in
    let masked : bit_and (bit_or rest (rest / pair) * 2 ^ room + bit_or far near) (mask * 2 ^ room + (pair - 1)) ≡ bit_and (bit_or rest (rest / pair)) mask * 2 ^ room + bit_and (bit_or far near) (pair - 1) =
    and_block room (bit_or rest (rest / pair)) mask (bit_or far near) (pair - 1) (or_lt room far near far_fits near_fits) mask_fits in
    let lane : bit_and (bit_or far near) (pair - 1) ≡ h * 2 ^ b + l =
    let far_low : far % pair ≡ l =
    let far_cut : far ≡ h * 2 ^ b * pair + l = rw (cube b) (omega arith) in
    rw far_cut (mod_low (h * 2 ^ b) (b + b) l l_fits) in
    let near_low : near % pair ≡ h * 2 ^ b =
    let near_cut : near ≡ rest % pair * pair * pair + h * 2 ^ b = rw (square (b + b)) (omega arith) in
    rw near_cut (mod_low (rest % pair * pair) (b + b) (h * 2 ^ b) high_fits) in
    rw (and_mask (bit_or far near) (b + b), or_mod far near (b + b), far_low, near_low) (or_comm l (h * 2 ^ b) ∙ or_shifted h b l l_below) in
    rw (cut, shifted, joined, masked, above, lane) refl

-- of blocks of b bits and their copies, each two come together
pub halves_together : (b n m x : ℕ) → m ≡ n + n → bit_and (bit_or (blocks b m x) (blocks b m x / 2 ^ (b + b))) (ones (b + b) n) ≡ blocks (b + b) n x
unfolding blocks ones
halves_together b zero m x twice = and_none (bit_or (blocks b m x) (blocks b m x / 2 ^ (b + b)))
halves_together b (suc n) zero x twice = absurd (omega arith)
halves_together b (suc n) (suc zero) x twice = absurd (omega arith)
halves_together b (suc n) (suc (suc m)) x twice =
    let rest : ℕ = blocks b m (x / 2 ^ b / 2 ^ b) in
    let above : bit_and (bit_or rest (rest / 2 ^ (b + b))) (ones (b + b) n) ≡ blocks (b + b) n (x / 2 ^ (b + b)) =
    rw (← shr-shr x b b) (halves_together b n m (x / 2 ^ b / 2 ^ b) (omega arith)) in
    let step = room_down b rest (x / 2 ^ b % 2 ^ b) (x % 2 ^ b) (ones (b + b) n) (blocks (b + b) n (x / 2 ^ (b + b))) (mod_below (x / 2 ^ b) (2 ^ b) (pow_pos b)) (mod_below x (2 ^ b) (pow_pos b)) above in
    rw (mod-pow-add x b b) step
