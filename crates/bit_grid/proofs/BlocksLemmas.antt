-- Blocks of slots.
use Rattle.std.proofs.Common.{◌≡◌, ℕ, ◌+◌, ◌-◌, ◌*◌, ◌/◌, ◌%◌, ◌^◌, ◌<◌, ◌≤◌, true, List, length, get_or, replicate, min, max, arith, ap, ◌∙◌, lit<, ⊎_elim}
use Rattle.std.proofs.lemmas.Bool.{cases_lt, both_ways}
use Rattle.std.proofs.lemmas.List.{get_or-replicate, get_or_past, length-replicate}
use Rattle.std.proofs.lemmas.Nat.{pow-add, le-div}
use Rattle.std.proofs.lemmas.Nat.Bits.{bit_at_ones}
use Rattle.std.proofs.Math.Nat.{pow-le-pow_right, div-le_self, div-mul-le_self, mul-le-mul_right, one-le-pow}
use Rattle.bit_grid.proofs.PlacesLemmas.{set_from_bit, unset_past}
use Rattle.bit_grid.specs.Places.{HasNoneFrom, IsNextSet, is_set_at}
use Rattle.bit_grid.specs.Touched.{AreTouched, HasNoTouchedFrom, IsNextRun}
use Rattle.bit_grid.specs.declared.touched.TouchedBlocks.{TouchedBlocks}

-- a logarithm is small
pub log_shallow : (slots log shift : ℕ) → slots < 2 ^ 62 → 2 ^ log ≤ slots → shift ≡ log - 14 → shift < 48
log_shallow slots log shift small power is = ⊎_elim
    (λ below. omega (arith, below, is))
    (λ above. let more : 2 ^ 62 ≤ 2 ^ log = pow-le-pow_right {n = 2} (lit< tt) {i = 62} {j = log} above in absurd (omega (arith, more, small, power)))
    (cases_lt log 62)

-- and its power with 15 more covers the number
pub log_covers : (slots log shift : ℕ) → slots < 2 * 2 ^ log → shift ≡ log - 14 → slots ≤ 32768 * 2 ^ shift
log_covers slots log shift next is =
    let most : log ≤ 14 + shift = omega (arith, is) in
    let power : 2 ^ log ≤ 2 ^ (14 + shift) = pow-le-pow_right {n = 2} (lit< tt) {i = log} {j = 14 + shift} most in
    let apart : 2 ^ (14 + shift) ≡ 2 ^ 14 * 2 ^ shift = pow-add 2 14 shift in
    omega (arith, next, power, apart)

-- a place below the last block's end lies in a block
pub block_below : (place shift : ℕ) → place < 32768 * 2 ^ shift → place / 2 ^ shift < 32768
block_below place shift below = ⊎_elim
    (λ yes. yes)
    (λ no.
    let back : place / 2 ^ shift * 2 ^ shift ≤ place = div-mul-le_self place (2 ^ shift) in
    let more : 32768 * 2 ^ shift ≤ place / 2 ^ shift * 2 ^ shift = mul-le-mul_right (2 ^ shift) no in
    absurd (omega (arith, below, back, more)))
    (cases_lt (place / 2 ^ shift) 32768)

-- where all words have all bits, each block is touched
all_set : (block : ℕ) → block < 32768 → is_set_at (replicate 512 (2 ^ 64 - 1)) block ≡ true
all_set block below =
    let word : get_or (replicate 512 (2 ^ 64 - 1)) (block / 64) 0 ≡ 2 ^ 64 - 1 = get_or-replicate 512 (block / 64) (2 ^ 64 - 1) 0 (omega (arith, below)) in
    set_from_bit (replicate 512 (2 ^ 64 - 1)) block (rw word (bit_at_ones 64 (block % 64) (omega arith)))

past_end : (list : List ℕ) (place : ℕ) → length list ≤ place → get_or list place 0 ≡ 0
past_end list place past = get_or_past list place 0 past

pub all_touched : (table list : List ℕ) (shift slots : ℕ) → table ≡ replicate 512 (2 ^ 64 - 1) → slots < 2 ^ 62 → shift < 48 → slots ≤ 32768 * 2 ^ shift → length list ≡ slots
    → AreTouched list (record { table = table; shift = shift })
all_touched table list shift slots is small shallow covered long = record {
  short = omega (arith, small, long);
  long = ap (λ t. length t) is ∙ length-replicate 512 (2 ^ 64 - 1);
  shallow = shallow;
  covered = omega (arith, covered, long);
  empty = λ place unset. ⊎_elim
      (λ inside. absurd (both_ways (is_set_at table (place / 2 ^ shift)) unset (rw is (all_set (place / 2 ^ shift) (block_below place shift (omega (arith, inside, covered, long)))))))
      (λ past. past_end list place past)
      (cases_lt place (length list));
}

-- blocks come in the order of their places
blocks_ordered : (first second size : ℕ) → 0 < size → first ≤ second → first / size ≤ second / size
blocks_ordered first second size some order =
    let back : first / size * size ≤ first = div-mul-le_self first size in
    le-div (first / size) second size some (omega (arith, back, order))

-- a place lies before the end of its block
before_end : (place size : ℕ) → 0 < size → place < (place / size + 1) * size
before_end place size some = ⊎_elim
    (λ yes. yes)
    (λ no. let more : place / size + 1 ≤ place / size = le-div (place / size + 1) place size some no in absurd (omega (arith, more)))
    (cases_lt place ((place / size + 1) * size))

-- a place before a block's start lies in an earlier one
earlier_block : (place block size : ℕ) → place < block * size → place / size < block
earlier_block place block size before = ⊎_elim
    (λ yes. yes)
    (λ no.
    let back : place / size * size ≤ place = div-mul-le_self place size in
    let more : block * size ≤ place / size * size = mul-le-mul_right size no in
    absurd (omega (arith, before, back, more)))
    (cases_lt (place / size) block)

some_size : (shift : ℕ) → 0 < 2 ^ shift
some_size shift = one-le-pow shift 2 (lit< tt)

-- no block that was touched is left
pub no_run : (blocks : TouchedBlocks) (from count : ℕ) → count < 2 ^ 62 → HasNoneFrom blocks.table (from / 2 ^ blocks.shift) → HasNoTouchedFrom blocks from count
no_run blocks from count small none place later below =
    let short : place / 2 ^ blocks.shift ≤ place = div-le_self place (2 ^ blocks.shift) in
    none (place / 2 ^ blocks.shift) (blocks_ordered from place (2 ^ blocks.shift) (some_size blocks.shift) later) (omega (arith, short, below, small))

-- where a block begins and ends
pub record BlockEnds (block shift first size : ℕ) : Type 0 where
  pub start : first ≡ block * 2 ^ shift
  pub whole : size ≡ 2 ^ shift
  pub small : first + size ≤ 2 ^ 62

pub block_ends : (table : List ℕ) (block shift : ℕ) → length table ≡ 512 → shift < 48 → is_set_at table block ≡ true → BlockEnds block shift (block * 2 ^ shift % 2 ^ 64) (1 * 2 ^ shift % 2 ^ 64)
block_ends table block shift long shallow found =
    let below : block < 32768 = ⊎_elim (λ yes. yes) (λ no. absurd (both_ways (is_set_at table block) (unset_past table block (omega (arith, no, long))) found)) (cases_lt block 32768) in
    let power : 2 ^ shift ≤ 2 ^ 47 = pow-le-pow_right {n = 2} (lit< tt) {i = shift} {j = 47} (omega (arith, shallow)) in
    let all : (block + 1) * 2 ^ shift ≤ 32768 * 2 ^ shift = mul-le-mul_right (2 ^ shift) (omega (arith, below)) in
    record { start = omega (arith, power, all); whole = omega (arith, power); small = omega (arith, power, all) }

-- the next block that was touched
pub next_run_is : (blocks : TouchedBlocks) (from count block first size start end : ℕ) → length blocks.table ≡ 512 → blocks.shift < 48 → from < count
    → IsNextSet blocks.table (from / 2 ^ blocks.shift) block → first ≡ block * 2 ^ blocks.shift % 2 ^ 64 → size ≡ 1 * 2 ^ blocks.shift % 2 ^ 64
    → start ≡ min (max first from) count → end ≡ min (first + size) count → IsNextRun blocks from count start end
next_run_is blocks from count block first size start end long shallow inside next is_first is_size is_start is_end =
    let ends = block_ends blocks.table block blocks.shift long shallow next.found in
    let begins : first ≡ block * 2 ^ blocks.shift = is_first ∙ ends.start in
    let whole : size ≡ 2 ^ blocks.shift = is_size ∙ ends.whole in
    let here : from < (from / 2 ^ blocks.shift + 1) * 2 ^ blocks.shift = before_end from (2 ^ blocks.shift) (some_size blocks.shift) in
    let later : (from / 2 ^ blocks.shift + 1) * 2 ^ blocks.shift ≤ (block + 1) * 2 ^ blocks.shift = mul-le-mul_right (2 ^ blocks.shift) (omega (arith, next.later)) in
    let reached : from < first + size = omega (arith, here, later, begins, whole) in
    record {
      later = grind (arith, is_start, inside);
      ordered = grind (arith, is_start, is_end, reached);
      further = grind (arith, is_end, reached, inside);
      within = grind (arith, is_end);
      before = λ place later below.
          let front : place < block * 2 ^ blocks.shift = grind (arith, is_start, begins, later, below) in
          next.least (place / 2 ^ blocks.shift) (blocks_ordered from place (2 ^ blocks.shift) (some_size blocks.shift) later) (earlier_block place block (2 ^ blocks.shift) front);
    }
