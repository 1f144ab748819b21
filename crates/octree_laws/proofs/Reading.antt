-- The cells to which words lead, read from the words alone.
use Rattle.std.proofs.Common.{◌≡◌, ℕ, zero, suc, ◌+◌, ◌*◌, ◌/◌, ◌%◌, ◌^◌, ◌<◌, ◌≤◌, Bool, true, false, cond, List, [], ◌∷◌, ◌++◌, refl, sym, ap, subst, ◌∙◌, inl, inr, arith, lit<}
use Rattle.std.specs.Prelude.{◌==◌, ◌||◌, slice_index, All}
use Rattle.std.proofs.Math.Nat.{pow-suc, one-le-pow, mul-le-mul_right, div-eq_of_lt-le}
use Rattle.std.proofs.Math.Bool.{or-false, or_assoc}
use Rattle.std.proofs.lemmas.Bool.{cases_eq, or_parts, false_from_ne_true, cond-false}
use Rattle.std.proofs.lemmas.List.{map-append}
use Rattle.std.proofs.lemmas.List.Elements.{All-nil, All-cons, All-head, All-tail, All-append, All-weaker, All-contains}
use Rattle.std.proofs.lemmas.Nat.{div-add-mod', mod_below}
use Rattle.octree_specs.specs.Cells.{Cell, codes_of}
use Rattle.octree_specs.specs.Formats.{face_leaves}
use Rattle.octree_specs.specs.Octree.{is_nonempty, leaf_word}
use Rattle.octree_specs.specs.Walking.{child_number}
use Rattle.octree_laws.proofs.Maps.{filled_in}
use Rattle.octree_laws.proofs.Rising.{Ascends, above_low}
use Rattle.octree_laws.proofs.Under.{div-leaf}

-- the word has the bit of this place
abbrev pub has_bit : ℕ → ℕ → Bool
has_bit word place = word / 2 ^ place % 2 == 1

-- what so many children from a place on have, child by child
unfoldable pub each_place : (ℕ → ℕ → List Cell) → ℕ → ℕ → ℕ → ℕ → List Cell
each_place read word node place zero = []
each_place read word node place (suc rest) = cond (has_bit word place) (read (child_number word place) (8 * node + place)) [] ++ each_place read word node (place + 1) rest

-- the cells under a node whose word has this number; each face is read from its cell's number
unfoldable pub read_cells : (ℕ → ℕ) → List ℕ → ℕ → ℕ → ℕ → List Cell
read_cells face words zero number node = record { code = node; face = face number } ∷ []
read_cells face words (suc height) number node = each_place (read_cells face words height) (slice_index words number) node 0 8

-- ---- runs of codes

pub record IsRun (low high : ℕ) (cells : List Cell) : Type 0 where
  pub rises : Ascends low (codes_of cells)
  pub below : All (λ code. code < high) (codes_of cells)

no_run : (low high : ℕ) → IsRun low high []
unfolding Ascends
no_run low high = record { rises = tt; below = All-nil (λ code. code < high) }

ascends-weaker : (low least : ℕ) (numbers : List ℕ) → least ≤ low → Ascends low numbers → Ascends least numbers
unfolding Ascends
ascends-weaker low least [] less ascending = tt
ascends-weaker low least (n ∷ rest) less ascending = (omega (arith, ascending.0), ascending.1)

ascends-append : (low mid : ℕ) (xs ys : List ℕ) → low ≤ mid → Ascends low xs → All (λ n. n < mid) xs → Ascends mid ys → Ascends low (xs ++ ys)
unfolding Ascends
ascends-append low mid [] ys less left below right = ascends-weaker mid low ys less right
ascends-append low mid (n ∷ rest) ys less left below right =
    let under : n < mid = All-head (λ m. m < mid) n rest below in
    (left.0, ascends-append (n + 1) mid rest ys (omega arith) left.1 (All-tail (λ m. m < mid) n rest below) right)

run_append : (low mid high : ℕ) (xs ys : List Cell) → low ≤ mid → mid ≤ high → IsRun low mid xs → IsRun mid high ys → IsRun low high (xs ++ ys)
run_append low mid high xs ys less more left right =
    let codes : codes_of (xs ++ ys) ≡ codes_of xs ++ codes_of ys = map-append (λ (cell : Cell). cell.code) xs ys in
    record {
      rises = subst (Ascends low) (sym codes) (ascends-append low mid (codes_of xs) (codes_of ys) less left.rises left.below right.rises);
      below =
          subst (All (λ n. n < high)) (sym codes)
          (All-append (λ n. n < high) (codes_of xs) (codes_of ys) (All-weaker (λ n. n < mid) (λ n. n < high) (λ n under. omega (arith, under)) (codes_of xs) left.below) right.below);
    }

-- codes under a node are a run
octal_positive : (n : ℕ) → 0 < 8 ^ n
octal_positive n = one-le-pow n 8 (lit< tt)

under_node : (code height node : ℕ) → node * 8 ^ height ≤ code → code < (node + 1) * 8 ^ height → code / 8 ^ height ≡ node
under_node code height node above below = div-eq_of_lt-le (8 ^ height) above below

in_node : (code height node : ℕ) → code / 8 ^ height ≡ node → (node * 8 ^ height ≤ code) × (code < (node + 1) * 8 ^ height)
in_node code height node up =
    let whole : code / 8 ^ height * 8 ^ height + code % 8 ^ height ≡ code = div-add-mod' code (8 ^ height) in
    let whole_at : node * 8 ^ height + code % 8 ^ height ≡ code = subst (λ n. n * 8 ^ height + code % 8 ^ height ≡ code) up whole in
    let small : code % 8 ^ height < 8 ^ height = mod_below code (8 ^ height) (octal_positive height) in
    (omega arith, omega arith)

module _ (read : ℕ → ℕ → List Cell) (height word node : ℕ) (runs : (number child : ℕ) → IsRun (child * 8 ^ height) ((child + 1) * 8 ^ height) (read number child)) where
  piece_run : (place : ℕ) → IsRun ((8 * node + place) * 8 ^ height) ((8 * node + place + 1) * 8 ^ height) (cond (has_bit word place) (read (child_number word place) (8 * node + place)) [])
  piece_run place =
      elim (has_bit word place) as (λ b. IsRun ((8 * node + place) * 8 ^ height) ((8 * node + place + 1) * 8 ^ height) (cond b (read (child_number word place) (8 * node + place)) []))
      [ true ↦ runs (child_number word place) (8 * node + place) | false ↦ no_run ((8 * node + place) * 8 ^ height) ((8 * node + place + 1) * 8 ^ height) ]

  places_run : (rest place : ℕ) → IsRun ((8 * node + place) * 8 ^ height) ((8 * node + place + rest) * 8 ^ height) (each_place read word node place rest)
  unfolding each_place
  places_run zero place = no_run ((8 * node + place) * 8 ^ height) ((8 * node + place + 0) * 8 ^ height)
  places_run (suc rest) place =
      let e : 8 * node + (place + 1) ≡ 8 * node + place + 1 = omega arith in
      let f : 8 * node + place + 1 + rest ≡ 8 * node + place + suc rest = omega arith in
      let behind : IsRun ((8 * node + place + 1) * 8 ^ height) ((8 * node + place + suc rest) * 8 ^ height) (each_place read word node (place + 1) rest) =
      subst (λ n. IsRun ((8 * node + place + 1) * 8 ^ height) (n * 8 ^ height) (each_place read word node (place + 1) rest)) f
      (subst (λ n. IsRun (n * 8 ^ height) ((n + rest) * 8 ^ height) (each_place read word node (place + 1) rest)) e (places_run rest (place + 1))) in
      run_append ((8 * node + place) * 8 ^ height) ((8 * node + place + 1) * 8 ^ height) ((8 * node + place + suc rest) * 8 ^ height)
      (cond (has_bit word place) (read (child_number word place) (8 * node + place)) []) (each_place read word node (place + 1) rest)
      (mul-le-mul_right (8 ^ height) (omega arith)) (mul-le-mul_right (8 ^ height) (omega arith)) (piece_run place) behind

pub read_run : (face : ℕ → ℕ) (words : List ℕ) (height number node : ℕ) → IsRun (node * 8 ^ height) ((node + 1) * 8 ^ height) (read_cells face words height number node)
unfolding read_cells Ascends
read_run face words zero number node = record {
  rises = (omega arith, tt);
  below = All-cons (λ code. code < (node + 1) * 8 ^ 0) node [] (omega arith) (All-nil (λ code. code < (node + 1) * 8 ^ 0));
}
read_run face words (suc height) number node =
    let power : 8 ^ suc height ≡ 8 ^ height * 8 = pow-suc 8 height in
    let low : (8 * node + 0) * 8 ^ height ≡ node * 8 ^ suc height = omega (arith, ap (λ p. node * p) power) in
    let high : (8 * node + 0 + 8) * 8 ^ height ≡ (node + 1) * 8 ^ suc height = omega (arith, ap (λ p. node * p) power, power) in
    subst (λ n. IsRun n ((node + 1) * 8 ^ suc height) (each_place (read_cells face words height) (slice_index words number) node 0 8)) low
    (subst (λ n. IsRun ((8 * node + 0) * 8 ^ height) n (each_place (read_cells face words height) (slice_index words number) node 0 8)) high
    (places_run (read_cells face words height) height (slice_index words number) node (read_run face words height) 8 0))

-- ---- what a list of cells says of a code

abbrev pub has_cell : List Cell → ℕ → Bool
has_cell cells code = is_nonempty (face_leaves cells) 0 code

in_run : (low high : ℕ) (cells : List Cell) → IsRun low high cells → (code : ℕ) → has_cell cells code ≡ true → (low ≤ code) × (code < high)
in_run low high cells run code has =
    (above_low low (codes_of cells) run.rises code (filled_in cells code has), All-contains (λ n. n < high) (codes_of cells) code run.below (filled_in cells code has))

-- a code that is outside a run
not_below : (low high : ℕ) (cells : List Cell) → IsRun low high cells → (code : ℕ) → code < low → has_cell cells code ≡ false
not_below low high cells run code under = false_from_ne_true (has_cell cells code) (λ has. omega (arith, under, (in_run low high cells run code has).0))

not_above : (low high : ℕ) (cells : List Cell) → IsRun low high cells → (code : ℕ) → high ≤ code → has_cell cells code ≡ false
not_above low high cells run code over = false_from_ne_true (has_cell cells code) (λ has. omega (arith, over, (in_run low high cells run code has).1))

has_cell-append : (xs ys : List Cell) (code : ℕ) → has_cell (xs ++ ys) code ≡ (has_cell xs code || has_cell ys code)
has_cell-append [] ys code = refl
has_cell-append (cell ∷ rest) ys code =
    ap (λ b. (cell.code / 8 ^ 0 == code) || b) (has_cell-append rest ys code) ∙ sym (or_assoc (cell.code / 8 ^ 0 == code) (has_cell rest code) (has_cell ys code))

same_code : (cell : Cell) (code : ℕ) → (cell.code / 8 ^ 0 == code) ≡ (cell.code == code)
same_code cell code = ap (λ n. n == code) (div-leaf cell.code)

pub no_word : (cells : List Cell) (code : ℕ) → has_cell cells code ≡ false → leaf_word (face_leaves cells) code ≡ 0
no_word [] code none = refl
no_word (cell ∷ rest) code none =
    let parts : ((cell.code / 8 ^ 0 == code) ≡ false) × (has_cell rest code ≡ false) = or_parts (cell.code / 8 ^ 0 == code) (has_cell rest code) none in
    cond-false (cell.code == code) (1 + 256 * cell.face) (leaf_word (face_leaves rest) code) (sym (same_code cell code) ∙ parts.0) ∙ no_word rest code parts.1

word_left : (xs ys : List Cell) (code : ℕ) → has_cell ys code ≡ false → leaf_word (face_leaves (xs ++ ys)) code ≡ leaf_word (face_leaves xs) code
word_left [] ys code none = no_word ys code none
word_left (cell ∷ rest) ys code none = ap (λ w. cond (cell.code == code) (1 + 256 * cell.face) w) (word_left rest ys code none)

word_right : (xs ys : List Cell) (code : ℕ) → has_cell xs code ≡ false → leaf_word (face_leaves (xs ++ ys)) code ≡ leaf_word (face_leaves ys) code
word_right [] ys code none = refl
word_right (cell ∷ rest) ys code none =
    let parts : ((cell.code / 8 ^ 0 == code) ≡ false) × (has_cell rest code ≡ false) = or_parts (cell.code / 8 ^ 0 == code) (has_cell rest code) none in
    cond-false (cell.code == code) (1 + 256 * cell.face) (leaf_word (face_leaves (rest ++ ys)) code) (sym (same_code cell code) ∙ parts.0) ∙ word_right rest ys code parts.1

-- two lists say the same of a code
pub record AreSame (cells part : List Cell) (code : ℕ) : Type 0 where
  pub has : has_cell cells code ≡ has_cell part code
  pub word : leaf_word (face_leaves cells) code ≡ leaf_word (face_leaves part) code

pub same_twice : (xs ys zs : List Cell) (code : ℕ) → AreSame xs ys code → AreSame ys zs code → AreSame xs zs code
same_twice xs ys zs code first second = record { has = first.has ∙ second.has; word = first.word ∙ second.word }

same_left : (xs ys : List Cell) (code : ℕ) → has_cell ys code ≡ false → AreSame (xs ++ ys) xs code
same_left xs ys code none = record {
  has = has_cell-append xs ys code ∙ (ap (λ b. has_cell xs code || b) none ∙ or-false (has_cell xs code));
  word = word_left xs ys code none;
}

same_right : (xs ys : List Cell) (code : ℕ) → has_cell xs code ≡ false → AreSame (xs ++ ys) ys code
same_right xs ys code none = record {
  has = has_cell-append xs ys code ∙ ap (λ b. b || has_cell ys code) none;
  word = word_right xs ys code none;
}

-- of the codes under a child the cells read say what that child's cells say
module _ (read : ℕ → ℕ → List Cell) (height word node : ℕ) (runs : (number child : ℕ) → IsRun (child * 8 ^ height) ((child + 1) * 8 ^ height) (read number child)) where
  unfoldable pub piece : ℕ → List Cell
  piece place = cond (has_bit word place) (read (child_number word place) (8 * node + place)) []

  places_at : (rest from place code : ℕ) → from ≤ place → place < from + rest → code / 8 ^ height ≡ 8 * node + place → AreSame (each_place read word node from rest) (piece place) code
  unfolding each_place piece
  places_at zero from place code after before up = absurd (omega arith)
  places_at (suc rest) from place code after before up =
      let range : ((8 * node + place) * 8 ^ height ≤ code) × (code < (8 * node + place + 1) * 8 ^ height) = in_node code height (8 * node + place) up in
      let tail : List Cell = each_place read word node (from + 1) rest in
      elim (cases_eq from place) [
        | inl same ↦
            let low : (8 * node + place + 1) * 8 ^ height ≡ (8 * node + (from + 1)) * 8 ^ height = ap (λ n. n * 8 ^ height) (omega (arith, same)) in
            let none : has_cell tail code ≡ false =
            not_below ((8 * node + (from + 1)) * 8 ^ height) ((8 * node + (from + 1) + rest) * 8 ^ height) tail (places_run read height word node runs rest (from + 1)) code (omega (arith, range.1, low)) in
            subst (λ p. AreSame (piece from ++ tail) (piece p) code) same (same_left (piece from) tail code none)
        | inr apart ↦
            let step : (8 * node + from + 1) * 8 ^ height ≤ (8 * node + place) * 8 ^ height = mul-le-mul_right (8 ^ height) (omega (arith, apart)) in
            let none : has_cell (piece from) code ≡ false =
            not_above ((8 * node + from) * 8 ^ height) ((8 * node + from + 1) * 8 ^ height) (piece from) (piece_run read height word node runs from) code (omega (arith, range.0, step)) in
            same_twice (piece from ++ tail) tail (piece place) code (same_right (piece from) tail code none)
            (places_at rest (from + 1) place code (omega (arith, apart)) (omega arith) up)
      ]

pub child_same : (face : ℕ → ℕ) (words : List ℕ) (height number node place code : ℕ) → place < 8 → code / 8 ^ height ≡ 8 * node + place
    → AreSame (read_cells face words (suc height) number node) (piece (read_cells face words height) height (slice_index words number) node (read_run face words height) place) code
unfolding read_cells
child_same face words height number node place code octant up =
    places_at (read_cells face words height) height (slice_index words number) node (read_run face words height) 8 0 place code (omega arith) (omega arith) up
