-- A pass down a column, and over all columns that are marked.
use Rattle.std.proofs.Common.{◌≡◌, ℕ, zero, suc, ◌+◌, ◌-◌, ◌/◌, ◌%◌, ◌^◌, ◌<◌, ◌≤◌, Bool, true, false, List, get_or, inl, inr, arith, refl, sym, ap, subst, ◌∙◌}
use Rattle.std.specs.Prelude.{◌≢◌, cond, nat_lt}
use Rattle.std.proofs.lemmas.Bool.{cases_eq, cases_lt, lt-ltb}
use Rattle.std.proofs.lemmas.Bool.Decides.{nat_tests}
use Rattle.bit_grid.specs.Places.{is_set_at, HasNoneFrom, IsNextSet}
use Rattle.bit_grid.specs.Slots.{turned_slot}
use Rattle.solid_parity.specs.Counts.{HasCounts, HasColumn, AddsUp, AddsUpEach, AreMarked, IsSettled, IsSettledColumn, OthersStay, from_place, mark_of}
use Rattle.solid_parity.specs.Notes.{place_in}
use Rattle.solid_parity.specs.Parity.{one}
use Rattle.solid_parity.proofs.Counts.{one_cell, turned_more}

-- ---- one column

-- above a place the column is settled, and below it is as it was
pub record IsSettling (side x y z : ℕ) (old slots : List ℕ) (is_odd : Bool) : Type 0 where
  pub within : z ≤ side
  pub below : (k : ℕ) → k < z → get_or slots (place_in x y k) 0 ≡ get_or old (place_in x y k) 0
  pub above : (noted over : ℕ → ℕ) → AddsUp side noted over → HasColumn side x y noted old → (k : ℕ) → z ≤ k → k < side → get_or slots (place_in x y k) 0 ≡ over k % 2
  pub odd : (noted over : ℕ → ℕ) → AddsUp side noted over → HasColumn side x y noted old → one is_odd ≡ from_place side over z % 2
  pub others : OthersStay side x y old slots

not_less : (m n : ℕ) → n ≤ m → nat_lt m n ≡ false
not_less m n h = grind (arith, nat_tests)

pub at_top : (side x y : ℕ) (slots : List ℕ) → IsSettling side x y side slots slots false
at_top side x y slots = record {
  within = omega arith;
  below = λ k below. refl;
  above = λ noted over adds has k top inside. absurd (omega (arith, top, inside));
  odd = λ noted over adds has. rw (not_less side side (omega arith)) refl;
  others = λ a b z la lb lz apart. refl;
}

turned_or_not : (is_odd : Bool) (slot n : ℕ) → slot ≡ n % 2 → cond is_odd (turned_slot slot) slot ≡ (n + one is_odd) % 2
turned_or_not true slot n is = turned_more slot n is
turned_or_not false slot n is = omega (arith, is)

one_is : (slot n : ℕ) → slot ≡ n % 2 → one (nat_lt 0 slot) ≡ n % 2
one_is slot n is = elim (cases_lt 0 slot) [
  | inl some ↦ rw (lt-ltb 0 slot some) (omega (arith, is, some))
  | inr none ↦ rw (not_less 0 slot none) (omega (arith, is, none))
]

other_place : (side x y a k : ℕ) → side ≤ 2 ^ 12 → x < side → y < side → a < side → k < side → (a ≡ k → ⊥) → place_in x y a ≢ place_in x y k
other_place side x y a k short lx ly la lk apart same =
    let cell = one_cell x y a x y k (omega (arith, lx, short)) (omega (arith, ly, short)) (omega (arith, la, short)) (omega (arith, lx, short)) (omega (arith, ly, short)) (omega (arith, lk, short)) same in
    apart cell.2

pub settled_cell : (side x y z k place : ℕ) (old slots new : List ℕ) (is_odd next_odd : Bool) → side ≤ 2 ^ 12 → x < side → y < side → z ≡ k + 1 → place ≡ place_in x y k
    → IsSettling side x y z old slots is_odd
    → get_or new place 0 ≡ cond is_odd (turned_slot (get_or slots place 0)) (get_or slots place 0)
    → ((other : ℕ) → other ≢ place → get_or new other 0 ≡ get_or slots other 0)
    → next_odd ≡ nat_lt 0 (get_or new place 0)
    → IsSettling side x y k old new next_odd
settled_cell side x y z k place old slots new is_odd next_odd short lx ly is_next is_place settling this others is_odd_next = record {
  within = omega (arith, settling.within, is_next);
  below = λ j lower. others (place_in x y j) (apart j (omega (arith, lower, lk)) (λ same. absurd (omega (arith, lower, same)))) ∙ settling.below j (omega (arith, lower, is_next));
  above = λ noted over adds has j from inside. elim (cases_eq j k) [
    | inl same ↦ rw same (here noted over adds has)
    | inr other ↦ others (place_in x y j) (apart j inside other) ∙ settling.above noted over adds has j (further j from other) inside
  ];
  odd = λ noted over adds has.
      rw (is_odd_next, lt-ltb k side lk) (one_is (get_or new place 0) (over k) (ap (λ at. get_or new at 0) is_place ∙ here noted over adds has));
  others = λ a b c la lb lc differ. others (place_in a b c) (elsewhere a b c la lb lc differ) ∙ settling.others a b c la lb lc differ;
}
  where
    lk : k < side
    lk = omega (arith, settling.within, is_next)

    apart : (j : ℕ) → j < side → (j ≡ k → ⊥) → place_in x y j ≢ place
    apart j lj differ same = other_place side x y j k short lx ly lj lk differ (same ∙ is_place)

    elsewhere : (a b c : ℕ) → a < side → b < side → c < side → (a ≡ x → b ≡ y → ⊥) → place_in a b c ≢ place
    elsewhere a b c la lb lc differ same =
        let cell = one_cell a b c x y k (omega (arith, la, short)) (omega (arith, lb, short)) (omega (arith, lc, short)) (omega (arith, lx, short)) (omega (arith, ly, short)) (omega (arith, lk, short)) (same ∙ is_place) in
        differ cell.0 cell.1

    further : (j : ℕ) → k ≤ j → (j ≡ k → ⊥) → z ≤ j
    further j from other = elim (cases_lt k j) [ inl less ↦ omega (arith, less, is_next) | inr most ↦ absurd (other (omega (arith, from, most))) ]

    sum : (over_k noted_k rest odd : ℕ) → over_k ≡ noted_k + rest → odd ≡ rest % 2 → (noted_k + odd) % 2 ≡ over_k % 2
    sum over_k noted_k rest odd e f = omega (arith, e, f)

    here : (noted over : ℕ → ℕ) → AddsUp side noted over → HasColumn side x y noted old → get_or new (place_in x y k) 0 ≡ over k % 2
    here noted over adds has =
        let slot : get_or slots place 0 ≡ noted k % 2 = ap (λ at. get_or slots at 0) is_place ∙ (settling.below k (omega (arith, is_next)) ∙ has k lk) in
        let odd : one is_odd ≡ from_place side over (k + 1) % 2 = subst (λ n. one is_odd ≡ from_place side over n % 2) is_next (settling.odd noted over adds has) in
        ap (λ at. get_or new at 0) (sym is_place) ∙ (this ∙ (turned_or_not is_odd (get_or slots place 0) (noted k) slot ∙ sum (over k) (noted k) (from_place side over (k + 1)) (one is_odd) (adds k lk) odd))

pub at_bottom : (side x y z : ℕ) (old new : List ℕ) (is_odd : Bool) → z ≤ 0 → IsSettling side x y z old new is_odd → IsSettledColumn side x y old new
at_bottom side x y z old new is_odd none settling noted over adds has k inside = settling.above noted over adds has k (omega (arith, none)) inside

-- ---- all columns

-- the columns with marks before a place are settled
abbrev pub mixed : ℕ → (ℕ → ℕ → ℕ → ℕ) → (ℕ → ℕ → ℕ → ℕ) → ℕ → ℕ → ℕ → ℕ
mixed at noted over a b z = cond (nat_lt (mark_of a b) at) (over a b z) (noted a b z)

abbrev pub IsSettledBefore : ℕ → ℕ → List ℕ → List ℕ → Type 0
IsSettledBefore side at old new = (noted over : ℕ → ℕ → ℕ → ℕ) → AddsUpEach side noted over → HasCounts side noted old → HasCounts side (mixed at noted over) new

pub none_settled : (side : ℕ) (slots : List ℕ) → IsSettledBefore side 0 slots slots
none_settled side slots noted over adds has a b z la lb lz = rw (not_less (mark_of a b) 0 (omega arith)) (has a b z la lb lz)

-- without notes in a column nothing is over its cells
none_over : (side : ℕ) (noted over : ℕ → ℕ) → AddsUp side noted over → ((z : ℕ) → z < side → noted z % 2 ≡ 0) → (n z : ℕ) → z + n ≡ side → z < side → over z % 2 ≡ 0
none_over side noted over adds none zero z whole inside = absurd (omega (arith, whole, inside))
none_over side noted over adds none (suc n) z whole inside = elim (cases_lt (z + 1) side) [
  | inl more ↦
      let rest : over (z + 1) % 2 ≡ 0 = none_over side noted over adds none n (z + 1) (omega (arith, whole)) more in
      let sum : over z ≡ noted z + over (z + 1) = adds z inside ∙ rw (lt-ltb (z + 1) side more) refl in
      omega (arith, rest, sum, none z inside)
  | inr last ↦
      let sum : over z ≡ noted z + 0 = adds z inside ∙ rw (not_less (z + 1) side last) refl in omega (arith, sum, none z inside)
]

unmarked : (side : ℕ) (old marks : List ℕ) (noted over : ℕ → ℕ → ℕ → ℕ) → AreMarked side old marks → AddsUpEach side noted over → HasCounts side noted old
    → (a b z : ℕ) → a < side → b < side → z < side → is_set_at marks (mark_of a b) ≡ false → over a b z % 2 ≡ noted a b z % 2
unmarked side old marks noted over marked adds has a b z la lb lz none =
    let zeros : (k : ℕ) → k < side → noted a b k % 2 ≡ 0 = λ k lk. sym (has a b k la lb lk) ∙ marked.empty a b k la lb lk none in
    none_over side (noted a b) (over a b) (adds a b la lb) zeros (side - z) z (omega (arith, lz)) lz ∙ sym (zeros z lz)

pub column_settled : (side at mark : ℕ) (old slots new marks : List ℕ) → side ≤ 512 → AreMarked side old marks → IsNextSet marks at mark → IsSettledBefore side at old slots
    → IsSettledColumn side (mark % 512) (mark / 512) slots new → OthersStay side (mark % 512) (mark / 512) slots new → IsSettledBefore side (mark + 1) old new
column_settled side at mark old slots new marks small marked next before column others noted over adds has a b z la lb lz = elim (cases_eq (mark_of a b) mark) [
  | inl same ↦
      let same_x : mark % 512 ≡ a = omega (arith, same, la, small) in
      let same_y : mark / 512 ≡ b = omega (arith, same, la, small) in
      let notes : HasColumn side (mark % 512) (mark / 512) (noted a b) slots =
      λ k lk. ap (λ m. get_or slots (place_in m (mark / 512) k) 0) same_x ∙ (ap (λ m. get_or slots (place_in a m k) 0) same_y ∙ (before noted over adds has a b k la lb lk ∙ rw (not_less (mark_of a b) at (omega (arith, same, next.later))) refl)) in
      rw (lt-ltb (mark_of a b) (mark + 1) (omega (arith, same)))
      (ap (λ m. get_or new (place_in a m z) 0) (sym same_y) ∙ (ap (λ m. get_or new (place_in m (mark / 512) z) 0) (sym same_x) ∙ column (noted a b) (over a b) (adds a b la lb) notes z lz))
  | inr other ↦
      others a b z la lb lz (λ same_x same_y. other (omega (arith, same_x, same_y)))
      ∙ (before noted over adds has a b z la lb lz ∙ same_number other)
]
  where
    further : mark ≤ mark_of a b → (mark_of a b ≡ mark → ⊥) → mark + 1 ≤ mark_of a b
    further behind other = elim (cases_lt mark (mark_of a b)) [ inl less ↦ omega (arith, less) | inr most ↦ absurd (other (omega (arith, behind, most))) ]

    same_number : (mark_of a b ≡ mark → ⊥) → mixed at noted over a b z % 2 ≡ mixed (mark + 1) noted over a b z % 2
    same_number other = elim (cases_lt (mark_of a b) at) [
      | inl early ↦ rw (lt-ltb (mark_of a b) at early, lt-ltb (mark_of a b) (mark + 1) (omega (arith, early, next.later))) refl
      | inr late ↦ elim (cases_lt (mark_of a b) mark) [
        | inl between ↦
            rw (not_less (mark_of a b) at late, lt-ltb (mark_of a b) (mark + 1) (omega (arith, between)))
            (sym (unmarked side old marks noted over marked adds has a b z la lb lz (next.least (mark_of a b) late between)))
        | inr behind ↦ rw (not_less (mark_of a b) at late, not_less (mark_of a b) (mark + 1) (further behind other)) refl
      ]
    ]

pub all_settled : (side at : ℕ) (old new marks : List ℕ) → side ≤ 512 → AreMarked side old marks → HasNoneFrom marks at → IsSettledBefore side at old new → IsSettled side old new
all_settled side at old new marks small marked none before noted over adds has a b z la lb lz = before noted over adds has a b z la lb lz ∙ same_number
  where
    same_number : mixed at noted over a b z % 2 ≡ over a b z % 2
    same_number = elim (cases_lt (mark_of a b) at) [
      | inl early ↦ rw (lt-ltb (mark_of a b) at early) refl
      | inr late ↦ rw (not_less (mark_of a b) at late) (sym (unmarked side old marks noted over marked adds has a b z la lb lz (none (mark_of a b) late (omega (arith, la, lb, small)))))
    ]
