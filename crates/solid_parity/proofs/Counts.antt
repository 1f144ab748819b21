-- Slots as odd as the numbers that were counted.
use Rattle.std.proofs.Common.{◌≡◌, ℕ, ◌+◌, ◌*◌, ◌%◌, ◌^◌, ◌<◌, ◌≤◌, ◌-◌, Bool, true, false, List, length, get_or, set, get_or-set_same, get_or-set_other, inl, inr, arith, refl, sym, ap, subst, ◌∙◌, lit<}
use Rattle.std.specs.Prelude.{◌≢◌, ◌==◌, ◌&&◌, cond, nat_lt}
use Rattle.std.proofs.Math.Nat.{pow-le-pow_right}
use Rattle.std.proofs.lemmas.Bool.{cases_Bool, cases_eq, cases_lt, lt-ltb, ltb-true, eq-eqb, ne_eqb, and_right}
use Rattle.std.proofs.lemmas.Bool.Decides.{nat_tests}
use Rattle.bit_grid.specs.Places.{is_set_at}
use Rattle.bit_grid.specs.Slots.{turned_slot}
use Rattle.bit_grid.specs.Touched.{AreTouched}
use Rattle.bit_grid.specs.declared.touched.TouchedBlocks.{TouchedBlocks}
use Rattle.tri_partition.specs.declared.part_ranges.PartRange.{PartRange}
use Rattle.octree_specs.specs.NodeCube.{coordinate_of}
use Rattle.morton_code.proofs.Coordinates.{x_of_code, y_of_code, z_of_code}
use Rattle.svo_base.specs.declared.shapes.Triangle.{Triangle}
use Rattle.solid_parity.specs.Counts.{AddsCounts, AreKept, OthersStay, mark_of, notes, row_notes, column_notes}
use Rattle.solid_parity.specs.Notes.{is_highest, place_in}
use Rattle.solid_parity.specs.Parity.{one}
use Rattle.solid_parity.specs.PartCells.{Part, part_side}
use Rattle.solid_parity.specs.Shapes.{AreUnder}
use Rattle.solid_parity.specs.Spans.{AreAcross}
use Rattle.solid_parity.proofs.Highest.{highest_is_last, last_is_highest}

-- ---- numbers that are added

pub adds_none : (side : ℕ) (more : ℕ → ℕ → ℕ → ℕ) (slots : List ℕ) → ((x y z : ℕ) → x < side → y < side → z < side → more x y z ≡ 0) → AddsCounts side more slots slots
adds_none side more slots none number has x y z p q r = has x y z p q r ∙ omega (arith, none x y z p q r)

pub adds_then : (side : ℕ) (first second both : ℕ → ℕ → ℕ → ℕ) (old middle new : List ℕ) → AddsCounts side first old middle → AddsCounts side second middle new
    → ((x y z : ℕ) → x < side → y < side → z < side → first x y z + second x y z ≡ both x y z) → AddsCounts side both old new
adds_then side first second both old middle new one_adds other_adds sums number has x y z p q r =
    other_adds (λ a b c. number a b c + first a b c) (one_adds number has) x y z p q r ∙ omega (arith, sums x y z p q r)

pub adds_same : (side : ℕ) (more other : ℕ → ℕ → ℕ → ℕ) (old new : List ℕ) → ((x y z : ℕ) → x < side → y < side → z < side → more x y z ≡ other x y z) → AddsCounts side more old new → AddsCounts side other old new
adds_same side more other old new same adds number has x y z p q r = adds number has x y z p q r ∙ ap (λ n. (number x y z + n) % 2) (same x y z p q r)

-- ---- loops over places

pub next_place : (a at : ℕ) (rest : Bool) → one (nat_lt a at && rest) + one ((a == at) && rest) ≡ one (nat_lt a (at + 1) && rest)
next_place a at rest = elim (cases_eq a at) [
  | inl same ↦ rw (same, not_less at, eq-eqb at at refl, lt-ltb at (at + 1) (omega arith)) (omega arith)
  | inr other ↦ elim (cases_lt a at) [
    | inl below ↦ rw (lt-ltb a at below, ne_eqb a at other, lt-ltb a (at + 1) (omega (arith, below))) (omega arith)
    | inr above ↦ rw (not_less_than a at above, ne_eqb a at other, not_less_than a (at + 1) (later above other)) refl
  ]
]
  where
    not_less_than : (m n : ℕ) → n ≤ m → nat_lt m n ≡ false
    not_less_than m n h = grind (arith, nat_tests)

    not_less : (n : ℕ) → nat_lt n n ≡ false
    not_less n = not_less_than n n (omega arith)

    later : at ≤ a → (a ≡ at → ⊥) → at + 1 ≤ a
    later above other = elim (cases_lt at a) [ inl less ↦ omega (arith, less) | inr most ↦ absurd (other (omega (arith, above, most))) ]

-- before the first place nothing counts
pub no_place : (a from : ℕ) (rest : Bool) → (a < from → rest ≡ false) → one (nat_lt a from && rest) ≡ 0
no_place a from rest none = elim (cases_Bool (nat_lt a from)) [
  | inl below ↦ rw (below, none (ltb-true a from below)) refl
  | inr not ↦ rw not refl
]

-- and behind the last one neither
pub all_places : (a to : ℕ) (rest : Bool) → (to ≤ a → rest ≡ false) → one (nat_lt a to && rest) ≡ one rest
all_places a to rest none = elim (cases_lt a to) [
  | inl below ↦ rw (lt-ltb a to below) refl
  | inr behind ↦ rw (none behind, and_right (nat_lt a to) false refl) refl
]

-- ---- the slot of one cell

pub shallow_side : (height : ℕ) → 2 ^ height ≤ 2 ^ 12 → height ≤ 20
shallow_side height short = elim (cases_lt 20 height) [
  | inl deep ↦
      let most : 2 ^ 21 ≤ 2 ^ height = pow-le-pow_right {n = 2} (lit< tt) {i = 21} {j = height} (omega (arith, deep)) in absurd (omega (arith, most, short))
  | inr shallow ↦ shallow
]

-- each cell has a slot of its own
pub one_cell : (a b c x y z : ℕ) → a < 2 ^ 20 → b < 2 ^ 20 → c < 2 ^ 20 → x < 2 ^ 20 → y < 2 ^ 20 → z < 2 ^ 20 → place_in a b c ≡ place_in x y z → (a ≡ x) × (b ≡ y) × (c ≡ z)
one_cell a b c x y z la lb lc lx ly lz same = (
  sym (x_of_code 20 a b c la) ∙ (ap (coordinate_of 0 20) same ∙ x_of_code 20 x y z lx),
  sym (y_of_code 20 a b c lb) ∙ (ap (coordinate_of 1 20) same ∙ y_of_code 20 x y z ly),
  sym (z_of_code 20 a b c lc) ∙ (ap (coordinate_of 2 20) same ∙ z_of_code 20 x y z lz),
)

pub turned_more : (slot n : ℕ) → slot ≡ n % 2 → turned_slot slot ≡ (n + 1) % 2
turned_more slot n is = rw is (parity n (n % 2) refl)
  where
    odd : (m rest : ℕ) → rest ≡ m % 2 → (rest ≡ 0 → ⊥) → 0 ≡ (m + 1) % 2
    odd m rest e some = elim (cases_lt 0 rest) [ inl more ↦ omega (arith, e, more) | inr none ↦ absurd (some (omega (arith, none))) ]

    parity : (m rest : ℕ) → rest ≡ m % 2 → cond (rest == 0) 1 0 ≡ (m + 1) % 2
    parity m rest e = elim (cases_eq rest 0) [
      | inl zero ↦ rw (eq-eqb rest 0 zero) (omega (arith, e, zero))
      | inr some ↦ rw (ne_eqb rest 0 some) (odd m rest e some)
    ]

-- where the triangle is over no cell of a column, none of it counts
pub none_counted : (p : Part) (t : Triangle) (x y count : ℕ) (slots : List ℕ) → AreUnder p t x y count → count ≤ 0
    → AddsCounts (part_side p.grid p.split) (λ a b c. one ((a == x) && ((b == y) && is_highest p t a b c))) slots slots
none_counted p t x y count slots under none = adds_none (part_side p.grid p.split) _ slots (λ a b c la lb lc. no_test a b c lc)
  where
    no_test : (a b c : ℕ) → c < part_side p.grid p.split → one ((a == x) && ((b == y) && is_highest p t a b c)) ≡ 0
    no_test a b c lc = elim (cases_eq a x) [
      | inl same_x ↦ elim (cases_eq b y) [
        | inl same_y ↦ elim (cases_Bool (is_highest p t a b c)) [
          | inl high ↦ absurd (omega (arith, none, highest_is_last p t x y c count under lc (subst (λ k. is_highest p t k y c ≡ true) same_x (subst (λ k. is_highest p t a k c ≡ true) same_y high))))
          | inr low ↦ rw (low, and_right (b == y) false refl, and_right (a == x) false refl) refl
        ]
        | inr other ↦ rw (ne_eqb b y other, and_right (a == x) false refl) refl
      ]
      | inr other ↦ rw (ne_eqb a x other) refl
    ]

-- else its highest cell counts alone
pub one_counted : (p : Part) (t : Triangle) (x y count place : ℕ) (old new : List ℕ) → AreUnder p t x y count → 0 < count → part_side p.grid p.split ≤ 2 ^ 12
    → x < part_side p.grid p.split → y < part_side p.grid p.split → place ≡ place_in x y (count - 1) → place < length old
    → new ≡ set old place (turned_slot (get_or old place 0))
    → AddsCounts (part_side p.grid p.split) (λ a b c. one ((a == x) && ((b == y) && is_highest p t a b c))) old new
one_counted p t x y count place old new under some short lx ly is_place inside is_new number has a b c la lb lc =
    elim (cases_eq (place_in a b c) place) [
      | inl same ↦
          let cell = one_cell a b c x y z (omega (arith, la, short)) (omega (arith, lb, short)) (omega (arith, lc, short)) (omega (arith, lx, short)) (omega (arith, ly, short)) (omega (arith, lz, short)) (same ∙ is_place) in
          let high : is_highest p t a b c ≡ true =
          subst (λ k. is_highest p t k b c ≡ true) (sym cell.0) (subst (λ k. is_highest p t x k c ≡ true) (sym cell.1) (last_is_highest p t x y c count under (omega (arith, some, cell.2)))) in
          rw (is_new, same, eq-eqb a x cell.0, eq-eqb b y cell.1, high)
          (get_or-set_same old place (turned_slot (get_or old place 0)) 0 inside ∙ turned_more (get_or old place 0) (number a b c) (subst (λ k. get_or old k 0 ≡ number a b c % 2) same (has a b c la lb lc)))
      | inr other ↦
          rw is_new
          (get_or-set_other old place (place_in a b c) (turned_slot (get_or old place 0)) 0 other
          ∙ (has a b c la lb lc ∙ omega (arith, no_test other)))
    ]
  where
    z : ℕ
    z = count - 1

    lz : z < part_side p.grid p.split
    lz = omega (arith, some, under.within)

    no_test : (place_in a b c ≡ place → ⊥) → one ((a == x) && ((b == y) && is_highest p t a b c)) ≡ 0
    no_test other = elim (cases_eq a x) [
      | inl same_x ↦ elim (cases_eq b y) [
        | inl same_y ↦ elim (cases_Bool (is_highest p t a b c)) [
          | inl high ↦
              let last : c + 1 ≡ count = highest_is_last p t x y c count under lc (subst (λ k. is_highest p t k y c ≡ true) same_x (subst (λ k. is_highest p t a k c ≡ true) same_y high)) in
              let here : c ≡ z = omega (arith, last) in
              absurd (other (ap (λ k. place_in k b c) same_x ∙ (ap (λ k. place_in x k c) same_y ∙ (ap (λ k. place_in x y k) here ∙ sym is_place))))
          | inr low ↦ rw (low, and_right (b == y) false refl, and_right (a == x) false refl) refl
        ]
        | inr differs ↦ rw (ne_eqb b y differs, and_right (a == x) false refl) refl
      ]
      | inr differs ↦ rw (ne_eqb a x differs) refl
    ]

pub others_stay : (side x y z place : ℕ) (old new : List ℕ) (slot : ℕ) → side ≤ 2 ^ 12 → x < side → y < side → z < side → place ≡ place_in x y z → new ≡ set old place slot → OthersStay side x y old new
others_stay side x y z place old new slot short lx ly lz is_place is_new a b c la lb lc apart =
    rw is_new (get_or-set_other old place (place_in a b c) slot 0 (λ same.
    let cell = one_cell a b c x y z (omega (arith, la, short)) (omega (arith, lb, short)) (omega (arith, lc, short)) (omega (arith, lx, short)) (omega (arith, ly, short)) (omega (arith, lz, short)) (same ∙ is_place) in
    apart cell.0 cell.1))

-- ---- marks

pub kept_marked : (p : Part) (x y place : ℕ) (old new marks then_marks : List ℕ) (blocks next : TouchedBlocks) → AreKept p old blocks marks
    → x < part_side p.grid p.split → y < part_side p.grid p.split → length new ≡ length old → length then_marks ≡ length marks → AreTouched new next → place ≡ mark_of x y
    → is_set_at then_marks place ≡ true → ((other : ℕ) → other ≢ place → is_set_at then_marks other ≡ is_set_at marks other)
    → OthersStay (part_side p.grid p.split) x y old new → AreKept p new next then_marks
kept_marked p x y place old new marks then_marks blocks next kept lx ly as_long as_many touched is_place this others stay = record {
  small = kept.small;
  room = omega (arith, kept.room, as_long);
  touched = touched;
  long = as_many ∙ kept.long;
  marked = record {
    within = λ mark marked. elim (cases_eq mark place) [
      | inl same ↦ (omega (arith, same, is_place, lx, kept.small), omega (arith, same, is_place, lx, ly, kept.small))
      | inr other ↦ kept.marked.within mark (sym (others mark other) ∙ marked)
    ];
    empty = λ a b z la lb lz unmarked. elim (cases_eq (mark_of a b) place) [
      | inl same ↦ absurd (both (is_set_at then_marks place) this (subst (λ m. is_set_at then_marks m ≡ false) same unmarked))
      | inr other ↦
          stay a b z la lb lz (λ same_x same_y. other (ap (λ k. 512 * b + k) same_x ∙ (ap (λ k. 512 * k + x) same_y ∙ sym is_place)))
          ∙ kept.marked.empty a b z la lb lz (sym (others (mark_of a b) other) ∙ unmarked)
    ];
  };
}
  where
    both : (test : Bool) → test ≡ true → test ≡ false → ⊥
    both test yes_it_is not_it = absurd (cc)

-- ---- rows

pub row_next : (p : Part) (t : Triangle) (y at : ℕ) (old middle new : List ℕ) → AddsCounts (part_side p.grid p.split) (λ a b z. one (nat_lt a at && ((b == y) && is_highest p t a b z))) old middle
    → AddsCounts (part_side p.grid p.split) (column_notes p t at y) middle new → AddsCounts (part_side p.grid p.split) (λ a b z. one (nat_lt a (at + 1) && ((b == y) && is_highest p t a b z))) old new
row_next p t y at old middle new before next =
    adds_then (part_side p.grid p.split) (λ a b z. one (nat_lt a at && ((b == y) && is_highest p t a b z))) (column_notes p t at y) (λ a b z. one (nat_lt a (at + 1) && ((b == y) && is_highest p t a b z))) old middle new before next
    (λ a b z la lb lz. next_place a at ((b == y) && is_highest p t a b z))

pub row_none : (p : Part) (t : Triangle) (xs : PartRange) (y : ℕ) (slots : List ℕ) → AreAcross p t xs → AddsCounts (part_side p.grid p.split) (λ a b z. one (nat_lt a xs.from && ((b == y) && is_highest p t a b z))) slots slots
row_none p t xs y slots across =
    adds_none (part_side p.grid p.split) (λ a b z. one (nat_lt a xs.from && ((b == y) && is_highest p t a b z))) slots
    (λ a b z la lb lz. no_place a xs.from ((b == y) && is_highest p t a b z) (λ below. and_right (b == y) (is_highest p t a b z) (across.before a b z below)))

pub row_all : (p : Part) (t : Triangle) (xs : PartRange) (y at : ℕ) (old new : List ℕ) → AreAcross p t xs → xs.to ≤ at → AddsCounts (part_side p.grid p.split) (λ a b z. one (nat_lt a at && ((b == y) && is_highest p t a b z))) old new
    → AddsCounts (part_side p.grid p.split) (row_notes p t y) old new
row_all p t xs y at old new across over adds =
    adds_same (part_side p.grid p.split) (λ a b z. one (nat_lt a at && ((b == y) && is_highest p t a b z))) (row_notes p t y) old new
    (λ a b z la lb lz. all_places a at ((b == y) && is_highest p t a b z) (λ behind. and_right (b == y) (is_highest p t a b z) (across.behind a b z (omega (arith, over, behind)) la))) adds

pub rows_next : (p : Part) (t : Triangle) (at : ℕ) (old middle new : List ℕ) → AddsCounts (part_side p.grid p.split) (λ a b z. one (nat_lt b at && is_highest p t a b z)) old middle
    → AddsCounts (part_side p.grid p.split) (row_notes p t at) middle new → AddsCounts (part_side p.grid p.split) (λ a b z. one (nat_lt b (at + 1) && is_highest p t a b z)) old new
rows_next p t at old middle new before next =
    adds_then (part_side p.grid p.split) (λ a b z. one (nat_lt b at && is_highest p t a b z)) (row_notes p t at) (λ a b z. one (nat_lt b (at + 1) && is_highest p t a b z)) old middle new before next
    (λ a b z la lb lz. next_place b at (is_highest p t a b z))

pub rows_none : (p : Part) (t : Triangle) (from : ℕ) (slots : List ℕ) → ((x y z : ℕ) → y < from → is_highest p t x y z ≡ false) → AddsCounts (part_side p.grid p.split) (λ a b z. one (nat_lt b from && is_highest p t a b z)) slots slots
rows_none p t from slots before =
    adds_none (part_side p.grid p.split) (λ a b z. one (nat_lt b from && is_highest p t a b z)) slots
    (λ a b z la lb lz. no_place b from (is_highest p t a b z) (before a b z))

pub rows_all : (p : Part) (t : Triangle) (to at : ℕ) (old new : List ℕ) → ((x y z : ℕ) → to ≤ y → y < part_side p.grid p.split → is_highest p t x y z ≡ false) → to ≤ at
    → AddsCounts (part_side p.grid p.split) (λ a b z. one (nat_lt b at && is_highest p t a b z)) old new → AddsCounts (part_side p.grid p.split) (notes p t) old new
rows_all p t to at old new behind over adds =
    adds_same (part_side p.grid p.split) (λ a b z. one (nat_lt b at && is_highest p t a b z)) (notes p t) old new
    (λ a b z la lb lz. all_places b at (is_highest p t a b z) (λ further. behind a b z (omega (arith, over, further)) lb)) adds
