-- Samples that are painted, node after node.
use Rattle.std.proofs.Common.{◌≡◌, ℕ, suc, ◌+◌, ◌*◌, ◌/◌, ◌^◌, ◌<◌, ◌≤◌, Bool, true, false, cond, is_some, List, length, refl, sym, ap, subst, ◌∙◌, ◌⊎◌, inl, inr, arith}
use Rattle.std.specs.Prelude.{nat_lt, get_or, slice_index}
use Rattle.std.proofs.Math.ListN.{set}
use Rattle.std.proofs.lemmas.Bool.{cases_Bool, ltb-true, ltb-false}
use Rattle.std.proofs.lemmas.List.{get_or-set_same, get_or-set_other}
use Rattle.octree_specs.specs.Cells.{Cell}
use Rattle.octree_laws.proofs.Under.{div-up, div-leaf}
use Rattle.node_check.specs.Walks.{face_at}
use Rattle.slice_view.specs.Bands.{IsBand, IsSquare, IsPainted, ArePainted, band_size, cell_of, crosses}
use Rattle.slice_view.specs.declared.bands.Band.{Band}
use Rattle.slice_view.specs.declared.squares.Square.{Square}
use Rattle.slice_view.proofs.Places.{crossed, shown, sample_number, cell_of_sample, sample_of_cell}

pub below_or_not : (m n : ℕ) → (m < n) ⊎ (n ≤ m)
below_or_not m n = elim (cases_Bool (nat_lt m n)) [
  | inl less ↦ inl (ltb-true m n less)
  | inr not_less ↦ inr (ltb-false m n not_less)
]

painted_none : (Here : Type 0) (filled : Bool) (old : ℕ) → (Here → filled ≡ false) → IsPainted Here filled old old
painted_none Here filled old none = record {
  here = λ is. sym (ap (λ b. cond b 255 old) (none is));
  away = λ other. refl;
}

-- no filled cell lies here
pub none_painted : (band : Band) (cells : List Cell) (height first end : ℕ) (block : List ℕ)
    → ((number : ℕ) → number < band_size band → first ≤ cell_of band number / 8 ^ height → cell_of band number / 8 ^ height < end → is_some (face_at cells (cell_of band number)) ≡ false)
    → ArePainted band cells height first end block block
none_painted band cells height first end block none = λ number below.
    painted_none ((first ≤ cell_of band number / 8 ^ height) × (cell_of band number / 8 ^ height < end)) (is_some (face_at cells (cell_of band number))) (slice_index block number)
    (λ is. none number below is.0 is.1)

-- two rows of nodes side by side
painted_twice : (at first middle end : ℕ) (filled : Bool) (old mid new : ℕ) → first ≤ middle → middle ≤ end
    → IsPainted ((first ≤ at) × (at < middle)) filled old mid → IsPainted ((middle ≤ at) × (at < end)) filled mid new → IsPainted ((first ≤ at) × (at < end)) filled old new
painted_twice at first middle end filled old mid new p q one two = record {
  here = λ is. elim (below_or_not at middle) [
    | inl less ↦ two.away (λ other. absurd (omega (arith, less, other.0))) ∙ one.here (is.0, less)
    | inr more ↦ two.here (more, is.1) ∙ ap (λ n. cond filled 255 n) (one.away (λ other. absurd (omega (arith, more, other.1))))
  ];
  away = λ other.
      two.away (λ is. other (omega (arith, p, is.0), is.1)) ∙ one.away (λ is. other (is.0, omega (arith, q, is.1)));
}

pub painted_next : (band : Band) (cells : List Cell) (height first middle end : ℕ) (old mid new : List ℕ) → first ≤ middle → middle ≤ end
    → ArePainted band cells height first middle old mid → ArePainted band cells height middle end mid new → ArePainted band cells height first end old new
painted_next band cells height first middle end old mid new p q one two = λ number below.
    painted_twice (cell_of band number / 8 ^ height) first middle end (is_some (face_at cells (cell_of band number))) (slice_index old number) (slice_index mid number) (slice_index new number) p q (one number below) (two number below)

-- a node is its children
painted_above : (at code : ℕ) (filled : Bool) (old new : ℕ) → IsPainted ((8 * code ≤ at) × (at < 8 * code + 8)) filled old new → IsPainted ((code ≤ at / 8) × (at / 8 < code + 1)) filled old new
painted_above at code filled old new is = record {
  here = λ up. is.here (omega (arith, up.0), omega (arith, up.1));
  away = λ other. is.away (λ under. other (omega (arith, under.0), omega (arith, under.1)));
}

pub painted_children : (band : Band) (cells : List Cell) (height code : ℕ) (old new : List ℕ) → ArePainted band cells height (8 * code) (8 * code + 8) old new → ArePainted band cells (suc height) code (code + 1) old new
painted_children band cells height code old new are = λ number below.
    subst (λ n. IsPainted ((code ≤ n) × (n < code + 1)) (is_some (face_at cells (cell_of band number))) (slice_index old number) (slice_index new number)) (sym (div-up (cell_of band number) height))
    (painted_above (cell_of band number / 8 ^ height) code (is_some (face_at cells (cell_of band number))) (slice_index old number) (slice_index new number) (are number below))

-- a node that the band does not cross has no sample
pub none_crossed : (band : Band) (square : Square) (cells : List Cell) (block : List ℕ) → IsBand band → IsSquare band.depth band.axis square → crosses band square ≡ false
    → ArePainted band cells square.height square.code (square.code + 1) block block
none_crossed band square cells block is node missed =
    none_painted band cells square.height square.code (square.code + 1) block
    (λ number below low high.
    let crosses_it : crosses band square ≡ true = crossed band square is node number below (omega (arith, low, high)) in
    absurd (let e : true ≡ false = sym crosses_it ∙ missed in cc))

-- a filled cell that the band shows
pub cell_painted : (band : Band) (cell : Square) (cells : List Cell) (block : List ℕ) → IsBand band → IsSquare band.depth band.axis cell → cell.height ≡ 0 → crosses band cell ≡ true
    → is_some (face_at cells cell.code) ≡ true → band_size band ≤ length block → ArePainted band cells 0 cell.code (cell.code + 1) block (set block (sample_number band cell) 255)
cell_painted band cell cells block is square leaf shows filled room = λ number below. record {
  here = λ under.
      let same : cell_of band number ≡ cell.code = omega (arith, div-leaf (cell_of band number), under.0, under.1) in
      let own : number ≡ sample_number band cell = sample_of_cell band cell is square leaf (shown band cell leaf shows) number below same in
      let some : is_some (face_at cells (cell_of band number)) ≡ true = ap (λ c. is_some (face_at cells c)) same ∙ filled in
      ap (λ n. get_or (set block (sample_number band cell) 255) n 0) own
      ∙ (get_or-set_same block (sample_number band cell) 255 0 (omega (arith, own, below, room)) ∙ sym (ap (λ b. cond b 255 (slice_index block number)) some));
  away = λ other.
      get_or-set_other block (sample_number band cell) number 255 0
      (λ own. other
      (let same : cell_of band number ≡ cell.code = ap (cell_of band) own ∙ cell_of_sample band cell is square leaf (shown band cell leaf shows) in
      (omega (arith, div-leaf (cell_of band number), same), omega (arith, div-leaf (cell_of band number), same))));
}
