-- The cells of a map below a code, and the next one.
use Rattle.std.proofs.Common.{◌≡◌, ℕ, ◌+◌, ◌<◌, ◌≤◌, true, false, cond, is_some, List, [], ◌∷◌, ◌++◌, Option, None, Some, refl, sym, ap, ◌∙◌, inl, inr, arith}
use Rattle.std.specs.Prelude.{◌==◌, nat_lt}
use Rattle.std.proofs.lemmas.Bool.{cases_Bool, ltb-true, ltb-false, lt-ltb, ne_eqb, eq-eqb, cond-true, cond-false}
use Rattle.octree_specs.specs.Cells.{Cell, codes_of}
use Rattle.octree_laws.proofs.Rising.{Ascends}
use Rattle.node_check.specs.Walks.{face_at, IsNext}

-- the cells below a code, from the first on
unfoldable pub cells_before : ℕ → List Cell → List Cell
cells_before from [] = []
cells_before from (cell ∷ rest) = cond (nat_lt cell.code from) (cell ∷ cells_before from rest) []

before_less : (from : ℕ) (cell : Cell) (rest : List Cell) → cell.code < from → cells_before from (cell ∷ rest) ≡ cell ∷ cells_before from rest
unfolding cells_before
before_less from cell rest less = cond-true (nat_lt cell.code from) (cell ∷ cells_before from rest) [] (lt-ltb cell.code from less)

before_more : (from : ℕ) (cell : Cell) (rest : List Cell) → nat_lt cell.code from ≡ false → cells_before from (cell ∷ rest) ≡ []
unfolding cells_before
before_more from cell rest more = cond-false (nat_lt cell.code from) (cell ∷ cells_before from rest) [] more

face_here : (cell : Cell) (rest : List Cell) → face_at (cell ∷ rest) cell.code ≡ Some cell.face
unfolding face_at
face_here cell rest = cond-true (cell.code == cell.code) (Some cell.face) (face_at rest cell.code) (eq-eqb cell.code cell.code refl)

face_later : (cell : Cell) (rest : List Cell) (code : ℕ) → (cell.code ≡ code → ⊥) → face_at (cell ∷ rest) code ≡ face_at rest code
unfolding face_at
face_later cell rest code apart = cond-false (cell.code == code) (Some cell.face) (face_at rest code) (ne_eqb cell.code code apart)

pub before_none : (from low : ℕ) (cells : List Cell) → Ascends low (codes_of cells) → from ≤ low → cells_before from cells ≡ []
unfolding cells_before Ascends
before_none from low [] ascending least = refl
before_none from low (cell ∷ rest) ascending least = elim (cases_Bool (nat_lt cell.code from)) [
  | inl less ↦ absurd (omega (arith, ltb-true cell.code from less, ascending.0, least))
  | inr more ↦ before_more from cell rest more
]

no_face : (low code : ℕ) (cells : List Cell) → Ascends low (codes_of cells) → code < low → face_at cells code ≡ None
unfolding face_at Ascends
no_face low code [] ascending below = refl
no_face low code (cell ∷ rest) ascending below =
    face_later cell rest code (λ same. omega (arith, same, ascending.0, below)) ∙ no_face (cell.code + 1) code rest ascending.1 (omega (arith, ascending.0, below))

none_is_some : (o : Option ℕ) → o ≡ None → is_some o ≡ true → ⊥
none_is_some None none some = cc
none_is_some (Some n) none some = cc

some_is_none : (o : Option ℕ) (n : ℕ) → o ≡ Some n → o ≡ None → ⊥
some_is_none None n some none = cc
some_is_none (Some m) n some none = cc

-- the next cell of a map, behind those before it
pub record IsStep (from code : ℕ) (cells : List Cell) : Type 0 where
  pub cell : Cell
  pub code_is : cell.code ≡ code
  pub face_is : face_at cells code ≡ Some cell.face
  pub more : cells_before (code + 1) cells ≡ cells_before from cells ++ cell ∷ []

pub next_step : (from code low : ℕ) (cells : List Cell) → Ascends low (codes_of cells) → IsNext cells from (Some code) → IsStep from code cells
unfolding Ascends
next_step from code low [] ascending next = absurd (none_is_some (face_at [] code) (no_face (code + 1) code [] tt (omega arith)) next.1)
next_step from code low (cell ∷ rest) ascending next = elim (cases_Bool (nat_lt cell.code from)) [
  | inl less ↦
      let below : cell.code < from = ltb-true cell.code from less in
      let skip : (x : ℕ) → from ≤ x → face_at (cell ∷ rest) x ≡ face_at rest x = λ x high. face_later cell rest x (λ same. omega (arith, same, high, below)) in
      let under : IsStep from code rest = next_step from code (cell.code + 1) rest ascending.1 (next.0, ap is_some (sym (skip code next.0)) ∙ next.1, λ x high before. sym (skip x high) ∙ next.2 x high before) in
      record {
        cell = under.cell;
        code_is = under.code_is;
        face_is = skip code next.0 ∙ under.face_is;
        more = before_less (code + 1) cell rest (omega (arith, below, next.0)) ∙ (ap (λ l. cell ∷ l) under.more ∙ ap (λ l. l ++ under.cell ∷ []) (sym (before_less from cell rest below)));
      }
  | inr more ↦
      let high : from ≤ cell.code = ltb-false cell.code from more in
      let not_before : cell.code < code → ⊥ = λ less. some_is_none (face_at (cell ∷ rest) cell.code) cell.face (face_here cell rest) (next.2 cell.code high less) in
      let not_after : code < cell.code → ⊥ =
      λ less. none_is_some (face_at (cell ∷ rest) code) (face_later cell rest code (λ same. omega (arith, same, less)) ∙ no_face (cell.code + 1) code rest ascending.1 (omega (arith, less))) next.1 in
      let same : cell.code ≡ code = one_code cell.code code not_before not_after in
      record {
        cell = cell;
        code_is = same;
        face_is = ap (face_at (cell ∷ rest)) (sym same) ∙ face_here cell rest;
        more = before_less (code + 1) cell rest (omega (arith, same))
            ∙ (ap (λ l. cell ∷ l) (before_none (code + 1) (cell.code + 1) rest ascending.1 (omega (arith, same))) ∙ ap (λ l. l ++ cell ∷ []) (sym (before_more from cell rest more)));
      }
]
  where
    one_code : (a b : ℕ) → (a < b → ⊥) → (b < a → ⊥) → a ≡ b
    one_code a b not_less not_more = elim (cases_Bool (nat_lt a b)) [
      | inl less ↦ absurd (not_less (ltb-true a b less))
      | inr high ↦ elim (cases_Bool (nat_lt b a)) [
        | inl less ↦ absurd (not_more (ltb-true b a less))
        | inr low ↦ omega (arith, ltb-false a b high, ltb-false b a low)
      ]
    ]

-- no next cell: these are all
pub none_next : (from : ℕ) (cells : List Cell) → IsNext cells from None → cells_before from cells ≡ cells
unfolding cells_before
none_next from [] none = refl
none_next from (cell ∷ rest) none = elim (cases_Bool (nat_lt cell.code from)) [
  | inl less ↦
      let below : cell.code < from = ltb-true cell.code from less in
      before_less from cell rest below ∙ ap (λ l. cell ∷ l) (none_next from rest (λ x high. sym (face_later cell rest x (λ same. omega (arith, same, high, below))) ∙ none x high))
  | inr more ↦ absurd (some_is_none (face_at (cell ∷ rest) cell.code) cell.face (face_here cell rest) (none cell.code (ltb-false cell.code from more)))
]

-- the rest behind them
unfoldable pub cells_from : ℕ → List Cell → List Cell
cells_from from [] = []
cells_from from (cell ∷ rest) = cond (nat_lt cell.code from) (cells_from from rest) (cell ∷ rest)

pub both_parts : (from : ℕ) (cells : List Cell) → cells_before from cells ++ cells_from from cells ≡ cells
unfolding cells_before cells_from
both_parts from [] = refl
both_parts from (cell ∷ rest) = elim (cases_Bool (nat_lt cell.code from)) [ inl less ↦ rw less (ap (λ l. cell ∷ l) (both_parts from rest)) | inr more ↦ rw more refl ]
