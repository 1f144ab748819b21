-- The first cells of two maps from a code on, and the first of both.
use Rattle.std.proofs.Common.{◌≡◌, ℕ, ◌+◌, ◌^◌, ◌<◌, ◌≤◌, ◌==◌, Option, None, Some, inl, inr, refl, sym, ap, subst, ◌∙◌, arith}
use Rattle.std.specs.Prelude.{IfSome, min}
use Rattle.std.proofs.lemmas.Bool.{cases_eq, cases_lt, eq-eqb, ne_eqb, cond-true, cond-false}
use Rattle.node_file.specs.FileView.{FileView}
use Rattle.node_check.specs.declared.cursor.FacedCell.{FacedCell}
use Rattle.node_check.specs.Walks.{face_at}
use Rattle.node_merge.specs.Pushing.{IsHead, IsFront, least_code, face_if}
use Rattle.node_merge.specs.declared.fronts.Front.{Front}

-- the cell, where there is one, has at least this code
abbrev pub AtLeast : ℕ → Option FacedCell → Type 0
AtLeast code head = IfSome head (λ cell. code ≤ cell.code)

head_later : (f : ℕ → Option ℕ) (before from : ℕ) (head : Option FacedCell) → before ≤ from → AtLeast from head → IsHead f before head → IsHead f from head
head_later f before from None later least is = λ code low. is code (omega (arith, low, later))
head_later f before from (Some cell) later least is = (λ code low below. is.0 code (omega (arith, low, later)) below, is.1)

behind_later : (walk before from bound : ℕ) (head : Option FacedCell) → AtLeast from head
    → IfSome head (λ cell. (walk ≡ cell.code + 1) × (before ≤ cell.code) × (cell.code < bound) × (cell.face ≤ 4294967294))
    → IfSome head (λ cell. (walk ≡ cell.code + 1) × (from ≤ cell.code) × (cell.code < bound) × (cell.face ≤ 4294967294))
behind_later walk before from bound None least behind = tt
behind_later walk before from bound (Some cell) least behind = (behind.0, least, behind.2, behind.3)

pub front_later : (file : FileView) (before from : ℕ) (front : Front) → before ≤ from → AtLeast from front.head → IsFront file before front → IsFront file from front
front_later file before from front later least is = record {
  on = is.on;
  behind = behind_later front.walk.from before from (8 ^ file.grid.depth) front.head least is.behind;
  told = λ cells map. head_later (face_at cells) before from front.head later least (is.told cells map);
}

-- ---- the first cell of both

pub least_first : (first second : Option FacedCell) (code : ℕ) → least_code first second ≡ Some code → AtLeast code first
least_first None second code is = tt
least_first (Some cell) None code is = let e : cell.code ≡ code = cc in omega (arith, e)
least_first (Some cell) (Some other) code is = let e : min cell.code other.code ≡ code = cc in omega (arith, e)

pub least_second : (first second : Option FacedCell) (code : ℕ) → least_code first second ≡ Some code → AtLeast code second
least_second first None code is = tt
least_second None (Some cell) code is = let e : cell.code ≡ code = cc in omega (arith, e)
least_second (Some cell) (Some other) code is = let e : min cell.code other.code ≡ code = cc in omega (arith, e)

-- whatever holds of both codes holds of the lesser
pub least_holds : (P : ℕ → Type 0) (first second : Option FacedCell) (code : ℕ) → least_code first second ≡ Some code → IfSome first (λ cell. P cell.code) → IfSome second (λ cell. P cell.code) → P code
least_holds P None None code is one two = cc
least_holds P (Some cell) None code is one two = let e : cell.code ≡ code = cc in subst P e one
least_holds P None (Some cell) code is one two = let e : cell.code ≡ code = cc in subst P e two
least_holds P (Some cell) (Some other) code is one two = elim (cases_lt cell.code other.code) [
  | inl less ↦ let e : min cell.code other.code ≡ code = cc in let f : cell.code ≡ code = omega (arith, e, less) in subst P f one
  | inr more ↦ let e : min cell.code other.code ≡ code = cc in let f : other.code ≡ code = omega (arith, e, more) in subst P f two
]

pub none_first : (first second : Option FacedCell) → least_code first second ≡ None → (first ≡ None) × (second ≡ None)
none_first None None is = (refl, refl)
none_first (Some cell) None is = cc
none_first None (Some cell) is = cc
none_first (Some cell) (Some other) is = cc

-- below the first cell there is none
pub none_below : (f : ℕ → Option ℕ) (from code : ℕ) (head : Option FacedCell) → IsHead f from head → AtLeast code head → (c : ℕ) → from ≤ c → c < code → f c ≡ None
none_below f from code None is least c low below = is c low
none_below f from code (Some cell) is least c low below = is.0 c low (omega (arith, below, least))

-- and at a code up to it there is its face, or none
pub face_there : (f : ℕ → Option ℕ) (from code : ℕ) (head : Option FacedCell) → IsHead f from head → from ≤ code → AtLeast code head → f code ≡ face_if head code
face_there f from code None is low least = is code low
face_there f from code (Some cell) is low least = elim (cases_eq cell.code code) [
  | inl same ↦ ap f (sym same) ∙ (is.1 ∙ sym (cond-true (cell.code == code) (Some cell.face) None (eq-eqb cell.code code same)))
  | inr apart ↦ is.0 code low (omega (arith, least, apart)) ∙ sym (cond-false (cell.code == code) (Some cell.face) None (ne_eqb cell.code code apart))
]
