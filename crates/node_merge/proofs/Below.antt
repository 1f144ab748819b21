-- The cells below a code to which a function gives faces.
use Rattle.std.proofs.Common.{◌≡◌, ℕ, zero, suc, ◌+◌, ◌^◌, ◌<◌, ◌≤◌, List, [], ◌∷◌, ◌++◌, length, Option, None, Some, inl, inr, refl, sym, ap, subst, ◌∙◌, arith, add-one, append-nil, append_assoc}
use Rattle.std.specs.Prelude.{All}
use Rattle.std.specs.List.Sorted.{IsStrictlyIncreasing}
use Rattle.std.proofs.lemmas.Bool.{cases_eq}
use Rattle.std.proofs.lemmas.Grind.{common_steps}
use Rattle.std.proofs.lemmas.List.{map-append}
use Rattle.std.proofs.lemmas.List.Elements.{All-nil, All-push, All-weaker, All-map}
use Rattle.octree_specs.specs.Cells.{Cell, codes_of}
use Rattle.level_queues.specs.Fronts.{Ascend}
use Rattle.node_merge.specs.Combined.{cell_of, cells_below}

module _ (f : ℕ → Option ℕ) where
  one_more : (code : ℕ) → cells_below (suc code) f ≡ cells_below code f ++ cell_of code (f code)
  unfolding cells_below
  one_more code = refl

  pub no_face : (code : ℕ) → f code ≡ None → cells_below (code + 1) f ≡ cells_below code f
  no_face code none = ap (λ n. cells_below n f) (add-one code) ∙ (one_more code ∙ (ap (λ o. cells_below code f ++ cell_of code o) none ∙ append-nil (cells_below code f)))

  pub one_face : (code face : ℕ) → f code ≡ Some face → cells_below (code + 1) f ≡ cells_below code f ++ record { code = code; face = face } ∷ []
  one_face code face some = ap (λ n. cells_below n f) (add-one code) ∙ (one_more code ∙ ap (λ o. cells_below code f ++ cell_of code o) some)

  -- no cell from one code up to another has a face
  pub skipped : (from to : ℕ) → from ≤ to → ((code : ℕ) → from ≤ code → code < to → f code ≡ None) → cells_below to f ≡ cells_below from f
  skipped from zero high none = ap (λ n. cells_below n f) (omega (arith, high))
  skipped from (suc to) high none = elim (cases_eq from (suc to)) [
    | inl same ↦ ap (λ n. cells_below n f) (sym same)
    | inr apart ↦
        let within : from ≤ to = omega (arith, high, apart) in
        ap (λ n. cells_below n f) (sym (add-one to))
        ∙ (no_face to (none to within (omega arith)) ∙ skipped from to within (λ code low below. none code low (omega (arith, below))))
  ]

  -- those below a lesser code come first
  pub come_first : (from to : ℕ) → from ≤ to → (rest : List Cell) × (cells_below from f ++ rest ≡ cells_below to f)
  come_first from zero high = ([], append-nil (cells_below from f) ∙ ap (λ n. cells_below n f) (omega (arith, high)))
  come_first from (suc to) high = elim (cases_eq from (suc to)) [
    | inl same ↦ ([], append-nil (cells_below from f) ∙ ap (λ n. cells_below n f) same)
    | inr apart ↦
        let before : (rest : List Cell) × (cells_below from f ++ rest ≡ cells_below to f) = come_first from to (omega (arith, high, apart)) in
        (before.0 ++ cell_of to (f to), sym (append_assoc (cells_below from f) before.0 (cell_of to (f to))) ∙ (ap (λ l. l ++ cell_of to (f to)) before.1 ∙ sym (one_more to)))
  ]

increasing_push : (numbers : List ℕ) (n : ℕ) → IsStrictlyIncreasing numbers → All (λ m. m < n) numbers → IsStrictlyIncreasing (numbers ++ n ∷ [])
increasing_push numbers n ascending inside k within = elim (cases_eq (k + 1) (length numbers)) [
  | inl last ↦ grind (arith, common_steps, inside k 0)
  | inr before ↦ grind (arith, common_steps, ascending k)
]

record AreOrdered (bound : ℕ) (cells : List Cell) : Type 0 where
  ascending : IsStrictlyIncreasing (codes_of cells)
  inside : All (λ cell. cell.code < bound) cells

ordered_more : (code : ℕ) (face : Option ℕ) (cells : List Cell) → AreOrdered code cells → AreOrdered (suc code) (cells ++ cell_of code face)
ordered_more code None cells are = subst (AreOrdered (suc code)) (sym (append-nil cells)) (record {
  ascending = are.ascending;
  inside = All-weaker (λ (c : Cell). c.code < code) (λ (c : Cell). c.code < suc code) (λ c below. omega (arith, below)) cells are.inside;
})
ordered_more code (Some face) cells are =
    let cell : Cell = record { code = code; face = face } in
    let codes : codes_of (cells ++ cell ∷ []) ≡ codes_of cells ++ code ∷ [] = map-append (λ (c : Cell). c.code) cells (cell ∷ []) in
    record {
      ascending = subst IsStrictlyIncreasing (sym codes) (increasing_push (codes_of cells) code are.ascending (All-map (λ n. n < code) (λ (c : Cell). c.code) cells are.inside));
      inside = All-push (λ (c : Cell). c.code < suc code) cells cell
          (All-weaker (λ (c : Cell). c.code < code) (λ (c : Cell). c.code < suc code) (λ c below. omega (arith, below)) cells are.inside) (omega arith);
    }

ordered : (bound : ℕ) (f : ℕ → Option ℕ) → AreOrdered bound (cells_below bound f)
unfolding cells_below
ordered zero f = record { ascending = λ k within. absurd (omega (arith, within)); inside = All-nil (λ (cell : Cell). cell.code < 0) }
ordered (suc code) f = ordered_more code (f code) (cells_below code f) (ordered code f)

pub all_ascend : (depth : ℕ) (f : ℕ → Option ℕ) → Ascend depth (cells_below (8 ^ depth) f)
all_ascend depth f = record { ascending = (ordered (8 ^ depth) f).ascending; inside = (ordered (8 ^ depth) f).inside }
