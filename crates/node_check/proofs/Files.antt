-- A whole file, by its root.
use Rattle.std.proofs.Common.{◌≡◌, ℕ, zero, suc, ◌-◌, ◌<◌, ◌≤◌, true, false, cond, List, length, Option, None, Some, Result, Ok, Err, refl, sym, ap, subst, ◌∙◌, inl, inr, arith}
use Rattle.std.specs.Prelude.{◌==◌, ◌&&◌, slice_index, IfSome}
use Rattle.std.proofs.lemmas.Bool.{cases_Bool, eqb-true, ne_eqb, and_parts}
use Rattle.octree_specs.specs.Checking.{rule_of, fit, is_empty_tree, refused_by, refused_in}
use Rattle.octree_specs.specs.Formats.{IsFormat, levels_of}
use Rattle.octree_laws.specs.Laws.{StandForMany}
use Rattle.octree_laws.proofs.Images.{at_depth}
use Rattle.octree_laws.proofs.Maps.{one_map}
use Rattle.octree_laws.proofs.Verdicts.{stand_if_accepted, accepted_if_stand}
use Rattle.node_file.specs.FileView.{FileView, IsFileView}
use Rattle.node_file.specs.declared.records.Totals.{Totals}
use Rattle.node_check.specs.Verdicts.{Agrees, IsVerdict, HasOneMap, IsSettled}
use Rattle.node_check.specs.declared.checking.CheckFault.{CheckFault}
use Rattle.node_check.specs.declared.checking.CheckFault.TheVariants.{Failed, Refused}
use Rattle.node_check.specs.declared.checking.Subtree.{Subtree}

-- ---- the root

no_cells : (cells : ℕ) → (0 == cells) ≡ (cells == 0)
no_cells zero = refl
no_cells (suc n) = ne_eqb 0 (suc n) (λ same. absurd (omega (arith, same))) ∙ sym (ne_eqb (suc n) 0 (λ same. absurd (omega (arith, same))))

-- whether there are no cells
empty_same : (words : List ℕ) (records word : ℕ) → length words ≡ records → word ≡ slice_index words (records - 1) → is_empty_tree words ≡ ((records == 1) && (word == 0))
empty_same words records word long own = elim (cases_Bool (records == 1)) [
  | inl one ↦
      let single : records ≡ 1 = eqb-true records 1 one in
      let last : records - 1 ≡ 0 = omega (arith, single) in
      (λ i. (long i == 1) && (slice_index words 0 == 0)) ∙ ap (λ w. (records == 1) && (w == 0)) (sym (own ∙ ap (slice_index words) last))
  | inr other ↦ (λ i. (long i == 1) && (slice_index words 0 == 0)) ∙ (ap (λ b. b && (slice_index words 0 == 0)) other ∙ sym (ap (λ b. b && (word == 0)) other))
]

pub at_some : {T : Type 0} (o : Option T) (x : T) (P : T → Type 0) → o ≡ Some x → IfSome o P → P x
at_some o x P is holds = subst (λ p. IfSome p P) is holds

module _ (format depth cells records word : ℕ) (totals : Totals) (result : Result Totals CheckFault) where
  abbrev refused_root : (words : List ℕ) → Option ℕ
  refused_root words = refused_by records cells (fit (rule_of format) words (levels_of format depth) (records - 1) 0)

  -- the words' verdict, by whether there are no cells
  by_root : (words : List ℕ) → length words ≡ records → word ≡ slice_index words (records - 1)
      → refused_in format depth words cells ≡ cond ((records == 1) && (word == 0)) (cond (cells == 0) None (Some 1)) (refused_root words)
  unfolding refused_in
  by_root words long own =
      ap (λ b. cond b (cond (cells == 0) None (Some 1)) (refused_by (length words) cells (fit (rule_of format) words (levels_of format depth) (length words - 1) 0))) (empty_same words records word long own)
      ∙ ap (λ n. cond ((records == 1) && (word == 0)) (cond (cells == 0) None (Some 1)) (refused_by n cells (fit (rule_of format) words (levels_of format depth) (n - 1) 0))) long

  pub empty_verdict : (told : Option (List ℕ)) → IfSome told (λ words. length words ≡ records) → IfSome told (λ words. word ≡ slice_index words (records - 1)) → ((records == 1) && (word == 0)) ≡ true
      → IsVerdict (refused_by records cells (Ok (record { next = 0; cells = 0 }))) totals result → IfSome told (λ words. IsVerdict (refused_in format depth words cells) totals result)
  empty_verdict None long own empty verdict = tt
  empty_verdict (Some words) long own empty verdict =
      let single : records ≡ 1 = eqb-true records 1 (and_parts (records == 1) (word == 0) empty).0 in
      let root : refused_by records cells (Ok (record { next = 0; cells = 0 })) ≡ cond (0 == cells) None (Some 1) =
      ap (λ n. refused_by n cells (Ok (record { next = 0; cells = 0 }))) single in
      let turned : cond (0 == cells) None (Some 1) ≡ cond (cells == 0) None (Some 1) = ap (λ b. cond b None (Some 1)) (no_cells cells) in
      let whole : refused_in format depth words cells ≡ cond (cells == 0) None (Some 1) =
      by_root words long own ∙ ap (λ b. cond b (cond (cells == 0) None (Some 1)) (refused_root words)) empty in
      subst (λ r. IsVerdict r totals result) (root ∙ (turned ∙ sym whole)) verdict

  pub root_verdict : (told : Option (List ℕ)) (span : Subtree) → IfSome told (λ words. length words ≡ records) → IfSome told (λ words. word ≡ slice_index words (records - 1)) → ((records == 1) && (word == 0)) ≡ false
      → IfSome told (λ words. Agrees (fit (rule_of format) words (levels_of format depth) (records - 1) 0) (Ok span))
      → IsVerdict (refused_by records cells (Ok (record { next = span.next; cells = span.cells }))) totals result → IfSome told (λ words. IsVerdict (refused_in format depth words cells) totals result)
  root_verdict None span long own empty fits verdict = tt
  root_verdict (Some words) span long own empty fits verdict =
      let whole : refused_in format depth words cells ≡ refused_by records cells (Ok (record { next = span.next; cells = span.cells })) =
      by_root words long own ∙ (ap (λ b. cond b (cond (cells == 0) None (Some 1)) (refused_root words)) empty ∙ ap (refused_by records cells) fits) in
      subst (λ r. IsVerdict r totals result) (sym whole) verdict

  pub refused_verdict : (told : Option (List ℕ)) (fault : CheckFault) → IfSome told (λ words. length words ≡ records) → IfSome told (λ words. word ≡ slice_index words (records - 1)) → ((records == 1) && (word == 0)) ≡ false
      → IfSome told (λ words. Agrees (fit (rule_of format) words (levels_of format depth) (records - 1) 0) (Err fault))
      → IfSome told (λ words. IsVerdict (refused_in format depth words cells) totals (Err fault))
  refused_verdict None fault long own empty fits = tt
  refused_verdict (Some words) Failed long own empty fits = tt
  refused_verdict (Some words) (Refused number) long own empty fits =
      by_root words long own ∙ (ap (λ b. cond b (cond (cells == 0) None (Some 1)) (refused_root words)) empty ∙ ap (refused_by records cells) fits)

-- ---- what the verdict says of cells

one_map_at : (format depth count : ℕ) (words : List ℕ) → IsFormat format → 1 ≤ depth → 0 < length words → refused_in format depth words count ≡ None → HasOneMap format depth count words
one_map_at format depth count words known deep some accepted =
    let at : (levels : ℕ) × (depth ≡ suc levels) = at_depth depth deep in
    let many : StandForMany format (suc at.0) words count = stand_if_accepted format at.0 count words known some (subst (λ d. refused_in format d words count ≡ None) at.1 accepted) in
    subst (λ d. HasOneMap format d count words) (sym at.1) (record {
      cells = many.cells;
      stand = many.stand;
      count_is = many.count_is;
      only = λ others stand. one_map format at.0 words others many.cells stand many.stand;
    })

no_map_at : (format depth count number : ℕ) (words : List ℕ) → 1 ≤ depth → refused_in format depth words count ≡ Some number → StandForMany format depth words count → ⊥
no_map_at format depth count number words deep refused many =
    let at : (levels : ℕ) × (depth ≡ suc levels) = at_depth depth deep in
    let there : StandForMany format (suc at.0) words count = subst (λ d. StandForMany format d words count) at.1 many in
    let accepted : refused_in format (suc at.0) words count ≡ None =
    subst (λ n. refused_in format (suc at.0) words n ≡ None) there.count_is (accepted_if_stand format at.0 words there.cells there.stand) in
    let other : refused_in format (suc at.0) words count ≡ Some number = subst (λ d. refused_in format d words count ≡ Some number) at.1 refused in
    clash number (sym other ∙ accepted)
  where
    clash : (number : ℕ) → Some number ≡ None → ⊥
    clash number same = absurd (cc)

pub settled : (format depth count : ℕ) (totals : Totals) (told : Option (List ℕ)) (result : Result Totals CheckFault) → IsFormat format → 1 ≤ depth → IfSome told (λ words. 0 < length words)
    → IfSome told (λ words. IsVerdict (refused_in format depth words count) totals result) → IfSome told (λ words. IsSettled format depth count words result)
settled format depth count totals None result known deep some verdict = tt
settled format depth count totals (Some words) (Ok answer) known deep some verdict = one_map_at format depth count words known deep some verdict.0
settled format depth count totals (Some words) (Err Failed) known deep some verdict = tt
settled format depth count totals (Some words) (Err (Refused number)) known deep some verdict = no_map_at format depth count number words deep verdict

-- ---- the answers, by what the file's calls gave

module _ (file : FileView) (framed : IsFileView file) (totals : Totals) (word : ℕ) (are : totals ≡ file.totals) (own : IfSome file.words (λ words. word ≡ slice_index words (totals.records - 1))) where
  long_as : IfSome file.words (λ words. length words ≡ totals.records)
  long_as = subst (λ (t : Totals). IfSome file.words (λ words. length words ≡ t.records)) (sym are) framed.told

  pub empty_answer : (result : Result Totals CheckFault) → ((totals.records == 1) && (word == 0)) ≡ true
      → IsVerdict (refused_by totals.records totals.cells (Ok (record { next = 0; cells = 0 }))) totals result
      → IfSome file.words (λ words. IsVerdict (refused_in file.format file.grid.depth words file.totals.cells) file.totals result)
  empty_answer result empty verdict =
      subst (λ (t : Totals). IfSome file.words (λ words. IsVerdict (refused_in file.format file.grid.depth words t.cells) t result)) are
      (empty_verdict file.format file.grid.depth totals.cells totals.records word totals result file.words long_as own empty verdict)

  module _ (format depth height : ℕ) (format_is : format ≡ file.format) (depth_is : depth ≡ file.grid.depth) (height_is : height ≡ levels_of format depth)
      (some : ((totals.records == 1) && (word == 0)) ≡ false) where
    pub root_answer : (result : Result Totals CheckFault) (span : Subtree) → IfSome file.words (λ words. Agrees (fit (rule_of format) words height (totals.records - 1) 0) (Ok span))
        → IsVerdict (refused_by totals.records totals.cells (Ok (record { next = span.next; cells = span.cells }))) totals result
        → IfSome file.words (λ words. IsVerdict (refused_in file.format file.grid.depth words file.totals.cells) file.totals result)
    root_answer result span fits verdict =
        subst (λ (t : Totals). IfSome file.words (λ words. IsVerdict (refused_in file.format file.grid.depth words t.cells) t result)) are
        (subst (λ f. IfSome file.words (λ words. IsVerdict (refused_in f file.grid.depth words totals.cells) totals result)) format_is
        (subst (λ d. IfSome file.words (λ words. IsVerdict (refused_in format d words totals.cells) totals result)) depth_is
        (root_verdict format depth totals.cells totals.records word totals result file.words span long_as own some
        (subst (λ h. IfSome file.words (λ words. Agrees (fit (rule_of format) words h (totals.records - 1) 0) (Ok span))) height_is fits) verdict)))

    pub refused_answer : (fault : CheckFault) → IfSome file.words (λ words. Agrees (fit (rule_of format) words height (totals.records - 1) 0) (Err fault))
        → IfSome file.words (λ words. IsVerdict (refused_in file.format file.grid.depth words file.totals.cells) file.totals (Err fault))
    refused_answer fault fits =
        subst (λ (t : Totals). IfSome file.words (λ words. IsVerdict (refused_in file.format file.grid.depth words t.cells) t (Err fault))) are
        (subst (λ f. IfSome file.words (λ words. IsVerdict (refused_in f file.grid.depth words totals.cells) totals (Err fault))) format_is
        (subst (λ d. IfSome file.words (λ words. IsVerdict (refused_in format d words totals.cells) totals (Err fault))) depth_is
        (refused_verdict format depth totals.cells totals.records word totals (Err fault) file.words fault long_as own some
        (subst (λ h. IfSome file.words (λ words. Agrees (fit (rule_of format) words h (totals.records - 1) 0) (Err fault))) height_is fits))))

-- as many words as there are
pub some_words : (file : FileView) → IsFileView file → IfSome file.words (λ words. 0 < length words)
some_words file framed = some_of file.words file.totals.records framed.some framed.told
  where
    some_of : (told : Option (List ℕ)) (records : ℕ) → 1 ≤ records → IfSome told (λ words. length words ≡ records) → IfSome told (λ words. 0 < length words)
    some_of None records some long = tt
    some_of (Some words) records some long = omega (arith, some, long)
