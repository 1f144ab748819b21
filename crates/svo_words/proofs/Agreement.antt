-- `clap` takes words that are in the form, and finds their settings.
use Rattle.std.proofs.Common.{◌≡◌, ℕ, ◌<◌, ◌≤◌, ◌&&◌, ◌||◌, Bool, true, false, not, List, [], ◌∷◌, ◌++◌, map, Option, None, Some, is_some, refl, sym, ap, ap₂, ◌∙◌, arith, subst, inl, inr}
use Rattle.std.specs.Prelude.{IfSome}
use Rattle.std.specs.List.{list_all, count_by}
use Rattle.std.specs.Str.{bytes_eq}
use Rattle.std.proofs.lemmas.Bool.{cases_Bool}
use Rattle.std.proofs.lemmas.Bool.Decides.{nat_tests}
use Rattle.clap.specs.Walk.{Row, Rule, Text, has_row, is_early_multiple, nothing_held, walk, walk_from, finished, rows_after, first_of}
use Rattle.clap.specs.Simple.{App, is_simple, is_buildable, is_ready, is_ready_leaf, matches_of, names_of}
use Rattle.clap.specs.Takes.{takes, built_takes, level_passes, default_passes, is_given}
use Rattle.clap.specs.Walk.{rows_of}
use Rattle.clap.specs.declared.parser.matches.Found.{Found}
use Rattle.clap.proofs.WalkLemmas.{first_value-rows}
use Rattle.clap.proofs.TakesLemmas.{leaf_takes}
use Rattle.svo_words.specs.Choices.{Choice, choice_of, is_named}
use Rattle.svo_words.specs.Settings.{Setting, count_of, is_of, is_replaced, may_stand, is_counted, are_counted}
use Rattle.svo_words.specs.Grammar.{Spelling, bare, joined, separate, AreAllowed, setting_of, takes_value}
use Rattle.svo_words.specs.Steps.{settings_of, settings_in, counted as counted_settings}
use Rattle.svo_words.specs.Names.{passes}
use Rattle.svo_words.specs.Matching.{app_for, HasFound}
use Rattle.svo_words.proofs.Choosing.{found_name, equal_bytes, bytes_same}
use Rattle.svo_words.proofs.Rules.{rule, built_is, built_with, shape_with, all_rules, no_rule, all_simple}
use Rattle.svo_words.proofs.Rows.{row, AreFresh, first_in, no_defaults}
use Rattle.svo_words.proofs.Spellings.{both_read, choice_from, both_true}
use Rattle.svo_words.proofs.Walks.{both_walks, Walked}

-- ---- the command is simple

simple : (choices : List Choice) → is_simple (app_for choices) ≡ true
simple choices =
    ap (λ (b : App). is_buildable (app_for choices) && (is_ready b.top && list_all is_ready_leaf b.subs)) (built_is choices)
    ∙ rw (
      all_simple choices,
      all_rules (λ (a : Rule). a.is_simple) (λ choice. refl) choices,
      no_rule (is_early_multiple (count_by (λ (a : Rule). is_some a.index) (map rule choices))) (λ choice. refl) choices,
    ) refl

-- ---- no option stands twice

abbrev IsSingle : List Row → List Setting → Type 0
IsSingle rows settings = (name : Text) → 0 < count_of name settings → (has_row name rows ≡ false) × (count_of name settings ≤ 1)

or_false : (b : Bool) → (b || false) ≡ b
or_false true = refl
or_false false = refl

or_assoc : (a b c : Bool) → (a || (b || c)) ≡ (a || b || c)
or_assoc true b c = refl
or_assoc false b c = refl

has_more : (name : Text) (rows : List Row) (setting : Setting) → has_row name (rows ++ row setting ∷ []) ≡ (has_row name rows || is_of name setting)
has_more name [] setting = or_false (is_of name setting)
has_more name (r ∷ rest) setting = ap (λ b. bytes_eq r.id name || b) (has_more name rest setting) ∙ or_assoc (bytes_eq r.id name) (has_row name rest) (is_of name setting)

fresh_from : (rows : List Row) (settings : List Setting)
    → ((name : Text) → 0 < count_of name settings → (has_row name rows ≡ false) × (count_of name settings ≤ 1)) → AreFresh rows settings
fresh_from rows [] single = tt
fresh_from rows (setting ∷ rest) single =
    let own : is_of setting.name setting ≡ true = bytes_same setting.name in (
      (single setting.name (rw own (omega arith))).0,
      fresh_from (rows ++ row setting ∷ []) rest (λ name above.
          elim (cases_Bool (is_of name setting)) [
            | inl same ↦ let most = (single name (rw same (omega arith))).1 in absurd (omega (arith, rw same at most))
            | inr other ↦
                let before = single name (rw other (omega (arith, above))) in
                (has_more name rows setting ∙ rw (before.0, other) refl, omega (arith, rw other at before.1))
          ]),
    )

-- an option that stands is in the table
known_here : (choices : List Choice) (own name : Text) (b : Bool) → takes_value choices own ≡ Some b → bytes_eq own name ≡ true
    → (choice : Choice) × (choice_of choices name ≡ Some choice)
known_here choices own name b allowed same =
    let one = choice_from choices own b allowed in
    (one.0, ap (choice_of choices) (sym (equal_bytes own name same)) ∙ one.1)

known : (choices : List Choice) (written : List Spelling) → AreAllowed choices written → (name : Text) → 0 < count_of name (map setting_of written)
    → (choice : Choice) × (choice_of choices name ≡ Some choice)
known choices [] allowed name above = absurd (omega arith)
known choices (bare own ∷ rest) allowed name above = elim (cases_Bool (bytes_eq own name)) [
  | inl same ↦ known_here choices own name false allowed.0 same
  | inr other ↦ known choices rest allowed.1 name (omega (arith, rw other at above))
]
known choices (joined own value ∷ rest) allowed name above = elim (cases_Bool (bytes_eq own name)) [
  | inl same ↦ known_here choices own name true allowed.0.0 same
  | inr other ↦ known choices rest allowed.1 name (omega (arith, rw other at above))
]
known choices (separate own value ∷ rest) allowed name above = elim (cases_Bool (bytes_eq own name)) [
  | inl same ↦ known_here choices own name true allowed.0.0 same
  | inr other ↦ known choices rest allowed.1 name (omega (arith, rw other at above))
]

all_found : (p : Choice → Bool) (choices : List Choice) (name : Text) (choice : Choice) → list_all p choices ≡ true → choice_of choices name ≡ Some choice → p choice ≡ true
all_found p [] name choice all found = absurd cc
all_found p (one ∷ rest) name choice all found =
    let both = both_true (p one) (list_all p rest) all in
    elim (cases_Bool (is_named name one)) [
      | inl here ↦
          let same : Some one ≡ Some choice = rw here at found in
          let it : one ≡ choice = cc in
          ap p (sym it) ∙ both.0
      | inr later ↦ all_found p rest name choice both.1 (rw later at found)
    ]

stands_once : (is_required replaced : Bool) (count : ℕ) → may_stand is_required replaced count ≡ true → count ≤ 1
stands_once true true count e = grind (arith, nat_tests)
stands_once true false count e = grind (arith, nat_tests)
stands_once false replaced count e = grind (arith, nat_tests)

counted_once : (choices : List Choice) (settings : List Setting) (name : Text) (choice : Choice) → are_counted choices settings ≡ true
    → choice_of choices name ≡ Some choice → count_of name settings ≤ 1
unfolding are_counted is_counted
counted_once choices settings name choice counted found =
    let one = all_found (is_counted settings) choices name choice counted found in
    let most = stands_once choice.is_required (is_replaced choice.unless settings) (count_of choice.name settings) one in
    let P : Text → Type 0 = λ n. count_of n settings ≤ 1 in
    subst P (found_name choices name choice found) most

fresh : (choices : List Choice) (words : List Text) (settings : List Setting) → settings_of choices words ≡ Some settings → are_counted choices settings ≡ true
    → AreFresh [] settings
fresh choices words settings is counted =
    let spelled = (both_read choices words).0 settings is in
    fresh_from [] settings (λ name above.
    let above_written : 0 < count_of name (map setting_of spelled.written) = omega (arith, above, ap (count_of name) spelled.settings_are) in
    let one = known choices spelled.written spelled.allowed name above_written in
    (refl, counted_once choices settings name one.0 counted one.1))

-- ---- the words are taken, and their settings found

walks : (choices : List Choice) (words : List Text) (settings : List Setting) → settings_of choices words ≡ Some settings → are_counted choices settings ≡ true
    → Walked choices (walk_from nothing_held) (map row settings) words
walks choices words settings is counted =
    (both_walks choices words).0 nothing_held settings refl (fresh choices words settings is counted) is

taken : (choices : List Choice) (words : List Text) (settings : List Setting) → settings_of choices words ≡ Some settings → are_counted choices settings ≡ true
    → takes (app_for choices) words ≡ true
taken choices words settings is counted =
    let walked = walks choices words settings is counted in
    let rules = map rule choices in
    let level : level_passes (shape_with rules) [] nothing_held words false ≡ true =
    rw (
      walked.passes,
      walked.settles,
      all_rules default_passes (λ choice. refl) choices,
      all_rules (λ (a : Rule). a.is_free) (λ choice. refl) choices,
      all_rules (λ (a : Rule). not a.required || is_given a.id (finished rules (walk rules [] nothing_held words).held)) (λ choice. refl) choices,
    ) refl in
    let built_passes : built_takes (built_with rules) nothing_held words ≡ true = leaf_takes (built_with rules) nothing_held words refl level in
    ap₂ (λ a b. a && b) (simple choices) (ap (λ (b : App). built_takes b nothing_held words) (built_is choices) ∙ built_passes)

found_rows : (choices : List Choice) (words : List Text) (settings : List Setting) → settings_of choices words ≡ Some settings → are_counted choices settings ≡ true
    → matches_of (app_for choices) words ≡ map row settings
found_rows choices words settings is counted =
    let walked = walks choices words settings is counted in
    ap (λ (b : App). rows_after b.top.rules (names_of b) words) (built_is choices)
    ∙ no_defaults choices _ ∙ walked.rows_are

-- ---- the two clauses

pub all_found_in : (choices : List Choice) (words : List Text) (found : Found) → passes (are_counted choices) (settings_of choices words) ≡ true
    → (is_simple (app_for choices) ≡ true → rows_of found ≡ matches_of (app_for choices) words)
    → IfSome (settings_in choices words) (HasFound found)
unfolding settings_in
all_found_in choices words found passed rows = go (settings_of choices words) refl passed
  where
    go : (o : Option (List Setting)) → settings_of choices words ≡ o → passes (are_counted choices) o ≡ true
        → IfSome (counted_settings choices o) (HasFound found)
    go None is e = absurd cc
    go (Some settings) is e =
        let have : rows_of found ≡ map row settings = rows (simple choices) ∙ found_rows choices words settings is e in
        rw e (λ name. first_value-rows found name ∙ ap (first_of name) have ∙ first_in name settings)

pub only_memory : (choices : List Choice) (words : List Text) → passes (are_counted choices) (settings_of choices words) ≡ true → takes (app_for choices) words ≡ true
only_memory choices words passed = go (settings_of choices words) refl passed
  where
    go : (o : Option (List Setting)) → settings_of choices words ≡ o → passes (are_counted choices) o ≡ true → takes (app_for choices) words ≡ true
    go None is e = absurd cc
    go (Some settings) is e = taken choices words settings is e
