-- The form read a word at a time is the grammar.
use Rattle.std.proofs.Common.{◌≡◌, ℕ, ◌+◌, ◌&&◌, ◌||◌, Bool, true, false, not, List, [], ◌∷◌, ◌++◌, map, length, take, drop, get_or, Option, None, Some, option_map, refl, sym, ap, ap₂, ◌∙◌, arith, append_assoc, length-append, subst, inl, inr}
use Rattle.std.specs.Prelude.{◌==◌, if◌then◌else◌, codes, flat_map, nat_lt}
use Rattle.std.specs.List.{cons_option, position, position_or_len, before_first, after_first}
use Rattle.std.proofs.lemmas.Bool.{cases_Bool, ltb-true, ltb-false}
use Rattle.std.proofs.lemmas.Bool.Decides.{nat_tests}
use Rattle.std.proofs.lemmas.List.{take_all, take_at, drop_at}
use Rattle.std.proofs.lemmas.List.Sums.{split_at_first}
use Rattle.std.proofs.lemmas.List.Quantifiers.{position-Some}
use Rattle.clap.specs.Lexer.{long_of, has_byte, name_and_value}
use Rattle.svo_words.specs.Choices.{Choice, choice_of, is_named, is_name, are_names}
use Rattle.svo_words.specs.Settings.{Setting}
use Rattle.svo_words.specs.Grammar.{Spelling, bare, joined, separate, dashed, words_of, setting_of, takes_value, is_nonempty, is_separate, IsAllowed, AreAllowed, Spells}
use Rattle.svo_words.specs.Steps.{waits, sets, met_if, named as named_by, step_of, after_step, settings_from, settings_of}
use Rattle.svo_words.proofs.Parts.{any_is_place}
use Rattle.svo_words.proofs.Choosing.{found_name, found_own, set_then, wait_then}

abbrev is_equals : ℕ → Bool
is_equals byte = byte == 61

-- ---- a word and its parts

abbrev WordIs : List ℕ → List ℕ → Option (List ℕ) → Type 0
WordIs word name None = word ≡ dashed name
WordIs word name (Some value) = word ≡ dashed (name ++ 61 ∷ value)

abbrev Cut : Type 0
Cut = List ℕ × Option (List ℕ)

no_parts : (p : Cut) → ◌≡◌ {A = Option Cut} None (Some p) → ⊥
no_parts p e = cc

equals_at : (text : List ℕ) → has_byte 61 text ≡ true → text ≡ before_first is_equals text ++ 61 ∷ after_first is_equals text
equals_at text found =
    let place : ℕ = position_or_len is_equals text in
    let inside : nat_lt (position_or_len is_equals text) (length text) ≡ true = sym (any_is_place is_equals text) ∙ found in
    let within = ltb-true (position_or_len is_equals text) (length text) inside in
    let first : position is_equals text ≡ Some (position_or_len is_equals text) = rw inside refl in
    let here : is_equals (get_or text (position_or_len is_equals text) 0) ≡ true = (position-Some is_equals text (position_or_len is_equals text) 0 first).1 in
    let it : get_or text (position_or_len is_equals text) 0 ≡ 61 = grind (arith, nat_tests) in
    split_at_first is_equals text 0 within ∙ ap (λ byte. before_first is_equals text ++ byte ∷ after_first is_equals text) it

no_equals : (text : List ℕ) → has_byte 61 text ≡ false → before_first is_equals text ≡ text
no_equals text none =
    let past : nat_lt (position_or_len is_equals text) (length text) ≡ false = sym (any_is_place is_equals text) ∙ none in
    take_all (position_or_len is_equals text) text (ltb-false (position_or_len is_equals text) (length text) past)

cut_whole : (text name : List ℕ) (value : Option (List ℕ)) → ◌≡◌ {A = Cut} (name_and_value text) (name, value) → WordIs (dashed text) name value
cut_whole text name value e =
    let P : Cut → Type 0 = λ p. WordIs (dashed text) p.0 p.1 in
    elim (cases_Bool (has_byte 61 text)) [
      | inl found ↦
          let same : ◌≡◌ {A = Cut} (before_first is_equals text, Some (after_first is_equals text)) (name, value) = rw found at e in
          subst P same (ap dashed (equals_at text found))
      | inr none ↦
          let same : ◌≡◌ {A = Cut} (before_first is_equals text, None) (name, value) = rw none at e in
          subst P same (ap dashed (sym (no_equals text none)))
    ]

pub long_is : (word name : List ℕ) (value : Option (List ℕ)) → ◌≡◌ {A = Option Cut} (long_of word) (Some (name, value)) → WordIs word name value
long_is [] name value e = absurd (no_parts (name, value) e)
long_is (a ∷ []) name value e = elim (cases_Bool (a == 45)) [
  | inl p ↦ absurd (no_parts (name, value) (rw p at e))
  | inr p ↦ absurd (no_parts (name, value) (rw p at e))
]
long_is (a ∷ b ∷ []) name value e = elim (cases_Bool (a == 45)) [
  | inl p ↦ elim (cases_Bool (b == 45)) [
    | inl q ↦ absurd (no_parts (name, value) (rw (p, q) at e))
    | inr q ↦ absurd (no_parts (name, value) (rw (p, q) at e))
  ]
  | inr p ↦ absurd (no_parts (name, value) (rw p at e))
]
long_is (a ∷ b ∷ c ∷ rest) name value e = elim (cases_Bool (a == 45)) [
  | inl p ↦ elim (cases_Bool (b == 45)) [
    | inl q ↦
        let parts : ◌≡◌ {A = Option Cut} (Some (name_and_value (c ∷ rest))) (Some (name, value)) = rw (p, q) at e in
        let same : ◌≡◌ {A = Cut} (name_and_value (c ∷ rest)) (name, value) = cc in
        let first : 45 ≡ a = grind (arith, nat_tests) in
        let second : 45 ≡ b = grind (arith, nat_tests) in
        let P : ℕ → Type 0 = λ x. WordIs (x ∷ b ∷ c ∷ rest) name value in
        let Q : ℕ → Type 0 = λ y. WordIs (45 ∷ y ∷ c ∷ rest) name value in
        subst P first (subst Q second (cut_whole (c ∷ rest) name value same))
    | inr q ↦ absurd (no_parts (name, value) (rw (p, q) at e))
  ]
  | inr p ↦ absurd (no_parts (name, value) (rw p at e))
]

-- ---- what is read is spelled

module _ (choices : List Choice) where
  abbrev IsRead : List (List ℕ) → Type 0
  IsRead words = (settings : List Setting) → settings_from choices None words ≡ Some settings → Spells choices words settings

  abbrev IsReadOn : List (List ℕ) → Type 0
  IsReadOn words = (name : List ℕ) (settings : List Setting) → takes_value choices name ≡ Some true
      → settings_from choices (Some name) words ≡ Some settings → Spells choices (dashed name ∷ words) settings

  one_more : (one : Spelling) (front words : List (List ℕ)) (settings : List Setting) → IsAllowed choices one
      → front ≡ words_of one → Spells choices words settings → Spells choices (front ++ words) (setting_of one ∷ settings)
  one_more one front words settings allowed same more = record {
    written = one ∷ more.written;
    allowed = (allowed, more.allowed);
    words_are = ap₂ (λ a b. a ++ b) same more.words_are;
    settings_are = ap (λ ss. setting_of one ∷ ss) more.settings_are;
  }

  reads_none : IsRead []
  unfolding settings_from
  reads_none settings e = record { written = []; allowed = tt; words_are = refl; settings_are = cc }

  waits_none : IsReadOn []
  unfolding settings_from
  waits_none name settings takes e = absurd cc

  reads_value : (word : List ℕ) (rest : List (List ℕ)) → IsRead rest → IsReadOn (word ∷ rest)
  unfolding settings_from step_of
  reads_value word rest reads name settings takes e = by_test (is_separate word) refl e
    where
      by_test : (b : Bool) → is_separate word ≡ b
          → after_step (if b then Some (sets name word) else None) (λ next. settings_from choices next rest) ≡ Some settings
          → Spells choices (dashed name ∷ word ∷ rest) settings
      by_test false own f = absurd cc
      by_test true own f =
          let parted = set_then (record { name = name; value = word }) (settings_from choices None rest) settings f in
          let P : List Setting → Type 0 = λ all. Spells choices (dashed name ∷ word ∷ rest) all in
          subst P (sym parted.2) (one_more (separate name word) (dashed name ∷ word ∷ []) rest parted.0 (takes, own) refl (reads parted.0 parted.1))

  reads_word : (word : List ℕ) (rest : List (List ℕ)) → IsRead rest → IsReadOn rest → IsRead (word ∷ rest)
  unfolding settings_from step_of
  reads_word word rest reads reads_on settings e = by_parts (long_of word) refl e
    where
      no_value : (name : List ℕ) (choice : Choice) → ◌≡◌ {A = Option Cut} (long_of word) (Some (name, None)) → choice_of choices name ≡ Some choice
          → (b : Bool) → choice.takes_value ≡ b
          → after_step (if b then Some (waits choice.name) else Some (sets choice.name (codes "true"))) (λ next. settings_from choices next rest) ≡ Some settings
          → Spells choices (word ∷ rest) settings
      no_value name choice long found true takes f =
          let same = found_name choices name choice found in
          let own = found_own choices name choice found in
          let allowed : takes_value choices choice.name ≡ Some true = ap (option_map (λ (c : Choice). c.takes_value)) own ∙ ap Some takes in
          let it : dashed choice.name ≡ word = ap dashed same ∙ sym (long_is word name None long) in
          let Q : List ℕ → Type 0 = λ w. Spells choices (w ∷ rest) settings in
          subst Q it (reads_on choice.name settings allowed (wait_then (settings_from choices (Some choice.name) rest) settings f))
      no_value name choice long found false takes f =
          let parted = set_then (record { name = choice.name; value = codes "true" }) (settings_from choices None rest) settings f in
          let same = found_name choices name choice found in
          let own = found_own choices name choice found in
          let allowed : takes_value choices choice.name ≡ Some false = ap (option_map (λ (c : Choice). c.takes_value)) own ∙ ap Some takes in
          let it : dashed choice.name ≡ word = ap dashed same ∙ sym (long_is word name None long) in
          let Q : List Setting → Type 0 = λ all. Spells choices (word ∷ rest) all in
          subst Q (sym parted.2) (one_more (bare choice.name) (word ∷ []) rest parted.0 allowed (ap (λ w. w ∷ []) (sym it)) (reads parted.0 parted.1))

      with_value : (name value : List ℕ) (choice : Choice) → ◌≡◌ {A = Option Cut} (long_of word) (Some (name, Some value)) → choice_of choices name ≡ Some choice
          → (b t : Bool) → choice.takes_value ≡ b → is_nonempty value ≡ t
          → after_step (if b && t then Some (sets choice.name value) else None) (λ next. settings_from choices next rest) ≡ Some settings
          → Spells choices (word ∷ rest) settings
      with_value name value choice long found true true takes full f =
          let parted = set_then (record { name = choice.name; value = value }) (settings_from choices None rest) settings f in
          let same = found_name choices name choice found in
          let own = found_own choices name choice found in
          let allowed : takes_value choices choice.name ≡ Some true = ap (option_map (λ (c : Choice). c.takes_value)) own ∙ ap Some takes in
          let it : dashed (choice.name ++ 61 ∷ value) ≡ word = ap (λ n. dashed (n ++ 61 ∷ value)) same ∙ sym (long_is word name (Some value) long) in
          let Q : List Setting → Type 0 = λ all. Spells choices (word ∷ rest) all in
          subst Q (sym parted.2) (one_more (joined choice.name value) (word ∷ []) rest parted.0 (allowed, full) (ap (λ w. w ∷ []) (sym it)) (reads parted.0 parted.1))
      with_value name value choice long found true false takes full f = absurd cc
      with_value name value choice long found false t takes full f = absurd cc

      by_choice : (name : List ℕ) (value : Option (List ℕ)) → ◌≡◌ {A = Option Cut} (long_of word) (Some (name, value)) → (o : Option Choice) → choice_of choices name ≡ o
          → after_step (met_if o value) (λ next. settings_from choices next rest) ≡ Some settings
          → Spells choices (word ∷ rest) settings
      by_choice name value long None found f = absurd cc
      by_choice name None long (Some choice) found f = no_value name choice long found choice.takes_value refl f
      by_choice name (Some value) long (Some choice) found f = with_value name value choice long found choice.takes_value (is_nonempty value) refl refl f

      by_parts : (o : Option Cut) → long_of word ≡ o → after_step (named_by choices o) (λ next. settings_from choices next rest) ≡ Some settings
          → Spells choices (word ∷ rest) settings
      by_parts None long f = absurd cc
      by_parts (Some parts) long f = by_choice parts.0 parts.1 long (choice_of choices parts.0) refl f

  pub both_read : (words : List (List ℕ)) → IsRead words × IsReadOn words
  both_read [] = (reads_none, waits_none)
  both_read (word ∷ rest) = let more = both_read rest in (reads_word word rest more.0 more.1, reads_value word rest more.0)

-- ---- what is spelled is read

pub both_true : (a b : Bool) → (a && b) ≡ true → (a ≡ true) × (b ≡ true)
both_true true b e = (refl, e)
both_true false b e = absurd cc

either_false : (a b : Bool) → (a || b) ≡ false → (a ≡ false) × (b ≡ false)
either_false true b e = absurd cc
either_false false b e = (refl, e)

not_true : (b : Bool) → not b ≡ true → b ≡ false
not_true true e = absurd cc
not_true false e = refl

-- the first `=` stands behind a name that has none
cut_at : (name value : List ℕ) → has_byte 61 name ≡ false → position_or_len is_equals (name ++ 61 ∷ value) ≡ length name
cut_at [] value none = refl
cut_at (c ∷ rest) value none =
    let apart = either_false (is_equals c) (has_byte 61 rest) none in
    rw apart.0 (omega (arith, cut_at rest value apart.1))

has_cut : (name value : List ℕ) → has_byte 61 (name ++ 61 ∷ value) ≡ true
has_cut [] value = refl
has_cut (c ∷ rest) value = rw (has_cut rest value) (or_true (is_equals c))
  where
    or_true : (b : Bool) → (b || true) ≡ true
    or_true true = refl
    or_true false = refl

parts_bare : (name : List ℕ) → has_byte 61 name ≡ false → ◌≡◌ {A = Cut} (name_and_value name) (name, None)
parts_bare name none = rw (none, no_equals name none) refl

parts_joined : (name value : List ℕ) → has_byte 61 name ≡ false → ◌≡◌ {A = Cut} (name_and_value (name ++ 61 ∷ value)) (name, Some value)
parts_joined name value none =
    let place = cut_at name value none in
    let front : take (length name) (name ++ 61 ∷ value) ≡ name = take_at name (61 ∷ value) (length name) refl in
    let back : drop (length name + 1) (name ++ 61 ∷ value) ≡ value =
    ap (drop (length name + 1)) (sym (append_assoc name (61 ∷ []) value)) ∙ drop_at (name ++ 61 ∷ []) value (length name + 1) (omega (arith, length-append name (61 ∷ []))) in
    rw (has_cut name value, place, front, back) refl

-- a name as a table has it
long_bare : (name : List ℕ) → is_name name ≡ true → ◌≡◌ {A = Option Cut} (long_of (dashed name)) (Some (name, None))
long_bare [] ok = absurd cc
long_bare (c ∷ rest) ok =
    let fine = both_true (nat_lt 0 (length (c ∷ rest))) (not (has_byte 61 (c ∷ rest))) ok in
    ap Some (parts_bare (c ∷ rest) (not_true (has_byte 61 (c ∷ rest)) fine.1))

long_joined : (name value : List ℕ) → is_name name ≡ true → ◌≡◌ {A = Option Cut} (long_of (dashed (name ++ 61 ∷ value))) (Some (name, Some value))
long_joined [] value ok = absurd cc
long_joined (c ∷ rest) value ok =
    let fine = both_true (nat_lt 0 (length (c ∷ rest))) (not (has_byte 61 (c ∷ rest))) ok in
    ap Some (parts_joined (c ∷ rest) value (not_true (has_byte 61 (c ∷ rest)) fine.1))

-- the options of a table have names
name_in : (choices : List Choice) (name : List ℕ) (choice : Choice) → are_names choices ≡ true → choice_of choices name ≡ Some choice → is_name choice.name ≡ true
name_in [] name choice ok e = absurd cc
name_in (one ∷ rest) name choice ok e =
    let fine = both_true (is_name one.name) (are_names rest) ok in
    elim (cases_Bool (is_named name one)) [
      | inl here ↦
          let same : Some one ≡ Some choice = rw here at e in
          let it : one ≡ choice = cc in
          ap (λ (c : Choice). is_name c.name) (sym it) ∙ fine.0
      | inr later ↦ name_in rest name choice fine.1 (rw later at e)
    ]

pub choice_from : (choices : List Choice) (name : List ℕ) (b : Bool) → takes_value choices name ≡ Some b
    → (choice : Choice) × (choice_of choices name ≡ Some choice) × (choice.takes_value ≡ b)
choice_from choices name b e = go (choice_of choices name) refl e
  where
    go : (o : Option Choice) → choice_of choices name ≡ o → option_map (λ (c : Choice). c.takes_value) o ≡ Some b
        → (choice : Choice) × (choice_of choices name ≡ Some choice) × (choice.takes_value ≡ b)
    go None found f = absurd cc
    go (Some choice) found f = (choice, found, cc)

module _ (choices : List Choice) (ok : are_names choices ≡ true) where
  bare_reads : (name : List ℕ) (rest : List (List ℕ)) → takes_value choices name ≡ Some false
      → settings_from choices None (dashed name ∷ rest) ≡ option_map (cons_option (Some (record { name = name; value = codes "true" }))) (settings_from choices None rest)
  unfolding settings_from step_of
  bare_reads name rest takes =
      let one = choice_from choices name false takes in
      let same = found_name choices name one.0 one.1 in
      let named : is_name name ≡ true = ap is_name (sym same) ∙ name_in choices name one.0 ok one.1 in
      ap (λ (o : Option Cut). after_step (named_by choices o) (λ next. settings_from choices next rest)) (long_bare name named)
      ∙ ap (λ (o : Option Choice). after_step (met_if o None) (λ next. settings_from choices next rest)) one.1
      ∙ rw (one.2, same) refl

  joined_reads : (name value : List ℕ) (rest : List (List ℕ)) → takes_value choices name ≡ Some true → is_nonempty value ≡ true
      → settings_from choices None (dashed (name ++ 61 ∷ value) ∷ rest)
      ≡ option_map (cons_option (Some (record { name = name; value = value }))) (settings_from choices None rest)
  unfolding settings_from step_of
  joined_reads name value rest takes full =
      let one = choice_from choices name true takes in
      let same = found_name choices name one.0 one.1 in
      let named : is_name name ≡ true = ap is_name (sym same) ∙ name_in choices name one.0 ok one.1 in
      ap (λ (o : Option Cut). after_step (named_by choices o) (λ next. settings_from choices next rest)) (long_joined name value named)
      ∙ ap (λ (o : Option Choice). after_step (met_if o (Some value)) (λ next. settings_from choices next rest)) one.1
      ∙ rw (one.2, full, same) refl

  separate_reads : (name value : List ℕ) (rest : List (List ℕ)) → takes_value choices name ≡ Some true → is_separate value ≡ true
      → settings_from choices None (dashed name ∷ value ∷ rest)
      ≡ option_map (cons_option (Some (record { name = name; value = value }))) (settings_from choices None rest)
  unfolding settings_from step_of
  separate_reads name value rest takes own =
      let one = choice_from choices name true takes in
      let same = found_name choices name one.0 one.1 in
      let named : is_name name ≡ true = ap is_name (sym same) ∙ name_in choices name one.0 ok one.1 in
      ap (λ (o : Option Cut). after_step (named_by choices o) (λ next. settings_from choices next (value ∷ rest))) (long_bare name named)
      ∙ ap (λ (o : Option Choice). after_step (met_if o None) (λ next. settings_from choices next (value ∷ rest))) one.1
      ∙ rw (one.2, same, own) (go (settings_from choices None rest))
    where
      go : (o : Option (List Setting)) → option_map (cons_option None) (option_map (cons_option (Some (record { name = name; value = value }))) o)
          ≡ option_map (cons_option (Some (record { name = name; value = value }))) o
      go None = refl
      go (Some more) = refl

  spelled_reads : (written : List Spelling) → AreAllowed choices written
      → settings_from choices None (flat_map words_of written) ≡ Some (map setting_of written)
  unfolding settings_from
  spelled_reads [] allowed = refl
  spelled_reads (bare name ∷ rest) allowed =
      bare_reads name (flat_map words_of rest) allowed.0 ∙ ap (option_map (cons_option (Some (record { name = name; value = codes "true" })))) (spelled_reads rest allowed.1)
  spelled_reads (joined name value ∷ rest) allowed =
      joined_reads name value (flat_map words_of rest) allowed.0.0 allowed.0.1
      ∙ ap (option_map (cons_option (Some (record { name = name; value = value })))) (spelled_reads rest allowed.1)
  spelled_reads (separate name value ∷ rest) allowed =
      separate_reads name value (flat_map words_of rest) allowed.0.0 allowed.0.1
      ∙ ap (option_map (cons_option (Some (record { name = name; value = value })))) (spelled_reads rest allowed.1)

  pub spells_reads : (words : List (List ℕ)) (settings : List Setting) → Spells choices words settings → settings_of choices words ≡ Some settings
  spells_reads words settings spelled =
      ap (settings_from choices None) spelled.words_are ∙ spelled_reads spelled.written spelled.allowed ∙ ap Some (sym spelled.settings_are)
