-- `clap` walks over words that spell settings, and finds those.
use Rattle.std.proofs.Common.{◌≡◌, ◌&&◌, Bool, true, false, not, List, [], ◌∷◌, ◌++◌, map, Option, None, Some, option_map, refl, sym, ap, ap₂, ◌∙◌, append-nil, append_assoc, subst, inl, inr}
use Rattle.std.specs.Prelude.{◌==◌, if◌then◌else◌, codes, fold}
use Rattle.std.specs.List.{cons_option}
use Rattle.std.specs.Str.{bytes_eq}
use Rattle.std.proofs.lemmas.Bool.{cases_Bool}
use Rattle.clap.specs.Lexer.{long_of, short_of}
use Rattle.clap.specs.Walk.{Row, Rule, Text, Held, Walk, option, has_row, walked, walk_from, settled, reacted, pushed, arg_by_id, arg_by_long, used}
use Rattle.clap.specs.Simple.{Shape}
use Rattle.clap.specs.Takes.{walk_passes, turn_passes, settle_passes}
use Rattle.svo_words.specs.Choices.{Choice, choice_of}
use Rattle.svo_words.specs.Settings.{Setting}
use Rattle.svo_words.specs.Grammar.{is_nonempty, is_separate}
use Rattle.svo_words.specs.Steps.{waits, sets, met_if, named, step_of, after_step, settings_from}
use Rattle.svo_words.proofs.Choosing.{bytes_same, found_own, set_then, wait_then}
use Rattle.svo_words.proofs.Rules.{rule, shape_with, by_long, by_id}
use Rattle.svo_words.proofs.Rows.{row, AreFresh, valued_use, bare_use}

-- ---- words

abbrev dashes : Text
dashes = 45 ∷ 45 ∷ []

and_none : (a b : Bool) → (a && (b && false)) ≡ false
and_none true true = refl
and_none true false = refl
and_none false b = refl

none_then : (a : Bool) → (a && false) ≡ false
none_then true = refl
none_then false = refl

-- `--` alone is no option
pub long_no_dashes : (word : Text) (parts : Text × Option Text) → long_of word ≡ Some parts → bytes_eq word dashes ≡ false
long_no_dashes [] parts e = refl
long_no_dashes (a ∷ []) parts e = none_then (a == 45)
long_no_dashes (a ∷ b ∷ []) parts e = elim (cases_Bool (a == 45)) [
  | inl p ↦ elim (cases_Bool (b == 45)) [
    | inl q ↦ let bad : None ≡ Some parts = rw (p, q) at e in absurd cc
    | inr q ↦ rw q (none_then (a == 45))
  ]
  | inr p ↦ rw p refl
]
long_no_dashes (a ∷ b ∷ c ∷ rest) parts e = and_none (a == 45) (b == 45)

false_from_not : (b : Bool) → not b ≡ true → b ≡ false
false_from_not true e = absurd cc
false_from_not false e = refl

pub separate_plain : (word : Text) → is_separate word ≡ true → (long_of word ≡ None) × (short_of word ≡ None) × (bytes_eq word dashes ≡ false)
separate_plain [] e = absurd cc
separate_plain (c ∷ rest) e = let plain = false_from_not (c == 45) e in (rw plain refl, rw plain refl, rw plain refl)

-- ---- the steps of the walk

module _ (choices : List Choice) where
  abbrev rules : List Rule
  rules = map rule choices

  abbrev shape : Shape
  shape = shape_with (map rule choices)

  -- an option waits for its value
  abbrev open_at : Text → Held → Walk
  open_at name h = record (walk_from h) { waiting = option name }

  by_long_at : (name : Text) (choice : Choice) → choice_of choices name ≡ Some choice → arg_by_long rules name ≡ Some (rule choice)
  by_long_at name choice found = by_long name choices ∙ ap (option_map rule) found

  by_id_at : (name : Text) (choice : Choice) → choice_of choices name ≡ Some choice → arg_by_id rules name ≡ Some (rule choice)
  by_id_at name choice found = by_id name choices ∙ ap (option_map rule) found

  pub record Steps (before after : Walk) (word : Text) : Type 0 where
    pub walks : walked rules [] before word ≡ after
    pub passes : turn_passes shape [] before word ≡ true

  -- `--name=value`
  pub joined_step : (word name value : Text) (choice : Choice) (h : Held) → long_of word ≡ Some (name, Some value) → choice_of choices name ≡ Some choice
      → choice.takes_value ≡ true → settle_passes rules false h ≡ true → has_row choice.name (settled rules h).rows ≡ false
      → Steps (walk_from h) (walk_from (reacted rules (rule choice) (value ∷ []) h)) word
  unfolding walked
  joined_step word name value choice h long found takes settles fresh =
      let other = long_no_dashes word (name, Some value) long in
      let arg = by_long_at name choice found in
      record { walks = rw (other, long, arg, takes) refl; passes = rw (other, long, arg, takes, settles, fresh) refl }

  -- `--name` of an option without a value
  pub bare_step : (word name : Text) (choice : Choice) (h : Held) → long_of word ≡ Some (name, None) → choice_of choices name ≡ Some choice
      → choice.takes_value ≡ false → settle_passes rules false h ≡ true → has_row choice.name (settled rules h).rows ≡ false
      → Steps (walk_from h) (walk_from (reacted rules (rule choice) [] h)) word
  unfolding walked
  bare_step word name choice h long found takes settles fresh =
      let other = long_no_dashes word (name, None) long in
      let arg = by_long_at name choice found in
      record { walks = rw (other, long, arg, takes) refl; passes = rw (other, long, arg, takes, settles, fresh) refl }

  -- `--name` of an option whose value comes next
  pub open_step : (word name : Text) (choice : Choice) (h : Held) → long_of word ≡ Some (name, None) → choice_of choices name ≡ Some choice
      → choice.takes_value ≡ true → settle_passes rules false h ≡ true
      → Steps (walk_from h) (open_at choice.name (record (settled rules h) { pending = Some (choice.name, []) })) word
  unfolding walked
  open_step word name choice h long found takes settles =
      let other = long_no_dashes word (name, None) long in
      let arg = by_long_at name choice found in
      record { walks = rw (other, long, arg, takes) refl; passes = rw (other, long, arg, takes, settles) refl }

  -- a value in a word of its own
  value_step : (word : Text) (choice : Choice) (h : Held) → is_separate word ≡ true → choice_of choices choice.name ≡ Some choice
      → choice.takes_value ≡ true → h.pending ≡ Some (choice.name, [])
      → Steps (open_at choice.name h) (walk_from (pushed choice.name word h)) word
  unfolding walked
  value_step word choice h separate found takes pending =
      let plain = separate_plain word separate in
      let arg = by_id_at choice.name choice found in
      let same = bytes_same choice.name in
      record { walks = rw (plain.2, plain.0, plain.1, arg, pending, same, takes) refl; passes = rw (plain.2, plain.0, plain.1) refl }

  -- ---- whole walks

  abbrev end_of : Walk → List Text → Held
  end_of before words = (fold (walked rules []) before words).held

  pub record Walked (before : Walk) (rows : List Row) (words : List Text) : Type 0 where
    pub rows_are : (settled rules (end_of before words)).rows ≡ rows
    pub passes : walk_passes shape [] before words ≡ true
    pub settles : settle_passes rules false (end_of before words) ≡ true

  on_from : (before after : Walk) (word : Text) (rest : List Text) (rows : List Row) → Steps before after word → Walked after rows rest → Walked before rows (word ∷ rest)
  unfolding walk_passes
  on_from before after word rest rows step more = record {
    rows_are = ap (λ (w : Walk). (settled rules (end_of w rest)).rows) step.walks ∙ more.rows_are;
    passes = ap₂ (λ (b : Bool) (w : Walk). b && walk_passes shape [] w rest) step.passes step.walks ∙ more.passes;
    settles = ap (λ (w : Walk). settle_passes rules false (end_of w rest)) step.walks ∙ more.settles;
  }

  abbrev WalksOn : List Text → Type 0
  WalksOn words = (h : Held) (settings : List Setting) → settle_passes rules false h ≡ true → AreFresh (settled rules h).rows settings
      → settings_from choices None words ≡ Some settings → Walked (walk_from h) ((settled rules h).rows ++ map row settings) words

  abbrev WaitsOn : List Text → Type 0
  WaitsOn words = (h : Held) (choice : Choice) (settings : List Setting) → choice_of choices choice.name ≡ Some choice → choice.takes_value ≡ true
      → h.pending ≡ Some (choice.name, []) → AreFresh h.rows settings
      → settings_from choices (Some choice.name) words ≡ Some settings → Walked (open_at choice.name h) (h.rows ++ map row settings) words

  walks_none : WalksOn []
  unfolding settings_from walk_passes
  walks_none h settings settles fresh is =
      let none : settings ≡ [] = cc in
      record { rows_are = rw none (sym (append-nil (settled rules h).rows)); passes = refl; settles = settles }

  waits_none : WaitsOn []
  unfolding settings_from
  waits_none h choice settings found takes waits fresh is = absurd cc

  joins_on : (rows used_rows : List Row) (setting : Setting) (more : List Setting) (w : Walk) (words : List Text)
      → used_rows ≡ rows ++ row setting ∷ [] → Walked w (used_rows ++ map row more) words → Walked w (rows ++ map row (setting ∷ more)) words
  joins_on rows used_rows setting more w words same walk =
      let P : List Row → Type 0 = λ all. Walked w all words in
      subst P (ap (λ rs. rs ++ map row more) same ∙ append_assoc rows (row setting ∷ []) (map row more)) walk

  head_fresh : (rows : List Row) (setting : Setting) (o : Option (List Setting)) (settings : List Setting) → AreFresh rows settings
      → option_map (cons_option (Some setting)) o ≡ Some settings → has_row setting.name rows ≡ false
  head_fresh rows setting o settings fresh is =
      let F : List Setting → Type 0 = λ all. AreFresh rows all in
      let parted = set_then setting o settings is in
      (subst F parted.2 fresh).0

  -- a word that sets an option at once
  sets_on : (word : Text) (rest : List Text) (h : Held) (choice : Choice) (values : List Text) (setting : Setting) (settings : List Setting) → WalksOn rest
      → Steps (walk_from h) (walk_from (reacted rules (rule choice) values h)) word
      → used (rule choice) values (settled rules h).rows ≡ (settled rules h).rows ++ row setting ∷ []
      → AreFresh (settled rules h).rows settings → option_map (cons_option (Some setting)) (settings_from choices None rest) ≡ Some settings
      → Walked (walk_from h) ((settled rules h).rows ++ map row settings) (word ∷ rest)
  sets_on word rest h choice values setting settings walks step same fresh is =
      let parted = set_then setting (settings_from choices None rest) settings is in
      let P : List Setting → Type 0 = λ all. Walked (walk_from h) ((settled rules h).rows ++ map row all) (word ∷ rest) in
      let F : List Setting → Type 0 = λ all. AreFresh (settled rules h).rows all in
      let G : List Row → Type 0 = λ rows. AreFresh rows parted.0 in
      let after = reacted rules (rule choice) values h in
      let later = walks after parted.0 refl (subst G (sym same) (subst F parted.2 fresh).1) parted.1 in
      subst P (sym parted.2) (joins_on (settled rules h).rows (used (rule choice) values (settled rules h).rows) setting parted.0 (walk_from h) (word ∷ rest) same
      (on_from (walk_from h) (walk_from after) word rest _ step later))

  word_walks : (word : Text) (rest : List Text) → WalksOn rest → WaitsOn rest → WalksOn (word ∷ rest)
  unfolding settings_from step_of
  word_walks word rest walks waits_on h settings settles fresh is = by_parts (long_of word) refl is
    where
      no_value : (name : Text) (choice : Choice) → long_of word ≡ Some (name, None) → choice_of choices name ≡ Some choice → (b : Bool) → choice.takes_value ≡ b
          → after_step (if b then Some (waits choice.name) else Some (sets choice.name (codes "true"))) (λ next. settings_from choices next rest) ≡ Some settings
          → Walked (walk_from h) ((settled rules h).rows ++ map row settings) (word ∷ rest)
      no_value name choice long found true takes e =
          let own = found_own choices name choice found in
          let opened = record (settled rules h) { pending = Some (choice.name, []) } in
          on_from (walk_from h) (open_at choice.name opened) word rest _ (open_step word name choice h long found takes settles)
          (waits_on opened choice settings own takes refl fresh (wait_then (settings_from choices (Some choice.name) rest) settings e))
      no_value name choice long found false takes e =
          let setting : Setting = record { name = choice.name; value = codes "true" } in
          let new = head_fresh (settled rules h).rows setting (settings_from choices None rest) settings fresh e in
          sets_on word rest h choice [] setting settings walks (bare_step word name choice h long found takes settles new)
          (bare_use choice (settled rules h).rows takes new).0 fresh e

      with_value : (name value : Text) (choice : Choice) → long_of word ≡ Some (name, Some value) → choice_of choices name ≡ Some choice → (b t : Bool) → choice.takes_value ≡ b
          → after_step (if b && t then Some (sets choice.name value) else None) (λ next. settings_from choices next rest) ≡ Some settings
          → Walked (walk_from h) ((settled rules h).rows ++ map row settings) (word ∷ rest)
      with_value name value choice long found true true takes e =
          let setting : Setting = record { name = choice.name; value = value } in
          let new = head_fresh (settled rules h).rows setting (settings_from choices None rest) settings fresh e in
          sets_on word rest h choice (value ∷ []) setting settings walks (joined_step word name value choice h long found takes settles new)
          (valued_use choice value (settled rules h).rows takes new).0 fresh e
      with_value name value choice long found true false takes e = absurd cc
      with_value name value choice long found false t takes e = absurd cc

      by_choice : (name : Text) (value : Option Text) → long_of word ≡ Some (name, value) → (o : Option Choice) → choice_of choices name ≡ o
          → after_step (met_if o value) (λ next. settings_from choices next rest) ≡ Some settings
          → Walked (walk_from h) ((settled rules h).rows ++ map row settings) (word ∷ rest)
      by_choice name value long None found e = absurd cc
      by_choice name None long (Some choice) found e = no_value name choice long found choice.takes_value refl e
      by_choice name (Some value) long (Some choice) found e = with_value name value choice long found choice.takes_value (is_nonempty value) refl e

      by_parts : (o : Option (Text × Option Text)) → long_of word ≡ o → after_step (named choices o) (λ next. settings_from choices next rest) ≡ Some settings
          → Walked (walk_from h) ((settled rules h).rows ++ map row settings) (word ∷ rest)
      by_parts None long e = absurd cc
      by_parts (Some parts) long e = by_choice parts.0 parts.1 long (choice_of choices parts.0) refl e

  -- a word that is the value of an option
  word_waits : (word : Text) (rest : List Text) → WalksOn rest → WaitsOn (word ∷ rest)
  unfolding settings_from step_of
  word_waits word rest walks h choice settings found takes pending fresh is = by_test (is_separate word) refl is
    where
      setting : Setting
      setting = record { name = choice.name; value = word }

      by_test : (b : Bool) → is_separate word ≡ b
          → after_step (if b then Some (sets choice.name word) else None) (λ next. settings_from choices next rest) ≡ Some settings
          → Walked (open_at choice.name h) (h.rows ++ map row settings) (word ∷ rest)
      by_test false separate e = absurd cc
      by_test true separate e =
          let given : Setting = record { name = choice.name; value = word } in
          let parted = set_then given (settings_from choices None rest) settings e in
          let new = head_fresh h.rows given (settings_from choices None rest) settings fresh e in
          let one = valued_use choice word h.rows takes new in
          let arg = by_id_at choice.name choice found in
          let after = pushed choice.name word h in
          let P : List Setting → Type 0 = λ all. Walked (open_at choice.name h) (h.rows ++ map row all) (word ∷ rest) in
          let F : List Setting → Type 0 = λ all. AreFresh h.rows all in
          let G : List Row → Type 0 = λ rows. AreFresh rows parted.0 in
          let same : (settled rules after).rows ≡ h.rows ++ row given ∷ [] = rw (pending, arg) one.0 in
          let ready : settle_passes rules false after ≡ true = rw (pending, arg) one.1 in
          let later = walks after parted.0 ready (subst G (sym same) (subst F parted.2 fresh).1) parted.1 in
          subst P (sym parted.2) (joins_on h.rows (settled rules after).rows given parted.0 (open_at choice.name h) (word ∷ rest) same
          (on_from (open_at choice.name h) (walk_from after) word rest _ (value_step word choice h separate found takes pending) later))

  pub both_walks : (words : List Text) → WalksOn words × WaitsOn words
  both_walks [] = (walks_none, waits_none)
  both_walks (word ∷ rest) = let more = both_walks rest in (word_walks word rest more.0 more.1, word_waits word rest more.0)
