-- Words mean what reading them a word at a time gives.
use Rattle.std.proofs.Common.{◌≡◌, ℕ, true, List, [], ◌∷◌, Option, None, Some, Result, Ok, Err, inl, inr, refl, sym, ap, ◌∙◌, subst}
use Rattle.std.specs.Prelude.{find}
use Rattle.std.specs.Option.{ok_or}
use Rattle.std.proofs.lemmas.Bool.{cases_Bool}
use Rattle.svo_words.specs.Choices.{Choice, are_names}
use Rattle.svo_words.specs.Settings.{Setting, are_counted, value_of}
use Rattle.svo_words.specs.Grammar.{Spells, IsInForm}
use Rattle.svo_words.specs.Steps.{settings_of, settings_in, counted}
use Rattle.svo_words.specs.Forms.{CommandForm, commands, has_name, read_as, read_by, form_of}
use Rattle.svo_words.specs.Meaning.{IsAmong, Begins, Sets, Means}
use Rattle.svo_words.specs.declared.commands.Command.{Command}
use Rattle.svo_words.specs.declared.commands.WordFault.{WordFault}
use Rattle.svo_words.specs.declared.commands.WordFault.TheVariants.{Command as NoCommand, Options, Value, Memory}
use Rattle.svo_words.proofs.Choosing.{equal_bytes}
use Rattle.svo_words.proofs.CommandTable.{names_ok, found_by_name, begins_reads}
use Rattle.svo_words.proofs.Spellings.{both_read, spells_reads}

pub one_list : (choices : List Choice) (words : List (List ℕ)) (a b : List Setting) → are_names choices ≡ true → Spells choices words a → Spells choices words b → a ≡ b
one_list choices words a b names first second =
    let both : Some a ≡ Some b = sym (spells_reads choices names words a first) ∙ spells_reads choices names words b second in cc

-- ---- settings in the form of a command

in_form_reads : (choices : List Choice) (words : List (List ℕ)) (settings : List Setting) → are_names choices ≡ true → IsInForm choices words settings
    → settings_in choices words ≡ Some settings
unfolding settings_in
in_form_reads choices words settings names form =
    ap (counted choices) (spells_reads choices names words settings form.spelled) ∙ rw form.counted refl

reads_in_form : (choices : List Choice) (words : List (List ℕ)) (settings : List Setting) → settings_in choices words ≡ Some settings → IsInForm choices words settings
unfolding settings_in
reads_in_form choices words settings e = go (settings_of choices words) refl e
  where
    go : (o : Option (List Setting)) → settings_of choices words ≡ o → counted choices o ≡ Some settings → IsInForm choices words settings
    go None is f = absurd cc
    go (Some found) is f = elim (cases_Bool (are_counted choices found)) [
      | inl right ↦
          let some : Some found ≡ Some settings = rw right at f in
          let same : found ≡ settings = cc in
          let P : List Setting → Type 0 = λ ss. IsInForm choices words ss in
          subst P same (record { spelled = (both_read choices words).0 found is; counted = right })
      | inr wrong ↦ let none : None ≡ Some settings = rw wrong at f in absurd cc
    ]

-- ---- the commands

found_among : (forms : List CommandForm) (name : List ℕ) (form : CommandForm) → find (has_name name) forms ≡ Some form → IsAmong forms form × (name ≡ form.name)
found_among [] name form e = absurd cc
found_among (one ∷ rest) name form e = elim (cases_Bool (has_name name one)) [
  | inl here ↦
      let some : Some one ≡ Some form = rw here at e in
      let same : one ≡ form = cc in
      (inl same, equal_bytes name one.name here ∙ ap (λ (f : CommandForm). f.name) same)
  | inr later ↦ let more = found_among rest name form (rw later at e) in (inr more.0, more.1)
]

-- ---- both ways

no_command : (words : List (List ℕ)) → ((form : CommandForm) (rest : List (List ℕ)) → Begins words form rest → ⊥) → form_of words ≡ Err NoCommand
unfolding form_of
no_command [] none = refl
no_command (name ∷ rest) none = go (find (has_name name) commands) refl
  where
    go : (o : Option CommandForm) → find (has_name name) commands ≡ o → read_by o rest ≡ Err NoCommand
    go None is = refl
    go (Some form) is =
        let among = found_among commands name form is in
        absurd (none form rest (record { known = among.0; words_are = ap (λ n. n ∷ rest) among.1 }))

means_reads : (words : List (List ℕ)) (reading : Result Command WordFault) → Means words reading → form_of words ≡ reading
means_reads words (Ok command) (form, settings, sets, is) =
    begins_reads words form sets.rest sets.begins
    ∙ ap (read_as form) (in_form_reads form.choices sets.rest settings (names_ok form sets.begins.known) sets.in_form) ∙ ap (λ (o : Option Command). ok_or o Value) is
means_reads words (Err Value) (form, settings, sets, is) =
    begins_reads words form sets.rest sets.begins
    ∙ ap (read_as form) (in_form_reads form.choices sets.rest settings (names_ok form sets.begins.known) sets.in_form) ∙ ap (λ (o : Option Command). ok_or o Value) is
means_reads words (Err Options) (form, rest, begins, none) = begins_reads words form rest begins ∙ go (settings_in form.choices rest) refl
  where
    go : (o : Option (List Setting)) → settings_in form.choices rest ≡ o → read_as form o ≡ Err Options
    go None is = refl
    go (Some settings) is = absurd (none settings (reads_in_form form.choices rest settings is))
means_reads words (Err NoCommand) none = no_command words none
means_reads words (Err Memory) never = absurd never

reads_means : (words : List (List ℕ)) → Means words (form_of words)
unfolding form_of
reads_means [] = λ form rest begins. let e = begins.words_are in absurd cc
reads_means (name ∷ rest) = by_form (find (has_name name) commands) refl
  where
    by_value : (form : CommandForm) (settings : List Setting) → Sets (name ∷ rest) form settings → (o : Option Command) → form.reads (value_of settings) ≡ o
        → Means (name ∷ rest) (ok_or o Value)
    by_value form settings sets None is = (form, settings, sets, is)
    by_value form settings sets (Some command) is = (form, settings, sets, is)

    by_settings : (form : CommandForm) → Begins (name ∷ rest) form rest → (o : Option (List Setting)) → settings_in form.choices rest ≡ o
        → Means (name ∷ rest) (read_as form o)
    by_settings form begins None is = (form, rest, begins, λ settings in_form. let some = in_form_reads form.choices rest settings (names_ok form begins.known) in_form in absurd cc)
    by_settings form begins (Some settings) is =
        by_value form settings (record { rest = rest; begins = begins; in_form = reads_in_form form.choices rest settings is }) (form.reads (value_of settings)) refl

    by_form : (o : Option CommandForm) → find (has_name name) commands ≡ o → Means (name ∷ rest) (read_by o rest)
    by_form None is = λ form others begins.
        let lists : ◌≡◌ {A = List (List ℕ)} (name ∷ rest) (form.name ∷ others) = begins.words_are in
        let same : form.name ≡ name = cc in
        let found : find (has_name name) commands ≡ Some form = ap (λ n. find (has_name n) commands) (sym same) ∙ found_by_name form begins.known in
        absurd cc
    by_form (Some form) is =
        let among = found_among commands name form is in
        by_settings form (record { known = among.0; words_are = ap (λ n. n ∷ rest) among.1 }) (settings_in form.choices rest) refl

pub one_meaning_is : (words : List (List ℕ)) (reading : Result Command WordFault) → (form_of words ≡ reading → Means words reading) × (Means words reading → form_of words ≡ reading)
one_meaning_is words reading = (λ e. let P : Result Command WordFault → Type 0 = λ r. Means words r in subst P e (reads_means words), means_reads words reading)
