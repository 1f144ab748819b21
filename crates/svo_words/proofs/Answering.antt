-- From the values of options to a command.
use Rattle.std.proofs.Common.{◌≡◌, ℕ, true, false, List, Option, None, Some, option_map, Result, Ok, Err, IsErr, IsErrAnd, subst, inl, inr, refl, sym, ap, ◌∙◌}
use Rattle.std.specs.Prelude.{IfSome}
use Rattle.std.specs.Option.{ok_or}
use Rattle.clap.specs.Matches.{found_of, first_value}
use Rattle.clap.specs.declared.parser.matches.ArgMatches.{ArgMatches}
use Rattle.svo_words.specs.Choices.{Choice}
use Rattle.svo_words.specs.Settings.{Setting, are_counted, value_of}
use Rattle.svo_words.specs.Steps.{settings_of, settings_in, counted}
use Rattle.svo_words.specs.Names.{passes}
use Rattle.svo_words.specs.Matching.{HasFound}
use Rattle.svo_words.specs.Lookups.{Lookup}
use Rattle.svo_words.specs.Seen.{values_of}
use Rattle.svo_words.specs.Forms.{CommandForm, read_as}
use Rattle.svo_words.specs.Reading.{IsRead, IsMade, AreValues}
use Rattle.svo_words.specs.declared.values.Values.{Values}
use Rattle.svo_words.specs.declared.commands.Command.{Command}
use Rattle.svo_words.specs.declared.commands.WordFault.{WordFault}
use Rattle.svo_words.specs.declared.commands.WordFault.TheVariants.{Options, Value, Memory}

-- ---- the values of the options

not_in_form : (choices : List Choice) (words : List (List ℕ)) → false ≡ passes (are_counted choices) (settings_of choices words) → settings_in choices words ≡ None
unfolding settings_in
not_in_form choices words failed = go (settings_of choices words) failed
  where
    go : (o : Option (List Setting)) → false ≡ passes (are_counted choices) o → counted choices o ≡ None
    go None e = refl
    go (Some settings) e = rw (sym e) refl

in_form : (choices : List Choice) (words : List (List ℕ)) → true ≡ passes (are_counted choices) (settings_of choices words)
    → (settings : List Setting) × (settings_in choices words ≡ Some settings)
unfolding settings_in
in_form choices words passed = go (settings_of choices words) passed
  where
    go : (o : Option (List Setting)) → true ≡ passes (are_counted choices) o → (settings : List Setting) × (counted choices o ≡ Some settings)
    go None e = absurd cc
    go (Some settings) e = (settings, rw (sym e) refl)

pub no_values : (choices : List Choice) (words : List (List ℕ)) → false ≡ passes (are_counted choices) (settings_of choices words)
    → AreValues (settings_in choices words) (Err Options)
no_values choices words failed = rw (not_in_form choices words failed) refl

pub no_memory : (choices : List Choice) (words : List (List ℕ)) → true ≡ passes (are_counted choices) (settings_of choices words)
    → AreValues (settings_in choices words) (Err Memory)
no_memory choices words passed = rw (in_form choices words passed).1 refl

pub has_values : (choices : List Choice) (words : List (List ℕ)) (values : Values) (matches : ArgMatches) → true ≡ passes (are_counted choices) (settings_of choices words)
    → values_of values ≡ first_value (found_of matches) → IfSome (settings_in choices words) (HasFound (found_of matches)) → AreValues (settings_in choices words) (Ok values)
has_values choices words values matches passed seen found =
    let one = in_form choices words passed in
    rw one.1 (λ name. ap (λ (look : Lookup). look name) seen ∙ rw one.1 at found name)

-- ---- the command that they make

made_read : (o : Option Command) (fault : WordFault) → fault ≡ Memory → IsRead (ok_or o Value) (Err fault)
made_read None fault e = inr (ap Err e)
made_read (Some command) fault e = inr (ap Err e)

fault_read : (form : CommandForm) (o : Option (List Setting)) (fault : WordFault) → AreValues o (Err fault) → IsRead (read_as form o) (Err fault)
fault_read form None fault e = ap Err e
fault_read form (Some settings) fault e = made_read (form.reads (value_of settings)) fault e

made_answer : (o p : Option Command) → p ≡ o → IsRead (ok_or o Value) (ok_or p Value)
made_answer None p e = inl (ap (λ (a : Option Command). ok_or a Value) e)
made_answer (Some command) p e = inl (ap (λ (a : Option Command). ok_or a Value) e)

value_read : (form : CommandForm) (o : Option (List Setting)) (values : Values) (answer : Option Command) → AreValues o (Ok values)
    → answer ≡ form.reads (values_of values) → IsRead (read_as form o) (ok_or answer Value)
value_read form None values answer e is = absurd e
value_read form (Some settings) values answer e is = made_answer (form.reads (value_of settings)) answer (is ∙ (λ i. form.reads (λ name. e name i)))

-- an answer with its value changed
abbrev pub mapped_by : {A : Type 0} → (A → Command) → Result A WordFault → Result Command WordFault
mapped_by variant (Ok a) = Ok (variant a)
mapped_by variant (Err fault) = Err fault

-- a command's reader, whose table is the form's
pub fault_answer : (form : CommandForm) (choices : List Choice) (words : List (List ℕ)) (fault : WordFault) (result : Result Command WordFault) → choices ≡ form.choices
    → AreValues (settings_in choices words) (Err fault) → IsErr result × IsErrAnd result (λ e. e ≡ fault) → IsRead (read_as form (settings_in form.choices words)) result
fault_answer form choices words fault (Ok command) table values passed = absurd (let e = passed.0 in cc)
fault_answer form choices words fault (Err e) table values passed =
    let P : List Choice → Type 0 = λ options. IsRead (read_as form (settings_in options words)) (Err e) in
    let Q : WordFault → Type 0 = λ f. IsRead (read_as form (settings_in choices words)) (Err f) in
    subst P table (subst Q (sym passed.1) (fault_read form (settings_in choices words) fault values))

pub value_answer : (form : CommandForm) (choices : List Choice) (words : List (List ℕ)) (values : Values) (answer : Option Command) → choices ≡ form.choices
    → AreValues (settings_in choices words) (Ok values) → answer ≡ form.reads (values_of values)
    → IsRead (read_as form (settings_in form.choices words)) (ok_or answer Value)
value_answer form choices words values answer table found is =
    let P : List Choice → Type 0 = λ options. IsRead (read_as form (settings_in options words)) (ok_or answer Value) in
    subst P table (value_read form (settings_in choices words) values answer found is)

-- a command whose values want memory
made_as : {A : Type 0} (variant : A → Command) (o : Option A) (result : Result A WordFault) → IsMade o result → IsRead (ok_or (option_map variant o) Value) (mapped_by variant result)
made_as variant None result e = inl (ap (mapped_by variant) e)
made_as variant (Some a) result (inl e) = inl (ap (mapped_by variant) e)
made_as variant (Some a) result (inr e) = inr (ap (mapped_by variant) e)

made_read_as : {A : Type 0} (variant : A → Command) (reads : Lookup → Option A) (name : List ℕ) (choices : List Choice) (words : List (List ℕ)) (values : Values) (result : Result A WordFault) → AreValues (settings_in choices words) (Ok values)
    → IsMade (reads (values_of values)) result
    → IsRead (read_as (record { name = name; choices = choices; reads = λ looks. option_map variant (reads looks) }) (settings_in choices words)) (mapped_by variant result)
made_read_as variant reads name choices words values result found made = go (settings_in choices words) found
  where
    go : (o : Option (List Setting)) → AreValues o (Ok values) → IsRead (read_as (record { name = name; choices = choices; reads = λ looks. option_map variant (reads looks) }) o) (mapped_by variant result)
    go None e = absurd e
    go (Some settings) e =
        let P : Lookup → Type 0 = λ looks. IsRead (ok_or (option_map variant (reads looks)) Value) (mapped_by variant result) in
        subst P (λ i name. e name i) (made_as variant (reads (values_of values)) result made)

pub made_answer_of : {A : Type 0} (variant : A → Command) (reads : Lookup → Option A) (name : List ℕ) (options choices : List Choice) (words : List (List ℕ)) (values : Values) (result : Result A WordFault) → options ≡ choices
    → AreValues (settings_in options words) (Ok values) → IsMade (reads (values_of values)) result
    → IsRead (read_as (record { name = name; choices = choices; reads = λ looks. option_map variant (reads looks) }) (settings_in choices words)) (mapped_by variant result)
made_answer_of variant reads name options choices words values result table found made =
    let P : List Choice → Type 0 = λ list. AreValues (settings_in list words) (Ok values) in
    made_read_as variant reads name choices words values result (subst P table found) made
