-- The table of commands: each is found by its name, and none by another word.
use Rattle.std.proofs.Common.{◌≡◌, ℕ, ◌<◌, Bool, true, false, List, [], ◌∷◌, length, drop, Option, None, Some, Result, Err, inl, inr, arith, refl, sym, ap, ◌∙◌, subst}
use Rattle.std.specs.Prelude.{find, not, ◌&&◌, ⊤, slice_index_or}
use Rattle.std.specs.List.{list_all}
use Rattle.std.specs.Str.{bytes_eq}
use Rattle.std.proofs.lemmas.Bool.{cases_Bool, and_parts, not-true}
use Rattle.svo_words.specs.Choices.{are_names}
use Rattle.svo_words.specs.Steps.{settings_in}
use Rattle.svo_words.specs.Build.{build_choices}
use Rattle.svo_words.specs.Nodes.{nodes_choices, has_choices, kept_choices}
use Rattle.svo_words.specs.Combining.{merge_choices, coarse_choices}
use Rattle.svo_words.specs.Made.{make_choices, sum_choices}
use Rattle.svo_words.specs.Pictures.{slice_choices, view_choices}
use Rattle.svo_words.specs.Why.{why_choices}
use Rattle.svo_words.specs.Forms.{CommandForm, commands, has_name, read_as, read_by, form_of}
use Rattle.svo_words.specs.Meaning.{IsAmong, Begins}
use Rattle.svo_words.specs.Reading.{IsRead}
use Rattle.svo_words.specs.declared.commands.Command.{Command}
use Rattle.svo_words.specs.declared.commands.WordFault.{WordFault}
use Rattle.svo_words.specs.declared.commands.WordFault.TheVariants.{Command as NoCommand}
use Rattle.svo_words.proofs.Choosing.{bytes_same, equal_bytes}

-- a test that all pass is passed by each
each_passes : (test : CommandForm → Bool) (forms : List CommandForm) (form : CommandForm) → list_all test forms ≡ true → IsAmong forms form → test form ≡ true
each_passes test [] form all none = absurd none
each_passes test (one ∷ rest) form all (inl is) = let P : CommandForm → Type 0 = λ f. test f ≡ true in subst P is (and_parts (test one) (list_all test rest) all).0
each_passes test (one ∷ rest) form all (inr later) = each_passes test rest form (and_parts (test one) (list_all test rest) all).1 later

abbrev has_names : CommandForm → Bool
has_names form = are_names form.choices

all_have_names : list_all has_names commands ≡ true
unfolding commands build_choices nodes_choices kept_choices has_choices why_choices slice_choices view_choices make_choices sum_choices merge_choices coarse_choices
all_have_names = refl

pub names_ok : (form : CommandForm) → IsAmong commands form → are_names form.choices ≡ true
names_ok form among = each_passes has_names commands form all_have_names among

-- a command is found by its name, since no two have the same
abbrev differs_from : CommandForm → CommandForm → Bool
differs_from one other = not (bytes_eq other.name one.name)

abbrev are_distinct : List CommandForm → Bool
are_distinct [] = true
are_distinct (one ∷ rest) = list_all (differs_from one) rest && are_distinct rest

all_distinct : are_distinct commands ≡ true
unfolding commands
all_distinct = refl

found_in : (forms : List CommandForm) (form : CommandForm) → are_distinct forms ≡ true → IsAmong forms form → find (has_name form.name) forms ≡ Some form
found_in [] form distinct none = absurd none
found_in (one ∷ rest) form distinct (inl is) =
    let P : CommandForm → Type 0 = λ f. find (has_name f.name) (one ∷ rest) ≡ Some f in
    subst P is (rw (bytes_same one.name) refl)
found_in (one ∷ rest) form distinct (inr later) =
    let parts = and_parts (list_all (differs_from one) rest) (are_distinct rest) distinct in
    let other : has_name form.name one ≡ false = not-true (bytes_eq form.name one.name) (each_passes (differs_from one) rest form parts.0 later) in
    rw other (found_in rest form parts.1 later)

pub found_by_name : (form : CommandForm) → IsAmong commands form → find (has_name form.name) commands ≡ Some form
found_by_name form among = found_in commands form all_distinct among

pub begins_reads : (words : List (List ℕ)) (form : CommandForm) (rest : List (List ℕ)) → Begins words form rest → form_of words ≡ read_as form (settings_in form.choices rest)
unfolding form_of
begins_reads words form rest begins =
    ap form_of begins.words_are ∙ ap (λ (o : Option CommandForm). read_by o rest) (found_by_name form begins.known)

-- ---- the first word

first_is : (words : List (List ℕ)) → 0 < length words → words ≡ slice_index_or words 0 [] ∷ drop 1 words
first_is [] some = absurd (omega arith)
first_is (word ∷ rest) some = refl

-- a reader of the words behind a command's name reads all of the words
pub arm : (form : CommandForm) (words rest : List (List ℕ)) (result : Result Command WordFault) → IsAmong commands form → 0 < length words → slice_index_or words 0 [] ≡ form.name
    → rest ≡ drop 1 words → IsRead (read_as form (settings_in form.choices rest)) result → IsRead (form_of words) result
arm form words rest result among some name tail read =
    let begins : Begins words form (drop 1 words) = record { known = among; words_are = first_is words some ∙ ap (λ word. word ∷ drop 1 words) name } in
    let P : Result Command WordFault → Type 0 = λ wanted. IsRead wanted result in
    let Q : List (List ℕ) → Type 0 = λ behind. IsRead (read_as form (settings_in form.choices behind)) result in
    subst P (sym (begins_reads words form (drop 1 words) begins)) (subst Q tail read)

unlike : (word name : List ℕ) → (word ≡ name → ⊥) → bytes_eq word name ≡ false
unlike word name differ = elim (cases_Bool (bytes_eq word name)) [ inl same ↦ absurd (differ (equal_bytes word name same)) | inr other ↦ other ]

-- the word is none of these names
abbrev pub IsNone : List ℕ → List CommandForm → Type 0
IsNone word [] = ⊤
IsNone word (form ∷ rest) = (word ≡ form.name → ⊥) × IsNone word rest

none_found : (forms : List CommandForm) (word : List ℕ) → IsNone word forms → find (has_name word) forms ≡ None
none_found [] word none = refl
none_found (form ∷ rest) word none = rw (unlike word form.name none.0) (none_found rest word none.1)

pub not_named : (words : List (List ℕ)) → 0 < length words → IsNone (slice_index_or words 0 []) commands → form_of words ≡ Err NoCommand
unfolding form_of
not_named words some none =
    ap form_of (first_is words some) ∙ ap (λ (o : Option CommandForm). read_by o (drop 1 words)) (none_found commands (slice_index_or words 0 []) none)
