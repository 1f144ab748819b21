-- The option of a name, and the settings behind one that was met.
use Rattle.std.proofs.Common.{◌≡◌, ℕ, true, List, [], ◌∷◌, Option, None, Some, option_map, refl, sym, ap, ◌∙◌, inl, inr}
use Rattle.std.specs.List.{cons_option}
use Rattle.std.specs.Str.{bytes_eq}
use Rattle.std.proofs.lemmas.Bool.{cases_Bool}
use Rattle.std.proofs.lemmas.Slice.Eq.{bytes_eq-Decides}
use Rattle.svo_words.specs.Choices.{Choice, choice_of}
use Rattle.svo_words.specs.Settings.{Setting}

pub bytes_same : (text : List ℕ) → bytes_eq text text ≡ true
bytes_same text = (bytes_eq-Decides text text).1 refl

pub equal_bytes : (a b : List ℕ) → bytes_eq a b ≡ true → a ≡ b
equal_bytes a b e = (bytes_eq-Decides a b).0 e

-- the option of a name has that name
pub found_name : (choices : List Choice) (name : List ℕ) (choice : Choice) → choice_of choices name ≡ Some choice → choice.name ≡ name
found_name [] name choice e = absurd cc
found_name (one ∷ rest) name choice e = elim (cases_Bool (bytes_eq one.name name)) [
  | inl here ↦
      let same : Some one ≡ Some choice = rw here at e in
      let it : one ≡ choice = cc in
      sym (ap (λ (c : Choice). c.name) it) ∙ equal_bytes one.name name here
  | inr later ↦ found_name rest name choice (rw later at e)
]

pub found_own : (choices : List Choice) (name : List ℕ) (choice : Choice) → choice_of choices name ≡ Some choice → choice_of choices choice.name ≡ Some choice
found_own choices name choice found = ap (choice_of choices) (found_name choices name choice found) ∙ found

pub set_then : (setting : Setting) (o : Option (List Setting)) (settings : List Setting) → option_map (cons_option (Some setting)) o ≡ Some settings
    → (more : List Setting) × (o ≡ Some more) × (settings ≡ setting ∷ more)
set_then setting None settings e = absurd cc
set_then setting (Some more) settings e = (more, refl, cc)

pub wait_then : (o : Option (List Setting)) (settings : List Setting) → option_map (cons_option None) o ≡ Some settings → o ≡ Some settings
wait_then None settings e = absurd cc
wait_then (Some more) settings e = e
