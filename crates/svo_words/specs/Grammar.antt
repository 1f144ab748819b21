-- The form of the words after a command's name.
use Rattle.std.specs.Prelude.{◌≡◌, ℕ, Bool, true, false, not, ◌==◌, ⊤, List, [], ◌∷◌, ◌++◌, map, flat_map, Option, Some, option_map, codes}
use Rattle.svo_words.specs.Choices.{Choice, choice_of}
use Rattle.svo_words.specs.Settings.{Setting, are_counted}

-- how an option is written: `--name`, `--name=value`, or `--name value` in two words
pub data Spelling : Type 0 where
  bare : List ℕ → Spelling
  joined : List ℕ → List ℕ → Spelling
  separate : List ℕ → List ℕ → Spelling

abbrev pub dashed : List ℕ → List ℕ
dashed name = 45 ∷ 45 ∷ name

abbrev pub words_of : Spelling → List (List ℕ)
words_of (bare name) = dashed name ∷ []
words_of (joined name value) = dashed (name ++ 61 ∷ value) ∷ []
words_of (separate name value) = dashed name ∷ value ∷ []

-- what it sets: an option without a value stands for the value `true`
abbrev pub setting_of : Spelling → Setting
setting_of (bare name) = record { name = name; value = codes "true" }
setting_of (joined name value) = record { name = name; value = value }
setting_of (separate name value) = record { name = name; value = value }

-- the table has the option, and whether a value belongs to it
abbrev pub takes_value : List Choice → List ℕ → Option Bool
takes_value choices name = option_map (λ choice. choice.takes_value) (choice_of choices name)

abbrev pub is_nonempty : List ℕ → Bool
is_nonempty [] = false
is_nonempty (c ∷ rest) = true

-- a value in a word of its own is not empty and does not begin with `-`
abbrev pub is_separate : List ℕ → Bool
is_separate [] = false
is_separate (c ∷ rest) = not (c == 45)

abbrev pub IsAllowed : List Choice → Spelling → Type 0
IsAllowed choices (bare name) = takes_value choices name ≡ Some false
IsAllowed choices (joined name value) = (takes_value choices name ≡ Some true) × (is_nonempty value ≡ true)
IsAllowed choices (separate name value) = (takes_value choices name ≡ Some true) × (is_separate value ≡ true)

abbrev pub AreAllowed : List Choice → List Spelling → Type 0
AreAllowed choices [] = ⊤
AreAllowed choices (one ∷ rest) = IsAllowed choices one × AreAllowed choices rest

-- the words spell these settings, one after the other
pub record Spells (choices : List Choice) (words : List (List ℕ)) (settings : List Setting) : Type 0 where
  pub written : List Spelling
  pub allowed : AreAllowed choices written
  pub words_are : words ≡ flat_map words_of written
  pub settings_are : settings ≡ map setting_of written

-- the words are in the form of a command with these options, and set these
pub record IsInForm (choices : List Choice) (words : List (List ℕ)) (settings : List Setting) : Type 0 where
  pub spelled : Spells choices words settings
  pub counted : are_counted choices settings ≡ true
