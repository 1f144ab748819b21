-- The same form, read a word at a time.
use Rattle.std.specs.Prelude.{ℕ, ◌&&◌, if◌then◌else◌, List, [], ◌∷◌, Option, None, Some, option_map, codes}
use Rattle.std.specs.List.{cons_option}
use Rattle.clap.specs.Lexer.{long_of}
use Rattle.svo_words.specs.Choices.{Choice, choice_of}
use Rattle.svo_words.specs.Settings.{Setting, are_counted}
use Rattle.svo_words.specs.Grammar.{is_nonempty, is_separate}

-- what a word does: the option that then waits for its value, and the setting that is whole
pub record Step : Type 0 where
  pub waiting : Option (List ℕ)
  pub done : Option Setting

abbrev pub waits : List ℕ → Step
waits name = record { waiting = Some name; done = None }

abbrev pub sets : List ℕ → List ℕ → Step
sets name value = record { waiting = None; done = Some (record { name = name; value = value }) }

abbrev pub met : Choice → Option (List ℕ) → Option Step
met choice None = if choice.takes_value then Some (waits choice.name) else Some (sets choice.name (codes "true"))
met choice (Some value) = if choice.takes_value && is_nonempty value then Some (sets choice.name value) else None

abbrev pub met_if : Option Choice → Option (List ℕ) → Option Step
met_if None value = None
met_if (Some choice) value = met choice value

abbrev pub named : List Choice → Option (List ℕ × Option (List ℕ)) → Option Step
named choices None = None
named choices (Some parts) = met_if (choice_of choices parts.0) parts.1

unfoldable pub step_of : List Choice → Option (List ℕ) → List ℕ → Option Step
step_of choices None word = named choices (long_of word)
step_of choices (Some name) word = if is_separate word then Some (sets name word) else None

abbrev pub after_step : Option Step → (Option (List ℕ) → Option (List Setting)) → Option (List Setting)
after_step None next = None
after_step (Some step) next = option_map (cons_option step.done) (next step.waiting)

-- the settings of the words, where an option may wait for its value
unfoldable pub settings_from : List Choice → Option (List ℕ) → List (List ℕ) → Option (List Setting)
settings_from choices None [] = Some []
settings_from choices (Some name) [] = None
settings_from choices waiting (word ∷ rest) = after_step (step_of choices waiting word) (λ next. settings_from choices next rest)

abbrev pub settings_of : List Choice → List (List ℕ) → Option (List Setting)
settings_of choices words = settings_from choices None words

-- the settings, if the options stand as often as they may
abbrev pub counted : List Choice → Option (List Setting) → Option (List Setting)
counted choices None = None
counted choices (Some settings) = if are_counted choices settings then Some settings else None

unfoldable pub settings_in : List Choice → List (List ℕ) → Option (List Setting)
settings_in choices words = counted choices (settings_of choices words)
