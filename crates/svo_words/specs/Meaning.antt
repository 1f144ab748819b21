-- What the words of a command line mean, by the grammar of its settings.
use Rattle.std.specs.Prelude.{◌≡◌, ◌⊎◌, ℕ, List, [], ◌∷◌, None, Some, Result, Ok, Err}
use Rattle.svo_words.specs.Settings.{Setting, value_of}
use Rattle.svo_words.specs.Grammar.{IsInForm}
use Rattle.svo_words.specs.Forms.{CommandForm, commands}
use Rattle.svo_words.specs.declared.commands.Command.{Command}
use Rattle.svo_words.specs.declared.commands.WordFault.{WordFault}
use Rattle.svo_words.specs.declared.commands.WordFault.TheVariants.{Command as NoCommand, Options, Value, Memory}

abbrev pub IsAmong : List CommandForm → CommandForm → Type 0
IsAmong [] form = ⊥
IsAmong (one ∷ rest) form = (one ≡ form) ⊎ IsAmong rest form

-- the words are the name of a command, and others behind it
pub record Begins (words : List (List ℕ)) (form : CommandForm) (rest : List (List ℕ)) : Type 0 where
  pub known : IsAmong commands form
  pub words_are : words ≡ form.name ∷ rest

-- the words are the name of a command and settings in its form
pub record Sets (words : List (List ℕ)) (form : CommandForm) (settings : List Setting) : Type 0 where
  pub rest : List (List ℕ)
  pub begins : Begins words form rest
  pub in_form : IsInForm form.choices rest settings

-- the settings make a command; or a value is not of its kind; or the words behind the name are not in its form; or the first word names no command
abbrev pub Means : List (List ℕ) → Result Command WordFault → Type 0
Means words (Ok command) = (form : CommandForm) × (settings : List Setting) × Sets words form settings × (form.reads (value_of settings) ≡ Some command)
Means words (Err Value) = (form : CommandForm) × (settings : List Setting) × Sets words form settings × (form.reads (value_of settings) ≡ None)
Means words (Err Options) = (form : CommandForm) × (rest : List (List ℕ)) × Begins words form rest × ((settings : List Setting) → IsInForm form.choices rest settings → ⊥)
Means words (Err NoCommand) = (form : CommandForm) (rest : List (List ℕ)) → Begins words form rest → ⊥
Means words (Err Memory) = ⊥
