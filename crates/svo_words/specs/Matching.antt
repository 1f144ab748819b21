-- A command's options as `clap` takes them.
use Rattle.std.specs.Prelude.{ℕ, ◌≡◌, true, if◌then◌else◌, List, [], ◌∷◌, map, Some, codes}
use Rattle.clap.specs.Walk.{Rule}
use Rattle.clap.specs.Simple.{App, new_rule, new_shape}
use Rattle.clap.specs.Matches.{first_value}
use Rattle.clap.specs.declared.builder.action.ArgAction.TheVariants.{Set}
use Rattle.clap.specs.declared.parser.matches.Found.{Found}
use Rattle.svo_words.specs.Choices.{Choice}
use Rattle.svo_words.specs.Settings.{Setting, value_of}

-- an option with a value
abbrev pub valued_rule : List ℕ → Rule
valued_rule name = record (new_rule name) { long = Some name; action = Some Set }

-- an option without a value, which stands for the value `true`
abbrev pub bare_rule : List ℕ → Rule
bare_rule name = record (valued_rule name) { range = Some (record { start_inclusive = 0; end_inclusive = 0 }); missing = codes "true" ∷ [] }

unfoldable pub rule_for : Choice → Rule
rule_for choice = if choice.takes_value then valued_rule choice.name else bare_rule choice.name

-- a command of options alone, with no name before the words and no help
abbrev pub app_with : List Rule → App
app_with rules = record {
  top = record (new_shape (codes "options")) { rules = rules; no_binary_name = true; disable_help_flag = true; disable_version_flag = true };
  subs = [];
}

abbrev pub app_for : List Choice → App
app_for choices = app_with (map rule_for choices)

-- `clap` found the values of these settings
abbrev pub HasFound : Found → List Setting → Type 0
HasFound found settings = (name : List ℕ) → first_value found name ≡ value_of settings name
