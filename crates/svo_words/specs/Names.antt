-- What the test of a command's form keeps of the settings: their names.
use Rattle.std.specs.Prelude.{ℕ, Bool, false, if◌then◌else◌, List, Option, None, Some, option_map}
use Rattle.std.specs.Str.{bytes_eq}
use Rattle.svo_words.specs.Settings.{Setting}
use Rattle.svo_words.specs.Steps.{Step}
use Rattle.svo_words.specs.declared.form_test.Step.{Step as SeenStep}
use Rattle.svo_words.specs.declared.form_test.Parts.{Parts}

pub record StepNames : Type 0 where
  pub waiting : Option (List ℕ)
  pub done : Option (List ℕ)

abbrev pub names_of_step : Option Step → Option StepNames
names_of_step = option_map (λ step. record { waiting = step.waiting; done = option_map (λ setting. setting.name) step.done })

abbrev pub step_seen : SeenStep → StepNames
step_seen step = record { waiting = option_map (λ name. name.now) step.waiting; done = option_map (λ name. name.now) step.done }

abbrev pub parts_seen : Parts → List ℕ × Option (List ℕ)
parts_seen parts = (parts.name.now, option_map (λ value. value.now) parts.value)

abbrev pub count_done : List ℕ → Option (List ℕ) → ℕ
count_done name None = 0
count_done name (Some set) = if bytes_eq set name then 1 else 0

-- the words spell settings, and those pass the test
abbrev pub passes : (List Setting → Bool) → Option (List Setting) → Bool
passes test None = false
passes test (Some settings) = test settings
