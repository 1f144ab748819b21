-- How often an option stands among words, where some were counted already.
use Rattle.std.specs.Prelude.{ℕ, ◌+◌, List, Option, option_map}
use Rattle.svo_words.specs.Choices.{Choice}
use Rattle.svo_words.specs.Settings.{count_of}
use Rattle.svo_words.specs.Steps.{settings_from}

abbrev pub counted_on : List Choice → List ℕ → ℕ → Option (List ℕ) → List (List ℕ) → Option ℕ
counted_on choices name count waiting words = option_map (λ settings. count + count_of name settings) (settings_from choices waiting words)
