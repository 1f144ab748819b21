-- What a reader of words answers, where memory may run out.
use Rattle.std.specs.Prelude.{◌≡◌, ◌⊎◌, ℕ, List, Option, None, Some, Result, Ok, Err}
use Rattle.svo_words.specs.Settings.{Setting, value_of}
use Rattle.svo_words.specs.Seen.{values_of}
use Rattle.svo_words.specs.declared.commands.WordFault.{WordFault}
use Rattle.svo_words.specs.declared.commands.WordFault.TheVariants.{Command, Options, Value, Memory}
use Rattle.svo_words.specs.declared.values.Values.{Values}

-- the answer is the one that is wanted; memory may run out only where the words are in a command's form
abbrev pub IsRead : {A : Type 0} → Result A WordFault → Result A WordFault → Type 0
IsRead (Ok command) result = (result ≡ Ok command) ⊎ (result ≡ Err Memory)
IsRead (Err Command) result = result ≡ Err Command
IsRead (Err Options) result = result ≡ Err Options
IsRead (Err Value) result = (result ≡ Err Value) ⊎ (result ≡ Err Memory)
IsRead (Err Memory) result = result ≡ Err Memory

-- the values make this, or one of them is not of its kind; memory may run out where they do
abbrev pub IsMade : {A : Type 0} → Option A → Result A WordFault → Type 0
IsMade None result = result ≡ Err Value
IsMade (Some a) result = (result ≡ Ok a) ⊎ (result ≡ Err Memory)

-- the answer has the values of the settings, if there are some
abbrev pub AreValues : Option (List Setting) → Result Values WordFault → Type 0
AreValues None (Ok values) = ⊥
AreValues None (Err fault) = fault ≡ Options
AreValues (Some settings) (Ok values) = (name : List ℕ) → values_of values name ≡ value_of settings name
AreValues (Some settings) (Err fault) = fault ≡ Memory
