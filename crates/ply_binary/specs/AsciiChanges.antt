-- An input that is read as ASCII: how much of it was read, by what was given of its text.
use Rattle.std.specs.Prelude.{◌≡◌, ◌⊎◌, ℕ, ◌-◌, ◌<◌, ◌≤◌, List, [], ◌++◌, length, take, drop, codes, Option, None, Some}
use Rattle.std.specs.Option.{option_map}
use Rattle.dev_traits.specs.Change.{Change}
use Rattle.ply_binary.specs.HeaderTexts.{ascii}

-- told bytes; none where they are not told
abbrev pub bytes_in : Option (List ℕ) → List ℕ
bytes_in None = []
bytes_in (Some bytes) = bytes

-- a space behind them would be given as itself, as in a header, or as the `x` of a byte behind the last value. Behind a cut value it would be nothing
-- or a whole token, and behind a negative count, or where such an `x` stands, nothing: so none of these is there
abbrev pub EndsWhole : List ℕ → Type 0
EndsWhole bytes = (ascii (bytes ++ codes " ") ≡ ascii bytes ++ codes " ") ⊎ (ascii (bytes ++ codes " ") ≡ ascii bytes ++ codes "x")

-- of bytes, those behind are still to be read, and of their text, that left is still to be given. What was given is settled by what was read:
-- whatever follows that, the text begins so, or nothing follows it. Of bytes that stay as they are, as many were read as were given. Where all text was
-- given of bytes that end whole, all bytes were read
pub record IsReadAs (bytes behind left : List ℕ) : Type 0 where
  pub behind_is : drop (length bytes - length behind) bytes ≡ behind
  pub left_is : drop (length (ascii bytes) - length left) (ascii bytes) ≡ left
  pub settled : 0 < length behind → (more : List ℕ)
      → take (length (ascii bytes) - length left) (ascii (take (length bytes - length behind) bytes ++ more)) ≡ take (length (ascii bytes) - length left) (ascii bytes)
  pub plain : ascii bytes ≡ bytes → length behind ≤ length left
  pub ended : left ≡ [] → EndsWhole bytes → behind ≡ []

-- what calls that read the text of an input did to both
pub record IsReadAsAscii (input text : Change) : Type 0 where
  pub before : text.before ≡ option_map ascii input.before
  pub untold : input.before ≡ None → (input.after ≡ None) × (text.after ≡ None)
  pub told : (bytes : List ℕ) → input.before ≡ Some bytes
      → (input.after ≡ Some (bytes_in input.after)) × (text.after ≡ Some (bytes_in text.after)) × IsReadAs bytes (bytes_in input.after) (bytes_in text.after)
  pub faults_before : text.faults_before ≡ input.faults_before
  pub faults_after : text.faults_after ≡ input.faults_after
