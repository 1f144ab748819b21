-- The rows in which `clap` keeps what was found, one for each setting.
use Rattle.std.proofs.Common.{◌≡◌, ◌||◌, Bool, cond, true, false, List, [], ◌∷◌, ◌++◌, map, None, Some, option_map, refl, ap, ◌∙◌, append-nil}
use Rattle.std.specs.Prelude.{codes, find, option_and_then, slice_get, fold}
use Rattle.std.specs.Str.{bytes_eq}
use Rattle.clap.specs.Walk.{Row, Text, at_row, has_row, more_values, with_values, without, used, first_of, with_default}
use Rattle.clap.specs.Takes.{use_passes}
use Rattle.clap.specs.declared.builder.value_parser.Reading.TheVariants.{AsWritten}
use Rattle.clap.specs.declared.parser.matches.ValueSource.TheVariants.{CommandLine}
use Rattle.svo_words.specs.Choices.{Choice}
use Rattle.svo_words.specs.Settings.{Setting, value_of, is_of}
use Rattle.svo_words.proofs.Rules.{rule}

abbrev pub row : Setting → Row
row setting = record { id = setting.name; values = setting.value ∷ []; count = None; source = Some CommandLine; reading = AsWritten }

both_false : (a b : Bool) → (a || b) ≡ false → (a ≡ false) × (b ≡ false)
both_false true b e = absurd cc
both_false false b e = (refl, e)

absent : (id : Text) (change : Row → List Row) (missing rows : List Row) → has_row id rows ≡ false → at_row id change missing rows ≡ rows ++ missing
absent id change missing [] none = refl
absent id change missing (r ∷ rest) none =
    let apart = both_false (bytes_eq r.id id) (has_row id rest) none in
    ap (λ b. cond b (change r ++ rest) (r ∷ at_row id change missing rest)) apart.0 ∙ ap (λ rs. r ∷ rs) (absent id change missing rest apart.1)

-- a value whose option has no row yet gets one at the end
pub joins : (setting : Setting) (rows : List Row) → has_row setting.name rows ≡ false
    → with_values setting.name AsWritten CommandLine (setting.value ∷ []) (without setting.name rows) ≡ rows ++ row setting ∷ []
joins setting rows none =
    let kept : without setting.name rows ≡ rows = absent setting.name (λ _. []) [] rows none ∙ append-nil rows in
    ap (λ rs. with_values setting.name AsWritten CommandLine (setting.value ∷ []) rs) kept ∙ absent setting.name (more_values CommandLine (setting.value ∷ [])) (row setting ∷ []) rows none

-- a use of an option with a value, and of one without
pub valued_use : (choice : Choice) (value : Text) (rows : List Row) → choice.takes_value ≡ true → has_row choice.name rows ≡ false
    → (used (rule choice) (value ∷ []) rows ≡ rows ++ row (record { name = choice.name; value = value }) ∷ []) × (use_passes false (rule choice) (value ∷ []) rows ≡ true)
valued_use choice value rows takes none = (joins (record { name = choice.name; value = value }) rows none, rw (takes, none) refl)

pub bare_use : (choice : Choice) (rows : List Row) → choice.takes_value ≡ false → has_row choice.name rows ≡ false
    → (used (rule choice) [] rows ≡ rows ++ row (record { name = choice.name; value = codes "true" }) ∷ []) × (use_passes false (rule choice) [] rows ≡ true)
bare_use choice rows takes none = (rw takes (joins (record { name = choice.name; value = codes "true" }) rows none), rw (takes, none) refl)

-- ---- no option stands twice

abbrev pub AreFresh : List Row → List Setting → Type 0
AreFresh rows [] = Unit {0}
AreFresh rows (setting ∷ rest) = (has_row setting.name rows ≡ false) × AreFresh (rows ++ row setting ∷ []) rest

-- ---- what is found in the rows

pub first_in : (name : Text) (settings : List Setting) → first_of name (map row settings) ≡ value_of settings name
first_in name [] = refl
first_in name (setting ∷ rest) = go (is_of name setting) (first_in name rest)
  where
    go : (b : Bool) → first_of name (map row rest) ≡ value_of rest name
        → option_and_then (λ (r : Row). slice_get r.values 0) (cond b (Some (row setting)) (find (λ r. bytes_eq r.id name) (map row rest)))
        ≡ option_map (λ (one : Setting). one.value) (cond b (Some setting) (find (is_of name) rest))
    go true e = refl
    go false e = e

-- no option has a default
pub no_defaults : (choices : List Choice) (rows : List Row) → fold with_default rows (map rule choices) ≡ rows
no_defaults [] rows = refl
no_defaults (choice ∷ rest) rows = ap (λ rs. fold with_default rs (map rule rest)) (go (has_row choice.name rows)) ∙ no_defaults rest rows
  where
    go : (b : Bool) → cond b rows rows ≡ rows
    go true = refl
    go false = refl
