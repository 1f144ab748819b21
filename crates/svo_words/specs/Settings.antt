-- What the words of a command set its options to.
use Rattle.std.specs.Prelude.{ℕ, ◌+◌, Bool, false, ◌==◌, nat_le, nat_lt, if◌then◌else◌, List, [], ◌∷◌, find, Option, None, Some, option_map}
use Rattle.std.specs.List.{list_all}
use Rattle.std.specs.Str.{bytes_eq}
use Rattle.svo_words.specs.Choices.{Choice}

-- an option that stands, with its value
pub record Setting : Type 0 where
  pub name : List ℕ
  pub value : List ℕ

abbrev pub is_of : List ℕ → Setting → Bool
is_of name setting = bytes_eq setting.name name

-- the value of the option of this name, if it stands
abbrev pub value_of : List Setting → List ℕ → Option (List ℕ)
value_of settings name = option_map (λ setting. setting.value) (find (is_of name) settings)

-- how often the option of this name stands
abbrev pub count_of : List ℕ → List Setting → ℕ
count_of name [] = 0
count_of name (setting ∷ rest) = (if is_of name setting then 1 else 0) + count_of name rest

-- the option that may stand in the place of another does
abbrev pub is_replaced : Option (List ℕ) → List Setting → Bool
is_replaced None settings = false
is_replaced (Some other) settings = nat_lt 0 (count_of other settings)

-- an option stands at most once; one that has to stand does so once, or not at all where another stands in its place
abbrev pub may_stand : Bool → Bool → ℕ → Bool
may_stand is_required is_replaced count = if is_required then count == (if is_replaced then 0 else 1) else nat_le count 1

unfoldable pub is_counted : List Setting → Choice → Bool
is_counted settings choice = may_stand choice.is_required (is_replaced choice.unless settings) (count_of choice.name settings)

unfoldable pub are_counted : List Choice → List Setting → Bool
are_counted choices settings = list_all (is_counted settings) choices
