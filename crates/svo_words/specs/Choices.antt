-- The options of a command, as data.
use Rattle.std.specs.Prelude.{ℕ, Bool, not, ◌&&◌, ◌==◌, nat_lt, List, length, find, Option}
use Rattle.std.specs.List.{list_all, list_any}
use Rattle.std.specs.Str.{bytes_eq}

-- an option: its name without `--`, whether a value belongs to it, whether it has to stand, and the option that may stand in its place
pub record Choice : Type 0 where
  pub name : List ℕ
  pub takes_value : Bool
  pub is_required : Bool
  pub unless : Option (List ℕ)

abbrev pub is_named : List ℕ → Choice → Bool
is_named name choice = bytes_eq choice.name name

-- the option of this name
abbrev pub choice_of : List Choice → List ℕ → Option Choice
choice_of choices name = find (is_named name) choices

-- a name is not empty and has no `=` in it
abbrev pub is_name : List ℕ → Bool
is_name name = nat_lt 0 (length name) && not (list_any (λ byte. byte == 61) name)

abbrev pub are_names : List Choice → Bool
are_names choices = list_all (λ choice. is_name choice.name) choices
