-- The commands, and the command that words are.
use Rattle.std.specs.Prelude.{ℕ, Bool, List, [], ◌∷◌, find, Option, None, Some, option_map, Result, Err, codes}
use Rattle.std.specs.Option.{ok_or}
use Rattle.std.specs.Str.{bytes_eq}
use Rattle.svo_words.specs.Choices.{Choice}
use Rattle.svo_words.specs.Settings.{Setting, value_of}
use Rattle.svo_words.specs.Steps.{settings_in}
use Rattle.svo_words.specs.Lookups.{Lookup}
use Rattle.svo_words.specs.Build.{build_choices, build_from}
use Rattle.svo_words.specs.Nodes.{nodes_choices, has_choices, kept_choices, check_from, has_from, cells_from, lift_from, cast_from, near_from}
use Rattle.svo_words.specs.Combining.{merge_choices, merge_from, coarse_choices, coarse_from}
use Rattle.svo_words.specs.Made.{make_choices, make_from, sum_choices, sum_from}
use Rattle.svo_words.specs.Pictures.{slice_choices, slice_from, view_choices, view_from}
use Rattle.svo_words.specs.Why.{why_choices, why_from}
use Rattle.svo_words.specs.declared.commands.Command.{Command}
use Rattle.svo_words.specs.declared.commands.Command.TheVariants.{Build, Cast, Check, Cells, Has, Why, Slice, View, Lift, Make, Sum, Near, Merge, Coarse}
use Rattle.svo_words.specs.declared.commands.WordFault.{WordFault}
use Rattle.svo_words.specs.declared.commands.WordFault.TheVariants.{Command as NoCommand, Options, Value}

-- a command: its name, its options, and what their values make of it
pub record CommandForm : Type 0 where
  pub name : List ℕ
  pub choices : List Choice
  pub reads : Lookup → Option Command

abbrev pub build_form : CommandForm
build_form = record { name = codes "build"; choices = build_choices; reads = λ values. option_map Build (build_from values) }

abbrev pub cast_form : CommandForm
cast_form = record { name = codes "cast"; choices = kept_choices; reads = λ values. option_map Cast (cast_from values) }

abbrev pub check_form : CommandForm
check_form = record { name = codes "check"; choices = nodes_choices; reads = λ values. option_map Check (check_from values) }

abbrev pub cells_form : CommandForm
cells_form = record { name = codes "cells"; choices = kept_choices; reads = λ values. option_map Cells (cells_from values) }

abbrev pub has_form : CommandForm
has_form = record { name = codes "has"; choices = has_choices; reads = λ values. option_map Has (has_from values) }

abbrev pub why_form : CommandForm
why_form = record { name = codes "why"; choices = why_choices; reads = λ values. option_map Why (why_from values) }

abbrev pub slice_form : CommandForm
slice_form = record { name = codes "slice"; choices = slice_choices; reads = λ values. option_map Slice (slice_from values) }

abbrev pub view_form : CommandForm
view_form = record { name = codes "view"; choices = view_choices; reads = λ values. option_map View (view_from values) }

abbrev pub lift_form : CommandForm
lift_form = record { name = codes "lift"; choices = nodes_choices; reads = λ values. option_map Lift (lift_from values) }

abbrev pub make_form : CommandForm
make_form = record { name = codes "make"; choices = make_choices; reads = λ values. option_map Make (make_from values) }

abbrev pub sum_form : CommandForm
sum_form = record { name = codes "sum"; choices = sum_choices; reads = λ values. option_map Sum (sum_from values) }

abbrev pub near_form : CommandForm
near_form = record { name = codes "near"; choices = kept_choices; reads = λ values. option_map Near (near_from values) }

abbrev pub merge_form : CommandForm
merge_form = record { name = codes "merge"; choices = merge_choices; reads = λ values. option_map Merge (merge_from values) }

abbrev pub coarse_form : CommandForm
coarse_form = record { name = codes "coarse"; choices = coarse_choices; reads = λ values. option_map Coarse (coarse_from values) }

unfoldable pub commands : List CommandForm
commands = build_form ∷ cast_form ∷ check_form ∷ cells_form ∷ has_form ∷ why_form ∷ slice_form ∷ view_form ∷ lift_form ∷ make_form ∷ sum_form ∷ near_form ∷ merge_form ∷ coarse_form ∷ []

-- the command that the words are, or what is wrong with them
abbrev pub read_as : CommandForm → Option (List Setting) → Result Command WordFault
read_as form None = Err Options
read_as form (Some settings) = ok_or (form.reads (value_of settings)) Value

abbrev pub read_by : Option CommandForm → List (List ℕ) → Result Command WordFault
read_by None rest = Err NoCommand
read_by (Some form) rest = read_as form (settings_in form.choices rest)

abbrev pub has_name : List ℕ → CommandForm → Bool
has_name name form = bytes_eq name form.name

unfoldable pub form_of : List (List ℕ) → Result Command WordFault
form_of [] = Err NoCommand
form_of (name ∷ rest) = read_by (find (has_name name) commands) rest
