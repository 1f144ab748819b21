-- The options of a table as `clap` has them once the command is built.
use Rattle.std.proofs.Common.{◌≡◌, ℕ, ◌&&◌, ◌||◌, Bool, cond, true, false, List, [], ◌∷◌, map, Option, None, Some, option_map, refl, ap, ap₂, ◌∙◌}
use Rattle.std.specs.Prelude.{if◌then◌else◌, codes}
use Rattle.std.specs.List.{list_all, list_any}
use Rattle.std.specs.Str.{bytes_eq}
use Rattle.clap.specs.Walk.{Rule, Text, arg_by_id, arg_by_long}
use Rattle.clap.specs.Simple.{App, Shape, new_shape, filled, filled_from, with_index, index_after, built}
use Rattle.clap.specs.declared.builder.action.ArgAction.TheVariants.{Set}
use Rattle.clap.specs.declared.builder.value_parser.ValueParser.TheVariants as vp
use Rattle.svo_words.specs.Choices.{Choice, choice_of}
use Rattle.svo_words.specs.Matching.{rule_for, app_for}

-- how many values belong to an option, and what stands for its value where it has none
abbrev pub arity : Choice → ℕ
arity choice = if choice.takes_value then 1 else 0

abbrev pub missing_for : Choice → List Text
missing_for choice = if choice.takes_value then [] else codes "true" ∷ []

abbrev pub rule : Choice → Rule
rule choice = record {
  id = choice.name;
  long = Some choice.name;
  aliases = [];
  short = None;
  short_aliases = [];
  index = None;
  action = Some Set;
  range = Some (record { start_inclusive = arity choice; end_inclusive = arity choice });
  value_names = 0;
  defaults = [];
  missing = missing_for choice;
  trailing_var_arg = false;
  parser = Some vp.String;
  ignore_case = false;
  required = false;
  is_simple = true;
  is_free = true;
}

rule_is : (choice : Choice) (i : ℕ) → (with_index i (filled (rule_for choice)) ≡ rule choice) × (index_after i (rule_for choice) ≡ i)
unfolding rule_for
rule_is choice i = go choice.takes_value refl
  where
    go : (b : Bool) → choice.takes_value ≡ b → (with_index i (filled (rule_for choice)) ≡ rule choice) × (index_after i (rule_for choice) ≡ i)
    go true takes = (rw takes refl, rw takes refl)
    go false takes = (rw takes refl, rw takes refl)

rules_are : (choices : List Choice) (i : ℕ) → filled_from i (map rule_for choices) ≡ map rule choices
rules_are [] i = refl
rules_are (choice ∷ rest) i =
    ap₂ (λ r k. r ∷ filled_from k (map rule_for rest)) (rule_is choice i).0 (rule_is choice i).1 ∙ ap (λ rs. rule choice ∷ rs) (rules_are rest i)

abbrev pub shape_with : List Rule → Shape
shape_with rules = record (new_shape (codes "options")) {
  rules = rules;
  no_binary_name = true;
  disable_help_flag = true;
  disable_version_flag = true;
  disable_help_subcommand = true;
  is_built = true;
}

abbrev pub built_with : List Rule → App
built_with rules = record { top = shape_with rules; subs = [] }

pub built_is : (choices : List Choice) → built (app_for choices) ≡ built_with (map rule choices)
built_is choices = ap built_with (rules_are choices 1)

-- ---- options by their names

or_false : (b : Bool) → (b || false) ≡ b
or_false true = refl
or_false false = refl

chosen : (b : Bool) (choice : Choice) (o : Option Rule) (p : Option Choice) → o ≡ option_map rule p
    → cond b (Some (rule choice)) o ≡ option_map rule (cond b (Some choice) p)
chosen true choice o p e = refl
chosen false choice o p e = e

pub by_long : (name : Text) (choices : List Choice) → arg_by_long (map rule choices) name ≡ option_map rule (choice_of choices name)
by_long name [] = refl
by_long name (choice ∷ rest) =
    ap (λ b. cond b (Some (rule choice)) (arg_by_long (map rule rest) name)) (or_false (bytes_eq choice.name name))
    ∙ chosen (bytes_eq choice.name name) choice (arg_by_long (map rule rest) name) (choice_of rest name) (by_long name rest)

pub by_id : (name : Text) (choices : List Choice) → arg_by_id (map rule choices) name ≡ option_map rule (choice_of choices name)
by_id name [] = refl
by_id name (choice ∷ rest) = chosen (bytes_eq choice.name name) choice (arg_by_id (map rule rest) name) (choice_of rest name) (by_id name rest)

-- ---- tests of the whole command

pub all_rules : (p : Rule → Bool) → ((choice : Choice) → p (rule choice) ≡ true) → (choices : List Choice) → list_all p (map rule choices) ≡ true
all_rules p each [] = refl
all_rules p each (choice ∷ rest) = ap₂ (λ a b. a && b) (each choice) (all_rules p each rest)

pub no_rule : (p : Rule → Bool) → ((choice : Choice) → p (rule choice) ≡ false) → (choices : List Choice) → list_any p (map rule choices) ≡ false
no_rule p none [] = refl
no_rule p none (choice ∷ rest) = ap₂ (λ a b. a || b) (none choice) (no_rule p none rest)

pub all_simple : (choices : List Choice) → list_all (λ (a : Rule). a.is_simple) (map rule_for choices) ≡ true
unfolding rule_for
all_simple [] = refl
all_simple (choice ∷ rest) = ap₂ (λ a b. a && b) (go choice.takes_value refl) (all_simple rest)
  where
    go : (b : Bool) → choice.takes_value ≡ b → (rule_for choice).is_simple ≡ true
    go true takes = rw takes refl
    go false takes = rw takes refl
