-- Tests of the settings that words spell.
use Rattle.std.proofs.Common.{◌≡◌, ℕ, Bool, true, false, List, Option, None, Some, option_map, is_some, refl, ap}
use Rattle.std.specs.List.{list_all}
use Rattle.svo_words.specs.Choices.{Choice}
use Rattle.svo_words.specs.Settings.{Setting, count_of, is_replaced, may_stand, is_counted, are_counted}
use Rattle.svo_words.specs.Names.{passes}

pub none_passes : (test : List Setting → Bool) (name : List ℕ) (o : Option (List Setting)) → None ≡ option_map (count_of name) o → false ≡ passes test o
none_passes test name None e = refl
none_passes test name (Some settings) e = absurd cc

pub counted_is : (choice : Choice) (o : Option (List Setting)) (count : ℕ) → Some count ≡ option_map (count_of choice.name) o
    → may_stand choice.is_required (passes (is_replaced choice.unless) o) count ≡ passes (λ settings. is_counted settings choice) o
unfolding is_counted
counted_is choice None count e = absurd cc
counted_is choice (Some settings) count e =
    let same : count ≡ count_of choice.name settings = cc in
    ap (may_stand choice.is_required (is_replaced choice.unless settings)) same

-- all options pass, where the words spell settings
pub all_pass : (choices : List Choice) (name : List ℕ) (o : Option (List Setting)) → is_some (option_map (count_of name) o) ≡ true
    → list_all (λ choice. passes (λ settings. is_counted settings choice) o) choices ≡ passes (are_counted choices) o
unfolding are_counted
all_pass choices name None e = absurd cc
all_pass choices name (Some settings) e = refl
