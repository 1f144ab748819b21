use Rattle.std.proofs.Common.{◌≡◌, map, option_map, subst, ap, ◌∙◌}
use Rattle.std.specs.Borrow.{Bor}
use Rattle.std.specs.String.{string_bytes}
use Rattle.std.proofs.Common.{ℕ, List}
use Rattle.svo_words.specs.Choices.{Choice}
use Rattle.svo_words.specs.Settings.{is_counted, may_stand}
use Rattle.svo_words.specs.Steps.{settings_of}
use Rattle.svo_words.specs.Names.{passes}
use Rattle.svo_words.proofs.FormTests.{counted_is}
use Rattle.svo_words.proofs.form_test.is_counted.Goals as goal

pub returns-in-Some : goal.returns-in-Some
returns-in-Some c =
    let settings = settings_of c.args.choices.now (map string_bytes c.args.words.now) in
    let inside = c.choice.inside in
    let seen : Choice = record {
      name = inside.name.now;
      takes_value = inside.takes_value;
      is_required = inside.is_required;
      unless = option_map (λ (other : Bor (List ℕ)). other.now) inside.unless;
    } in
    let P : Choice → Type 0 = λ choice. c.may_stand.result ≡ passes (λ one. is_counted one choice) settings in
    subst P c.choice.view_is
    (c.may_stand.ensures ∙ ap (λ b. may_stand inside.is_required b c.in-Some.count) c.is_replaced-is_replaced.ensures ∙ counted_is seen settings c.in-Some.count c.in-Some.ensures)
