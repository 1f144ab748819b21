use Rattle.std.proofs.Common.{map, is_some, ap, sym, ◌∙◌}
use Rattle.std.specs.String.{string_bytes}
use Rattle.svo_words.specs.Steps.{settings_of}
use Rattle.svo_words.proofs.FormTests.{all_pass}
use Rattle.svo_words.proofs.form_test.is_in_form.Goals as goal

pub returns-then-spelled : goal.returns-then-spelled
returns-then-spelled c =
    let settings = settings_of c.args.choices.now (map string_bytes c.args.words.now) in
    c.are_counted-counted.ensures ∙ all_pass c.args.choices.now _ settings (sym (c.if-spelled.ensures ∙ ap is_some c.count_of.ensures))
