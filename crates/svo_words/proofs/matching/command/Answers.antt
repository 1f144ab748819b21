use Rattle.std.proofs.Common.{◌≡◌, ◌+◌, ◌<◌, ℕ, suc, ◌++◌, List, [], ◌∷◌, length, get_or, map, take, arith, sym, ap, ap₂, ◌∙◌}
use Rattle.std.proofs.Math.Seq.{take-suc}
use Rattle.std.proofs.lemmas.List.{map-append}
use Rattle.clap.specs.Walk.{Rule, rule_of}
use Rattle.clap.specs.Simple.{App, app_of, with_rule}
use Rattle.svo_words.specs.Choices.{Choice}
use Rattle.svo_words.specs.Matching.{rule_for, app_with}
use Rattle.svo_words.proofs.matching.command.Goals as goal

-- one more option
rule_more : (choices : List Choice) (i : ℕ) (choice : Choice) (before after : App) (rule : Rule) → i < length choices → choice ≡ get_or choices i choice
    → before ≡ app_with (map rule_for (take i choices)) → rule ≡ rule_for choice → after ≡ with_rule before rule → after ≡ app_with (map rule_for (take (i + 1) choices))
rule_more choices i choice before after rule within at was is next =
    let next_place : i + 1 ≡ suc i = omega arith in
    let front : take (i + 1) choices ≡ take i choices ++ choice ∷ [] =
    ap (λ k. take k choices) next_place ∙ take-suc choices i choice within ∙ ap (λ one. take i choices ++ one ∷ []) (sym at) in
    next ∙ ap₂ with_rule was is ∙ ap app_with (sym (ap (map rule_for) front ∙ map-append rule_for (take i choices) (choice ∷ [])))

pub loop-choice-preserved : goal.loop-choice-preserved
loop-choice-preserved c =
    rule_more c.args.choices.now c.loop-choice.choice-index c.choice-item.result (app_of c.loop-choice.command) (app_of c.in_ok-command.command) (rule_of c.argument.result) c.loop-choice-test.true c.choice-item.is
    c.loop-choice.invariant c.argument.ensures.rule (c.in_ok-command.ensures.shape c.argument.ensures.own)
