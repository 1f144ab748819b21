use Rattle.std.proofs.Common.{◌≡◌, map, take}
use Rattle.clap.specs.Simple.{app_of}
use Rattle.svo_words.specs.Matching.{rule_for, app_with}
use Rattle.svo_words.proofs.matching.command.Given as goal

abbrev pub invariant-loop-choice : goal.invariant-loop-choice
invariant-loop-choice l = app_of l.command ≡ app_with (map rule_for (take l.choice-index l.choices))
