use Rattle.std.proofs.Common.{map, Ok, Err}
use Rattle.std.specs.Prelude.{codes}
use Rattle.std.specs.String.{string_bytes}
use Rattle.svo_words.specs.Forms.{merge_form}
use Rattle.svo_words.specs.Combining.{merge_choices, merge_from}
use Rattle.svo_words.specs.declared.commands.Command.TheVariants.{Merge}
use Rattle.svo_words.proofs.Answering.{fault_answer, made_answer_of}
use Rattle.svo_words.proofs.commands.read_merge.Goals as goal

pub returns-in_err-values : goal.returns-in_err-values
returns-in_err-values c =
    fault_answer merge_form _ (map string_bytes c.args.words.now) _ _ c.merge_choices-choices.ensures.table c.in_err-values.ensures c.from_residual.ensures

pub returns-in-Err : goal.returns-in-Err
returns-in-Err c =
    made_answer_of Merge merge_from (codes "merge") _ merge_choices (map string_bytes c.args.words.now) _ (Err c.in-Err.fault) c.merge_choices-choices.ensures.table c.in_ok-values.ensures c.in-Err.ensures

pub returns : goal.returns
returns c =
    made_answer_of Merge merge_from (codes "merge") _ merge_choices (map string_bytes c.args.words.now) _ (Ok c.in-Ok.merge) c.merge_choices-choices.ensures.table c.in_ok-values.ensures c.in-Ok.ensures
