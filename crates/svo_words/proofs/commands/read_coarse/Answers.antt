use Rattle.std.proofs.Common.{map, Ok, Err}
use Rattle.std.specs.Prelude.{codes}
use Rattle.std.specs.String.{string_bytes}
use Rattle.svo_words.specs.Forms.{coarse_form}
use Rattle.svo_words.specs.Combining.{coarse_choices, coarse_from}
use Rattle.svo_words.specs.declared.commands.Command.TheVariants.{Coarse}
use Rattle.svo_words.proofs.Answering.{fault_answer, made_answer_of}
use Rattle.svo_words.proofs.commands.read_coarse.Goals as goal

pub returns-in_err-values : goal.returns-in_err-values
returns-in_err-values c =
    fault_answer coarse_form _ (map string_bytes c.args.words.now) _ _ c.coarse_choices-choices.ensures.table c.in_err-values.ensures c.from_residual.ensures

pub returns-in-Err : goal.returns-in-Err
returns-in-Err c =
    made_answer_of Coarse coarse_from (codes "coarse") _ coarse_choices (map string_bytes c.args.words.now) _ (Err c.in-Err.fault) c.coarse_choices-choices.ensures.table c.in_ok-values.ensures c.in-Err.ensures

pub returns : goal.returns
returns c =
    made_answer_of Coarse coarse_from (codes "coarse") _ coarse_choices (map string_bytes c.args.words.now) _ (Ok c.in-Ok.coarse) c.coarse_choices-choices.ensures.table c.in_ok-values.ensures c.in-Ok.ensures
