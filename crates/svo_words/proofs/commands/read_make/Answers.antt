use Rattle.std.proofs.Common.{map, ap, Some, None, Option, option_map}
use Rattle.std.specs.String.{string_bytes}
use Rattle.svo_words.specs.Forms.{make_form}
use Rattle.svo_words.specs.declared.made.MakeWords.{MakeWords}
use Rattle.svo_words.specs.declared.commands.Command.TheVariants.{Make}
use Rattle.svo_words.proofs.Answering.{fault_answer, value_answer}
use Rattle.svo_words.proofs.commands.read_make.Goals as goal

pub returns-in_err-values : goal.returns-in_err-values
returns-in_err-values c =
    fault_answer make_form _ (map string_bytes c.args.words.now) _ _ c.make_choices-choices.ensures.table c.in_err-values.ensures c.from_residual.ensures

pub returns-in-None : goal.returns-in-None
returns-in-None c =
    value_answer make_form _ (map string_bytes c.args.words.now) _ (option_map Make None) c.make_choices-choices.ensures.table c.in_ok-values.ensures
    (ap (λ (o : Option MakeWords). option_map Make o) c.in-None.ensures)

pub returns : goal.returns
returns c =
    value_answer make_form _ (map string_bytes c.args.words.now) _ (option_map Make (Some c.in-Some.make)) c.make_choices-choices.ensures.table c.in_ok-values.ensures
    (ap (λ (o : Option MakeWords). option_map Make o) c.in-Some.ensures)
