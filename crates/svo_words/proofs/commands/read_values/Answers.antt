use Rattle.std.proofs.Common.{map}
use Rattle.std.specs.String.{string_bytes}
use Rattle.svo_words.proofs.Answering.{no_values, no_memory, has_values}
use Rattle.svo_words.proofs.commands.read_values.Goals as goal

pub returns-then-not-is_in_form : goal.returns-then-not-is_in_form
returns-then-not-is_in_form c = no_values c.args.choices.now (map string_bytes c.args.words.now) c.if-not-is_in_form.ensures

pub returns-in-Err : goal.returns-in-Err
returns-in-Err c = no_memory c.args.choices.now (map string_bytes c.args.words.now) c.if-not-is_in_form.ensures

pub returns : goal.returns
returns c = has_values c.args.choices.now (map string_bytes c.args.words.now) c.new.result c.in-Ok.matches c.if-not-is_in_form.ensures c.new.ensures c.in-Ok.ensures.found
