-- The lines, and then what waits.
use Rattle.std.proofs.Common.{ap, ◌∙◌, rules}
use Rattle.ply_text.specs.Reading.{reading}
use Rattle.ply_text.proofs.Callers.{starts}
use Rattle.ray_answers.specs.QueryTexts.{queries_of}
use Rattle.ray_answers.proofs.Endings.{begins, text_ends, text_answered, text_read, complete}
use Rattle.ray_answers.proofs.answering.answer_text.Goals as goal

pub returns-clause-ends : goal.returns-clause-ends
returns-clause-ends g c = λ text told.
    let a = reading c.new-tokens.result in
    let start = g.O.ByteSink.written c.args.out.now in
    let file = g.R.Records.file c.args.nodes.now in
    let over = c.answer_lines-answered.ensures.over a start (begins c.args.kind file a start c.new-waiting.result.items (ap (λ r. r.stopped) c.new-tokens.ensures.start) c.new-waiting.ensures) in
    text_ends c.args.kind file a (reading c.answer_lines-answered.new.tokens) start (g.O.ByteSink.written c.answer_lines-answered.new.out) (g.O.ByteSink.written c.put_rest.new.out) c.answer_lines-answered.new.waiting.items
    c.answer_lines-answered.result c.put_rest.result over c.put_rest.ensures.rest (ap (λ r. r.place) c.new-tokens.ensures.start) text (ap (λ r. r.left) c.new-tokens.ensures.start ∙ told)

pub returns-clause-answered : goal.returns-clause-answered
returns-clause-answered g c = λ text cells told tells.
    let a = reading c.new-tokens.result in
    let start = g.O.ByteSink.written c.args.out.now in
    let file = g.R.Records.file c.args.nodes.now in
    let over = c.answer_lines-answered.ensures.over a start (begins c.args.kind file a start c.new-waiting.result.items (ap (λ r. r.stopped) c.new-tokens.ensures.start) c.new-waiting.ensures) in
    text_answered c.args.kind file a (reading c.answer_lines-answered.new.tokens) start (g.O.ByteSink.written c.answer_lines-answered.new.out) (g.O.ByteSink.written c.put_rest.new.out) c.answer_lines-answered.new.waiting.items
    c.answer_lines-answered.result c.put_rest.result over c.put_rest.ensures.rest (ap (λ r. r.place) c.new-tokens.ensures.start) text cells (ap (λ r. r.left) c.new-tokens.ensures.start ∙ told) tells

pub returns-clause-read : goal.returns-clause-read
returns-clause-read g c = λ text told.
    let a = reading c.new-tokens.result in
    let start = g.O.ByteSink.written c.args.out.now in
    let file = g.R.Records.file c.args.nodes.now in
    let over = c.answer_lines-answered.ensures.over a start (begins c.args.kind file a start c.new-waiting.result.items (ap (λ r. r.stopped) c.new-tokens.ensures.start) c.new-waiting.ensures) in
    text_read c.args.kind c.answer_lines-answered.new.tokens a text _ file start (g.O.ByteSink.written c.answer_lines-answered.new.out) (g.O.ByteSink.written c.put_rest.new.out) c.answer_lines-answered.new.waiting.items
    c.answer_lines-answered.result c.put_rest.result (ap (λ r. r.left) c.new-tokens.ensures.start ∙ told) (starts c.new-tokens.result text c.new-tokens.ensures.start told) over c.put_rest.ensures.rest
    (search rules)

pub returns-clause-complete : goal.returns-clause-complete
returns-clause-complete g c = λ text cells told tells input out nodes.
    let a = reading c.new-tokens.result in
    let start = g.O.ByteSink.written c.args.out.now in
    let after = g.O.ByteSink.written c.put_rest.new.out in
    let file = g.R.Records.file c.args.nodes.now in
    let begun = c.new-tokens.ensures.start in
    let over = c.answer_lines-answered.ensures.over a start (begins c.args.kind file a start c.new-waiting.result.items (ap (λ r. r.stopped) begun) c.new-waiting.ensures) in
    complete (queries_of c.args.kind text).end file.grid cells (queries_of c.args.kind text).queries start after
    (g.I.ByteSource.faults c.args.input.now) _ (g.O.ByteSink.faults c.args.out.now) (g.O.ByteSink.faults c.put_rest.new.out)
    (g.R.Records.faults c.args.nodes.now) (g.R.Records.faults c.answer_lines-answered.new.nodes) c.put_rest.result
    (text_ends c.args.kind file a (reading c.answer_lines-answered.new.tokens) start (g.O.ByteSink.written c.answer_lines-answered.new.out) after c.answer_lines-answered.new.waiting.items
    c.answer_lines-answered.result c.put_rest.result over c.put_rest.ensures.rest (ap (λ r. r.place) begun) text (ap (λ r. r.left) begun ∙ told))
    (text_answered c.args.kind file a (reading c.answer_lines-answered.new.tokens) start (g.O.ByteSink.written c.answer_lines-answered.new.out) after c.answer_lines-answered.new.waiting.items
    c.answer_lines-answered.result c.put_rest.result over c.put_rest.ensures.rest (ap (λ r. r.place) begun) text cells (ap (λ r. r.left) begun ∙ told) tells)
    input out nodes (search rules)

pub returns-clause-sound : goal.returns-clause-sound
returns-clause-sound g c = λ cells tells. c.put_rest.ensures.sound (c.answer_lines-answered.ensures.sound cells tells)
