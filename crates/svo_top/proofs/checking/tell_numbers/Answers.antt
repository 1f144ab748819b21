-- The file's numbers are those of its words and cells.
use Rattle.std.proofs.Common.{ℕ, List, ◌∙◌, sym, subst, rules, ◌≡◌}
use Rattle.node_check.specs.Stops.{Puts}
use Rattle.svo_top.specs.FileAnswers.{check_line}
use Rattle.svo_top.proofs.OpenFileAnswers.{numbers_are}
use Rattle.svo_top.proofs.checking.tell_numbers.Goals as goal

pub returns-clause-told : goal.returns-clause-told
returns-clause-told g c = λ cells keeps.
    let file = g.R.Records.file c.args.nodes.now in
    let line : c.as_bytes.result.now ≡ check_line file.grid.depth file.totals.records file.totals.cells = search rules in
    subst (λ (text : List ℕ). Puts (g.O.ByteSink.written c.args.out.now) (g.O.ByteSink.written c.put_text.new.out) text c.put_text.result) (line ∙ numbers_are file cells c.totals-totals.ensures.framed keeps)
    c.put_text.ensures.puts
