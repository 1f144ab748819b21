-- The root's word says whether there are no cells; else what fits below it says all.
use Rattle.std.proofs.Common.{◌-◌, Err, Ok, sym, ap, subst, ◌∙◌}
use Rattle.std.specs.Prelude.{IfSome}
use Rattle.svo_base.specs.GridShape.{GridShape}
use Rattle.octree_specs.specs.Checking.{rule_of, fit, refused_in}
use Rattle.node_file.specs.FileView.{FileView}
use Rattle.node_check.specs.Verdicts.{Agrees, IsVerdict}
use Rattle.node_check.proofs.Files.{empty_answer, root_answer, refused_answer}
use Rattle.node_check.proofs.Parents.{err_is}
use Rattle.node_check.proofs.checking.check_words.Goals as goal

pub returns-then-is_empty-clause-verdict : goal.returns-then-is_empty-clause-verdict
returns-then-is_empty-clause-verdict g c =
    empty_answer (g.R.Records.file c.args.nodes.now) c.totals-totals.ensures.framed c.totals-totals.result c.in_ok-word.word c.totals-totals.ensures.value c.in_ok-word.ensures.word c.root_verdict.result
    (sym c.if-is_empty.ensures) c.root_verdict.ensures.verdict

pub returns-in_err-span-clause-verdict : goal.returns-in_err-span-clause-verdict
returns-in_err-span-clause-verdict g c =
    subst
    (λ r. IfSome (g.R.Records.file c.args.nodes.now).words (λ words. IsVerdict (refused_in (g.R.Records.file c.args.nodes.now).format (g.R.Records.file c.args.nodes.now).grid.depth words (g.R.Records.file c.args.nodes.now).totals.cells)
    (g.R.Records.file c.args.nodes.now).totals r))
    (sym (err_is c.from_residual-in_err-span.result c.in_err-span.field-0.0 c.from_residual-in_err-span.ensures))
    (refused_answer (g.R.Records.file c.args.nodes.now) c.totals-totals.ensures.framed c.totals-totals.result c.in_ok-word.word c.totals-totals.ensures.value c.in_ok-word.ensures.word c.format-format.result c.depth.result
    c.leaf_levels-height.result c.format-format.ensures.value (c.depth.ensures.value ∙ ap (λ (s : GridShape). s.depth) c.grid.ensures.value) c.leaf_levels-height.ensures (sym c.if-is_empty.ensures) c.in_err-span.field-0.0
    (subst (λ (f : FileView). IfSome f.words (λ words. Agrees (fit (rule_of c.format-format.result) words c.leaf_levels-height.result (c.totals-totals.result.records - 1) 0) (Err c.in_err-span.field-0.0)))
    c.in_ok-word.ensures.same c.in_err-span.ensures.fits))

pub returns-clause-verdict : goal.returns-clause-verdict
returns-clause-verdict g c =
    root_answer (g.R.Records.file c.args.nodes.now) c.totals-totals.ensures.framed c.totals-totals.result c.in_ok-word.word c.totals-totals.ensures.value c.in_ok-word.ensures.word c.format-format.result c.depth.result
    c.leaf_levels-height.result c.format-format.ensures.value (c.depth.ensures.value ∙ ap (λ (s : GridShape). s.depth) c.grid.ensures.value) c.leaf_levels-height.ensures (sym c.if-is_empty.ensures) c.root_verdict-2.result
    c.in_ok-span.span
    (subst (λ (f : FileView). IfSome f.words (λ words. Agrees (fit (rule_of c.format-format.result) words c.leaf_levels-height.result (c.totals-totals.result.records - 1) 0) (Ok c.in_ok-span.span)))
    c.in_ok-word.ensures.same c.in_ok-span.ensures.fits)
    c.root_verdict-2.ensures.verdict
