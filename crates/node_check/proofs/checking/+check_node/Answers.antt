-- A leaf by its word; a node above by its children, each of which fits behind those before it.
use Rattle.std.proofs.Common.{◌≡◌, ◌+◌, ◌-◌, ◌*◌, ◌/◌, ◌^◌, ◌<◌, ◌≤◌, Err, Ok, sym, subst, ◌∙◌, arith}
use Rattle.std.specs.Prelude.{IfSome, IfOk}
use Rattle.octree_specs.specs.Checking.{rule_of, fit}
use Rattle.node_file.specs.FileView.{FileView}
use Rattle.node_check.specs.Verdicts.{Agrees}
use Rattle.node_check.proofs.Recursion.{IsLeft}
use Rattle.node_check.proofs.Parents.{leaf_agrees, misplaced_agrees, child_agrees, parent_agrees, children_before, next_left, more_cells, cells_small, bounded, err_is}
use Rattle.node_check.proofs.Leaves.{siblings_agree}
use Rattle.node_check.proofs.checking.+check_node.Goals as goal

pub returns-then-height-eq0-clause-fits : goal.returns-then-height-eq0-clause-fits
returns-then-height-eq0-clause-fits g t c =
    leaf_agrees (rule_of c.args.format) (g.R.Records.file c.args.nodes.now).words c.args.node.now.word c.args.node.now.number c.args.at c.args.height c.leaf_subtree.result c.if-height-eq0.true c.requires.word
    c.leaf_subtree.ensures.fits

pub returns-then-is_misplaced-clause-fits : goal.returns-then-is_misplaced-clause-fits
returns-then-is_misplaced-clause-fits g t c =
    misplaced_agrees (rule_of c.args.format) c.args.height c.args.node.now.word c.args.node.now.number c.args.at c.ones-count.result c.is_misplaced.result c.if-height-eq0.false c.ones-count.ensures.value c.is_misplaced.ensures
    (g.R.Records.file c.args.nodes.now).words c.requires.word c.if-is_misplaced.true

pub returns-then-height-eq1-clause-fits : goal.returns-then-height-eq1-clause-fits
returns-then-height-eq1-clause-fits g t c =
    siblings_agree (rule_of c.args.format) c.args.height c.args.node.now.word c.args.node.now.number c.args.at c.ones-count.result c.is_misplaced.result c.if-height-eq0.false c.ones-count.ensures.value c.is_misplaced.ensures
    (g.R.Records.file c.args.nodes.now).words c.in_ok-siblings.siblings c.leaves_subtree.result c.requires.word c.if-is_misplaced.false c.if-height-eq1.true c.in_ok-siblings.ensures.words c.leaves_subtree.ensures.fits

pub returns-in_err-span-clause-fits : goal.returns-in_err-span-clause-fits
returns-in_err-span-clause-fits g t c =
    subst (λ r. IfSome (g.R.Records.file c.args.nodes.now).words (λ words. Agrees (fit (rule_of c.args.format) words c.args.height c.args.node.now.number c.args.at) r))
    (sym (err_is c.from_residual-in_err-span.result c.in_err-span.field-0.0 c.from_residual-in_err-span.ensures))
    (child_agrees (rule_of c.args.format) c.args.height c.args.node.now.word c.args.node.now.number c.args.at c.ones-count.result c.is_misplaced.result c.if-height-eq0.false c.ones-count.ensures.value c.is_misplaced.ensures
    (g.R.Records.file c.args.nodes.now).words c.in_err-span.field-0.0 (c.args.node.now.word / 256 + c.from.result) c.loop-place.place c.loop-place.below.next c.loop-place.below.cells c.requires.word c.if-is_misplaced.false
    c.loop-place.invariant.left (omega arith) (omega (arith, c.from.ensures))
    (subst (λ (f : FileView). IfSome f.words (λ words. Agrees (fit (rule_of c.args.format) words (c.args.height - 1) (c.args.node.now.word / 256 + c.from.result) c.loop-place.below.next) (Err c.in_err-span.field-0.0)))
    c.loop-place.invariant.same c.in_err-span.ensures.fits))

pub overflow_add-below : goal.overflow_add-below
overflow_add-below g t c =
    let small : c.loop-place.below.cells + c.in_ok-span.span.cells < 2 ^ 64 =
    cells_small c.args.height (c.loop-place.place + 1) (c.loop-place.below.cells + c.in_ok-span.span.cells) c.requires.shallow (omega (arith, c.ones-count.ensures.few))
    (more_cells c.args.height c.loop-place.place c.loop-place.below.cells c.in_ok-span.span.cells c.if-height-eq0.false c.loop-place.invariant.few c.in_ok-span.ensures.bounds.few) in
    omega (arith, small)

pub loop-place-preserved : goal.loop-place-preserved
loop-place-preserved g t c = record {
  left = next_left (rule_of c.args.format) (g.R.Records.file c.args.nodes.now).words (c.args.height - 1) (c.args.node.now.word / 256) c.ones-count.result c.args.at c.loop-place.place c.loop-place.below.next c.loop-place.below.cells
      (c.args.node.now.word / 256 + c.from.result) c.in_ok-span.span c.loop-place.invariant.left (omega arith) (omega (arith, c.from.ensures))
      (subst (λ (f : FileView). IfSome f.words (λ words. Agrees (fit (rule_of c.args.format) words (c.args.height - 1) (c.args.node.now.word / 256 + c.from.result) c.loop-place.below.next) (Ok c.in_ok-span.span)))
      c.loop-place.invariant.same c.in_ok-span.ensures.fits);
  inside = subst (λ (f : FileView). c.in_ok-span.span.next < f.totals.records) c.loop-place.invariant.same c.in_ok-span.ensures.bounds.inside;
  few = more_cells c.args.height c.loop-place.place c.loop-place.below.cells c.in_ok-span.span.cells c.if-height-eq0.false c.loop-place.invariant.few c.in_ok-span.ensures.bounds.few;
  once = omega (arith, c.in_ok-span.ensures.bounds.once, c.loop-place.invariant.once);
  looked = omega (arith, c.in_ok-span.ensures.looked, c.loop-place.invariant.looked);
  same = c.in_ok-span.ensures.same ∙ c.loop-place.invariant.same;
  lender = c.in_ok-span.ensures.lender ∙ c.loop-place.invariant.lender;
  later = omega (arith, c.in_ok-span.ensures.cause.later, c.loop-place.invariant.later);
}

pub returns-clause-fits : goal.returns-clause-fits
returns-clause-fits g t c =
    let done : c.loop-place.place ≡ c.ones-count.result = omega (arith, c.loop-place.auto.place-end, c.loop-place-test.false) in
    parent_agrees (rule_of c.args.format) c.args.height c.args.node.now.word c.args.node.now.number c.args.at c.ones-count.result c.is_misplaced.result c.if-height-eq0.false c.ones-count.ensures.value c.is_misplaced.ensures
    (g.R.Records.file c.args.nodes.now).words c.parent_subtree.result c.loop-place.below.next c.loop-place.below.cells c.requires.word c.if-is_misplaced.false
    (subst (λ n. IfSome (g.R.Records.file c.args.nodes.now).words (λ words. IsLeft (fit (rule_of c.args.format) words (c.args.height - 1)) (c.args.node.now.word / 256) c.ones-count.result c.args.at n c.loop-place.below.next c.loop-place.below.cells))
    done c.loop-place.invariant.left)
    c.parent_subtree.ensures.fits

pub returns-clause-bounds : goal.returns-clause-bounds
returns-clause-bounds g t c =
    let done : c.loop-place.place ≡ c.ones-count.result = omega (arith, c.loop-place.auto.place-end, c.loop-place-test.false) in
    bounded (g.R.Records.file c.args.nodes.now).totals.records c.args.height c.args.at c.args.reads.now c.loop-place.reads c.loop-place.below.next c.loop-place.below.cells (c.args.node.now.word / 256) c.ones-count.result
    c.args.node.now.number c.parent_subtree.result
    (subst (λ n. IfOk c.parent_subtree.result (λ span. (c.loop-place.below.next ≡ c.args.node.now.word / 256) × (span.next ≡ c.args.node.now.word / 256 + n))) (sym c.ones-count.ensures.value) c.parent_subtree.ensures.next)
    c.parent_subtree.ensures.cells
    (children_before (rule_of c.args.format) c.args.height c.args.node.now.word c.args.node.now.number c.args.at c.ones-count.result c.is_misplaced.result c.if-height-eq0.false c.ones-count.ensures.value c.is_misplaced.ensures
    c.if-is_misplaced.false)
    c.requires.number c.ones-count.ensures.few (subst (λ n. c.loop-place.below.cells ≤ n * 8 ^ c.args.height) done c.loop-place.invariant.few) c.loop-place.invariant.once
