-- Each leaf by its word, and the node by what its leaves come to.
use Rattle.std.proofs.Common.{◌≡◌, ◌+◌, refl, sym, subst, ◌∙◌, arith}
use Rattle.std.specs.Prelude.{slice_index}
use Rattle.octree_specs.specs.Checking.{rule_of}
use Rattle.node_check.specs.Verdicts.{leaf_among}
use Rattle.node_check.proofs.Recursion.{IsLeft, left_first}
use Rattle.node_check.proofs.Leaves.{leaf_next, leaf_refused, leaves_agree, leaves_few}
use Rattle.node_check.proofs.checking.leaves_subtree.Goals as goal

pub loop-place-init : goal.loop-place-init
loop-place-init c = record {
  left = left_first (leaf_among (rule_of c.args.format) c.args.siblings.now c.args.base) c.args.base c.args.count c.args.at;
  few = omega arith;
}

pub returns-then-not-is_lawful-clause-fits : goal.returns-then-not-is_lawful-clause-fits
returns-then-not-is_lawful-clause-fits c =
    leaf_refused (rule_of c.args.format) c.args.siblings.now c.args.base c.args.count c.args.at c.args.node.now.number c.args.node.now.word c.loop-place.place c.loop-place.cells (slice_index c.args.siblings.now c.loop-place.place) (c.args.base + c.from.result)
    c.loop-place.invariant.left c.loop-place-test.true refl (sym c.is_lawful.ensures ∙ c.if-not-is_lawful.true) (omega (arith, c.from.ensures))

pub overflow_add-cells : goal.overflow_add-cells
overflow_add-cells c = omega (arith, c.loop-place.invariant.few, c.cell_count-cells.ensures.few, c.loop-place-test.true, c.requires.count)

pub loop-place-preserved : goal.loop-place-preserved
loop-place-preserved c = record {
  left = leaf_next (rule_of c.args.format) c.args.siblings.now c.args.base c.args.count c.args.at c.loop-place.place c.loop-place.cells (slice_index c.args.siblings.now c.loop-place.place) c.cell_count-cells.result c.loop-place.invariant.left c.loop-place-test.true refl
      (sym c.is_lawful.ensures ∙ c.if-not-is_lawful.false) c.cell_count-cells.ensures.value;
  few = omega (arith, c.loop-place.invariant.few, c.cell_count-cells.ensures.few);
}

pub returns-clause-fits : goal.returns-clause-fits
returns-clause-fits c =
    let done : c.loop-place.place ≡ c.args.count = omega (arith, c.loop-place.auto.place-end, c.loop-place-test.false) in
    leaves_agree (rule_of c.args.format) c.args.siblings.now c.args.base c.args.count c.args.at c.args.node.now.number c.args.node.now.word c.loop-place.cells c.parent_subtree.result
    (subst (λ n. IsLeft (leaf_among (rule_of c.args.format) c.args.siblings.now c.args.base) c.args.base c.args.count c.args.at n c.args.at c.loop-place.cells) done c.loop-place.invariant.left) c.parent_subtree.ensures.fits

pub returns-clause-cells : goal.returns-clause-cells
returns-clause-cells c = leaves_few c.parent_subtree.result c.loop-place.cells c.args.count c.parent_subtree.ensures.cells (omega (arith, c.loop-place.invariant.few, c.loop-place.auto.place-end, c.loop-place-test.false))
