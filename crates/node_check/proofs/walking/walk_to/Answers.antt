-- One step down at a time.
use Rattle.std.proofs.Common.{◌≡◌, ◌-◌, ◌/◌, ◌%◌, ◌^◌, ◌<◌, ◌≤◌, true, false, sym, ap, subst, ◌∙◌, arith}
use Rattle.std.specs.Prelude.{IfSome, List}
use Rattle.svo_base.specs.declared.grids.TheConstants.{MAX_DEPTH}
use Rattle.svo_base.specs.GridShape.{GridShape}
use Rattle.octree_specs.specs.Cells.{Cell}
use Rattle.octree_specs.specs.Formats.{StandFor}
use Rattle.octree_specs.specs.Walking.{child_number}
use Rattle.node_file.specs.FileView.{FileView}
use Rattle.node_check.specs.Walks.{IsWordOf, has_child, led_to, WalksTo}
use Rattle.node_check.proofs.Walks.{Leads, root_leads, leads_down, led_start, led_down, walk_ends, walk_fails, err_is}
use Rattle.node_check.proofs.walking.walk_to.Goals as goal

pub loop-height-init : goal.loop-height-init
loop-height-init g c =
    let deep : c.depth-height.result ≡ (g.R.Records.file c.args.nodes.now).grid.depth = c.depth-height.ensures.value ∙ ap (λ (s : GridShape). s.depth) c.grid.ensures.value in
    record {
      leads = subst (λ h. Leads (g.R.Records.file c.args.nodes.now).words (g.R.Records.file c.args.nodes.now).format (g.R.Records.file c.args.nodes.now).grid.depth h c.args.code c.in_ok-node.node.number) (sym deep)
          (root_leads (g.R.Records.file c.args.nodes.now) c.grid.ensures.framed c.args.code c.in_ok-node.node.number c.requires c.in_ok-node.ensures.last);
      led = led_start (g.R.Records.file c.args.nodes.now).words (g.R.Records.file c.args.nodes.now).grid.depth c.depth-height.result c.args.code ((g.R.Records.file c.args.nodes.now).totals.records - 1) c.in_ok-node.node.number deep
          c.in_ok-node.ensures.last;
      word = c.in_ok-node.ensures.word;
      least = subst (λ h. 1 ≤ h) (sym deep) c.grid.ensures.framed.limits.halved;
      most = subst (λ h. h ≤ MAX_DEPTH) (sym deep) c.grid.ensures.framed.limits.shallow;
      few = omega (arith, deep, c.in_ok-node.ensures.reads);
      looked = c.in_ok-node.ensures.looked;
      same = c.in_ok-node.ensures.same;
      lender = c.in_ok-node.ensures.lender;
      later = c.in_ok-node.ensures.cause.later;
    }

pub returns-then-not-has_bit-clause-told : goal.returns-then-not-has_bit-clause-told
returns-then-not-has_bit-clause-told g c =
    walk_ends (g.R.Records.file c.args.nodes.now).words (g.R.Records.file c.args.nodes.now).format (g.R.Records.file c.args.nodes.now).grid.depth c.loop-height.height c.args.code (g.R.Records.file c.args.nodes.now).totals.records
    c.loop-height.node.number c.loop-height.node.word c.loop-height.invariant.least c.loop-height.invariant.word (subst (λ p. has_child c.loop-height.node.word p ≡ false) c.octant-place.ensures (sym c.if-not-has_bit.ensures))
    c.loop-height.invariant.leads

pub returns-in_err-node-2-clause-told : goal.returns-in_err-node-2-clause-told
returns-in_err-node-2-clause-told g c =
    subst
    (λ r. IfSome (g.R.Records.file c.args.nodes.now).words
    (λ words. (cells : List Cell) → StandFor (g.R.Records.file c.args.nodes.now).format (g.R.Records.file c.args.nodes.now).grid.depth words cells → WalksTo words (g.R.Records.file c.args.nodes.now).format cells c.args.code r))
    (sym (err_is c.from_residual-in_err-node-2.result c.in_err-node-2.field-0.0 c.from_residual-in_err-node-2.ensures))
    (walk_fails (g.R.Records.file c.args.nodes.now).words (g.R.Records.file c.args.nodes.now).format (g.R.Records.file c.args.nodes.now).grid.depth c.loop-height.height c.args.code
    (g.R.Records.file c.args.nodes.now).totals.records c.loop-height.node.number c.loop-height.node.word c.in_err-node-2.field-0.0 c.loop-height-test.true c.loop-height.invariant.word
    (subst (λ p. has_child c.loop-height.node.word p ≡ true) c.octant-place.ensures (sym c.if-not-has_bit.ensures))
    (λ below. c.in_err-node-2.ensures.below (subst (λ p. child_number c.loop-height.node.word p < c.loop-height.node.number) (sym c.octant-place.ensures) below))
    c.loop-height.invariant.leads)

pub loop-height-preserved : goal.loop-height-preserved
loop-height-preserved g c =
    let bit : has_child c.loop-height.node.word (c.args.code / 8 ^ (c.loop-height.height - 1) % 8) ≡ true =
    subst (λ p. has_child c.loop-height.node.word p ≡ true) c.octant-place.ensures (sym c.if-not-has_bit.ensures) in
    let number : c.in_ok-node-2.node.number ≡ child_number c.loop-height.node.word (c.args.code / 8 ^ (c.loop-height.height - 1) % 8) =
    c.in_ok-node-2.ensures.number ∙ ap (child_number c.loop-height.node.word) c.octant-place.ensures in
    record {
      leads = leads_down (g.R.Records.file c.args.nodes.now).words (g.R.Records.file c.args.nodes.now).format (g.R.Records.file c.args.nodes.now).grid.depth c.loop-height.height c.args.code
          (g.R.Records.file c.args.nodes.now).totals.records c.loop-height.node.number c.loop-height.node.word c.in_ok-node-2.node.number c.loop-height-test.true c.loop-height.invariant.word bit number c.loop-height.invariant.leads;
      led = led_down (g.R.Records.file c.args.nodes.now).words
          (λ words. led_to words (g.R.Records.file c.args.nodes.now).grid.depth c.args.code ((g.R.Records.file c.args.nodes.now).totals.records - 1))
          c.loop-height.height c.args.code (g.R.Records.file c.args.nodes.now).totals.records c.loop-height.node.number c.loop-height.node.word c.in_ok-node-2.node.number c.loop-height.invariant.least c.loop-height.invariant.word
          bit number c.loop-height.invariant.led;
      word = subst (λ (f : FileView). IsWordOf f.words f.totals.records c.in_ok-node-2.node.number c.in_ok-node-2.node.word) c.loop-height.invariant.same c.in_ok-node-2.ensures.word;
      least = omega (arith, c.loop-height-test.true);
      most = omega (arith, c.loop-height.invariant.most);
      few = omega (arith, c.loop-height-test.true, c.loop-height.invariant.few, c.in_ok-node-2.ensures.reads);
      looked = omega (arith, c.loop-height.invariant.looked, c.in_ok-node-2.ensures.looked);
      same = c.in_ok-node-2.ensures.same ∙ c.loop-height.invariant.same;
      lender = c.in_ok-node-2.ensures.lender ∙ c.loop-height.invariant.lender;
      later = omega (arith, c.loop-height.invariant.later, c.in_ok-node-2.ensures.cause.later);
    }
