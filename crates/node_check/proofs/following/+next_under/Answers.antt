-- Child after child, from the first that may have a cell that is asked for.
use Rattle.std.proofs.Common.{◌≡◌, ◌+◌, ◌-◌, ◌*◌, ◌/◌, ◌^◌, ◌<◌, ◌≤◌, true, Some, None, Ok, Err, refl, sym, subst, ◌∙◌, arith}
use Rattle.std.specs.Prelude.{IfSome}
use Rattle.svo_base.specs.declared.grids.TheConstants.{MAX_DEPTH}
use Rattle.node_file.specs.FileView.{FileView}
use Rattle.node_check.specs.Walks.{IsWordOf, passes}
use Rattle.node_check.specs.Cursors.{IsKept, IsParent}
use Rattle.node_check.proofs.FoundCells.{parent_here, parent_below}
use Rattle.node_check.proofs.NextCells.{Nones, Unders, none_passed, none_child, found_here, found_below, none_all, child_fails, under_fails, not_passed, child_code, code_small, up_from}
use Rattle.node_check.proofs.Walks.{err_is}
use Rattle.node_check.proofs.following.+next_under.Goals as goal

pub overflow_mul-child : goal.overflow_mul-child
overflow_mul-child g t c =
    let small : 8 * c.args.code + c.loop-place.place < 2 ^ 40 = code_small c.args.code c.loop-place.place c.args.height c.requires.least c.requires.most c.loop-place-test.true c.requires.code in
    omega (arith, small)

pub overflow_add-child : goal.overflow_add-child
overflow_add-child g t c =
    let small : 8 * c.args.code + c.loop-place.place < 2 ^ 40 = code_small c.args.code c.loop-place.place c.args.height c.requires.least c.requires.most c.loop-place-test.true c.requires.code in
    omega (arith, small)

pub loop-place-preserved-then-is_passed : goal.loop-place-preserved-then-is_passed
loop-place-preserved-then-is_passed g t c = record {
  none = none_passed (g.R.Records.file c.args.nodes.now).format (g.R.Records.file c.args.nodes.now).totals.records c.args.code c.args.node.now.number c.args.node.now.word c.args.from (g.R.Records.file c.args.nodes.now).words c.args.height c.loop-place.place c.requires.least c.loop-place-test.true c.requires.own
      (subst (λ n. passes c.args.node.now.word c.loop-place.place (8 * c.args.code + c.loop-place.place) n ≡ true) c.ancestor-least.ensures (sym c.if-is_passed.ensures)) c.loop-place.invariant.none;
  kept = c.loop-place.invariant.kept;
  looked = c.loop-place.invariant.looked;
  same = c.loop-place.invariant.same;
  lender = c.loop-place.invariant.lender;
  later = c.loop-place.invariant.later;
}

pub returns-then-below-eq0-clause-told : goal.returns-then-below-eq0-clause-told
returns-then-below-eq0-clause-told g t c =
    found_here (g.R.Records.file c.args.nodes.now).format (g.R.Records.file c.args.nodes.now).totals.records c.args.code c.args.node.now.number c.args.node.now.word c.args.from (g.R.Records.file c.args.nodes.now).words c.args.height c.loop-place.place (omega (arith, c.requires.least, c.if-below-eq0.true)) c.loop-place-test.true c.requires.own
    (not_passed c.args.node.now.word c.loop-place.place (8 * c.args.code + c.loop-place.place) c.ancestor-least.result (sym c.if-is_passed.ensures)) c.loop-place.invariant.none

pub returns-in_err-next-clause-told : goal.returns-in_err-next-clause-told
returns-in_err-next-clause-told g t c =
    subst (λ r. Unders (g.R.Records.file c.args.nodes.now).words (g.R.Records.file c.args.nodes.now).format c.args.height c.args.code c.args.node.now.number c.args.from r)
    (sym (err_is c.from_residual.result c.in_err-next.field-0.0 c.from_residual.ensures))
    (child_fails (g.R.Records.file c.args.nodes.now).format (g.R.Records.file c.args.nodes.now).totals.records c.args.code c.args.node.now.number c.args.node.now.word c.args.from (g.R.Records.file c.args.nodes.now).words c.args.height c.loop-place.place c.in_err-next.field-0.0 (omega (arith, c.requires.least, c.if-below-eq0.false)) c.loop-place-test.true c.requires.own
    (not_passed c.args.node.now.word c.loop-place.place (8 * c.args.code + c.loop-place.place) c.ancestor-least.result (sym c.if-is_passed.ensures)) c.in_err-next.ensures.below)

pub next_under-requires : goal.next_under-requires
next_under-requires g t c κs within =
    let code : (8 * c.args.code + c.loop-place.place) < 8 ^ (MAX_DEPTH - (c.args.height - 1)) = child_code c.args.code c.loop-place.place c.args.height c.requires.least c.requires.most c.loop-place-test.true c.requires.code in (
      omega (arith, c.decreases, c.requires.least),
      (
        within.0,
        (
          within.1,
          (
            omega (arith, c.requires.least, c.if-below-eq0.false),
            (
              omega (arith, c.requires.most),
              (
                code,
                (
                  subst (λ (f : FileView). IsWordOf f.words f.totals.records c.in_ok-next.next.number c.in_ok-next.next.word) (sym c.in_ok-next.ensures.same) c.in_ok-next.ensures.word,
                  subst (λ (f : FileView). IsKept f.words f.totals.records c.enter.new.self) (sym c.in_ok-next.ensures.same) c.in_ok-next.ensures.kept,
                ),
              ),
            ),
          ),
        ),
      ),
    )

pub returns-in_err-cell-clause-told : goal.returns-in_err-cell-clause-told
returns-in_err-cell-clause-told g t c =
    subst (λ r. Unders (g.R.Records.file c.args.nodes.now).words (g.R.Records.file c.args.nodes.now).format c.args.height c.args.code c.args.node.now.number c.args.from r)
    (sym (err_is c.from_residual-in_err-cell.result c.in_err-cell.field-0.0 c.from_residual-in_err-cell.ensures))
    (under_fails (g.R.Records.file c.args.nodes.now).format (g.R.Records.file c.args.nodes.now).totals.records c.args.code c.args.node.now.number c.args.node.now.word c.args.from (g.R.Records.file c.args.nodes.now).words c.args.height c.loop-place.place c.in_ok-next.next.number c.in_err-cell.field-0.0 (omega (arith, c.requires.least, c.if-below-eq0.false)) c.loop-place-test.true c.requires.own
    (not_passed c.args.node.now.word c.loop-place.place (8 * c.args.code + c.loop-place.place) c.ancestor-least.result (sym c.if-is_passed.ensures)) c.in_ok-next.ensures.number
    (subst (λ (f : FileView). Unders f.words f.format (c.args.height - 1) (8 * c.args.code + c.loop-place.place) c.in_ok-next.next.number c.args.from (Err c.in_err-cell.field-0.0)) (c.in_ok-next.ensures.same ∙ c.loop-place.invariant.same) c.in_err-cell.ensures.told))

pub returns-in-Some-clause-told : goal.returns-in-Some-clause-told
returns-in-Some-clause-told g t c =
    let inside : (c.args.from ≤ c.in-Some.cell) × (c.in-Some.cell / 8 ^ (c.args.height - 1) ≡ (8 * c.args.code + c.loop-place.place)) =
    subst (λ o. IfSome o (λ cell. (c.args.from ≤ cell) × (cell / 8 ^ (c.args.height - 1) ≡ (8 * c.args.code + c.loop-place.place)))) c.in-Some.is c.in_ok-cell.ensures.inside in
    found_below (g.R.Records.file c.args.nodes.now).format (g.R.Records.file c.args.nodes.now).totals.records c.args.code c.args.node.now.number c.args.node.now.word c.args.from (g.R.Records.file c.args.nodes.now).words c.args.height c.loop-place.place c.in_ok-next.next.number c.in-Some.cell (omega (arith, c.requires.least, c.if-below-eq0.false)) c.loop-place-test.true c.requires.own
    (not_passed c.args.node.now.word c.loop-place.place (8 * c.args.code + c.loop-place.place) c.ancestor-least.result (sym c.if-is_passed.ensures)) c.in_ok-next.ensures.number inside.1
    (subst (λ (f : FileView). Unders f.words f.format (c.args.height - 1) (8 * c.args.code + c.loop-place.place) c.in_ok-next.next.number c.args.from (Ok (Some c.in-Some.cell))) (c.in_ok-next.ensures.same ∙ c.loop-place.invariant.same)
    (subst (λ o. Unders (g.R.Records.file c.enter.new.nodes).words (g.R.Records.file c.enter.new.nodes).format (c.args.height - 1) (8 * c.args.code + c.loop-place.place) c.in_ok-next.next.number c.args.from (Ok o)) c.in-Some.is c.in_ok-cell.ensures.told)) c.loop-place.invariant.none

pub returns-in-Some-clause-inside : goal.returns-in-Some-clause-inside
returns-in-Some-clause-inside g t c =
    let inside : (c.args.from ≤ c.in-Some.cell) × (c.in-Some.cell / 8 ^ (c.args.height - 1) ≡ (8 * c.args.code + c.loop-place.place)) =
    subst (λ o. IfSome o (λ cell. (c.args.from ≤ cell) × (cell / 8 ^ (c.args.height - 1) ≡ (8 * c.args.code + c.loop-place.place)))) c.in-Some.is c.in_ok-cell.ensures.inside in
    (inside.0, up_from c.in-Some.cell c.args.height (8 * c.args.code + c.loop-place.place) c.args.code c.loop-place.place c.requires.least inside.1 refl c.loop-place-test.true)

pub loop-place-preserved : goal.loop-place-preserved
loop-place-preserved g t c = record {
  none = none_child (g.R.Records.file c.args.nodes.now).format (g.R.Records.file c.args.nodes.now).totals.records c.args.code c.args.node.now.number c.args.node.now.word c.args.from (g.R.Records.file c.args.nodes.now).words c.args.height c.loop-place.place c.in_ok-next.next.number (omega (arith, c.requires.least, c.if-below-eq0.false)) c.loop-place-test.true c.requires.own
      (not_passed c.args.node.now.word c.loop-place.place (8 * c.args.code + c.loop-place.place) c.ancestor-least.result (sym c.if-is_passed.ensures)) c.in_ok-next.ensures.number
      (subst (λ (f : FileView). Unders f.words f.format (c.args.height - 1) (8 * c.args.code + c.loop-place.place) c.in_ok-next.next.number c.args.from (Ok None)) (c.in_ok-next.ensures.same ∙ c.loop-place.invariant.same)
      (subst (λ o. Unders (g.R.Records.file c.enter.new.nodes).words (g.R.Records.file c.enter.new.nodes).format (c.args.height - 1) (8 * c.args.code + c.loop-place.place) c.in_ok-next.next.number c.args.from (Ok o)) c.in_default.is c.in_ok-cell.ensures.told)) c.loop-place.invariant.none;
  kept = subst (λ (f : FileView). IsKept f.words f.totals.records c.next_under.new.path) (c.in_ok-next.ensures.same ∙ c.loop-place.invariant.same) c.in_ok-cell.ensures.kept;
  looked = omega (arith, c.loop-place.invariant.looked, c.in_ok-next.ensures.looked, c.in_ok-cell.ensures.looked);
  same = c.in_ok-cell.ensures.same ∙ (c.in_ok-next.ensures.same ∙ c.loop-place.invariant.same);
  lender = c.in_ok-cell.ensures.lender ∙ (c.in_ok-next.ensures.lender ∙ c.loop-place.invariant.lender);
  later = omega (arith, c.loop-place.invariant.later, c.in_ok-next.ensures.cause.later, c.in_ok-cell.ensures.cause.later);
}

pub returns-clause-told : goal.returns-clause-told
returns-clause-told g t c =
    none_all (g.R.Records.file c.args.nodes.now).format (g.R.Records.file c.args.nodes.now).totals.records c.args.code c.args.node.now.number c.args.node.now.word c.args.from (g.R.Records.file c.args.nodes.now).words c.args.height c.requires.least
    (subst (λ n. Nones (g.R.Records.file c.args.nodes.now).words (g.R.Records.file c.args.nodes.now).format c.args.height c.args.code c.args.node.now.number c.args.from (8 * c.args.code + n))
    (let done : c.loop-place.place ≡ 8 = omega (arith, c.loop-place-test.false, c.loop-place.auto.place-end) in done) c.loop-place.invariant.none)

pub returns-then-below-eq0-clause-parent : goal.returns-then-below-eq0-clause-parent
returns-then-below-eq0-clause-parent g t c =
    parent_here (g.R.Records.file c.args.nodes.now).words (g.R.Records.file c.args.nodes.now).totals.records (g.R.Records.file c.args.nodes.now).format c.args.height c.args.code c.loop-place.place c.args.node.now
    (omega (arith, c.requires.least, c.if-below-eq0.true)) c.loop-place-test.true c.requires.own
    (not_passed c.args.node.now.word c.loop-place.place (8 * c.args.code + c.loop-place.place) c.ancestor-least.result (sym c.if-is_passed.ensures))

pub returns-in-Some-clause-parent : goal.returns-in-Some-clause-parent
returns-in-Some-clause-parent g t c =
    let inside : (c.args.from ≤ c.in-Some.cell) × (c.in-Some.cell / 8 ^ (c.args.height - 1) ≡ (8 * c.args.code + c.loop-place.place)) =
    subst (λ o. IfSome o (λ cell. (c.args.from ≤ cell) × (cell / 8 ^ (c.args.height - 1) ≡ (8 * c.args.code + c.loop-place.place)))) c.in-Some.is c.in_ok-cell.ensures.inside in
    parent_below (g.R.Records.file c.args.nodes.now).words (g.R.Records.file c.args.nodes.now).totals.records (g.R.Records.file c.args.nodes.now).format c.args.height c.args.code c.loop-place.place c.in_ok-next.next.number
    c.args.node.now.number c.args.node.now.word c.in-Some.cell c.next_under.new.path.parent (omega (arith, c.requires.least, c.if-below-eq0.false)) c.loop-place-test.true c.requires.own
    (not_passed c.args.node.now.word c.loop-place.place (8 * c.args.code + c.loop-place.place) c.ancestor-least.result (sym c.if-is_passed.ensures)) c.in_ok-next.ensures.number inside.1
    (subst (λ (f : FileView). IsParent f.words f.totals.records f.format (c.args.height - 1) (8 * c.args.code + c.loop-place.place) c.in_ok-next.next.number c.in-Some.cell c.next_under.new.path.parent) (c.in_ok-next.ensures.same ∙ c.loop-place.invariant.same)
    (subst (λ o. IfSome o (λ cell. IsParent (g.R.Records.file c.enter.new.nodes).words (g.R.Records.file c.enter.new.nodes).totals.records (g.R.Records.file c.enter.new.nodes).format (c.args.height - 1) (8 * c.args.code + c.loop-place.place) c.in_ok-next.next.number cell c.next_under.new.path.parent))
    c.in-Some.is c.in_ok-cell.ensures.parent))
