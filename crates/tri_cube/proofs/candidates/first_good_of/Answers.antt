-- Nothing in the pairs so far, and so what is found in the next, or nothing in all.
use Rattle.std.proofs.Common.{◌++◌, [], sym, ◌∙◌, arith, below_more}
use Rattle.case_table.specs.CaseLists.{row_pair_list}
use Rattle.octree_specs.specs.Candidates.{is_good}
use Rattle.tri_cube.specs.CandidatesInTurn.{candidates_by_case}
use Rattle.tri_cube.specs.Sides.{unit_rows}
use Rattle.tri_cube.proofs.FirstGood.{find_next, find_none, none_of, pair_count}
use Rattle.tri_cube.proofs.candidates.first_good_of.Goals as goal

pub returns-then-is_some : goal.returns-then-is_some
returns-then-is_some c =
    find_next (is_good (unit_rows ++ c.args.sides.now)) (candidates_by_case c.args.rows.now) [] row_pair_list c.loop-place.place c.good_at-found.result
    (omega (arith, c.loop-place-test.true, pair_count)) c.loop-place.invariant c.good_at-found.ensures (sym c.is_some.ensures ∙ c.if-is_some.true)

pub loop-place-preserved : goal.loop-place-preserved
loop-place-preserved c =
    below_more _ _ c.loop-place.invariant (sym c.good_at-found.ensures ∙ none_of c.good_at-found.result (sym c.is_some.ensures ∙ c.if-is_some.false))

pub returns : goal.returns
returns c =
    sym (find_none (is_good (unit_rows ++ c.args.sides.now)) (candidates_by_case c.args.rows.now) [] row_pair_list
    (λ k below. c.loop-place.invariant k (omega (arith, below, c.loop-place-test.false, pair_count))))
