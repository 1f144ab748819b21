-- The table names two of the nine rows.
use Rattle.std.proofs.Common.{◌≡◌, ◌++◌, [], get_or, arith, rules, ap, ◌∙◌}
use Rattle.std.specs.List.{find, slice_index}
use Rattle.case_table.specs.CaseLists.{row_pair_list}
use Rattle.octree_specs.specs.Candidates.{is_good}
use Rattle.tri_cube.specs.CandidatesInTurn.{candidates_at}
use Rattle.tri_cube.specs.Sides.{unit_rows}
use Rattle.tri_cube.proofs.FirstGood.{pair_of_rows, by_case}
use Rattle.tri_cube.proofs.candidates.good_at.Goals as goal

pub listed : goal.listed
listed c =
    let found = c.get.ensures ∙ ap (λ xs. get_or xs c.args.place []) c.requires.pairs in
    omega (arith, c.from.ensures ∙ ap (λ f. slice_index f 0) found, (pair_of_rows c.args.place c.requires.place).first, c.told-rows)

pub bounds-rows-from : goal.bounds-rows-from
bounds-rows-from c =
    let found = c.get.ensures ∙ ap (λ xs. get_or xs c.args.place []) c.requires.pairs in
    omega (arith, c.from.ensures ∙ ap (λ f. slice_index f 0) found, (pair_of_rows c.args.place c.requires.place).first)

pub listed-2 : goal.listed-2
listed-2 c =
    let found = c.get.ensures ∙ ap (λ xs. get_or xs c.args.place []) c.requires.pairs in
    omega (arith, c.from-2.ensures ∙ ap (λ f. slice_index f 1) found, (pair_of_rows c.args.place c.requires.place).second, c.told-rows)

pub bounds-rows-from-2 : goal.bounds-rows-from-2
bounds-rows-from-2 c =
    let found = c.get.ensures ∙ ap (λ xs. get_or xs c.args.place []) c.requires.pairs in
    omega (arith, c.from-2.ensures ∙ ap (λ f. slice_index f 1) found, (pair_of_rows c.args.place c.requires.place).second)

pub returns : goal.returns
returns c =
    let found = c.get.ensures ∙ ap (λ xs. get_or xs c.args.place []) c.requires.pairs in
    let first = c.from.ensures ∙ ap (λ f. slice_index f 0) found in
    let second = c.from-2.ensures ∙ ap (λ f. slice_index f 1) found in
    let pair = pair_of_rows c.args.place c.requires.place in
    let is : c.good_of.result ≡ find (is_good (unit_rows ++ c.args.sides.now)) (candidates_at c.index-rows-from.result c.index-rows-from-2.result) = search (rules, c.good_of.ensures) in
    by_case (is_good (unit_rows ++ c.args.sides.now)) c.args.rows.now (get_or row_pair_list c.args.place []) c.from.result c.from-2.result c.index-rows-from.result c.index-rows-from-2.result c.good_of.result first second
    (omega (arith, first, pair.first, c.told-rows)) (omega (arith, second, pair.second, c.told-rows)) c.index-rows-from.is c.index-rows-from-2.is is
