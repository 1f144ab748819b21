-- No candidate of the pairs so far is good.
use Rattle.std.proofs.Common.{◌≡◌, ℕ, ◌<◌, ◌++◌, None, [], get_or}
use Rattle.std.specs.List.{find}
use Rattle.case_table.specs.CaseLists.{row_pair_list}
use Rattle.octree_specs.specs.Candidates.{is_good}
use Rattle.tri_cube.specs.CandidatesInTurn.{candidates_by_case}
use Rattle.tri_cube.specs.Sides.{unit_rows}
use Rattle.tri_cube.proofs.candidates.first_good_of.Given as goal

abbrev pub invariant-loop-place : goal.invariant-loop-place
invariant-loop-place l =
    (k : ℕ) → k < l.place → find (is_good (unit_rows ++ l.sides)) (candidates_by_case l.rows (get_or row_pair_list k [])) ≡ None
