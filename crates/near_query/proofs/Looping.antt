-- A search, node by node.
use Rattle.std.proofs.Common.{◌≡◌, ℕ, ◌+◌, ◌-◌, ◌^◌, ◌<◌, ◌≤◌, true, false, List, [], ◌∷◌, ℤ, Option, None, IfSome, Result, Ok, Err, arith, ap, subst, sym, ◌∙◌}
use Rattle.std.specs.Prelude.{All, slice_index}
use Rattle.std.specs.Result.{IfErr, IsErr, IsErrAnd}
use Rattle.std.specs.List.Sorted.{IsPermutation}
use Rattle.std.proofs.lemmas.List.Elements.{All-cons, All-head, All-nil, All-tail}
use Rattle.std.proofs.lemmas.List.Sorted.{All-permutation}
use Rattle.svo_base.specs.GridShape.{GridShape}
use Rattle.octree_specs.specs.Cells.{Cell}
use Rattle.octree_specs.specs.Walking.{HasMasks}
use Rattle.node_file.specs.FileView.{FileView, IsFileView}
use Rattle.ray_walk.specs.Answers.{TellsCells}
use Rattle.near_query.specs.Distances.{distance_to}
use Rattle.near_query.specs.Faults.{RefusesNone}
use Rattle.near_query.specs.Frontiers.{IsFrontier, IsOnTree, IsUnder, IsVisited}
use Rattle.near_query.specs.Nearest.{AreFew, IsNearest, is_closer}
use Rattle.near_query.specs.Nodes.{IsNode, is_nearer_than}
use Rattle.near_query.specs.declared.cells.NearCell.{NearCell}
use Rattle.near_query.specs.declared.cells.NearFault.{NearFault}
use Rattle.near_query.specs.declared.cells.NearFault.TheVariants.{Memory}
use Rattle.near_query.specs.declared.queues.Waiting.{Waiting}
use Rattle.near_query.proofs.Covering.{IsSearching, begins, ended, few_so_far, is_close, moved_on, one_read, popped_front, popped_tree, ran_out}
use Rattle.near_query.proofs.Trees.{code_inside, root_leads}

-- nodes of the grid wait, whose words are there, and the best cell is one of the grid's; where the words stand for cells, what is known of them
pub record IsLooping (point : List ℤ) (file : FileView) (best : Option NearCell) (waiting : List Waiting) (before now : ℕ) : Type 0 where
  pub nodes : All (IsNode point file.grid) waiting
  pub there : All (λ node. node.number < file.totals.records) waiting
  pub code : IfSome best (λ cell. cell.code < 8 ^ file.grid.depth)
  pub told : (cells : List Cell) (tells : TellsCells file cells) → IsSearching tells.words cells point file.grid best waiting before now

module _ (point : List ℤ) (file : FileView) (grid : GridShape) (same : grid ≡ file.grid) where
  pub starts : (root : Waiting) (old waiting : List Waiting) (before : ℕ) → IsFileView file → root.height ≡ grid.depth → root.code ≡ 0 → root.number ≡ file.totals.records - 1
      → root.distance ≡ distance_to point grid grid.depth 0 → old ≡ [] → IsPermutation (root ∷ old) waiting → IsLooping point file None waiting before before
  starts root old waiting before view is_height is_code is_number at empty moved =
      let alone : IsPermutation (root ∷ []) waiting = subst (λ list. IsPermutation (root ∷ list) waiting) empty moved in
      let depth : root.height ≡ file.grid.depth = is_height ∙ ap (λ g. g.depth) same in
      let is : IsNode point file.grid root = record {
        above = omega (arith, depth, view.limits.halved);
        within = omega (arith, depth);
        inside = let none : file.grid.depth - root.height ≡ 0 = omega (arith, depth) in rw (none, is_code) (omega arith);
        at = at ∙ (ap (λ g. distance_to point g g.depth 0) same ∙ (ap (λ h. distance_to point file.grid h 0) (sym depth) ∙ ap (distance_to point file.grid root.height) (sym is_code)));
      } in
      record {
        nodes = All-permutation (IsNode point file.grid) (root ∷ []) waiting alone (All-cons (IsNode point file.grid) root [] is (All-nil (IsNode point file.grid)));
        there = All-permutation (λ node. node.number < file.totals.records) (root ∷ []) waiting alone
            (All-cons (λ node. node.number < file.totals.records) root [] (omega (arith, is_number, view.some)) (All-nil (λ (node : Waiting). node.number < file.totals.records)));
        code = tt;
        told = λ cells tells. begins tells.words cells point file.grid root waiting before alone depth is_code
            (subst (λ c. HasMasks tells.words cells root.height c root.number) (sym is_code) (root_leads file cells tells root.height root.number view depth is_number))
            (code_inside file cells tells);
      }

  module _ (best : Option NearCell) (node : Waiting) (old rest : List Waiting) (before now : ℕ) (moved : IsPermutation old (node ∷ rest)) (loop : IsLooping point file best old before now) where
    all_nodes : All (IsNode point file.grid) (node ∷ rest)
    all_nodes = All-permutation (IsNode point file.grid) old (node ∷ rest) moved loop.nodes

    all_there : All (λ other. other.number < file.totals.records) (node ∷ rest)
    all_there = All-permutation (λ other. other.number < file.totals.records) old (node ∷ rest) moved loop.there

    pub number_there : node.number < file.totals.records
    number_there = All-head (λ (other : Waiting). other.number < file.totals.records) node rest all_there

    pub first_is : IsNode point grid node
    first_is = subst (λ g. IsNode point g node) (sym same) (All-head (IsNode point file.grid) node rest all_nodes)

    pub rest_are : All (IsNode point grid) rest
    rest_are = subst (λ g. All (IsNode point g) rest) (sym same) (All-tail (IsNode point file.grid) node rest all_nodes)

    pub code_kept : IfSome best (λ cell. cell.code < 8 ^ grid.depth)
    code_kept = subst (λ g. IfSome best (λ cell. cell.code < 8 ^ g.depth)) (sym same) loop.code

    module _ (least : All (λ other. node.distance ≤ other.distance) rest) where
      front_of : (cells : List Cell) (tells : TellsCells file cells) → IsFrontier tells.words cells point file.grid best rest (IsUnder node)
      front_of cells tells = popped_front tells.words cells point file.grid best node old rest moved (loop.told cells tells).frontier

      closes : (cells : List Cell) (tells : TellsCells file cells) → is_nearer_than best node.distance ≡ false → (nearest : Option NearCell) → IsNearest point file.grid cells nearest → is_closer point file.grid nearest node.height node.code ≡ true
      closes cells tells near nearest is =
          is_close tells.words cells point file.grid best node rest nearest (All-head (IsNode point file.grid) node rest all_nodes) (All-tail (IsNode point file.grid) node rest all_nodes) least near (front_of cells tells) is

      -- the best is nearer than all that wait
      pub found_first : is_nearer_than best node.distance ≡ true → (cells : List Cell) → TellsCells file cells → IsNearest point file.grid cells best
      found_first near cells tells =
          ended tells.words cells point file.grid best node rest (All-head (IsNode point file.grid) node rest all_nodes) (All-tail (IsNode point file.grid) node rest all_nodes) least near (front_of cells tells)

      -- the reads with that of the node
      pub few_with_it : (after : ℕ) → is_nearer_than best node.distance ≡ false → after ≡ now + 1 → (cells : List Cell) → TellsCells file cells → AreFew point file.grid cells before after
      few_with_it after near one cells tells nearest is =
          omega (arith, one, one_read tells.words cells point file.grid best node old rest before now moved (All-head (IsNode point file.grid) node rest all_nodes).above (closes cells tells near) (loop.told cells tells) nearest is)

      on_tree : (word : ℕ) (cells : List Cell) (tells : TellsCells file cells) → IfSome file.words (λ words. word ≡ slice_index words node.number) → IsOnTree tells.words cells node word
      on_tree word cells tells own = record {
        tree = popped_tree tells.words cells point file.grid best node old rest moved (loop.told cells tells).frontier;
        own = subst (λ told. IfSome told (λ words. word ≡ slice_index words node.number)) tells.told own;
      }

      -- the node's children are seen to
      pub goes_on : (word after : ℕ) (next : Option NearCell) (later : List Waiting) → is_nearer_than best node.distance ≡ false → after ≡ now + 1
          → IfSome file.words (λ words. word ≡ slice_index words node.number)
          → ((words : List ℕ) (cells : List Cell) → IsOnTree words cells node word → IsVisited words cells point grid node best rest later (Ok next))
          → All (IsNode point grid) later → ((records : ℕ) → node.number < records → All (λ other. other.number < records) rest → All (λ other. other.number < records) later)
          → IfSome next (λ cell. cell.code < 8 ^ grid.depth) → IsLooping point file next later before after
      goes_on word after next later near one own visited nodes there code = record {
        nodes = subst (λ g. All (IsNode point g) later) same nodes;
        there = there file.totals.records number_there (All-tail (λ (other : Waiting). other.number < file.totals.records) node rest all_there);
        code = subst (λ g. IfSome next (λ cell. cell.code < 8 ^ g.depth)) same code;
        told = λ cells tells.
            let seen : IsVisited tells.words cells point file.grid node best rest later (Ok next) =
            subst (λ g. IsVisited tells.words cells point g node best rest later (Ok next)) same (visited tells.words cells (on_tree word cells tells own)) in
            subst (λ n. IsSearching tells.words cells point file.grid next later before n) (sym one)
            (moved_on tells.words cells point file.grid best next node old rest later before now moved (closes cells tells near) (seen.frontier (front_of cells tells)) seen.fewer (loop.told cells tells));
      }

      -- a stop among its children is for want of memory
      pub stops_free : (word : ℕ) (later : List Waiting) (result : Result (Option NearCell) NearFault) → IfSome file.words (λ words. word ≡ slice_index words node.number)
          → ((words : List ℕ) (cells : List Cell) → IsOnTree words cells node word → IsVisited words cells point grid node best rest later result)
          → (cells : List Cell) → TellsCells file cells → IfErr result (λ fault. fault ≡ Memory)
      stops_free word later result own visited cells tells = (visited tells.words cells (on_tree word cells tells own)).sound

-- none waits
pub found_last : (point : List ℤ) (file : FileView) (best : Option NearCell) (waiting : List Waiting) (before now : ℕ) → waiting ≡ [] → IsLooping point file best waiting before now
    → (cells : List Cell) → TellsCells file cells → IsNearest point file.grid cells best
found_last point file best waiting before now empty loop cells tells = ran_out tells.words cells point file.grid best waiting empty (loop.told cells tells).frontier

pub few_now : (point : List ℤ) (file : FileView) (best : Option NearCell) (waiting : List Waiting) (before now : ℕ) → IsLooping point file best waiting before now
    → (cells : List Cell) → TellsCells file cells → AreFew point file.grid cells before now
few_now point file best waiting before now loop cells tells = few_so_far tells.words cells point file.grid best waiting before now (loop.told cells tells)

-- a count that rose no more than another
pub few_alike : (point : List ℤ) (grid : GridShape) (cells : List Cell) (before after first last : ℕ) → last + before ≤ first + after → AreFew point grid cells before after → AreFew point grid cells first last
few_alike point grid cells before after first last less few nearest is = omega (arith, less, few nearest is)

-- what `?` answers
pub memory_out : {A : Type 0} (result : Result A NearFault) (fault : NearFault) → IsErr result × IsErrAnd result (λ e. e ≡ fault) → fault ≡ Memory → IfErr result RefusesNone
memory_out (Ok x) fault is memory = tt
memory_out (Err e) fault is memory = subst RefusesNone (sym (is.1 ∙ memory)) tt
