-- The file of the cells that were pushed, from its begin on to its end.
use Rattle.std.proofs.Common.{◌≡◌, ℕ, ◌+◌, ◌-◌, ◌*◌, ◌^◌, ◌<◌, ◌≤◌, List, [], ◌++◌, length, arith, refl, sym, subst, ap, ◌∙◌}
use Rattle.std.specs.Prelude.{Option}
use Rattle.std.specs.Io.KnownBytes.{append_known}
use Rattle.std.proofs.lemmas.List.{length-append}
use Rattle.std.proofs.lemmas.List.Elements.{All-nil, All-weaker}
use Rattle.dev_traits.specs.declared.device.ByteSink.{Ghosts}
use Rattle.svo_base.specs.GridShape.{GridShape}
use Rattle.octree_specs.specs.Cells.{Cell, AreFacedCells}
use Rattle.octree_specs.specs.Formats.{file_words}
use Rattle.octree_specs.specs.OctreeFile.{header_of, trailer_of, image_of}
use Rattle.grid_parts.proofs.Growing.{none_filled}
use Rattle.node_file.specs.declared.records.Totals.{Totals}
use Rattle.node_file.specs.declared.writer.NodeWriter.{NodeWriter}
use Rattle.node_file.specs.Waiting.{GrewByFront}
use Rattle.node_file.specs.Writing.{given, waiting}
use Rattle.level_queues.specs.Pushed.{IsQueued, GoesOn}
use Rattle.level_queues.specs.PushedFiles.{AreBelow, HasPushed}
use Rattle.level_queues.specs.Fronts.{Ascend, GrewToward}
use Rattle.level_queues.specs.declared.levels.LevelQueues.{LevelQueues}
use Rattle.level_queues.proofs.FileFronts.{front_begun, front_now, front_ended, front_closed}
use Rattle.level_queues.proofs.Onward.{goes_nowhere, goes_further}
use Rattle.level_queues.proofs.WholeFile.{whole_file}
use Rattle.build_core.specs.Pushing.{PushesOn, LeavesFront}
use Rattle.build_core.specs.ScratchParts.{HasPartsOf}
use Rattle.build_core.specs.PutFiles.{HasPutFile, HasPutFront}
use Rattle.build_core.proofs.LaterCells.{all_later}

-- ---- cells of the grid

faced_cells : (grid : GridShape) (bound : ℕ) (cells : List Cell) → bound ≤ 8 ^ grid.depth → AreBelow bound cells → AreFacedCells grid.depth cells
faced_cells grid bound cells within are = record {
  ascending = are.ascending;
  inside = All-weaker (λ (cell : Cell). cell.code < bound) (λ (cell : Cell). cell.code < 8 ^ grid.depth) (λ cell below. omega (arith, below, within)) cells are.inside;
  faces = are.faces;
}

faced_ascend : (grid : GridShape) (cells : List Cell) → AreFacedCells grid.depth cells → Ascend grid.depth cells
faced_ascend grid cells are = record { ascending = are.ascending; inside = are.inside }

-- ---- a fault before all parts were pushed

pub front_left : (grid : GridShape) (split : ℕ) (start written : Option (List ℕ)) (known : Option (List (List ℕ))) (moves moved : ℕ)
    → LeavesFront grid start 0 (8 ^ grid.depth) [] (HasPartsOf grid split known) written moves moved → HasPutFront grid split known start written moves moved
front_left grid split start written known moves moved leaves = record {
  some =
      let are : AreFacedCells grid.depth leaves.more = faced_cells grid leaves.bound leaves.more leaves.within leaves.holds.below in
      record { cells = leaves.more; are = are; front = front_now grid leaves.more start written (faced_ascend grid leaves.more are) leaves.holds.front; few_moves = omega (arith, leaves.few_moves) };
  filled = λ faced parts.
      let later = all_later grid faced leaves.bound leaves.more leaves.within (leaves.filled faced parts (none_filled grid faced)) in
      let ascend : Ascend grid.depth (leaves.more ++ later.0) = record { ascending = later.1.ascending; inside = later.1.inside } in
      let all : grid.depth * length (leaves.more ++ later.0) ≡ grid.depth * length leaves.more + grid.depth * length later.0 = ap (λ n. grid.depth * n) (length-append leaves.more later.0) ∙ omega arith in
      record { cells = leaves.more ++ later.0; are = later.1; front = leaves.holds.front.follows later.0 ascend; few_moves = omega (arith, leaves.few_moves, all) };
}

-- ---- all parts were pushed

module _ {O : Type 0} {g : Ghosts O} (grid : GridShape) (split : ℕ) (told : Option (List (List ℕ))) (start : Option (List ℕ)) (queues : LevelQueues) (writer : NodeWriter O g)
    (moves middle : ℕ) (on : PushesOn grid start 0 (8 ^ grid.depth) [] (HasPartsOf grid split told) queues writer moves middle) where
  are_cells : AreFacedCells grid.depth on.more
  are_cells = faced_cells grid (8 ^ grid.depth) on.more (omega arith) on.pushed.holds.below

  -- the end takes at most a move a level, as each of them did
  all_few : (moved : ℕ) → moved ≤ middle + queues.depth → moved ≤ moves + grid.depth * (length on.more + 1)
  all_few moved last = omega (arith, on.few_moves, last, on.pushed.depth)

  -- a front of their file
  pub front_of_all : (written : Option (List ℕ)) (moved : ℕ) → moved ≤ middle + queues.depth → GrewByFront start written (image_of 2 grid on.more) → HasPutFront grid split told start written moves moved
  front_of_all written moved last front = record {
    some = record { cells = on.more; are = are_cells; front = front; few_moves = all_few moved last };
    filled = λ faced parts. record { cells = on.more; are = on.filled faced parts (none_filled grid faced); front = front; few_moves = all_few moved last };
  }

  -- after the last words were given, or refused
  pub all_ended : (after : Option (List ℕ)) → ((cells : List Cell) → (words : List ℕ) → IsQueued cells queues words → GrewToward words (file_words 2 queues.depth cells) (g.written writer.sink.now) after (waiting writer))
      → GrewByFront start after (image_of 2 grid on.more)
  all_ended after front =
      front_ended grid on.more on.pushed.queued.more (waiting writer) start (g.written writer.sink.now) after queues.depth
      (front_now grid on.more start (g.written writer.sink.now) (faced_ascend grid on.more are_cells) on.pushed.holds.front)
      on.pushed.queued.grown on.pushed.depth (front on.more on.pushed.queued.more on.pushed.queued.holds)

  -- once the words were given
  module _ (ended : NodeWriter O g) (totals : Totals)
      (words_given : (cells : List Cell) → (words : List ℕ) → IsQueued cells queues words → GoesOn words (given writer) (given ended) (λ all. all ≡ file_words 2 queues.depth cells))
      (counted : (cells : List Cell) → (words : List ℕ) → IsQueued cells queues words → totals ≡ record { records = length (file_words 2 queues.depth cells); cells = length cells })
      (records : ended.records ≡ totals.records) where
    all_given : GoesOn [] (append_known start (header_of 2 grid)) (given ended) (λ all. all ≡ file_words 2 queues.depth on.more)
    all_given = goes_further [] (append_known start (header_of 2 grid)) (given writer) (given ended) (IsQueued on.more queues) (λ all. all ≡ file_words 2 queues.depth on.more)
        on.pushed.queued (words_given on.more)

    words_are : all_given.more ≡ file_words 2 grid.depth on.more
    words_are = all_given.holds ∙ ap (λ d. file_words 2 d on.more) on.pushed.depth

    totals_are : totals ≡ record { records = length (file_words 2 queues.depth on.more); cells = length on.more }
    totals_are = counted on.more on.pushed.queued.more on.pushed.queued.holds

    records_are : ended.records ≡ length all_given.more
    records_are = records ∙ (ap (λ (t : Totals). t.records) totals_are ∙ ap length (sym all_given.holds))

    -- after the trailer was put, or refused
    pub all_closed : (closed : Option (List ℕ)) → GrewByFront start (g.written ended.sink.now) (image_of 2 grid on.more)
        → GrewByFront (g.written ended.sink.now) closed (waiting ended ++ trailer_of 2 ended.records totals.cells) → GrewByFront start closed (image_of 2 grid on.more)
    all_closed closed front close =
        front_closed grid on.more all_given.more (waiting ended) start (g.written ended.sink.now) closed ended.records totals.cells front
        all_given.grown words_are records_are (ap (λ (t : Totals). t.cells) totals_are) close

    -- the whole file
    pub all_put : (closed : Option (List ℕ)) (moved : ℕ) → closed ≡ append_known (given ended) (trailer_of 2 ended.records totals.cells)
        → moved ≤ middle + queues.depth → HasPutFile grid split told start closed totals moves moved
    all_put closed moved put last =
        record {
          cells = on.more;
          are = are_cells;
          written = whole_file start (append_known start (header_of 2 grid)) (given ended) closed grid on.more all_given.more ended.records totals.cells
              refl all_given.grown put words_are records_are (ap (λ (t : Totals). t.cells) totals_are);
          totals_are = totals_are ∙ (λ i. record { records = length (file_words 2 (on.pushed.depth i) on.more); cells = length on.more });
          few_moves = all_few moved last;
          filled = λ faced parts. on.filled faced parts (none_filled grid faced);
        }
