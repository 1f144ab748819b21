-- The file of the map whose cells were pushed, or a front of it.
use Rattle.std.proofs.Common.{◌≡◌, ℕ, zero, suc, ◌+◌, ◌*◌, ◌^◌, ◌≤◌, List, ◌++◌, length, Option, Some, Result, Ok, Err, inr, refl, sym, ap, subst, ◌∙◌, arith}
use Rattle.std.specs.Io.KnownBytes.{append_known}
use Rattle.dev_traits.specs.declared.device.ByteSink.{Ghosts}
use Rattle.svo_base.specs.GridShape.{GridShape}
use Rattle.octree_specs.specs.Cells.{Cell, AreFacedCells}
use Rattle.octree_specs.specs.Formats.{StandFor, file_words}
use Rattle.octree_specs.specs.OctreeFile.{trailer_of, image_of}
use Rattle.octree_laws.proofs.Maps.{one_map}
use Rattle.node_file.specs.FileView.{FileView}
use Rattle.node_file.specs.Waiting.{GrewByFront}
use Rattle.node_file.specs.Writing.{given, waiting}
use Rattle.node_file.specs.declared.records.Totals.{Totals}
use Rattle.node_file.specs.declared.writer.NodeWriter.{NodeWriter}
use Rattle.node_check.specs.Stops.{Puts}
use Rattle.node_check.specs.declared.stops.AnswerStop.{AnswerStop}
use Rattle.node_check.specs.declared.stops.AnswerStop.TheVariants.{WriteFault, Walk}
use Rattle.node_check.specs.declared.walking.WalkFault.TheVariants.{Failed, Refused}
use Rattle.level_queues.specs.Pushed.{IsQueued, GoesOn}
use Rattle.level_queues.specs.PushedFiles.{AreBelow}
use Rattle.level_queues.specs.Fronts.{Ascend, GrewToward}
use Rattle.level_queues.specs.declared.levels.LevelQueues.{LevelQueues}
use Rattle.cell_lists.specs.Lifted.{Accepts}
use Rattle.cell_lists.specs.Lifted as lifted
use Rattle.cell_lists.proofs.Lifts.{ended_put, closed_put, all_put, few_moves}
use Rattle.node_merge.specs.Pushing.{PutsMap, PushesAll, HoldsFirst}
use Rattle.node_merge.proofs.Below.{all_ascend}
use Rattle.node_merge.proofs.ToMaps.{Covers}

-- a file of format 2 that tells the words of these cells
abbrev file_like : GridShape → List Cell → FileView
file_like grid cells = record { format = 2; grid = grid; totals = record { records = 1; cells = 0 }; words = Some (file_words 2 grid.depth cells) }

stand_self : (depth : ℕ) (cells : List Cell) → AreFacedCells depth cells → StandFor 2 depth (file_words 2 depth cells) cells
stand_self depth cells are = record {
  cells_are = record { known = inr refl; map = are; faceless = λ one. absurd (omega (arith, one)) };
  words_are = refl;
}

one_of : (depth : ℕ) → 1 ≤ depth → (xs ys : List Cell) → AreFacedCells depth xs → StandFor 2 depth (file_words 2 depth xs) ys → xs ≡ ys
one_of zero least xs ys are stand = absurd (omega (arith, least))
one_of (suc levels) least xs ys are stand = one_map 2 levels (file_words 2 (suc levels) xs) xs ys (stand_self (suc levels) xs are) stand

-- a stop before all cells were pushed
pub first_stop : (T : Type 0) (grid : GridShape) (start written : Option (List ℕ)) (Faces : (ℕ → Option ℕ) → Type 0) (Known : List Cell → Type 0) (stop : AnswerStop) → Covers grid Faces Known
    → ((cells : List Cell) → Known cells → Accepts {T = T} (Err stop)) → HoldsFirst grid start Known written → PutsMap {T = T} grid Known start written (Err stop)
first_stop T grid start written Faces Known stop covers unrefused holds cells known = put stop (unrefused cells known)
  where
    front : GrewByFront start written (image_of 2 grid cells)
    front =
        let cover = covers cells known in
        let parts = holds.first cells known in
        let ascend : Ascend grid.depth cells = subst (Ascend grid.depth) (sym cover.2) (all_ascend grid.depth cover.0) in
        subst (λ l. GrewByFront start written (image_of 2 grid l)) parts.1 (holds.front.follows parts.0 (subst (Ascend grid.depth) (sym parts.1) ascend))

    put : (stop : AnswerStop) → Accepts {T = T} (Err stop) → Puts {T = T} start written (image_of 2 grid cells) (Err stop)
    put WriteFault accepts = front
    put (Walk Failed) accepts = front
    put (Walk (Refused number word)) accepts = accepts

module _ {O : Type 0} {g : Ghosts O} (grid : GridShape) (start : Option (List ℕ)) (Known : List Cell → Type 0) (queues : LevelQueues) (writer : NodeWriter O g) (least : 1 ≤ grid.depth)
    (on : PushesAll grid start Known queues writer) where
  faced : (all : List Cell) → Known all → AreFacedCells grid.depth all
  faced all known =
      let below : AreBelow (8 ^ grid.depth) all = subst (AreBelow (8 ^ grid.depth)) (on.whole all known) on.pushed.holds.below in
      record { ascending = below.ascending; inside = below.inside; faces = below.faces }

  as_lifted : (all : List Cell) → Known all → lifted.PushesAll (file_like grid all) start queues writer
  as_lifted all known = record {
    cells = on.cells;
    pushed = on.pushed;
    whole = λ others stand. on.whole all known ∙ one_of grid.depth least all others (faced all known) stand;
  }

  stand_of : (all : List Cell) → Known all → StandFor 2 grid.depth (file_words 2 grid.depth all) all
  stand_of all known = stand_self grid.depth all (faced all known)

  pub ended_map : (T : Type 0) (after : Option (List ℕ)) → ((cells : List Cell) → (words : List ℕ) → IsQueued cells queues words → GrewToward words (file_words 2 queues.depth cells) (g.written writer.sink.now) after (waiting writer))
      → PutsMap {T = T} grid Known start after (Err WriteFault)
  ended_map T after front cells known = ended_put (file_like grid cells) start queues writer (as_lifted cells known) T after front cells (stand_of cells known)

  pub moved_map : (begun pushed ended depth none : ℕ) → queues.depth ≡ depth → pushed + depth * none ≤ begun + depth * queues.cells → ended ≤ pushed + queues.depth
      → (cells : List Cell) → Known cells → ended ≤ begun + grid.depth * (length cells + 1)
  moved_map begun pushed ended depth none same first last cells known =
      few_moves (file_like grid cells) start queues writer (as_lifted cells known) begun pushed ended depth none same first last cells (stand_of cells known)

  module _ (ended : NodeWriter O g) (totals : Totals)
      (words_given : (cells : List Cell) → (words : List ℕ) → IsQueued cells queues words → GoesOn words (given writer) (given ended) (λ all. all ≡ file_words 2 queues.depth cells))
      (counted : (cells : List Cell) → (words : List ℕ) → IsQueued cells queues words → totals ≡ record { records = length (file_words 2 queues.depth cells); cells = length cells })
      (records : ended.records ≡ totals.records) where
    pub closed_map : (T : Type 0) (closed : Option (List ℕ))
        → ((cells : List Cell) → (words : List ℕ) → IsQueued cells queues words → GrewToward words (file_words 2 queues.depth cells) (g.written writer.sink.now) (g.written ended.sink.now) (waiting writer))
        → GrewByFront (g.written ended.sink.now) closed (waiting ended ++ trailer_of 2 ended.records totals.cells) → PutsMap {T = T} grid Known start closed (Err WriteFault)
    closed_map T closed front close cells known =
        closed_put (file_like grid cells) start queues writer (as_lifted cells known) ended totals words_given counted records T closed front close cells (stand_of cells known)

    pub whole_map : (T : Type 0) (answer : T) (closed : Option (List ℕ)) → closed ≡ append_known (given ended) (trailer_of 2 ended.records totals.cells) → PutsMap grid Known start closed (Ok answer)
    whole_map T answer closed put cells known =
        all_put (file_like grid cells) start queues writer (as_lifted cells known) ended totals words_given counted records T answer closed put cells (stand_of cells known)

    pub totals_map : (cells : List Cell) → Known cells → totals ≡ record { records = length (file_words 2 grid.depth cells); cells = length cells }
    totals_map cells known =
        counted on.cells on.pushed.queued.more on.pushed.queued.holds
        ∙ (ap (λ d. record { records = length (file_words 2 d on.cells); cells = length on.cells }) on.pushed.depth
        ∙ ap (λ l. record { records = length (file_words 2 grid.depth l); cells = length l }) (on.whole cells known))

-- what the sink holds under another name
pub map_as : (T : Type 0) (grid : GridShape) (Known : List Cell → Type 0) (start now after : Option (List ℕ)) (result : Result T AnswerStop) → now ≡ after → PutsMap grid Known start after result → PutsMap grid Known start now result
map_as T grid Known start now after result same put = subst (λ o. PutsMap grid Known start o result) (sym same) put
