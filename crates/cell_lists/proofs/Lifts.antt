-- The cells of a file, pushed one after another, and the file that is put out.
use Rattle.std.proofs.Common.{◌≡◌, ℕ, ◌+◌, ◌-◌, ◌*◌, ◌^◌, ◌<◌, ◌≤◌, List, [], ◌∷◌, ◌++◌, length, Option, None, Some, Result, Ok, Err, inl, inr, arith, refl, sym, ap, subst, ◌∙◌}
use Rattle.std.specs.Prelude.{IfSome, All}
use Rattle.std.specs.List.Sorted.{IsStrictlyIncreasing}
use Rattle.std.specs.Io.KnownBytes.{append_known}
use Rattle.std.proofs.lemmas.Bool.{cases_eq}
use Rattle.std.proofs.lemmas.Grind.{common_steps}
use Rattle.std.proofs.lemmas.List.{map-append, length-map}
use Rattle.std.proofs.lemmas.List.Elements.{All-nil, All-push, All-weaker, All-map}
use Rattle.dev_traits.specs.declared.device.ByteSink.{Ghosts}
use Rattle.svo_base.specs.GridShape.{GridShape}
use Rattle.octree_specs.specs.Cells.{Cell, codes_of}
use Rattle.octree_specs.specs.Formats.{StandFor, file_words}
use Rattle.octree_specs.specs.OctreeFile.{header_of, trailer_of, image_of}
use Rattle.node_file.specs.FileView.{FileView}
use Rattle.node_file.specs.Waiting.{GrewByFront}
use Rattle.node_file.specs.Writing.{given, waiting}
use Rattle.node_file.specs.declared.records.Totals.{Totals}
use Rattle.node_file.specs.declared.writer.NodeWriter.{NodeWriter}
use Rattle.node_check.specs.Cursors.{GivesNextFaced}
use Rattle.node_check.specs.Stops.{Puts}
use Rattle.node_check.specs.Walks.{face_at}
use Rattle.node_check.specs.declared.cursor.FacedCell.{FacedCell}
use Rattle.node_check.specs.declared.stops.AnswerStop.{AnswerStop}
use Rattle.node_check.specs.declared.stops.AnswerStop.TheVariants.{WriteFault, Walk}
use Rattle.node_check.specs.declared.walking.WalkFault.{WalkFault}
use Rattle.node_check.specs.declared.walking.WalkFault.TheVariants.{Failed, Refused}
use Rattle.level_queues.specs.Pushed.{IsQueued, GoesOn}
use Rattle.level_queues.specs.PushedFiles.{HasPushed}
use Rattle.level_queues.specs.Fronts.{Ascend, GrewToward, HoldsFront}
use Rattle.level_queues.specs.declared.levels.LevelQueues.{LevelQueues}
use Rattle.level_queues.proofs.FileFronts.{front_begun, front_pushed, front_now, front_ended, front_closed}
use Rattle.level_queues.proofs.Onward.{goes_further}
use Rattle.level_queues.proofs.PushedFiles.{PushesFront, PushesCell, push_front, push_on, pushed_to}
use Rattle.level_queues.proofs.WholeFile.{whole_file}
use Rattle.cell_lists.specs.Lifted.{PushesAll, HoldsFirst, Accepts, IsUnrefused}
use Rattle.cell_lists.proofs.Befores.{cells_before, cells_from, before_none, IsStep, next_step, none_next, both_parts}
use Rattle.cell_lists.proofs.Listed.{stand_ascends}

stand_ascend : (format depth : ℕ) (words : List ℕ) (cells : List Cell) → StandFor format depth words cells → Ascend depth cells
stand_ascend format depth words cells stand = record { ascending = stand.cells_are.map.ascending; inside = stand.cells_are.map.inside }

-- ---- of told words: the cells that were pushed are those below a code

abbrev pub AreBefore : Option (List ℕ) → (format depth from : ℕ) → List Cell → Type 0
AreBefore told format depth from cells = IfSome told (λ words. (all : List Cell) → StandFor format depth words all → cells ≡ cells_before from all)

abbrev pub NextsFaced : Option (List ℕ) → (format depth from : ℕ) → Result (Option FacedCell) WalkFault → Type 0
NextsFaced told format depth from result = IfSome told (λ words. (all : List Cell) → StandFor format depth words all → GivesNextFaced all from result)

before_first : (told : Option (List ℕ)) (format depth from : ℕ) → from ≡ 0 → AreBefore told format depth from []
before_first None format depth from zero = tt
before_first (Some words) format depth from zero = λ all stand. sym (before_none from 0 all (stand_ascends format depth words all stand) (omega (arith, zero)))

same_face : (o : Option ℕ) (a b : ℕ) → o ≡ Some a → o ≡ Some b → a ≡ b
same_face None a b first second = cc
same_face (Some n) a b first second = cc

before_more : (told : Option (List ℕ)) (format depth from more : ℕ) (cell : FacedCell) (cells : List Cell) → NextsFaced told format depth from (Ok (Some cell)) → more ≡ cell.code + 1
    → AreBefore told format depth from cells → AreBefore told format depth more (cells ++ record { code = cell.code; face = cell.face } ∷ [])
before_more None format depth from more cell cells next is before = tt
before_more (Some words) format depth from more cell cells next is before = λ all stand.
    let here : GivesNextFaced all from (Ok (Some cell)) = next all stand in
    let step : IsStep from cell.code all = next_step from cell.code 0 all (stand_ascends format depth words all stand) here.0 in
    let face : cell.face ≡ step.cell.face = same_face (face_at all cell.code) cell.face step.cell.face here.1 step.face_is in
    let same : record { code = cell.code; face = cell.face } ≡ step.cell = λ i. record { code = sym step.code_is i; face = face i } in
    ap (λ l. l ++ record { code = cell.code; face = cell.face } ∷ []) (before all stand)
    ∙ (ap (λ (c : Cell). cells_before from all ++ c ∷ []) same ∙ (sym step.more ∙ ap (λ n. cells_before n all) (sym is)))

before_whole : (told : Option (List ℕ)) (format depth from : ℕ) (cells : List Cell) → NextsFaced told format depth from (Ok None) → AreBefore told format depth from cells
    → IfSome told (λ words. (all : List Cell) → StandFor format depth words all → cells ≡ all)
before_whole None format depth from cells next before = tt
before_whole (Some words) format depth from cells next before = λ all stand. before all stand ∙ none_next from all (next all stand)

before_front : (told : Option (List ℕ)) (format depth from : ℕ) (cells : List Cell) → AreBefore told format depth from cells
    → IfSome told (λ words. (all : List Cell) → StandFor format depth words all → (rest : List Cell) × (cells ++ rest ≡ all))
before_front None format depth from cells before = tt
before_front (Some words) format depth from cells before = λ all stand. (cells_from from all, ap (λ l. l ++ cells_from from all) (before all stand) ∙ both_parts from all)

pub next_accepts : (T : Type 0) (file : FileView) (from : ℕ) (fault : WalkFault) → NextsFaced file.words file.format file.grid.depth from (Err fault) → IsUnrefused {T = T} file (Err (Walk fault))
next_accepts T file from fault next = accepts file.words fault next
  where
    accepts : (told : Option (List ℕ)) (fault : WalkFault) → NextsFaced told file.format file.grid.depth from (Err fault)
        → IfSome told (λ words. (all : List Cell) → StandFor file.format file.grid.depth words all → Accepts {T = T} (Err (Walk fault)))
    accepts None fault next = tt
    accepts (Some words) Failed next = λ all stand. tt
    accepts (Some words) (Refused number word) next = λ all stand. next all stand

pub always_accepts : {T : Type 0} (file : FileView) (result : Result T AnswerStop) → Accepts result → IsUnrefused file result
always_accepts file result are = accepts file.words
  where
    accepts : (told : Option (List ℕ)) → IfSome told (λ words. (all : List Cell) → StandFor file.format file.grid.depth words all → Accepts result)
    accepts None = tt
    accepts (Some words) = λ all stand. are

-- ---- one cell

module _ {O : Type 0} {g : Ghosts O} where
  -- the cells below a code were pushed
  pub record PushesOn (file : FileView) (start : Option (List ℕ)) (from : ℕ) (queues : LevelQueues) (writer : NodeWriter O g) : Type 0 where
    pub cells : List Cell
    pub pushed : HasPushed file.grid start from cells queues writer
    pub before : AreBefore file.words file.format file.grid.depth from cells

  pub pushes_none : (file : FileView) (start : Option (List ℕ)) (from : ℕ) (queues : LevelQueues) (writer : NodeWriter O g) → from ≡ 0 → HasPushed file.grid start 0 [] queues writer → PushesOn file start from queues writer
  pushes_none file start from queues writer zero has = record {
    cells = [];
    pushed = subst (λ n. HasPushed file.grid start n [] queues writer) (sym zero) has;
    before = before_first file.words file.format file.grid.depth from zero;
  }

  -- after a cell was pushed
  pub pushes_cell : (file : FileView) (start : Option (List ℕ)) (from more : ℕ) (cell : FacedCell) (old new : LevelQueues) (writer after : NodeWriter O g) → NextsFaced file.words file.format file.grid.depth from (Ok (Some cell))
      → from ≤ cell.code → cell.face ≤ 2 ^ 32 - 2 → more ≡ cell.code + 1 → PushesCell cell.code cell.face old new writer after → PushesOn file start from old writer → PushesOn file start more new after
  pushes_cell file start from more cell old new writer after next later small is push on = record {
    cells = on.cells ++ record { code = cell.code; face = cell.face } ∷ [];
    pushed = subst (λ n. HasPushed file.grid start n (on.cells ++ record { code = cell.code; face = cell.face } ∷ []) new after) (sym is)
        (push_on file.grid start from cell.code cell.face on.cells old new writer after on.pushed later small push);
    before = before_more file.words file.format file.grid.depth from more cell on.cells next is on.before;
  }

  -- after its push was refused
  pub push_refused : (file : FileView) (start : Option (List ℕ)) (from : ℕ) (cell : FacedCell) (queues : LevelQueues) (writer : NodeWriter O g) (after : Option (List ℕ)) → NextsFaced file.words file.format file.grid.depth from (Ok (Some cell))
      → PushesFront cell.code cell.face queues writer after → PushesOn file start from queues writer → HoldsFirst file start after
  push_refused file start from cell queues writer after next push on = record {
    cells = on.cells ++ record { code = cell.code; face = cell.face } ∷ [];
    first = before_front file.words file.format file.grid.depth (cell.code + 1) (on.cells ++ record { code = cell.code; face = cell.face } ∷ [])
        (before_more file.words file.format file.grid.depth from (cell.code + 1) cell on.cells next refl on.before);
    front = push_front file.grid start from cell.code cell.face on.cells queues writer after on.pushed push;
  }

  -- between two pushes
  pub pushes_first : (file : FileView) (start : Option (List ℕ)) (from : ℕ) (queues : LevelQueues) (writer : NodeWriter O g) → PushesOn file start from queues writer → HoldsFirst file start (g.written writer.sink.now)
  pushes_first file start from queues writer on = record {
    cells = on.cells;
    first = before_front file.words file.format file.grid.depth from on.cells on.before;
    front = on.pushed.holds.front;
  }

  -- behind the last cell
  pub pushes_all : (file : FileView) (start : Option (List ℕ)) (from : ℕ) (queues : LevelQueues) (writer : NodeWriter O g) → from ≤ 8 ^ file.grid.depth → NextsFaced file.words file.format file.grid.depth from (Ok None)
      → PushesOn file start from queues writer → PushesAll file start queues writer
  pushes_all file start from queues writer high none on = record {
    cells = on.cells;
    pushed = pushed_to file.grid start from (8 ^ file.grid.depth) on.cells queues writer high on.pushed;
    whole = before_whole file.words file.format file.grid.depth from on.cells none on.before;
  }

-- ---- moves

-- a cell more takes at most as many moves as the queues are deep
pub more_moves : (now next begun depth deep none many more : ℕ) → now + depth * none ≤ begun + depth * many → deep ≡ depth → next ≤ now + deep → more ≡ many + 1
    → next + depth * none ≤ begun + depth * more
more_moves now next begun depth deep none many more few same moved one =
    subst (λ k. next + depth * none ≤ begun + depth * k) (sym one) (omega (arith, few, same, moved))

-- and the end as many more
moves_at : (begun pushed ended d e f none m n : ℕ) → d ≡ e → f ≡ d → m ≡ n → pushed + d * none ≤ begun + d * m → ended ≤ pushed + f → ended ≤ begun + e * (n + 1)
moves_at begun pushed ended d e f none m n deep same many first last =
    subst (λ k. ended ≤ begun + k * (n + 1)) deep (subst (λ k. ended ≤ begun + d * (k + 1)) many (omega (arith, first, same, last)))

-- ---- the end

-- what is said of an answer of told words
abbrev pub PutsImage : {T : Type 0} → FileView → Option (List ℕ) → Option (List ℕ) → Result T AnswerStop → Type 0
PutsImage file before after result = IfSome file.words (λ words. (cells : List Cell) → StandFor file.format file.grid.depth words cells → Puts before after (image_of 2 file.grid cells) result)

-- a stop before all cells were pushed
pub first_put : (T : Type 0) (file : FileView) (start written : Option (List ℕ)) (stop : AnswerStop) → IsUnrefused {T = T} file (Err stop) → HoldsFirst file start written → PutsImage {T = T} file start written (Err stop)
first_put T file start written stop unrefused holds = put file.words stop unrefused holds.first
  where
    front_in : (words : List ℕ) (all : List Cell) → StandFor file.format file.grid.depth words all → (rest : List Cell) × (holds.cells ++ rest ≡ all) → GrewByFront start written (image_of 2 file.grid all)
    front_in words all stand parts =
        subst (λ l. GrewByFront start written (image_of 2 file.grid l)) parts.1
        (holds.front.follows parts.0 (subst (Ascend file.grid.depth) (sym parts.1) (stand_ascend file.format file.grid.depth words all stand)))

    put : (told : Option (List ℕ)) (stop : AnswerStop) → IfSome told (λ words. (all : List Cell) → StandFor file.format file.grid.depth words all → Accepts {T = T} (Err stop))
        → IfSome told (λ words. (all : List Cell) → StandFor file.format file.grid.depth words all → (rest : List Cell) × (holds.cells ++ rest ≡ all))
        → IfSome told (λ words. (cells : List Cell) → StandFor file.format file.grid.depth words cells → Puts {T = T} start written (image_of 2 file.grid cells) (Err stop))
    put None stop unrefused first = tt
    put (Some words) WriteFault unrefused first = λ all stand. front_in words all stand (first all stand)
    put (Some words) (Walk Failed) unrefused first = λ all stand. front_in words all stand (first all stand)
    put (Some words) (Walk (Refused number word)) unrefused first = λ all stand. unrefused all stand

module _ {O : Type 0} {g : Ghosts O} (file : FileView) (start : Option (List ℕ)) (queues : LevelQueues) (writer : NodeWriter O g) (all : PushesAll file start queues writer) where
  -- whatever holds of the cells that were pushed holds of those for which told words stand
  of_whole : (P : List Cell → Type 0) → P all.cells → IfSome file.words (λ words. (cells : List Cell) → StandFor file.format file.grid.depth words cells → P cells)
  of_whole P holds = on file.words all.whole
    where
      on : (told : Option (List ℕ)) → IfSome told (λ words. (cells : List Cell) → StandFor file.format file.grid.depth words cells → all.cells ≡ cells)
          → IfSome told (λ words. (cells : List Cell) → StandFor file.format file.grid.depth words cells → P cells)
      on None whole = tt
      on (Some words) whole = λ cells stand. subst P (whole cells stand) holds

  all_ended : (after : Option (List ℕ)) → ((cells : List Cell) → (words : List ℕ) → IsQueued cells queues words → GrewToward words (file_words 2 queues.depth cells) (g.written writer.sink.now) after (waiting writer))
      → GrewByFront start after (image_of 2 file.grid all.cells)
  all_ended after front =
      front_ended file.grid all.cells all.pushed.queued.more (waiting writer) start (g.written writer.sink.now) after queues.depth
      (front_now file.grid all.cells start (g.written writer.sink.now) (record { ascending = all.pushed.holds.below.ascending; inside = all.pushed.holds.below.inside }) all.pushed.holds.front)
      all.pushed.queued.grown all.pushed.depth (front all.cells all.pushed.queued.more all.pushed.queued.holds)

  -- the last words were refused
  pub ended_put : (T : Type 0) (after : Option (List ℕ)) → ((cells : List Cell) → (words : List ℕ) → IsQueued cells queues words → GrewToward words (file_words 2 queues.depth cells) (g.written writer.sink.now) after (waiting writer))
      → PutsImage {T = T} file start after (Err WriteFault)
  ended_put T after front = of_whole (λ cells. GrewByFront start after (image_of 2 file.grid cells)) (all_ended after front)

  -- once the words were given
  module _ (ended : NodeWriter O g) (totals : Totals)
      (words_given : (cells : List Cell) → (words : List ℕ) → IsQueued cells queues words → GoesOn words (given writer) (given ended) (λ all. all ≡ file_words 2 queues.depth cells))
      (counted : (cells : List Cell) → (words : List ℕ) → IsQueued cells queues words → totals ≡ record { records = length (file_words 2 queues.depth cells); cells = length cells })
      (records : ended.records ≡ totals.records) where
    all_given : GoesOn [] (append_known start (header_of 2 file.grid)) (given ended) (λ words. words ≡ file_words 2 queues.depth all.cells)
    all_given = goes_further [] (append_known start (header_of 2 file.grid)) (given writer) (given ended) (IsQueued all.cells queues) (λ words. words ≡ file_words 2 queues.depth all.cells)
        all.pushed.queued (words_given all.cells)

    words_are : all_given.more ≡ file_words 2 file.grid.depth all.cells
    words_are = all_given.holds ∙ ap (λ d. file_words 2 d all.cells) all.pushed.depth

    totals_are : totals ≡ record { records = length (file_words 2 queues.depth all.cells); cells = length all.cells }
    totals_are = counted all.cells all.pushed.queued.more all.pushed.queued.holds

    records_are : ended.records ≡ length all_given.more
    records_are = records ∙ (ap (λ (t : Totals). t.records) totals_are ∙ ap length (sym all_given.holds))

    -- the trailer was refused
    pub closed_put : (T : Type 0) (closed : Option (List ℕ))
        → ((cells : List Cell) → (words : List ℕ) → IsQueued cells queues words → GrewToward words (file_words 2 queues.depth cells) (g.written writer.sink.now) (g.written ended.sink.now) (waiting writer))
        → GrewByFront (g.written ended.sink.now) closed (waiting ended ++ trailer_of 2 ended.records totals.cells) → PutsImage {T = T} file start closed (Err WriteFault)
    closed_put T closed front close =
        of_whole (λ cells. GrewByFront start closed (image_of 2 file.grid cells))
        (front_closed file.grid all.cells all_given.more (waiting ended) start (g.written ended.sink.now) closed ended.records totals.cells (all_ended (g.written ended.sink.now) front)
        all_given.grown words_are records_are (ap (λ (t : Totals). t.cells) totals_are) close)

    -- the whole file
    pub all_put : (T : Type 0) (answer : T) (closed : Option (List ℕ)) → closed ≡ append_known (given ended) (trailer_of 2 ended.records totals.cells) → PutsImage file start closed (Ok answer)
    all_put T answer closed put =
        of_whole (λ cells. closed ≡ append_known start (image_of 2 file.grid cells))
        (whole_file start (append_known start (header_of 2 file.grid)) (given ended) closed file.grid all.cells all_given.more ended.records totals.cells
        refl all_given.grown put words_are records_are (ap (λ (t : Totals). t.cells) totals_are))

  -- they took few moves
  pub few_moves : (begun pushed ended depth none : ℕ) → queues.depth ≡ depth → pushed + depth * none ≤ begun + depth * queues.cells → ended ≤ pushed + queues.depth
      → IfSome file.words (λ words. (cells : List Cell) → StandFor file.format file.grid.depth words cells → ended ≤ begun + file.grid.depth * (length cells + 1))
  few_moves begun pushed ended depth none same first last =
      of_whole (λ cells. ended ≤ begun + file.grid.depth * (length cells + 1))
      (moves_at begun pushed ended depth file.grid.depth queues.depth none queues.cells (length all.cells) (sym same ∙ all.pushed.depth) same
      (all.pushed.queued.holds.cells ∙ length-map all.cells (λ (cell : Cell). record { node = cell.code; word = 1 + 256 * cell.face })) first last)

-- what the sink holds under another name
pub put_as : (T : Type 0) (file : FileView) (start now after : Option (List ℕ)) (result : Result T AnswerStop) → now ≡ after → PutsImage file start after result → PutsImage file start now result
put_as T file start now after result same put = subst (λ o. PutsImage file start o result) (sym same) put
