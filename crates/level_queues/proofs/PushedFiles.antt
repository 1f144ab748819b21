-- A cell is pushed behind others: what the queues, the writer and its sink then hold.
use Rattle.std.proofs.Common.{◌≡◌, ℕ, ◌+◌, ◌-◌, ◌^◌, ◌<◌, ◌≤◌, List, [], ◌∷◌, ◌++◌, length, inl, inr, arith, sym, subst, ◌∙◌}
use Rattle.std.specs.Prelude.{Option, All}
use Rattle.std.specs.List.Sorted.{IsStrictlyIncreasing}
use Rattle.std.specs.Io.KnownBytes.{append_known}
use Rattle.std.proofs.lemmas.Bool.{cases_eq}
use Rattle.std.proofs.lemmas.Grind.{common_steps}
use Rattle.std.proofs.lemmas.List.{map-append}
use Rattle.std.proofs.lemmas.List.Elements.{All-nil, All-push, All-weaker, All-map}
use Rattle.dev_traits.specs.declared.device.ByteSink.{Ghosts}
use Rattle.svo_base.specs.GridShape.{GridShape}
use Rattle.octree_specs.specs.Cells.{Cell, codes_of}
use Rattle.octree_specs.specs.Formats.{file_words}
use Rattle.octree_specs.specs.OctreeFile.{header_of}
use Rattle.node_file.specs.declared.writer.NodeWriter.{NodeWriter}
use Rattle.node_file.specs.Writing.{given, waiting}
use Rattle.level_queues.specs.Pushed.{IsQueued, GoesOn}
use Rattle.level_queues.specs.PushedFiles.{AreBelow, HoldsFrontBelow, HasPushed}
use Rattle.level_queues.specs.Fronts.{Ascend, GrewToward, HoldsFront}
use Rattle.level_queues.specs.declared.levels.LevelQueues.{LevelQueues}
use Rattle.level_queues.proofs.FileFronts.{front_begun, front_pushed}
use Rattle.level_queues.proofs.Onward.{goes_nowhere, goes_further}

-- ---- cells in order

-- a greater number at the end keeps the order
increasing_push : (numbers : List ℕ) (n : ℕ) → IsStrictlyIncreasing numbers → All (λ m. m < n) numbers → IsStrictlyIncreasing (numbers ++ n ∷ [])
increasing_push numbers n ascending inside k within = elim (cases_eq (k + 1) (length numbers)) [
  | inl last ↦ grind (arith, common_steps, inside k 0)
  | inr before ↦ grind (arith, common_steps, ascending k)
]

below_next : (bound : ℕ) (cells : List Cell) (cell : Cell) → AreBelow bound cells → bound ≤ cell.code → cell.face ≤ 2 ^ 32 - 2 → AreBelow (cell.code + 1) (cells ++ cell ∷ [])
below_next bound cells cell are later face =
    let inside : All (λ (c : Cell). c.code < cell.code) cells = All-weaker (λ (c : Cell). c.code < bound) (λ (c : Cell). c.code < cell.code) (λ c below. omega (arith, below, later)) cells are.inside in
    let codes : codes_of (cells ++ cell ∷ []) ≡ codes_of cells ++ cell.code ∷ [] = map-append (λ (c : Cell). c.code) cells (cell ∷ []) in
    record {
      ascending = subst IsStrictlyIncreasing (sym codes) (increasing_push (codes_of cells) cell.code are.ascending (All-map (λ n. n < cell.code) (λ (c : Cell). c.code) cells inside));
      inside = All-push (λ (c : Cell). c.code < cell.code + 1) cells cell
          (All-weaker (λ (c : Cell). c.code < cell.code) (λ (c : Cell). c.code < cell.code + 1) (λ c below. omega (arith, below)) cells inside) (omega arith);
      faces = All-push (λ (c : Cell). c.face ≤ 2 ^ 32 - 2) cells cell are.faces face;
    }

below_later : (bound more : ℕ) (cells : List Cell) → bound ≤ more → AreBelow bound cells → AreBelow more cells
below_later bound more cells later are = record {
  ascending = are.ascending;
  inside = All-weaker (λ (c : Cell). c.code < bound) (λ (c : Cell). c.code < more) (λ c below. omega (arith, below, later)) cells are.inside;
  faces = are.faces;
}

-- ---- one cell

module _ {O : Type 0} {g : Ghosts O} where
  -- what the push of a cell says of the sink, at every answer
  abbrev pub PushesFront : ℕ → ℕ → LevelQueues → NodeWriter O g → Option (List ℕ) → Type 0
  PushesFront code face queues writer after =
      (cells : List Cell) → (words : List ℕ) → IsQueued cells queues words → (later : List Cell) → Ascend queues.depth (cells ++ record { code = code; face = face } ∷ later)
      → GrewToward words (file_words 2 queues.depth (cells ++ record { code = code; face = face } ∷ later)) (g.written writer.sink.now) after (waiting writer)

  -- what it says of the queues where it is not refused
  pub record PushesCell (code face : ℕ) (old new : LevelQueues) (writer after : NodeWriter O g) : Type 0 where
    pub queued : (cells : List Cell) → (words : List ℕ) → IsQueued cells old words
        → GoesOn words (given writer) (given after) (IsQueued (cells ++ record { code = code; face = face } ∷ []) new)
    pub records : after.records ≡ new.words
    pub depth : new.depth ≡ old.depth
    pub last : new.last ≡ code
    pub front : PushesFront code face old writer (g.written after.sink.now)

  -- whatever the push answered, the sink holds a front of the file of the cells and this one
  pub push_front : (grid : GridShape) (start : Option (List ℕ)) (from code face : ℕ) (cells : List Cell) (queues : LevelQueues) (writer : NodeWriter O g) (after : Option (List ℕ))
      → HasPushed grid start from cells queues writer → PushesFront code face queues writer after → HoldsFront grid (cells ++ record { code = code; face = face } ∷ []) start after
  push_front grid start from code face cells queues writer after has push =
      front_pushed grid cells (record { code = code; face = face }) has.queued.more (waiting writer) start (g.written writer.sink.now) after queues.depth has.holds.front
      has.queued.grown has.depth (push cells has.queued.more has.queued.holds)

  pub push_leaves : (grid : GridShape) (start : Option (List ℕ)) (from code face : ℕ) (cells : List Cell) (queues : LevelQueues) (writer : NodeWriter O g) (after : Option (List ℕ))
      → HasPushed grid start from cells queues writer → from ≤ code → face ≤ 2 ^ 32 - 2 → PushesFront code face queues writer after
      → HoldsFrontBelow grid start (code + 1) (cells ++ record { code = code; face = face } ∷ []) after
  push_leaves grid start from code face cells queues writer after has later small push = record {
    below = below_next from cells (record { code = code; face = face }) has.holds.below later small;
    front = push_front grid start from code face cells queues writer after has push;
  }

  pub push_on : (grid : GridShape) (start : Option (List ℕ)) (from code face : ℕ) (cells : List Cell) (old new : LevelQueues) (writer after : NodeWriter O g)
      → HasPushed grid start from cells old writer → from ≤ code → face ≤ 2 ^ 32 - 2 → PushesCell code face old new writer after
      → HasPushed grid start (code + 1) (cells ++ record { code = code; face = face } ∷ []) new after
  push_on grid start from code face cells old new writer after has later small push = record {
    holds = push_leaves grid start from code face cells old writer (g.written after.sink.now) has later small push.front;
    queued = goes_further [] (append_known start (header_of 2 grid)) (given writer) (given after) (IsQueued cells old) (IsQueued (cells ++ record { code = code; face = face } ∷ []) new)
        has.queued (push.queued cells);
    records = push.records;
    depth = push.depth ∙ has.depth;
    last = λ some. omega (arith, push.last);
  }

  -- no cell more up to a greater bound
  pub pushed_to : (grid : GridShape) (start : Option (List ℕ)) (from to : ℕ) (cells : List Cell) (queues : LevelQueues) (writer : NodeWriter O g)
      → from ≤ to → HasPushed grid start from cells queues writer → HasPushed grid start to cells queues writer
  pushed_to grid start from to cells queues writer high has = record {
    holds = record { below = below_later from to cells high has.holds.below; front = has.holds.front };
    queued = has.queued;
    records = has.records;
    depth = has.depth;
    last = λ some. omega (arith, has.last some, high);
  }

-- ---- before the first cell

pub none_pushed : {O : Type 0} {g : Ghosts O} (grid : GridShape) (start : Option (List ℕ)) (queues : LevelQueues) (writer : NodeWriter O g)
    → IsQueued [] queues [] → queues.depth ≡ grid.depth → given writer ≡ append_known start (header_of 2 grid) → g.written writer.sink.now ≡ start → writer.records ≡ 0
    → HasPushed grid start 0 [] queues writer
none_pushed {g = g} grid start queues writer queued deep begun unwritten none = record {
  holds = record {
    below = record {
      ascending = λ k within. absurd (omega (arith, within));
      inside = All-nil (λ (cell : Cell). cell.code < 0);
      faces = All-nil (λ (cell : Cell). cell.face ≤ 2 ^ 32 - 2);
    };
    front = front_begun grid start (g.written writer.sink.now) unwritten;
  };
  queued = subst (λ told. GoesOn [] told (given writer) (IsQueued [] queues)) begun (goes_nowhere [] (given writer) (IsQueued [] queues) queued);
  records = none ∙ sym queued.count;
  depth = deep;
  last = λ some. absurd (omega (arith, some, queued.cells));
}
