-- A cell is pushed behind others: what the queues, the writer and its sink then hold.
use Rattle.std.proofs.Common.{◌≡◌, ℕ, ◌+◌, ◌-◌, ◌*◌, ◌^◌, ◌<◌, ◌≤◌, List, [], ◌∷◌, ◌++◌, length, inl, inr, arith, sym, ap, subst, ◌∙◌, append-nil, append_assoc}
use Rattle.std.specs.Prelude.{Option, All}
use Rattle.std.specs.List.Sorted.{IsStrictlyIncreasing}
use Rattle.std.specs.Io.KnownBytes.{append_known}
use Rattle.std.proofs.lemmas.Bool.{cases_eq}
use Rattle.std.proofs.lemmas.Grind.{common_steps}
use Rattle.std.proofs.lemmas.List.{map-append, length-append}
use Rattle.std.proofs.lemmas.List.Elements.{All-push, All-weaker, All-map}
use Rattle.dev_traits.specs.declared.device.ByteSink.{Ghosts}
use Rattle.svo_base.specs.GridShape.{GridShape}
use Rattle.octree_specs.specs.Cells.{Cell, codes_of}
use Rattle.octree_specs.specs.FacedTriangles.{Faced}
use Rattle.octree_specs.specs.Formats.{file_words}
use Rattle.octree_specs.specs.OctreeFile.{header_of}
use Rattle.node_file.specs.declared.writer.NodeWriter.{NodeWriter}
use Rattle.node_file.specs.Writing.{given, waiting}
use Rattle.level_queues.specs.PushedFiles.{HoldsFrontBelow, HasPushed}
use Rattle.level_queues.specs.declared.levels.LevelQueues.{LevelQueues}
use Rattle.level_queues.proofs.PushedFiles.{PushesFront, PushesCell, push_leaves, push_on, pushed_to}
use Rattle.morton_scan.specs.NextCells.{HasNoCellFrom, IsNextCell}
use Rattle.build_core.specs.Pushing.{AreSlotsOf, FillOn, PushesOn, LeavesFront}
use Rattle.build_core.proofs.NextSlots.{fill_none, fill_next, fill_end}

-- ---- moves

-- each of some cells took at most a move a level, and so did each of those behind
pub moves_further : (depth moves middle moved : ℕ) (first next : List Cell) → middle ≤ moves + depth * length first → moved ≤ middle + depth * length next → moved ≤ moves + depth * length (first ++ next)
moves_further depth moves middle moved first next few more =
    let all : depth * length (first ++ next) ≡ depth * length first + depth * length next = ap (λ n. depth * n) (length-append first next) ∙ omega arith in
    omega (arith, few, more, all)

-- and so did one cell more
moves_next : (depth deep moves middle moved : ℕ) (cells : List Cell) (cell : Cell) → deep ≡ depth → middle ≤ moves + depth * length cells → moved ≤ middle + deep → moved ≤ moves + depth * length (cells ++ cell ∷ [])
moves_next depth deep moves middle moved cells cell same few more =
    let one : depth * length (cell ∷ []) ≡ depth = omega arith in
    moves_further depth moves middle moved cells (cell ∷ []) few (omega (arith, one, more, same))

-- ---- the cells of a part

module _ {O : Type 0} {g : Ghosts O} where
  pub begins : (grid : GridShape) (start : Option (List ℕ)) (from : ℕ) (cells : List Cell) (Known : List Faced → Type 0) (queues : LevelQueues) (writer : NodeWriter O g) (moves : ℕ)
      → HasPushed grid start from cells queues writer → PushesOn grid start from from cells Known queues writer moves moves
  begins grid start from cells Known queues writer moves has = record {
    more = [];
    pushed = subst (λ l. HasPushed grid start from l queues writer) (sym (append-nil cells)) has;
    few_moves = omega arith;
    filled = fill_none grid Known from cells;
  }

  module _ (slots : List ℕ) (first codes : ℕ) (grid : GridShape) (start : Option (List ℕ)) (cells : List Cell) where
    abbrev pub Pushes : ℕ → LevelQueues → NodeWriter O g → (moves moved : ℕ) → Type 0
    Pushes to queues writer moves moved = PushesOn grid start first to cells (AreSlotsOf slots first codes grid) queues writer moves moved

    pub next_pushed : (from code face : ℕ) (old new : LevelQueues) (writer after : NodeWriter O g) (moves middle moved : ℕ) → first ≤ from → IsNextCell slots first codes from code face → face ≤ 2 ^ 32 - 2
        → PushesCell code face old new writer after → moved ≤ middle + old.depth → Pushes from old writer moves middle → Pushes (code + 1) new after moves moved
    next_pushed from code face old new writer after moves middle moved low next small push few on = record {
      more = on.more ++ record { code = code; face = face } ∷ [];
      pushed = subst (λ l. HasPushed grid start (code + 1) l new after) (append_assoc cells on.more (record { code = code; face = face } ∷ []))
          (push_on grid start from code face (cells ++ on.more) old new writer after on.pushed next.later small push);
      few_moves = moves_next grid.depth old.depth moves middle moved on.more (record { code = code; face = face }) on.pushed.depth on.few_moves few;
      filled = fill_next slots first codes first from code face grid cells on.more low next on.filled;
    }

    pub next_refused : (from code face to : ℕ) (old : LevelQueues) (writer : NodeWriter O g) (after : Option (List ℕ)) (moves middle moved : ℕ) → first ≤ from → IsNextCell slots first codes from code face → face ≤ 2 ^ 32 - 2
        → first + codes ≤ to → PushesFront code face old writer after → moved ≤ middle + old.depth → Pushes from old writer moves middle → LeavesFront grid start first to cells (AreSlotsOf slots first codes grid) after moves moved
    next_refused from code face to old writer after moves middle moved low next small high push few on = record {
      more = on.more ++ record { code = code; face = face } ∷ [];
      bound = code + 1;
      within = omega (arith, next.is_code, next.within, high);
      holds = subst (λ l. HoldsFrontBelow grid start (code + 1) l after) (append_assoc cells on.more (record { code = code; face = face } ∷ []))
          (push_leaves grid start from code face (cells ++ on.more) old writer after on.pushed next.later small push);
      few_moves = moves_next grid.depth old.depth moves middle moved on.more (record { code = code; face = face }) on.pushed.depth on.few_moves few;
      filled = fill_next slots first codes first from code face grid cells on.more low next on.filled;
    }

    pub no_more : (from to : ℕ) (queues : LevelQueues) (writer : NodeWriter O g) (moves moved : ℕ) → first ≤ from → from ≤ to → to ≡ first + codes → HasNoCellFrom slots first codes from
        → Pushes from queues writer moves moved → Pushes to queues writer moves moved
    no_more from to queues writer moves moved low high reach none on = record {
      more = on.more;
      pushed = pushed_to grid start from to (cells ++ on.more) queues writer high on.pushed;
      few_moves = on.few_moves;
      filled = subst (λ n. FillOn grid (AreSlotsOf slots first codes grid) first n cells on.more) (sym reach)
          (fill_end slots first codes first from grid cells on.more low (omega (arith, high, reach)) none on.filled);
    }

  -- what was pushed leaves a front
  pub leaves_front : (grid : GridShape) (start : Option (List ℕ)) (from to : ℕ) (cells : List Cell) (Known : List Faced → Type 0) (queues : LevelQueues) (writer : NodeWriter O g) (moves moved : ℕ)
      → PushesOn grid start from to cells Known queues writer moves moved → LeavesFront grid start from to cells Known (g.written writer.sink.now) moves moved
  leaves_front grid start from to cells Known queues writer moves moved on = record {
    more = on.more;
    bound = to;
    within = omega arith;
    holds = on.pushed.holds;
    few_moves = on.few_moves;
    filled = on.filled;
  }
