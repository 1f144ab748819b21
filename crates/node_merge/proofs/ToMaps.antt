-- Cells are pushed one after another toward maps.
use Rattle.std.proofs.Common.{◌≡◌, ℕ, ◌+◌, ◌-◌, ◌^◌, ◌<◌, ◌≤◌, List, [], ◌∷◌, ◌++◌, Option, None, Some, refl, sym, ap, ◌∙◌, arith}
use Rattle.dev_traits.specs.declared.device.ByteSink.{Ghosts}
use Rattle.svo_base.specs.GridShape.{GridShape}
use Rattle.octree_specs.specs.Cells.{Cell}
use Rattle.node_file.specs.declared.writer.NodeWriter.{NodeWriter}
use Rattle.level_queues.specs.PushedFiles.{HasPushed}
use Rattle.level_queues.specs.declared.levels.LevelQueues.{LevelQueues}
use Rattle.level_queues.proofs.PushedFiles.{PushesFront, PushesCell, push_front, push_on, pushed_to}
use Rattle.node_merge.specs.Combined.{cells_below}
use Rattle.node_merge.specs.Pushing.{PushesTo, PushesAll, HoldsFirst, IsNextFace}
use Rattle.node_merge.proofs.Below.{no_face, one_face, skipped, come_first}

-- the cells of a map of a kind are those to which a function of a kind gives faces
abbrev pub Covers : GridShape → ((ℕ → Option ℕ) → Type 0) → (List Cell → Type 0) → Type 0
Covers grid Faces Known = (all : List Cell) → Known all → (face_of : ℕ → Option ℕ) × Faces face_of × (all ≡ cells_below (8 ^ grid.depth) face_of)

module _ (grid : GridShape) (Faces : (ℕ → Option ℕ) → Type 0) (Known : List Cell → Type 0) (covers : Covers grid Faces Known) where
  first_of : (bound : ℕ) (cells : List Cell) → bound ≤ 8 ^ grid.depth → ((f : ℕ → Option ℕ) → Faces f → cells ≡ cells_below bound f)
      → (all : List Cell) → Known all → (rest : List Cell) × (cells ++ rest ≡ all)
  first_of bound cells high are all known =
      let cover = covers all known in
      let parts = come_first cover.0 bound (8 ^ grid.depth) high in
      (parts.0, ap (λ l. l ++ parts.0) (are cover.0 cover.1) ∙ (parts.1 ∙ sym cover.2))

module _ {O : Type 0} {g : Ghosts O} (grid : GridShape) (start : Option (List ℕ)) (Faces : (ℕ → Option ℕ) → Type 0) where
  pub to_none : (queues : LevelQueues) (writer : NodeWriter O g) → HasPushed grid start 0 [] queues writer → PushesTo grid start Faces 0 queues writer
  unfolding cells_below
  to_none queues writer has = record { cells = []; pushed = has; before = λ f is. refl }

  -- no cell more up to a greater code
  pub to_later : (from to : ℕ) (queues : LevelQueues) (writer : NodeWriter O g) → from ≤ to → ((f : ℕ → Option ℕ) → Faces f → (c : ℕ) → from ≤ c → c < to → f c ≡ None)
      → PushesTo grid start Faces from queues writer → PushesTo grid start Faces to queues writer
  to_later from to queues writer high none on = record {
    cells = on.cells;
    pushed = pushed_to grid start from to on.cells queues writer high on.pushed;
    before = λ f is. on.before f is ∙ sym (skipped f from to high (none f is));
  }

  with_next : (from code face : ℕ) (queues : LevelQueues) (writer : NodeWriter O g) → from ≤ code → IsNextFace Faces from code (Some face) → (on : PushesTo grid start Faces from queues writer)
      → (f : ℕ → Option ℕ) → Faces f → on.cells ++ record { code = code; face = face } ∷ [] ≡ cells_below (code + 1) f
  with_next from code face queues writer low next on f is =
      let here = next f is in
      ap (λ l. l ++ record { code = code; face = face } ∷ []) (on.before f is ∙ sym (skipped f from code low here.0)) ∙ sym (one_face f code face here.1)

  pub to_next : (from code face : ℕ) (old new : LevelQueues) (writer after : NodeWriter O g) → from ≤ code → face ≤ 2 ^ 32 - 2 → IsNextFace Faces from code (Some face) → PushesCell code face old new writer after
      → PushesTo grid start Faces from old writer → PushesTo grid start Faces (code + 1) new after
  to_next from code face old new writer after low small next push on = record {
    cells = on.cells ++ record { code = code; face = face } ∷ [];
    pushed = push_on grid start from code face on.cells old new writer after on.pushed low small push;
    before = with_next from code face old writer low next on;
  }

  -- a cell without a face is passed by
  pub to_passed : (from code : ℕ) (queues : LevelQueues) (writer : NodeWriter O g) → from ≤ code → IsNextFace Faces from code None
      → PushesTo grid start Faces from queues writer → PushesTo grid start Faces (code + 1) queues writer
  to_passed from code queues writer low next on = record {
    cells = on.cells;
    pushed = pushed_to grid start from (code + 1) on.cells queues writer (omega (arith, low)) on.pushed;
    before = λ f is. let here = next f is in on.before f is ∙ (sym (skipped f from code low here.0) ∙ sym (no_face f code here.1));
  }

  -- what the sink holds
  module _ (Known : List Cell → Type 0) (covers : Covers grid Faces Known) where
    pub holds_first : (from : ℕ) (queues : LevelQueues) (writer : NodeWriter O g) → from ≤ 8 ^ grid.depth → PushesTo grid start Faces from queues writer → HoldsFirst grid start Known (g.written writer.sink.now)
    holds_first from queues writer high on = record { cells = on.cells; first = first_of grid Faces Known covers from on.cells high on.before; front = on.pushed.holds.front }

    pub holds_next : (from code face : ℕ) (queues : LevelQueues) (writer : NodeWriter O g) (after : Option (List ℕ)) → from ≤ code → code < 8 ^ grid.depth → IsNextFace Faces from code (Some face)
        → PushesFront code face queues writer after → PushesTo grid start Faces from queues writer → HoldsFirst grid start Known after
    holds_next from code face queues writer after low below next push on = record {
      cells = on.cells ++ record { code = code; face = face } ∷ [];
      first = first_of grid Faces Known covers (code + 1) (on.cells ++ record { code = code; face = face } ∷ []) (omega (arith, below)) (with_next from code face queues writer low next on);
      front = push_front grid start from code face on.cells queues writer after on.pushed push;
    }

    pub pushes_all : (from : ℕ) (queues : LevelQueues) (writer : NodeWriter O g) → from ≤ 8 ^ grid.depth → ((f : ℕ → Option ℕ) → Faces f → (c : ℕ) → from ≤ c → f c ≡ None)
        → PushesTo grid start Faces from queues writer → PushesAll grid start Known queues writer
    pushes_all from queues writer high none on =
        let whole = to_later from (8 ^ grid.depth) queues writer high (λ f is c low below. none f is c low) on in
        record {
          cells = whole.cells;
          pushed = whole.pushed;
          whole = λ all known. let cover = covers all known in whole.before cover.0 cover.1 ∙ sym cover.2;
        }
