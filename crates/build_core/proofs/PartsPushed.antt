-- The cells of one part after another are pushed.
use Rattle.std.proofs.Common.{◌≡◌, ℕ, zero, suc, add-one, Bool, ◌+◌, ◌-◌, ◌*◌, ◌^◌, ◌<◌, ◌≤◌, List, [], ◌++◌, arith, sym, subst, ap, ◌∙◌, append-nil, append_assoc}
use Rattle.std.specs.Prelude.{Option}
use Rattle.std.specs.List.{sum_by, range_with_len}
use Rattle.std.proofs.lemmas.List.Sums.{sum_by-cons}
use Rattle.std.proofs.lemmas.Nat.{pow-add}
use Rattle.dev_traits.specs.declared.device.ByteSink.{Ghosts}
use Rattle.svo_base.specs.GridShape.{GridShape}
use Rattle.octree_specs.specs.Cells.{Cell}
use Rattle.octree_specs.specs.FacedTriangles.{Faced}
use Rattle.octree_specs.specs.FilledCells.{AreFilledBelow}
use Rattle.node_file.specs.declared.writer.NodeWriter.{NodeWriter}
use Rattle.level_queues.specs.declared.levels.LevelQueues.{LevelQueues}
use Rattle.octree_specs.specs.Parts.{part_of}
use Rattle.morton_scan.specs.FilledParts.{tests_of}
use Rattle.morton_scan.specs.Putting.{first_of_part}
use Rattle.level_queues.specs.PushedFiles.{HoldsFrontBelow, HasPushed}
use Rattle.build_core.specs.Pushing.{AreSlotsOf, PushesOn, LeavesFront}
use Rattle.build_core.specs.ScratchParts.{HasPartOf, HasPartsOf, tests_of_parts}
use Rattle.build_core.proofs.PartFills.{part_inside}
use Rattle.build_core.proofs.NextSlots.{fill_none}
use Rattle.build_core.proofs.PushedOn.{moves_further}

-- where nothing was pushed
pub stays : {O : Type 0} {g : Ghosts O} (grid : GridShape) (start : Option (List ℕ)) (from to : ℕ) (cells : List Cell) (Known : List Faced → Type 0) (queues : LevelQueues) (writer : NodeWriter O g) (moves : ℕ)
    → from ≤ to → HasPushed grid start from cells queues writer → LeavesFront grid start from to cells Known (g.written writer.sink.now) moves moves
stays {g = g} grid start from to cells Known queues writer moves later has = record {
  more = [];
  bound = from;
  within = later;
  holds = subst (λ l. HoldsFrontBelow grid start from l (g.written writer.sink.now)) (sym (append-nil cells)) has.holds;
  few_moves = omega arith;
  filled = fill_none grid Known from cells;
}

-- the same of fewer lists of triangles
pub known_pushes : {O : Type 0} {g : Ghosts O} (grid : GridShape) (start : Option (List ℕ)) (from to : ℕ) (cells : List Cell) (Known Fewer : List Faced → Type 0) (queues : LevelQueues) (writer : NodeWriter O g) (moves moved : ℕ)
    → ((faced : List Faced) → Fewer faced → Known faced) → PushesOn grid start from to cells Known queues writer moves moved → PushesOn grid start from to cells Fewer queues writer moves moved
known_pushes grid start from to cells Known Fewer queues writer moves moved known on = record {
  more = on.more;
  pushed = on.pushed;
  few_moves = on.few_moves;
  filled = λ faced fewer filled. on.filled faced (known faced fewer) filled;
}

pub known_leaves : (grid : GridShape) (start : Option (List ℕ)) (from to : ℕ) (cells : List Cell) (Known Fewer : List Faced → Type 0) (written : Option (List ℕ)) (moves moved : ℕ)
    → ((faced : List Faced) → Fewer faced → Known faced) → LeavesFront grid start from to cells Known written moves moved → LeavesFront grid start from to cells Fewer written moves moved
known_leaves grid start from to cells Known Fewer written moves moved known on = record {
  more = on.more;
  bound = on.bound;
  within = on.within;
  holds = on.holds;
  few_moves = on.few_moves;
  filled = λ faced fewer filled. on.filled faced (known faced fewer) filled;
}

-- a part of all
module _ (grid : GridShape) (split part codes : ℕ) (slots : List ℕ) (Known : List Faced → Type 0) (same : codes ≡ 8 ^ (grid.depth - split))
    (known : (faced : List Faced) → Known faced → AreSlotsOf slots (first_of_part grid split part) (8 ^ (grid.depth - split)) grid faced) (start : Option (List ℕ)) (cells : List Cell) where
  pub part_pushed : {O : Type 0} {g : Ghosts O} (old new : LevelQueues) (writer after : NodeWriter O g) (moves moved : ℕ)
      → (HasPushed grid start (part * codes) cells old writer → PushesOn grid start (part * codes) ((part + 1) * codes) cells (AreSlotsOf slots (part * codes) codes grid) new after moves moved)
      → HasPushed grid start (first_of_part grid split part) cells old writer
      → PushesOn grid start (first_of_part grid split part) (first_of_part grid split (part + 1)) cells Known new after moves moved
  part_pushed old new writer after moves moved push has =
      known_pushes grid start (first_of_part grid split part) (first_of_part grid split (part + 1)) cells
      (AreSlotsOf slots (first_of_part grid split part) (8 ^ (grid.depth - split)) grid) Known new after moves moved known
      (subst (λ n. HasPushed grid start (part * n) cells old writer → PushesOn grid start (part * n) ((part + 1) * n) cells (AreSlotsOf slots (part * n) n grid) new after moves moved) same push has)

  pub part_left : {O : Type 0} {g : Ghosts O} (old : LevelQueues) (writer : NodeWriter O g) (written : Option (List ℕ)) (moves moved : ℕ)
      → (HasPushed grid start (part * codes) cells old writer → LeavesFront grid start (part * codes) ((part + 1) * codes) cells (AreSlotsOf slots (part * codes) codes grid) written moves moved)
      → HasPushed grid start (first_of_part grid split part) cells old writer
      → LeavesFront grid start (first_of_part grid split part) (first_of_part grid split (part + 1)) cells Known written moves moved
  part_left old writer written moves moved push has =
      known_leaves grid start (first_of_part grid split part) (first_of_part grid split (part + 1)) cells
      (AreSlotsOf slots (first_of_part grid split part) (8 ^ (grid.depth - split)) grid) Known written moves moved known
      (subst (λ n. HasPushed grid start (part * n) cells old writer → LeavesFront grid start (part * n) ((part + 1) * n) cells (AreSlotsOf slots (part * n) n grid) written moves moved) same push has)

-- one run after another
pub pushes_further : {O : Type 0} {g : Ghosts O} (grid : GridShape) (start : Option (List ℕ)) (from between to : ℕ) (cells : List Cell) (Known : List Faced → Type 0)
    (middle last : LevelQueues) (writer after : NodeWriter O g) (moves moving moved : ℕ) → PushesOn grid start from between cells Known middle writer moves moving
    → ((all : List Cell) → HasPushed grid start between all middle writer → PushesOn grid start between to all Known last after moving moved) → PushesOn grid start from to cells Known last after moves moved
pushes_further grid start from between to cells Known middle last writer after moves moving moved on step =
    let next = step (cells ++ on.more) on.pushed in
    record {
      more = on.more ++ next.more;
      pushed = subst (λ l. HasPushed grid start to l last after) (append_assoc cells on.more next.more) next.pushed;
      few_moves = moves_further grid.depth moves moving moved on.more next.more on.few_moves next.few_moves;
      filled = λ faced known filled. subst (AreFilledBelow grid faced to) (append_assoc cells on.more next.more) (next.filled faced known (on.filled faced known filled));
    }

pub leaves_further : {O : Type 0} {g : Ghosts O} (grid : GridShape) (start : Option (List ℕ)) (from between to end : ℕ) (cells : List Cell) (Known : List Faced → Type 0)
    (middle : LevelQueues) (writer : NodeWriter O g) (written : Option (List ℕ)) (moves moving moved : ℕ) → to ≤ end → PushesOn grid start from between cells Known middle writer moves moving
    → ((all : List Cell) → HasPushed grid start between all middle writer → LeavesFront grid start between to all Known written moving moved) → LeavesFront grid start from end cells Known written moves moved
leaves_further grid start from between to end cells Known middle writer written moves moving moved high on step =
    let next = step (cells ++ on.more) on.pushed in
    record {
      more = on.more ++ next.more;
      bound = next.bound;
      within = omega (arith, next.within, high);
      holds = subst (λ l. HoldsFrontBelow grid start next.bound l written) (append_assoc cells on.more next.more) next.holds;
      few_moves = moves_further grid.depth moves moving moved on.more next.more on.few_moves next.few_moves;
      filled = λ faced known filled. subst (AreFilledBelow grid faced next.bound) (append_assoc cells on.more next.more) (next.filled faced known (on.filled faced known filled));
    }

-- ---- tests of parts

sum_more : (f : ℕ → ℕ) (a n : ℕ) → sum_by f (range_with_len a (suc n)) ≡ sum_by f (range_with_len a n) + f (a + n)
sum_more f a zero =
    let e : f (a + 0) ≡ f a = ap f (omega arith) in
    omega (arith, sum_by-cons f a [], e)
sum_more f a (suc n) =
    let e : f ((a + 1) + n) ≡ f (a + suc n) = ap f (omega arith) in
    omega (arith, sum_by-cons f a (range_with_len (a + 1) (suc n)), sum_by-cons f a (range_with_len (a + 1) n), sum_more f (a + 1) n, e)

sum_rises : (f : ℕ → ℕ) (n k : ℕ) → sum_by f (range_with_len 0 n) ≤ sum_by f (range_with_len 0 (k + n))
sum_rises f n zero =
    let count : n ≡ zero + n = omega arith in
    let same : sum_by f (range_with_len 0 n) ≡ sum_by f (range_with_len 0 (zero + n)) = ap (λ m. sum_by f (range_with_len 0 m)) count in
    omega (arith, same)
sum_rises f n (suc k) =
    let count : suc (k + n) ≡ suc k + n = omega arith in
    let same : sum_by f (range_with_len 0 (suc (k + n))) ≡ sum_by f (range_with_len 0 (suc k + n)) = ap (λ m. sum_by f (range_with_len 0 m)) count in
    omega (arith, sum_rises f n k, sum_more f 0 (k + n), same)

-- all parts have no fewer tests than the first of them
pub tests_rise : (grid : GridShape) (split parts all : ℕ) (test : Faced → ℕ → ℕ → Bool) (faced : List Faced) → parts ≤ all → tests_of_parts grid split parts test faced ≤ tests_of_parts grid split all test faced
tests_rise grid split parts all test faced few =
    let f : ℕ → ℕ = λ part. tests_of grid split part test (part_of grid split part faced) in
    let same : (all - parts) + parts ≡ all = omega (arith, few) in
    subst (λ n. sum_by f (range_with_len 0 parts) ≤ sum_by f (range_with_len 0 n)) same (sum_rises f parts (all - parts))

-- ---- all parts

module _ (grid : GridShape) (split part : ℕ) (told now : Option (List (List ℕ))) (same : now ≡ told) (within : split ≤ grid.depth) (below : part < 8 ^ split) (start : Option (List ℕ)) where
  of_parts : (faced : List Faced) → HasPartsOf grid split told faced → HasPartOf grid split part now faced
  of_parts faced parts = subst (λ o. HasPartOf grid split part o faced) (sym same) (parts part below)

  pub parts_next : {O : Type 0} {g : Ghosts O} (middle last : LevelQueues) (writer after : NodeWriter O g) (moves moving moved : ℕ)
      → ((cells : List Cell) → HasPushed grid start (first_of_part grid split part) cells middle writer
      → PushesOn grid start (first_of_part grid split part) (first_of_part grid split (part + 1)) cells (HasPartOf grid split part now) last after moving moved)
      → PushesOn grid start 0 (first_of_part grid split part) [] (HasPartsOf grid split told) middle writer moves moving
      → PushesOn grid start 0 (first_of_part grid split (part + 1)) [] (HasPartsOf grid split told) last after moves moved
  parts_next middle last writer after moves moving moved push on =
      pushes_further grid start 0 (first_of_part grid split part) (first_of_part grid split (part + 1)) [] (HasPartsOf grid split told) middle last writer after moves moving moved on
      (λ all has. known_pushes grid start (first_of_part grid split part) (first_of_part grid split (part + 1)) all (HasPartOf grid split part now) (HasPartsOf grid split told) last after moving moved
      of_parts (push all has))

  pub parts_left : {O : Type 0} {g : Ghosts O} (middle : LevelQueues) (writer : NodeWriter O g) (written : Option (List ℕ)) (moves moving moved : ℕ)
      → ((cells : List Cell) → HasPushed grid start (first_of_part grid split part) cells middle writer
      → LeavesFront grid start (first_of_part grid split part) (first_of_part grid split (part + 1)) cells (HasPartOf grid split part now) written moving moved)
      → PushesOn grid start 0 (first_of_part grid split part) [] (HasPartsOf grid split told) middle writer moves moving
      → LeavesFront grid start 0 (8 ^ grid.depth) [] (HasPartsOf grid split told) written moves moved
  parts_left middle writer written moves moving moved push on =
      leaves_further grid start 0 (first_of_part grid split part) (first_of_part grid split (part + 1)) (8 ^ grid.depth) [] (HasPartsOf grid split told) middle writer written moves moving moved
      (part_inside grid.depth split part within below) on
      (λ all has. known_leaves grid start (first_of_part grid split part) (first_of_part grid split (part + 1)) all (HasPartOf grid split part now) (HasPartsOf grid split told) written moving moved
      of_parts (push all has))

  pub parts_tests : (test : Faced → ℕ → ℕ → Bool) (faced : List Faced) (before middle after : ℕ) → HasPartsOf grid split told faced
      → middle ≤ before + tests_of_parts grid split part test faced
      → (HasPartOf grid split part now faced → after ≤ middle + tests_of grid split part test (part_of grid split part faced))
      → after ≤ before + tests_of_parts grid split (part + 1) test faced
  parts_tests test faced before middle after parts so_far step =
      let f : ℕ → ℕ = λ part. tests_of grid split part test (part_of grid split part faced) in
      let more : sum_by f (range_with_len 0 (suc part)) ≡ sum_by f (range_with_len 0 part) + f (0 + part) = sum_more f 0 part in
      let count : sum_by f (range_with_len 0 (suc part)) ≡ sum_by f (range_with_len 0 (part + 1)) = ap (λ n. sum_by f (range_with_len 0 n)) (sym (add-one part)) in
      let here : f (0 + part) ≡ f part = ap f (omega arith) in
      omega (arith, so_far, step (of_parts faced parts), more, count, here)

-- the last part ends where the grid does
pub all_codes : (grid : GridShape) (split part : ℕ) → split ≤ grid.depth → part ≡ 8 ^ split → first_of_part grid split part ≡ 8 ^ grid.depth
all_codes grid split part within last =
    let power : 8 ^ (split + (grid.depth - split)) ≡ 8 ^ split * 8 ^ (grid.depth - split) = pow-add 8 split (grid.depth - split) in
    let same : split + (grid.depth - split) ≡ grid.depth = omega (arith, within) in
    ap (λ n. n * 8 ^ (grid.depth - split)) last ∙ (sym power ∙ ap (λ n. 8 ^ n) same)
