-- The cells in turn, and the root at the end.
use Rattle.std.proofs.Common.{ℕ, ◌*◌, drop, mul-le-mul_left, List, [], ◌∷◌, ◌≡◌, ◌≤◌, ◌+◌, ◌^◌, ◌++◌, length, take, get_or, refl, sym, ap, subst, ◌∙◌, arith, rules}
use Rattle.std.specs.Prelude.{Option}
use Rattle.std.proofs.lemmas.List.{take_all, map-append, take-append-drop}
use Rattle.svo_base.specs.GridShape.{GridShape}
use Rattle.node_file.specs.Waiting.{GrewByFront}
use Rattle.std.specs.Io.KnownBytes.{append_known}
use Rattle.octree_specs.specs.Cells.{Cell}
use Rattle.octree_specs.specs.Formats.{file_words}
use Rattle.octree_specs.specs.OctreeFile.{trailer_of, image_of}
use Rattle.node_file.specs.declared.records.Totals.{Totals}
use Rattle.node_file.specs.Writing.{given, waiting}
use Rattle.level_queues.specs.GivenWords.{with_words}
use Rattle.level_queues.specs.Fronts.{Ascend, HoldsFront}
use Rattle.level_queues.specs.Pushed.{IsQueued, GoesOn}
use Rattle.level_queues.proofs.Bounds.{cells-few}
use Rattle.level_queues.proofs.FileFronts.{front_begun, front_pushed, front_now, front_ended, front_closed}
use Rattle.level_queues.proofs.Onward.{goes_nowhere, goes_further}
use Rattle.level_queues.proofs.PairedCells.{cells_of, cells-more}
use Rattle.level_queues.proofs.WholeFile.{whole_file}
use Rattle.build_tests.proofs.level_queues_tests.put_file.Goals.{then-code-next-via-then-code-next, then-code-next-via-else-code-next+then-face, then-code-next-via-else-code-next+else-face+then-ancestor-ne0}
use Rattle.build_tests.proofs.level_queues_tests.put_file.Goals as goal

pub loop-code-init : goal.loop-code-init
loop-code-init g c = record {
  queued = goes_nowhere [] (given c.in_ok-writer.writer) (IsQueued [] c.new-queues.result) c.new-queues.ensures.queued;
  records = c.in_ok-writer.ensures.records ∙ sym c.new-queues.ensures.queued.count;
  sink = refl;
  depth = refl;
  later = λ some. absurd (omega (arith, some, c.new-queues.ensures.queued.cells));
  front = front_begun c.args.grid.now (g.O.ByteSink.written c.args.sink.now) (g.O.ByteSink.written c.in_ok-writer.writer.sink.now) c.in_ok-writer.ensures.unwritten;
  moves = omega arith;
}

pub overflow_add-next : goal.overflow_add-next
overflow_add-next g c =
    let pushed = c.push.new.self in
    let code : ℕ = (get_or c.args.cells.now c.loop-code.code-index (0, 0)).0 in
    let few : code + 1 ≤ 2 ^ 36 = cells-few pushed.depth pushed.last (code + 1) pushed.most pushed.inside (omega (arith, c.in_ok-push.ensures.last)) in
    omega (arith, few)

pub loop-code-preserved : goal.loop-code-preserved
loop-code-preserved g c =
    let before = c.loop-code.invariant in
    let pairs : List (ℕ × ℕ) = c.args.cells.now in
    let at : ℕ = c.loop-code.code-index in
    let start = g.O.ByteSink.written c.args.sink.now in
    let pair : ℕ × ℕ = get_or pairs at (0, 0) in
    let more : cells_of (take (at + 1) pairs) ≡ cells_of (take at pairs) ++ record { code = pair.0; face = pair.1 } ∷ [] = cells-more pairs at pair (0, 0) (omega (arith, c.loop-code-test.true, c.loop-code.auto.code-index-end)) refl in
    record {
      queued = subst (λ cells. GoesOn [] (given c.in_ok-writer.writer) (given c.push.new.writer) (IsQueued cells c.push.new.self)) (sym more)
          (goes_further [] (given c.in_ok-writer.writer) (given c.loop-code.writer) (given c.push.new.writer)
          (IsQueued (cells_of (take at pairs)) c.loop-code.queues) (IsQueued (cells_of (take at pairs) ++ record { code = pair.0; face = pair.1 } ∷ []) c.push.new.self)
          before.queued (c.in_ok-push.ensures.queued (cells_of (take at pairs))));
      records = c.in_ok-push.ensures.records;
      sink = c.push.ensures.sink ∙ before.sink;
      depth = c.push.ensures.depth ∙ before.depth;
      later = λ some. omega (arith, c.in_ok-push.ensures.last);
      front =
          subst (λ cells. HoldsFront c.args.grid.now cells start (g.O.ByteSink.written c.push.new.writer.sink.now)) (sym more)
          (front_pushed c.args.grid.now (cells_of (take at pairs)) (record { code = pair.0; face = pair.1 }) before.queued.more (waiting c.loop-code.writer) start
          (g.O.ByteSink.written c.loop-code.writer.sink.now) (g.O.ByteSink.written c.push.new.writer.sink.now) c.loop-code.queues.depth before.front
          (before.queued.grown ∙ ap (λ o. with_words o before.queued.more) c.in_ok-writer.ensures.given) (before.depth ∙ (c.new-queues.ensures.depth ∙ c.depth-depth.ensures.value))
          (c.push.ensures.front (cells_of (take at pairs)) before.queued.more before.queued.holds));
      moves = omega (arith, c.push.ensures.moves, before.moves, before.depth);
    }

pub returns-clause-whole : goal.returns-clause-whole
returns-clause-whole g c =
    let before = c.loop-code.invariant in
    let pairs : List (ℕ × ℕ) = c.args.cells.now in
    let at : ℕ = c.loop-code.code-index in
    let cells : List Cell = cells_of (take at pairs) in
    let all : take at pairs ≡ pairs = take_all at pairs (omega (arith, c.loop-code-test.false, c.loop-code.auto.code-index-end)) in
    let deep : c.loop-code.queues.depth ≡ c.args.grid.now.depth = before.depth ∙ (c.new-queues.ensures.depth ∙ c.depth-depth.ensures.value) in
    let on : GoesOn [] (given c.in_ok-writer.writer) (given c.finish.new.writer) (λ all. all ≡ file_words 2 c.loop-code.queues.depth cells) =
    goes_further [] (given c.in_ok-writer.writer) (given c.loop-code.writer) (given c.finish.new.writer) (IsQueued cells c.loop-code.queues) (λ all. all ≡ file_words 2 c.loop-code.queues.depth cells)
    before.queued (c.in_ok-totals.ensures.words cells) in
    let totals : c.in_ok-totals.totals ≡ record { records = length (file_words 2 c.loop-code.queues.depth cells); cells = length cells } =
    c.in_ok-totals.ensures.totals cells before.queued.more before.queued.holds in
    let words : on.more ≡ file_words 2 c.args.grid.now.depth cells = on.holds ∙ ap (λ d. file_words 2 d cells) deep in
    let records : c.finish.new.writer.records ≡ length on.more = c.in_ok-totals.ensures.records ∙ (ap (λ (t : Totals). t.records) totals ∙ ap length (sym on.holds)) in
    let whole : append_known (given c.finish.new.writer) (trailer_of 2 c.finish.new.writer.records c.in_ok-totals.totals.cells) ≡ append_known (g.O.ByteSink.written c.args.sink.now) (image_of 2 c.args.grid.now cells) =
    whole_file (g.O.ByteSink.written c.args.sink.now) (given c.in_ok-writer.writer) (given c.finish.new.writer) _ c.args.grid.now cells on.more c.finish.new.writer.records c.in_ok-totals.totals.cells
    c.in_ok-writer.ensures.given on.grown refl words records (ap (λ (t : Totals). t.cells) totals) in
    let done : append_known (given c.finish.new.writer) (trailer_of 2 c.finish.new.writer.records c.in_ok-totals.totals.cells) ≡ append_known (g.O.ByteSink.written c.args.sink.now) (image_of 2 c.args.grid.now (cells_of pairs)) =
    whole ∙ ap (λ l. append_known (g.O.ByteSink.written c.args.sink.now) (image_of 2 c.args.grid.now (cells_of l))) all in
    let put : g.O.ByteSink.written c.finish-2.new.self.0 ≡ append_known (g.O.ByteSink.written c.args.sink.now) (image_of 2 c.args.grid.now (cells_of pairs)) = c.in_ok-finish.ensures.whole ∙ done in
    search (rules, put)

-- the file of all cells, once some are pushed
of_all : (grid : GridShape) (pairs : List (ℕ × ℕ)) (at : ℕ) (start now : Option (List ℕ)) → HoldsFront grid (cells_of (take at pairs)) start now → Ascend grid.depth (cells_of pairs) → GrewByFront start now (image_of 2 grid (cells_of pairs))
of_all grid pairs at start now holds ascend =
    let parts : cells_of (take at pairs) ++ cells_of (drop at pairs) ≡ cells_of pairs =
    sym (map-append (λ (pair : ℕ × ℕ). record { code = pair.0; face = pair.1 }) (take at pairs) (drop at pairs)) ∙ ap cells_of (take-append-drop at pairs) in
    subst (λ l. GrewByFront start now (image_of 2 grid l)) parts (holds.follows (cells_of (drop at pairs)) (subst (Ascend grid.depth) (sym parts) ascend))

few_moves : (moves before depth at count : ℕ) → moves ≤ before + depth * at → at ≤ count → moves ≤ before + 2 * (14 * depth + 1) * (count + 1)
few_moves moves before depth at count few low =
    let less : depth * at ≤ depth * count = mul-le-mul_left depth low in
    omega (arith, few, less)

pub returns-then-code-next-clause-front : goal.returns-then-code-next-clause-front
returns-then-code-next-clause-front g c = λ ascend.
    let grew : GrewByFront (g.O.ByteSink.written c.args.sink.now) (g.O.ByteSink.written c.loop-code.writer.sink.now) (image_of 2 c.args.grid.now (cells_of c.args.cells.now)) =
    of_all c.args.grid.now c.args.cells.now c.loop-code.code-index (g.O.ByteSink.written c.args.sink.now) (g.O.ByteSink.written c.loop-code.writer.sink.now) c.loop-code.invariant.front ascend in
    elim c.then-code-next.branch [
      | then-code-next-via-then-code-next w ↦ (grew.0, search (rules, w.sink-is, grew.1))
      | then-code-next-via-else-code-next+then-face w ↦ (grew.0, search (rules, w.sink-is, grew.1))
      | then-code-next-via-else-code-next+else-face+then-ancestor-ne0 w ↦ (grew.0, search (rules, w.sink-is, grew.1))
    ]

pub returns-then-code-next-clause-moves : goal.returns-then-code-next-clause-moves
returns-then-code-next-clause-moves g c =
    few_moves c.loop-code.moves c.args.moves.now c.args.grid.now.depth c.loop-code.code-index (length c.args.cells.now)
    (subst (λ d. c.loop-code.moves ≤ c.args.moves.now + d * c.loop-code.code-index) (c.new-queues.ensures.depth ∙ c.depth-depth.ensures.value) c.loop-code.invariant.moves) c.loop-code.auto.code-index-end

pub returns-in_err-push-clause-front : goal.returns-in_err-push-clause-front
returns-in_err-push-clause-front g c = λ ascend.
    let grid = c.args.grid.now in
    let before = c.loop-code.invariant in
    let pairs : List (ℕ × ℕ) = c.args.cells.now in
    let at : ℕ = c.loop-code.code-index in
    let pair : ℕ × ℕ = get_or pairs at (0, 0) in
    let start = g.O.ByteSink.written c.args.sink.now in
    let more : cells_of (take (at + 1) pairs) ≡ cells_of (take at pairs) ++ record { code = pair.0; face = pair.1 } ∷ [] = cells-more pairs at pair (0, 0) (omega (arith, c.loop-code-test.true)) refl in
    let holds : HoldsFront grid (cells_of (take (at + 1) pairs)) start (g.O.ByteSink.written c.push.new.writer.sink.now) =
    subst (λ cells. HoldsFront grid cells start (g.O.ByteSink.written c.push.new.writer.sink.now)) (sym more)
    (front_pushed grid (cells_of (take at pairs)) (record { code = pair.0; face = pair.1 }) before.queued.more (waiting c.loop-code.writer) start
    (g.O.ByteSink.written c.loop-code.writer.sink.now) (g.O.ByteSink.written c.push.new.writer.sink.now) c.loop-code.queues.depth before.front
    (before.queued.grown ∙ ap (λ o. with_words o before.queued.more) c.in_ok-writer.ensures.given) (before.depth ∙ (c.new-queues.ensures.depth ∙ c.depth-depth.ensures.value))
    (c.push.ensures.front (cells_of (take at pairs)) before.queued.more before.queued.holds)) in
    let grew : GrewByFront start (g.O.ByteSink.written c.push.new.writer.sink.now) (image_of 2 grid (cells_of pairs)) = of_all grid pairs (at + 1) start (g.O.ByteSink.written c.push.new.writer.sink.now) holds ascend in
    (grew.0, search (rules, grew.1))

pub returns-in_err-totals-clause-front : goal.returns-in_err-totals-clause-front
returns-in_err-totals-clause-front g c = λ ascend.
    let grid = c.args.grid.now in
    let before = c.loop-code.invariant in
    let pairs : List (ℕ × ℕ) = c.args.cells.now in
    let at : ℕ = c.loop-code.code-index in
    let cells : List Cell = cells_of (take at pairs) in
    let start = g.O.ByteSink.written c.args.sink.now in
    let pushed = g.O.ByteSink.written c.loop-code.writer.sink.now in
    let ended = g.O.ByteSink.written c.finish.new.writer.sink.now in
    let deep : c.loop-code.queues.depth ≡ grid.depth = before.depth ∙ (c.new-queues.ensures.depth ∙ c.depth-depth.ensures.value) in
    let all : take at pairs ≡ pairs = take_all at pairs (omega (arith, c.loop-code-test.false, c.loop-code.auto.code-index-end)) in
    let now : GrewByFront start pushed (image_of 2 grid cells) =
    front_now grid cells start pushed (subst (λ l. Ascend grid.depth (cells_of l)) (sym all) ascend) before.front in
    let grew : GrewByFront start ended (image_of 2 grid cells) =
    front_ended grid cells before.queued.more (waiting c.loop-code.writer) start pushed ended c.loop-code.queues.depth now
    (before.queued.grown ∙ ap (λ o. with_words o before.queued.more) c.in_ok-writer.ensures.given) deep (c.finish.ensures.front cells before.queued.more before.queued.holds) in
    let whole : GrewByFront start ended (image_of 2 grid (cells_of pairs)) = subst (λ l. GrewByFront start ended (image_of 2 grid (cells_of l))) all grew in
    (whole.0, search (rules, whole.1))

pub returns-in_err-finish-clause-front : goal.returns-in_err-finish-clause-front
returns-in_err-finish-clause-front g c = λ ascend.
    let grid = c.args.grid.now in
    let before = c.loop-code.invariant in
    let pairs : List (ℕ × ℕ) = c.args.cells.now in
    let at : ℕ = c.loop-code.code-index in
    let cells : List Cell = cells_of (take at pairs) in
    let start = g.O.ByteSink.written c.args.sink.now in
    let pushed = g.O.ByteSink.written c.loop-code.writer.sink.now in
    let ended = g.O.ByteSink.written c.finish.new.writer.sink.now in
    let deep : c.loop-code.queues.depth ≡ grid.depth = before.depth ∙ (c.new-queues.ensures.depth ∙ c.depth-depth.ensures.value) in
    let all : take at pairs ≡ pairs = take_all at pairs (omega (arith, c.loop-code-test.false, c.loop-code.auto.code-index-end)) in
    let now : GrewByFront start pushed (image_of 2 grid cells) =
    front_now grid cells start pushed (subst (λ l. Ascend grid.depth (cells_of l)) (sym all) ascend) before.front in
    let grew : GrewByFront start ended (image_of 2 grid cells) =
    front_ended grid cells before.queued.more (waiting c.loop-code.writer) start pushed ended c.loop-code.queues.depth now
    (before.queued.grown ∙ ap (λ o. with_words o before.queued.more) c.in_ok-writer.ensures.given) deep (c.finish.ensures.front cells before.queued.more before.queued.holds) in
    let closed = g.O.ByteSink.written c.finish-2.new.self.0 in
    let on : GoesOn [] (given c.in_ok-writer.writer) (given c.finish.new.writer) (λ all. all ≡ file_words 2 c.loop-code.queues.depth cells) =
    goes_further [] (given c.in_ok-writer.writer) (given c.loop-code.writer) (given c.finish.new.writer) (IsQueued cells c.loop-code.queues) (λ all. all ≡ file_words 2 c.loop-code.queues.depth cells)
    before.queued (c.in_ok-totals.ensures.words cells) in
    let totals : c.in_ok-totals.totals ≡ record { records = length (file_words 2 c.loop-code.queues.depth cells); cells = length cells } =
    c.in_ok-totals.ensures.totals cells before.queued.more before.queued.holds in
    let last : GrewByFront start closed (image_of 2 grid cells) =
    front_closed grid cells on.more (waiting c.finish.new.writer) start ended closed c.finish.new.writer.records c.in_ok-totals.totals.cells grew
    (on.grown ∙ ap (λ o. with_words o on.more) c.in_ok-writer.ensures.given) (on.holds ∙ ap (λ d. file_words 2 d cells) deep)
    (c.in_ok-totals.ensures.records ∙ (ap (λ (t : Totals). t.records) totals ∙ ap length (sym on.holds))) (ap (λ (t : Totals). t.cells) totals) c.finish-2.ensures.front in
    let whole : GrewByFront start closed (image_of 2 grid (cells_of pairs)) = subst (λ l. GrewByFront start closed (image_of 2 grid (cells_of l))) all last in
    (whole.0, search (rules, whole.1))

pub returns-clause-front : goal.returns-clause-front
returns-clause-front g c = λ ascend.
    let grid = c.args.grid.now in
    let before = c.loop-code.invariant in
    let pairs : List (ℕ × ℕ) = c.args.cells.now in
    let at : ℕ = c.loop-code.code-index in
    let cells : List Cell = cells_of (take at pairs) in
    let start = g.O.ByteSink.written c.args.sink.now in
    let pushed = g.O.ByteSink.written c.loop-code.writer.sink.now in
    let ended = g.O.ByteSink.written c.finish.new.writer.sink.now in
    let deep : c.loop-code.queues.depth ≡ grid.depth = before.depth ∙ (c.new-queues.ensures.depth ∙ c.depth-depth.ensures.value) in
    let all : take at pairs ≡ pairs = take_all at pairs (omega (arith, c.loop-code-test.false, c.loop-code.auto.code-index-end)) in
    let now : GrewByFront start pushed (image_of 2 grid cells) =
    front_now grid cells start pushed (subst (λ l. Ascend grid.depth (cells_of l)) (sym all) ascend) before.front in
    let grew : GrewByFront start ended (image_of 2 grid cells) =
    front_ended grid cells before.queued.more (waiting c.loop-code.writer) start pushed ended c.loop-code.queues.depth now
    (before.queued.grown ∙ ap (λ o. with_words o before.queued.more) c.in_ok-writer.ensures.given) deep (c.finish.ensures.front cells before.queued.more before.queued.holds) in
    let closed = g.O.ByteSink.written c.finish-2.new.self.0 in
    let on : GoesOn [] (given c.in_ok-writer.writer) (given c.finish.new.writer) (λ all. all ≡ file_words 2 c.loop-code.queues.depth cells) =
    goes_further [] (given c.in_ok-writer.writer) (given c.loop-code.writer) (given c.finish.new.writer) (IsQueued cells c.loop-code.queues) (λ all. all ≡ file_words 2 c.loop-code.queues.depth cells)
    before.queued (c.in_ok-totals.ensures.words cells) in
    let totals : c.in_ok-totals.totals ≡ record { records = length (file_words 2 c.loop-code.queues.depth cells); cells = length cells } =
    c.in_ok-totals.ensures.totals cells before.queued.more before.queued.holds in
    let last : GrewByFront start closed (image_of 2 grid cells) =
    front_closed grid cells on.more (waiting c.finish.new.writer) start ended closed c.finish.new.writer.records c.in_ok-totals.totals.cells grew
    (on.grown ∙ ap (λ o. with_words o on.more) c.in_ok-writer.ensures.given) (on.holds ∙ ap (λ d. file_words 2 d cells) deep)
    (c.in_ok-totals.ensures.records ∙ (ap (λ (t : Totals). t.records) totals ∙ ap length (sym on.holds))) (ap (λ (t : Totals). t.cells) totals) c.finish-2.ensures.front in
    let whole : GrewByFront start closed (image_of 2 grid (cells_of pairs)) = subst (λ l. GrewByFront start closed (image_of 2 grid (cells_of l))) all last in
    (whole.0, search (rules, whole.1))
