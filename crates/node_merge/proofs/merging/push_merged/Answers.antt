-- Each cell of either file is met once, in ascending order of their codes.
use Rattle.std.proofs.Common.{◌≡◌, ℕ, ◌+◌, ◌^◌, ◌<◌, ◌≤◌, Some, refl, sym, subst, ◌∙◌, arith}
use Rattle.node_file.specs.FileView.{FileView}
use Rattle.node_merge.specs.Maps.{IsMerged, AreMergedFaces}
use Rattle.node_merge.specs.Pushing.{IsFront, IsNextFace, least_code}
use Rattle.node_merge.specs.Sides.{turn_view}
use Rattle.node_merge.specs.declared.pairs.Turn.TheVariants.{First, Second}
use Rattle.node_merge.proofs.MergedFaces.{covers_merged, next_face, no_next, code_low, code_high, code_small, accepts_of, moves_on}
use Rattle.node_merge.proofs.ToMaps.{to_none, holds_first, pushes_all}
use Rattle.node_merge.proofs.merging.push_merged.Goals as goal

pub returns-in-Err-clause-unrefused : goal.returns-in-Err-clause-unrefused
returns-in-Err-clause-unrefused g c = λ cells known.
    accepts_of (Unit {0}) (turn_view First c.args.pair.now) (turn_view First c.args.pair.now) c.in-Err.fault refl c.in-Err.ensures.unrefused known.first_cells known.first_map

pub returns-in-Err-begin-clause-unrefused : goal.returns-in-Err-begin-clause-unrefused
returns-in-Err-begin-clause-unrefused g c = λ cells known.
    accepts_of (Unit {0}) (turn_view Second c.args.pair.now) (turn_view Second c.begin.new.pair) c.in-Err-begin.fault c.begin.ensures.second c.in-Err-begin.ensures.unrefused known.second_cells known.second_map

pub returns-in-Err-go_on-clause-unrefused : goal.returns-in-Err-go_on-clause-unrefused
returns-in-Err-go_on-clause-unrefused g c = λ cells known.
    accepts_of (Unit {0}) (turn_view First c.args.pair.now) (turn_view First c.cells.pair) c.in-Err-go_on.fault c.cells.invariant.first c.in-Err-go_on.ensures.unrefused known.first_cells known.first_map

pub returns-in-Err-go_on-2-clause-unrefused : goal.returns-in-Err-go_on-2-clause-unrefused
returns-in-Err-go_on-2-clause-unrefused g c = λ cells known.
    accepts_of (Unit {0}) (turn_view Second c.args.pair.now) (turn_view Second c.go_on.new.pair) c.in-Err-go_on-2.fault (c.go_on.ensures.second ∙ c.cells.invariant.second) c.in-Err-go_on-2.ensures.unrefused known.second_cells known.second_map

pub cells-init : goal.cells-init
cells-init g c = record {
  one = c.in-Ok.ensures.front;
  two = subst (λ (view : FileView). IsFront view 0 c.in-Ok-begin.front) c.begin.ensures.second c.in-Ok-begin.ensures.front;
  from = omega arith;
  pushed = λ start has. to_none (turn_view First c.args.pair.now).grid start (AreMergedFaces c.args.kind (turn_view First c.args.pair.now) (turn_view Second c.args.pair.now)) c.args.queues.now c.args.writer.now has;
  first = c.begin-2.ensures.first ∙ c.begin.ensures.first;
  second = c.begin-2.ensures.second ∙ c.begin.ensures.second;
  store = c.begin-2.ensures.store ∙ c.begin.ensures.store;
  moves = omega arith;
  deep = refl;
  sink = refl;
  nodes_later = omega (arith, c.begin.ensures.cause.later, c.begin-2.ensures.cause.later);
  out_later = omega arith;
}

pub returns-in_default-clause-pushed : goal.returns-in_default-clause-pushed
returns-in_default-clause-pushed g c = λ start has.
    pushes_all (turn_view First c.args.pair.now).grid start (AreMergedFaces c.args.kind (turn_view First c.args.pair.now) (turn_view Second c.args.pair.now)) (IsMerged c.args.kind (turn_view First c.args.pair.now) (turn_view Second c.args.pair.now)) (covers_merged c.args.kind (turn_view First c.args.pair.now) (turn_view Second c.args.pair.now) (turn_view First c.args.pair.now).grid refl) c.cells.from c.cells.queues c.cells.writer c.cells.invariant.from
    (no_next c.args.kind (turn_view First c.args.pair.now) (turn_view Second c.args.pair.now) c.cells.from c.cells.first c.cells.second c.cells.invariant.one c.cells.invariant.two (sym c.least_code.ensures ∙ c.in_default.is)) (c.cells.invariant.pushed start has)

pub returns-in_default-clause-front : goal.returns-in_default-clause-front
returns-in_default-clause-front g c = λ start has.
    holds_first (turn_view First c.args.pair.now).grid start (AreMergedFaces c.args.kind (turn_view First c.args.pair.now) (turn_view Second c.args.pair.now)) (IsMerged c.args.kind (turn_view First c.args.pair.now) (turn_view Second c.args.pair.now)) (covers_merged c.args.kind (turn_view First c.args.pair.now) (turn_view Second c.args.pair.now) (turn_view First c.args.pair.now).grid refl) c.cells.from c.cells.queues c.cells.writer c.cells.invariant.from (c.cells.invariant.pushed start has)

pub put-requires-clause-pushed : goal.put-requires-clause-pushed
put-requires-clause-pushed g c =
    let least : least_code c.cells.first.head c.cells.second.head ≡ Some c.in-Some.code = sym c.least_code.ensures ∙ c.in-Some.is in
    let low : c.cells.from ≤ c.in-Some.code = code_low c.args.kind (turn_view First c.args.pair.now) (turn_view Second c.args.pair.now) c.cells.from c.cells.first c.cells.second c.cells.invariant.one c.cells.invariant.two c.in-Some.code least in
    let on = c.cells.invariant.pushed c.requires.pushed.0 c.requires.pushed.1 in
    ((turn_view First c.args.pair.now).grid, c.requires.pushed.0, c.cells.from, on.cells, low, on.pushed)

pub returns-in-Err-put-clause-front : goal.returns-in-Err-put-clause-front
returns-in-Err-put-clause-front g c = λ start has.
    let least : least_code c.cells.first.head c.cells.second.head ≡ Some c.in-Some.code = sym c.least_code.ensures ∙ c.in-Some.is in
    let low : c.cells.from ≤ c.in-Some.code = code_low c.args.kind (turn_view First c.args.pair.now) (turn_view Second c.args.pair.now) c.cells.from c.cells.first c.cells.second c.cells.invariant.one c.cells.invariant.two c.in-Some.code least in
    let high : c.in-Some.code < 8 ^ (turn_view First c.args.pair.now).grid.depth = code_high c.args.kind (turn_view First c.args.pair.now) (turn_view Second c.args.pair.now) c.cells.from c.cells.first c.cells.second c.cells.invariant.one c.cells.invariant.two c.in-Some.code c.requires.grids least in
    let next : IsNextFace (AreMergedFaces c.args.kind (turn_view First c.args.pair.now) (turn_view Second c.args.pair.now)) c.cells.from c.in-Some.code c.chosen-face.result =
    next_face c.args.kind (turn_view First c.args.pair.now) (turn_view Second c.args.pair.now) c.cells.from c.cells.first c.cells.second c.cells.invariant.one c.cells.invariant.two c.in-Some.code c.face_if.result c.face_if-in-cells.result c.chosen-face.result least low c.face_if.ensures c.face_if-in-cells.ensures c.chosen-face.ensures in
    c.put.ensures.front c.args.kind (turn_view First c.args.pair.now) (turn_view Second c.args.pair.now) (turn_view First c.args.pair.now).grid start c.cells.from low high refl next (c.cells.invariant.pushed start has)

pub overflow_add-from : goal.overflow_add-from
overflow_add-from g c =
    let least : least_code c.cells.first.head c.cells.second.head ≡ Some c.in-Some.code = sym c.least_code.ensures ∙ c.in-Some.is in
    let low : c.cells.from ≤ c.in-Some.code = code_low c.args.kind (turn_view First c.args.pair.now) (turn_view Second c.args.pair.now) c.cells.from c.cells.first c.cells.second c.cells.invariant.one c.cells.invariant.two c.in-Some.code least in
    let high : c.in-Some.code < 8 ^ (turn_view First c.args.pair.now).grid.depth = code_high c.args.kind (turn_view First c.args.pair.now) (turn_view Second c.args.pair.now) c.cells.from c.cells.first c.cells.second c.cells.invariant.one c.cells.invariant.two c.in-Some.code c.requires.grids least in
    omega (arith, code_small c.args.kind (turn_view First c.args.pair.now) (turn_view Second c.args.pair.now) c.cells.from c.cells.first c.cells.second c.cells.invariant.one c.cells.invariant.two c.in-Some.code high)

pub returns-in-Err-go_on-clause-front : goal.returns-in-Err-go_on-clause-front
returns-in-Err-go_on-clause-front g c = λ start has.
    let least : least_code c.cells.first.head c.cells.second.head ≡ Some c.in-Some.code = sym c.least_code.ensures ∙ c.in-Some.is in
    let low : c.cells.from ≤ c.in-Some.code = code_low c.args.kind (turn_view First c.args.pair.now) (turn_view Second c.args.pair.now) c.cells.from c.cells.first c.cells.second c.cells.invariant.one c.cells.invariant.two c.in-Some.code least in
    let high : c.in-Some.code < 8 ^ (turn_view First c.args.pair.now).grid.depth = code_high c.args.kind (turn_view First c.args.pair.now) (turn_view Second c.args.pair.now) c.cells.from c.cells.first c.cells.second c.cells.invariant.one c.cells.invariant.two c.in-Some.code c.requires.grids least in
    let next : IsNextFace (AreMergedFaces c.args.kind (turn_view First c.args.pair.now) (turn_view Second c.args.pair.now)) c.cells.from c.in-Some.code c.chosen-face.result =
    next_face c.args.kind (turn_view First c.args.pair.now) (turn_view Second c.args.pair.now) c.cells.from c.cells.first c.cells.second c.cells.invariant.one c.cells.invariant.two c.in-Some.code c.face_if.result c.face_if-in-cells.result c.chosen-face.result least low c.face_if.ensures c.face_if-in-cells.ensures c.chosen-face.ensures in
    holds_first (turn_view First c.args.pair.now).grid start (AreMergedFaces c.args.kind (turn_view First c.args.pair.now) (turn_view Second c.args.pair.now)) (IsMerged c.args.kind (turn_view First c.args.pair.now) (turn_view Second c.args.pair.now)) (covers_merged c.args.kind (turn_view First c.args.pair.now) (turn_view Second c.args.pair.now) (turn_view First c.args.pair.now).grid refl) (c.in-Some.code + 1) c.put.new.queues c.put.new.writer (omega (arith, high))
    (c.in-Ok-put.ensures.pushed c.args.kind (turn_view First c.args.pair.now) (turn_view Second c.args.pair.now) (turn_view First c.args.pair.now).grid start c.cells.from low next (c.cells.invariant.pushed start has))

pub returns-in-Err-go_on-2-clause-front : goal.returns-in-Err-go_on-2-clause-front
returns-in-Err-go_on-2-clause-front g c = λ start has.
    let least : least_code c.cells.first.head c.cells.second.head ≡ Some c.in-Some.code = sym c.least_code.ensures ∙ c.in-Some.is in
    let low : c.cells.from ≤ c.in-Some.code = code_low c.args.kind (turn_view First c.args.pair.now) (turn_view Second c.args.pair.now) c.cells.from c.cells.first c.cells.second c.cells.invariant.one c.cells.invariant.two c.in-Some.code least in
    let high : c.in-Some.code < 8 ^ (turn_view First c.args.pair.now).grid.depth = code_high c.args.kind (turn_view First c.args.pair.now) (turn_view Second c.args.pair.now) c.cells.from c.cells.first c.cells.second c.cells.invariant.one c.cells.invariant.two c.in-Some.code c.requires.grids least in
    let next : IsNextFace (AreMergedFaces c.args.kind (turn_view First c.args.pair.now) (turn_view Second c.args.pair.now)) c.cells.from c.in-Some.code c.chosen-face.result =
    next_face c.args.kind (turn_view First c.args.pair.now) (turn_view Second c.args.pair.now) c.cells.from c.cells.first c.cells.second c.cells.invariant.one c.cells.invariant.two c.in-Some.code c.face_if.result c.face_if-in-cells.result c.chosen-face.result least low c.face_if.ensures c.face_if-in-cells.ensures c.chosen-face.ensures in
    holds_first (turn_view First c.args.pair.now).grid start (AreMergedFaces c.args.kind (turn_view First c.args.pair.now) (turn_view Second c.args.pair.now)) (IsMerged c.args.kind (turn_view First c.args.pair.now) (turn_view Second c.args.pair.now)) (covers_merged c.args.kind (turn_view First c.args.pair.now) (turn_view Second c.args.pair.now) (turn_view First c.args.pair.now).grid refl) (c.in-Some.code + 1) c.put.new.queues c.put.new.writer (omega (arith, high))
    (c.in-Ok-put.ensures.pushed c.args.kind (turn_view First c.args.pair.now) (turn_view Second c.args.pair.now) (turn_view First c.args.pair.now).grid start c.cells.from low next (c.cells.invariant.pushed start has))

pub cells-preserved : goal.cells-preserved
cells-preserved g c =
    let least : least_code c.cells.first.head c.cells.second.head ≡ Some c.in-Some.code = sym c.least_code.ensures ∙ c.in-Some.is in
    let low : c.cells.from ≤ c.in-Some.code = code_low c.args.kind (turn_view First c.args.pair.now) (turn_view Second c.args.pair.now) c.cells.from c.cells.first c.cells.second c.cells.invariant.one c.cells.invariant.two c.in-Some.code least in
    let high : c.in-Some.code < 8 ^ (turn_view First c.args.pair.now).grid.depth = code_high c.args.kind (turn_view First c.args.pair.now) (turn_view Second c.args.pair.now) c.cells.from c.cells.first c.cells.second c.cells.invariant.one c.cells.invariant.two c.in-Some.code c.requires.grids least in
    let next : IsNextFace (AreMergedFaces c.args.kind (turn_view First c.args.pair.now) (turn_view Second c.args.pair.now)) c.cells.from c.in-Some.code c.chosen-face.result =
    next_face c.args.kind (turn_view First c.args.pair.now) (turn_view Second c.args.pair.now) c.cells.from c.cells.first c.cells.second c.cells.invariant.one c.cells.invariant.two c.in-Some.code c.face_if.result c.face_if-in-cells.result c.chosen-face.result least low c.face_if.ensures c.face_if-in-cells.ensures c.chosen-face.ensures in
    record {
      one = subst (λ (view : FileView). (before : ℕ) → before < c.in-Some.code + 1 → IsFront view before c.cells.first → IsFront view (c.in-Some.code + 1) c.go_on.new.front)
          c.cells.invariant.first c.in-Ok-go_on.ensures.front c.cells.from (omega (arith, low)) c.cells.invariant.one;
      two = subst (λ (view : FileView). (before : ℕ) → before < c.in-Some.code + 1 → IsFront view before c.cells.second → IsFront view (c.in-Some.code + 1) c.go_on-in-cells.new.front)
          (c.go_on.ensures.second ∙ c.cells.invariant.second) c.in-Ok-go_on-2.ensures.front c.cells.from (omega (arith, low)) c.cells.invariant.two;
      from = omega (arith, high);
      pushed = λ start has. c.in-Ok-put.ensures.pushed c.args.kind (turn_view First c.args.pair.now) (turn_view Second c.args.pair.now) (turn_view First c.args.pair.now).grid start c.cells.from low next (c.cells.invariant.pushed start has);
      first = c.go_on-in-cells.ensures.first ∙ (c.go_on.ensures.first ∙ c.cells.invariant.first);
      second = c.go_on-in-cells.ensures.second ∙ (c.go_on.ensures.second ∙ c.cells.invariant.second);
      store = c.go_on-in-cells.ensures.store ∙ (c.go_on.ensures.store ∙ c.cells.invariant.store);
      moves = moves_on c.args.moves.now c.cells.moves c.put.new.moves c.args.queues.now.depth c.cells.queues.depth c.args.queues.now.cells c.cells.queues.cells c.put.new.queues.cells
          c.cells.invariant.moves c.cells.invariant.deep c.in-Ok-put.ensures.moves;
      deep = c.put.ensures.depth ∙ c.cells.invariant.deep;
      sink = c.put.ensures.sink ∙ c.cells.invariant.sink;
      nodes_later = omega (arith, c.cells.invariant.nodes_later, c.go_on.ensures.cause.later, c.go_on-in-cells.ensures.cause.later);
      out_later = omega (arith, c.cells.invariant.out_later, c.put.ensures.cause.later);
    }
