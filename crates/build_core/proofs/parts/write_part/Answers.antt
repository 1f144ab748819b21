use Rattle.std.proofs.Common.{rules, ◌≡◌, ℕ, ◌+◌, ◌-◌, ◌*◌, ◌^◌, ◌≤◌, [], List, map, arith, ap, ◌∙◌}
use Rattle.std.specs.Prelude.{Option, IfSome}
use Rattle.svo_base.specs.GridShape.{GridShape}
use Rattle.octree_specs.specs.Cells.{Cell}
use Rattle.octree_specs.specs.FacedTriangles.{Faced}
use Rattle.tri_partition.specs.PartStreams.{part_stream, parcels_in}
use Rattle.morton_scan.specs.FilledParts.{HasSlotsFor, limited}
use Rattle.morton_scan.specs.Putting.{first_of_part}
use Rattle.morton_scan.proofs.FilledParts.{no_triangle}
use Rattle.level_queues.specs.PushedFiles.{HasPushed}
use Rattle.build_core.specs.Pushing.{AreSlotsOf, PushesOn}
use Rattle.build_core.specs.ScratchParts.{HasPartOf}
use Rattle.build_core.proofs.PartFills.{part_slots, part_tests, slots_narrow, part_inside, eights_few}
use Rattle.build_core.proofs.PartsPushed.{stays, part_pushed, part_left}
use Rattle.build_core.proofs.parts.write_part.Goals as goal

pub returns-then-is_err-clause-front : goal.returns-then-is_err-clause-front
returns-then-is_err-clause-front g c = λ start cells has.
    stays c.args.grid.now start (first_of_part c.args.grid.now c.args.split c.args.part) (first_of_part c.args.grid.now c.args.split (c.args.part + 1)) cells
    (HasPartOf c.args.grid.now c.args.split c.args.part (g.S.Scratch.told c.args.scratch.now)) c.args.queues.now c.args.writer.now c.args.moves.now (omega arith) has

pub push_cells-requires-clause-faces : goal.push_cells-requires-clause-faces
push_cells-requires-clause-faces g c =
    let grid = c.args.grid.now in
    let codes : c.nodes_below-codes.result ≡ 8 ^ (grid.depth - c.args.split) = c.nodes_below-codes.ensures ∙ ap (λ d. 8 ^ (d - c.args.split)) c.depth.ensures.value in
    slots_narrow grid c.args.split c.args.part c.fill_part.ensures.filled.parcels c.fill_part.new.self c.nodes_below-codes.result codes
    (c.fill_part.ensures.filled.taken [] (no_triangle grid c.args.split c.args.part c.args.slots.now c.requires.empty))

pub push_cells-requires-clause-codes : goal.push_cells-requires-clause-codes
push_cells-requires-clause-codes g c =
    let grid = c.args.grid.now in
    let codes : c.nodes_below-codes.result ≡ 8 ^ (grid.depth - c.args.split) = c.nodes_below-codes.ensures ∙ ap (λ d. 8 ^ (d - c.args.split)) c.depth.ensures.value in
    let few : 8 ^ grid.depth ≤ 2 ^ 60 = eights_few grid.depth (omega (arith, c.depth.ensures.limits.shallow, c.depth.ensures.value)) in
    rw codes (omega (arith, part_inside grid.depth c.args.split c.args.part c.requires.split c.requires.part, few))

pub push_cells-requires-clause-inside : goal.push_cells-requires-clause-inside
push_cells-requires-clause-inside g c =
    let grid = c.args.grid.now in
    let codes : c.nodes_below-codes.result ≡ 8 ^ (grid.depth - c.args.split) = c.nodes_below-codes.ensures ∙ ap (λ d. 8 ^ (d - c.args.split)) c.depth.ensures.value in
    let deep : 8 ^ c.args.queues.now.depth ≡ 8 ^ grid.depth = ap (λ n. 8 ^ n) c.requires.pushed.2.depth in
    rw codes (omega (arith, part_inside grid.depth c.args.split c.args.part c.requires.split c.requires.part, deep))

pub returns-then-is_err-2-clause-front : goal.returns-then-is_err-2-clause-front
returns-then-is_err-2-clause-front g c = λ start cells has.
    let grid = c.args.grid.now in
    let told = g.S.Scratch.told c.args.scratch.now in
    let parcels : List Faced = c.fill_part.ensures.filled.parcels in
    let codes : c.nodes_below-codes.result ≡ 8 ^ (grid.depth - c.args.split) = c.nodes_below-codes.ensures ∙ ap (λ d. 8 ^ (d - c.args.split)) c.depth.ensures.value in
    let filled : HasSlotsFor grid c.args.split c.args.part (map limited parcels) c.fill_part.new.self =
    c.fill_part.ensures.filled.taken [] (no_triangle grid c.args.split c.args.part c.args.slots.now c.requires.empty) in
    let all : IfSome told (λ streams. parcels ≡ parcels_in (part_stream streams c.args.part)) = search (rules, c.fill_part.ensures.filled.all, c.if-is_err.false, c.is_err.ensures) in
    part_left grid c.args.split c.args.part c.nodes_below-codes.result c.fill_part.new.self (HasPartOf grid c.args.split c.args.part told) codes
    (part_slots grid c.args.split c.args.part told parcels c.fill_part.new.self c.requires.split filled all) start cells
    c.args.queues.now c.args.writer.now (g.O.ByteSink.written c.push_cells.new.writer.sink.now) c.args.moves.now c.push_cells.new.moves (c.push_cells.ensures.front grid start cells) has

pub returns-clause-front : goal.returns-clause-front
returns-clause-front g c = λ start cells has.
    let grid = c.args.grid.now in
    let told = g.S.Scratch.told c.args.scratch.now in
    let parcels : List Faced = c.fill_part.ensures.filled.parcels in
    let codes : c.nodes_below-codes.result ≡ 8 ^ (grid.depth - c.args.split) = c.nodes_below-codes.ensures ∙ ap (λ d. 8 ^ (d - c.args.split)) c.depth.ensures.value in
    let filled : HasSlotsFor grid c.args.split c.args.part (map limited parcels) c.fill_part.new.self =
    c.fill_part.ensures.filled.taken [] (no_triangle grid c.args.split c.args.part c.args.slots.now c.requires.empty) in
    let all : IfSome told (λ streams. parcels ≡ parcels_in (part_stream streams c.args.part)) = search (rules, c.fill_part.ensures.filled.all, c.if-is_err.false, c.is_err.ensures) in
    part_left grid c.args.split c.args.part c.nodes_below-codes.result c.fill_part.new.self (HasPartOf grid c.args.split c.args.part told) codes
    (part_slots grid c.args.split c.args.part told parcels c.fill_part.new.self c.requires.split filled all) start cells
    c.args.queues.now c.args.writer.now (g.O.ByteSink.written c.push_cells.new.writer.sink.now) c.args.moves.now c.push_cells.new.moves (c.push_cells.ensures.front grid start cells) has

pub returns-clause-pushed : goal.returns-clause-pushed
returns-clause-pushed g c = λ start cells has.
    let grid = c.args.grid.now in
    let told = g.S.Scratch.told c.args.scratch.now in
    let parcels : List Faced = c.fill_part.ensures.filled.parcels in
    let codes : c.nodes_below-codes.result ≡ 8 ^ (grid.depth - c.args.split) = c.nodes_below-codes.ensures ∙ ap (λ d. 8 ^ (d - c.args.split)) c.depth.ensures.value in
    let filled : HasSlotsFor grid c.args.split c.args.part (map limited parcels) c.fill_part.new.self =
    c.fill_part.ensures.filled.taken [] (no_triangle grid c.args.split c.args.part c.args.slots.now c.requires.empty) in
    let all : IfSome told (λ streams. parcels ≡ parcels_in (part_stream streams c.args.part)) = search (rules, c.fill_part.ensures.filled.all, c.if-is_err.false, c.is_err.ensures) in
    let push : (grid : GridShape) → (start : Option (List ℕ)) → (cells : List Cell) → HasPushed grid start (c.args.part * c.nodes_below-codes.result) cells c.args.queues.now c.args.writer.now
    → PushesOn grid start (c.args.part * c.nodes_below-codes.result) ((c.args.part + 1) * c.nodes_below-codes.result) cells
    (AreSlotsOf c.fill_part.new.self (c.args.part * c.nodes_below-codes.result) c.nodes_below-codes.result grid) c.push_cells.new.queues c.push_cells.new.writer c.args.moves.now c.push_cells.new.moves = search (rules, c.push_cells.ensures.pushed, c.if-is_err-2.false, c.is_err-2.ensures) in
    part_pushed grid c.args.split c.args.part c.nodes_below-codes.result c.fill_part.new.self (HasPartOf grid c.args.split c.args.part told) codes
    (part_slots grid c.args.split c.args.part told parcels c.fill_part.new.self c.requires.split filled all) start cells
    c.args.queues.now c.push_cells.new.queues c.args.writer.now c.push_cells.new.writer c.args.moves.now c.push_cells.new.moves (push grid start cells) has

pub returns-then-is_err-clause-tests : goal.returns-then-is_err-clause-tests
returns-then-is_err-clause-tests g c = λ test each faced known.
    let filled = c.fill_part.ensures.filled in
    let few = part_tests c.args.grid.now c.args.split c.args.part (g.S.Scratch.told c.args.scratch.now) filled.parcels test faced filled.front known in
    omega (arith, filled.tests test each, few)

pub returns-then-is_err-2-clause-tests : goal.returns-then-is_err-2-clause-tests
returns-then-is_err-2-clause-tests g c = λ test each faced known.
    let filled = c.fill_part.ensures.filled in
    let few = part_tests c.args.grid.now c.args.split c.args.part (g.S.Scratch.told c.args.scratch.now) filled.parcels test faced filled.front known in
    omega (arith, filled.tests test each, few)

pub returns-clause-tests : goal.returns-clause-tests
returns-clause-tests g c = λ test each faced known.
    let filled = c.fill_part.ensures.filled in
    let few = part_tests c.args.grid.now c.args.split c.args.part (g.S.Scratch.told c.args.scratch.now) filled.parcels test faced filled.front known in
    omega (arith, filled.tests test each, few)
