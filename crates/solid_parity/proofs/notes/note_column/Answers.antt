use Rattle.std.proofs.Common.{◌-◌, ◌<◌, arith}
use Rattle.solid_parity.proofs.Counts.{none_counted, one_counted, others_stay}
use Rattle.solid_parity.proofs.Highest.{last_is_highest, none_noted, one_noted, place_within}
use Rattle.solid_parity.proofs.notes.note_column.Goals as goal

pub turn_touched-requires-clause-place : goal.turn_touched-requires-clause-place
turn_touched-requires-clause-place c =
    place_within (c.args.columns.now.grid.depth - c.args.columns.now.split) c.args.x c.args.y (c.number_under-count.result - 1) c.encode.result _
    c.number_under-count.ensures.short c.requires.x c.requires.y (omega (arith, c.if-count-eq0.false, c.number_under-count.ensures.under.within)) c.encode.ensures.code c.requires.slots

pub returns-then-count-eq0-clause-noted : goal.returns-then-count-eq0-clause-noted
returns-then-count-eq0-clause-noted c =
    none_noted c.args.columns.now c.args.shape.now c.args.x c.args.y c.number_under-count.result c.args.slots.now c.number_under-count.ensures.under (omega (arith, c.if-count-eq0.true))

pub returns-then-count-eq0-clause-counted : goal.returns-then-count-eq0-clause-counted
returns-then-count-eq0-clause-counted c =
    none_counted c.args.columns.now c.args.shape.now c.args.x c.args.y c.number_under-count.result c.args.slots.now c.number_under-count.ensures.under (omega (arith, c.if-count-eq0.true))

pub returns-clause-noted : goal.returns-clause-noted
returns-clause-noted c =
    one_noted c.args.columns.now c.args.shape.now c.args.x c.args.y c.number_under-count.result c.encode.result _ _
    c.number_under-count.ensures.under (omega (arith, c.if-count-eq0.false)) c.encode.ensures.code c.turn_touched.ensures.slot

pub returns-clause-counted : goal.returns-clause-counted
returns-clause-counted c =
    let count = c.number_under-count.result in
    let some : 0 < count = omega (arith, c.if-count-eq0.false) in
    one_counted c.args.columns.now c.args.shape.now c.args.x c.args.y count c.encode.result c.args.slots.now c.turn_touched.new.slots
    c.number_under-count.ensures.under some c.number_under-count.ensures.short c.requires.x c.requires.y c.encode.ensures.code
    (place_within (c.args.columns.now.grid.depth - c.args.columns.now.split) c.args.x c.args.y (count - 1) c.encode.result _
    c.number_under-count.ensures.short c.requires.x c.requires.y (omega (arith, some, c.number_under-count.ensures.under.within)) c.encode.ensures.code c.requires.slots)
    c.turn_touched.ensures.slot

pub returns-clause-others : goal.returns-clause-others
returns-clause-others c =
    let count = c.number_under-count.result in
    others_stay _ c.args.x c.args.y (count - 1) c.encode.result c.args.slots.now c.turn_touched.new.slots _ c.number_under-count.ensures.short c.requires.x c.requires.y
    (omega (arith, c.if-count-eq0.false, c.number_under-count.ensures.under.within)) c.encode.ensures.code c.turn_touched.ensures.slot

pub returns-clause-some : goal.returns-clause-some
returns-clause-some c _ =
    let count = c.number_under-count.result in
    let some : 0 < count = omega (arith, c.if-count-eq0.false) in
    (count - 1, omega (arith, some, c.number_under-count.ensures.under.within), last_is_highest c.args.columns.now c.args.shape.now c.args.x c.args.y (count - 1) count c.number_under-count.ensures.under (omega (arith, some)))
