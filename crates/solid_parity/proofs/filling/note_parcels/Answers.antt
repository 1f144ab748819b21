use Rattle.std.proofs.Common.{◌≡◌, ◌^◌, ◌<◌, Ok, Some, arith, sym, ap, subst, ◌∙◌}
use Rattle.tri_partition.specs.PartStreams.{faced_of}
use Rattle.morton_scan.proofs.TakenParcels.{at_start, fresh_holds, given_holds, given_left, known_end, moved_part}
use Rattle.solid_parity.specs.Counts.{AddsCounts, notes}
use Rattle.solid_parity.specs.PartCells.{part_side}
use Rattle.solid_parity.proofs.TakenNotes.{none_noting, next_noting}
use Rattle.solid_parity.proofs.filling.note_parcels.Goals as goal

pub loop-parcel-init : goal.loop-parcel-init
loop-parcel-init g c =
    let told = g.S.Scratch.told c.args.scratch.now in
    let part = c.args.columns.now.part in
    let start : c.new-reader.result ≡ at_start part = c.new-reader.ensures ∙ ap at_start c.requires.part in (
      none_noting c.args.columns.now told c.args.slots.now c.new-reader.result start,
      c.requires.kept,
      fresh_holds told part c.new-reader.result start,
      ap (λ r. r.part) start,
      subst (λ r. r.place < 2 ^ 64) (sym start) (omega arith),
      c.stream_length.ensures.told,
      c.stream_length.ensures.started,
      c.stream_length.ensures.asked,
      omega (arith, c.stream_length.ensures.cause.later),
      known_end told part c.new-reader.result start c.in_ok-end.end c.in_ok-end.ensures.length,
    )

pub loop-parcel-preserved : goal.loop-parcel-preserved
loop-parcel-preserved g c =
    let told = g.S.Scratch.told c.args.scratch.now in
    let part = c.args.columns.now.part in
    let given : c.next_before.result ≡ Ok (Some c.in-Some.parcel) = c.in_ok-parcel.was ∙ ap (λ next. Ok next) c.in-Some.is in
    let is_told = c.loop-parcel.invariant.5 in
    let is_part = c.loop-parcel.invariant.3 in
    let moved = moved_part c.loop-parcel.reader c.next_before.new.self c.next_before.result c.in-Some.parcel given c.next_before.ensures.goes in (
      next_noting c.args.columns.now told c.args.slots.now c.loop-parcel.slots c.note_triangle.new.slots c.loop-parcel.reader c.next_before.new.self (faced_of c.in-Some.parcel) c.loop-parcel.invariant.0
          (subst (λ t. AddsCounts (part_side c.args.columns.now.grid c.args.columns.now.split) (notes c.args.columns.now t) c.loop-parcel.slots c.note_triangle.new.slots) c.triangle_of.ensures c.note_triangle.ensures.counted)
          (given_left told (g.S.Scratch.told c.loop-parcel.scratch) part c.loop-parcel.reader.part c.loop-parcel.reader c.next_before.new.self c.next_before.result c.in-Some.parcel is_told is_part given c.next_before.ensures.gives),
      c.note_triangle.ensures.kept,
      given_holds told (g.S.Scratch.told c.loop-parcel.scratch) part c.loop-parcel.reader.part c.loop-parcel.reader c.next_before.new.self c.next_before.result is_told is_part c.next_before.ensures.gives,
      moved.0 ∙ is_part,
      c.next_before.ensures.place,
      c.next_before.ensures.told ∙ is_told,
      c.next_before.ensures.started ∙ c.loop-parcel.invariant.6,
      c.next_before.ensures.asked ∙ c.loop-parcel.invariant.7,
      omega (arith, c.next_before.ensures.cause.later, c.loop-parcel.invariant.8),
      c.loop-parcel.invariant.9,
    )
