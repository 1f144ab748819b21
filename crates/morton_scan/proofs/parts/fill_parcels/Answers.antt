use Rattle.std.proofs.Common.{◌≡◌, ◌^◌, ◌<◌, Ok, Some, arith, refl, sym, ap, subst, ◌∙◌}
use Rattle.tri_partition.specs.PartStreams.{faced_of}
use Rattle.morton_scan.proofs.TakenParcels.{IsTaking, at_start, fresh_holds, given_holds, given_left, known_end, moved_part, next_taken, none_refused, none_taken}
use Rattle.morton_scan.proofs.parts.fill_parcels.Goals as goal

pub loop-parcel-init : goal.loop-parcel-init
loop-parcel-init g c =
    let start : c.new-reader.result ≡ at_start c.args.part = c.new-reader.ensures in (
      subst (λ r. IsTaking c.args.grid.now c.args.split c.args.part (g.S.Scratch.told c.args.scratch.now) c.args.slots.now c.args.slots.now c.args.tests.now c.args.tests.now r) (sym start)
          (none_taken c.args.grid.now c.args.split c.args.part (g.S.Scratch.told c.args.scratch.now) c.args.slots.now c.args.tests.now),
      c.requires.touched,
      fresh_holds (g.S.Scratch.told c.args.scratch.now) c.args.part c.new-reader.result start,
      ap (λ r. r.part) start,
      subst (λ r. r.place < 2 ^ 64) (sym start) (omega arith),
      c.stream_length.ensures.told,
      c.stream_length.ensures.started,
      c.stream_length.ensures.asked,
      omega (arith, c.stream_length.ensures.cause.later),
      known_end (g.S.Scratch.told c.args.scratch.now) c.args.part c.new-reader.result start c.in_ok-end.end c.in_ok-end.ensures.length,
    )

pub loop-parcel-preserved : goal.loop-parcel-preserved
loop-parcel-preserved g c =
    let told = g.S.Scratch.told c.args.scratch.now in
    let given : c.next_before.result ≡ Ok (Some c.in-Some.parcel) = c.in_ok-parcel.was ∙ ap (λ next. Ok next) c.in-Some.is in
    let is_told = c.loop-parcel.invariant.5 in
    let is_part = c.loop-parcel.invariant.3 in
    let moved = moved_part c.loop-parcel.reader c.next_before.new.self c.next_before.result c.in-Some.parcel given c.next_before.ensures.goes in (
      next_taken c.args.grid.now c.args.split c.args.part told c.args.slots.now c.loop-parcel.slots c.fill_parcel.new.slots c.args.tests.now c.loop-parcel.tests c.fill_parcel.new.tests
          c.loop-parcel.reader c.next_before.new.self (faced_of c.in-Some.parcel) c.loop-parcel.invariant.0 c.fill_parcel.ensures.slots c.fill_parcel.ensures.tests
          (given_left told (g.S.Scratch.told c.loop-parcel.scratch) c.args.part c.loop-parcel.reader.part c.loop-parcel.reader c.next_before.new.self c.next_before.result c.in-Some.parcel is_told is_part given c.next_before.ensures.gives),
      c.fill_parcel.ensures.touched,
      given_holds told (g.S.Scratch.told c.loop-parcel.scratch) c.args.part c.loop-parcel.reader.part c.loop-parcel.reader c.next_before.new.self c.next_before.result is_told is_part c.next_before.ensures.gives,
      moved.0 ∙ is_part,
      c.next_before.ensures.place,
      c.next_before.ensures.told ∙ is_told,
      c.next_before.ensures.started ∙ c.loop-parcel.invariant.6,
      c.next_before.ensures.asked ∙ c.loop-parcel.invariant.7,
      omega (arith, c.next_before.ensures.cause.later, c.loop-parcel.invariant.8),
      c.loop-parcel.invariant.9,
    )

pub returns-in_err-end-clause-filled : goal.returns-in_err-end-clause-filled
returns-in_err-end-clause-filled g c =
    none_refused c.args.grid.now c.args.split c.args.part (g.S.Scratch.told c.args.scratch.now) c.args.slots.now c.args.tests.now c.from_residual.result c.from_residual.ensures.0
