-- One run after another.
use Rattle.std.proofs.Common.{◌≡◌, ◌-◌, ℕ, List, length, take, drop, refl, sym, arith, ap, ◌∙◌}
use Rattle.std.specs.Prelude.{Option}
use Rattle.std.proofs.lemmas.List.{length-drop, take_all}
use Rattle.room_plan.specs.declared.elements.Parcel.{Parcel}
use Rattle.tri_partition.specs.Partitioning.{appended_known}
use Rattle.tri_partition.proofs.SpilledRuns.{known_no_parcels, known_next}
use Rattle.tri_partition.proofs.pool.append_runs.Goals as goal

pub loop-from-init : goal.loop-from-init
loop-from-init g c = record {
  within = omega arith;
  appended = sym (known_no_parcels (g.S.Scratch.told c.args.scratch.now));
  started = refl;
  asked = refl;
  later = omega arith;
}

pub loop-from-preserved : goal.loop-from-preserved
loop-from-preserved g c =
    let from : ℕ = c.loop-from.from in
    let more : ℕ = c.in_ok-from.field-0 in
    let parcels : List Parcel = c.args.parcels.now in
    let now : Option (List (List ℕ)) = g.S.Scratch.told c.loop-from.scratch in
    let whole : take (length parcels - from) (drop from parcels) ≡ drop from parcels = take_all (length parcels - from) (drop from parcels) (omega (arith, length-drop from parcels)) in
    record {
      within = omega (arith, c.in_ok-from.ensures.some.1, ap length whole, length-drop from parcels, c.loop-from.invariant.within);
      appended = known_next (g.S.Scratch.told c.args.scratch.now) now (g.S.Scratch.told c.append_run.new.scratch) from more parcels c.loop-from.invariant.appended
          (c.in_ok-from.ensures.appended ∙ ap (λ l. appended_known now (take more l)) whole);
      started = c.append_run.ensures.started ∙ c.loop-from.invariant.started;
      asked = c.append_run.ensures.asked ∙ c.loop-from.invariant.asked;
      later = omega (arith, c.append_run.ensures.cause.later, c.loop-from.invariant.later);
    }
