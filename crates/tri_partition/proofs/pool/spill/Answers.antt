-- The sorted parcels are those that were given.
use Rattle.std.proofs.Common.{◌≡◌, ◌++◌, List, take, drop, sym, subst, ap, ◌∙◌}
use Rattle.std.specs.Prelude.{All}
use Rattle.std.proofs.lemmas.List.Sorted.{All-permutation}
use Rattle.room_plan.specs.declared.elements.Parcel.{Parcel}
use Rattle.tri_partition.specs.PartStreams.{HasStream}
use Rattle.tri_partition.specs.Partitioning.{appended_known}
use Rattle.tri_partition.proofs.SpilledRuns.{all_spilled, front_is}
use Rattle.tri_partition.proofs.pool.spill.Goals as goal

pub append_runs-requires : goal.append_runs-requires
append_runs-requires g c =
    let sorted : List Parcel = c.sort_by_part.new.parcels in
    let front : take c.args.used (sorted ++ drop c.args.used c.args.pool.now) ≡ sorted = front_is c.args.pool.now sorted c.args.used c.requires.used c.sort_by_part.auto.parcels in
    let all : All (λ p. HasStream (g.S.Scratch.started c.args.scratch.now) p.part) sorted =
    All-permutation (λ p. HasStream (g.S.Scratch.started c.args.scratch.now) p.part) (take c.args.used c.args.pool.now) sorted c.sort_by_part.ensures c.requires.streams in
    record { streams = subst (λ l. All (λ p. HasStream (g.S.Scratch.started c.args.scratch.now) p.part) l) (sym front) all }

pub returns-clause-spilled : goal.returns-clause-spilled
returns-clause-spilled g c =
    let sorted : List Parcel = c.sort_by_part.new.parcels in
    let front : take c.args.used (sorted ++ drop c.args.used c.args.pool.now) ≡ sorted = front_is c.args.pool.now sorted c.args.used c.requires.used c.sort_by_part.auto.parcels in
    all_spilled (g.S.Scratch.told c.args.scratch.now) (g.S.Scratch.told c.append_runs.new.scratch) (take c.args.used c.args.pool.now) sorted c.sort_by_part.ensures
    (c.in_ok-append_runs.ensures.appended ∙ ap (appended_known (g.S.Scratch.told c.args.scratch.now)) front)
