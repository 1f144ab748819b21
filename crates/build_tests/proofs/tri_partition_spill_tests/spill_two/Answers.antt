-- What two triangles have spilled.
use Rattle.std.proofs.Common.{◌≡◌, ◌^◌, ◌≤◌, [], ◌∷◌, sym, ap, subst, arith, ◌∙◌}
use Rattle.std.specs.Prelude.{IfSome}
use Rattle.octree_specs.specs.FacedTriangles.{Faced}
use Rattle.tri_partition.specs.Laws.{IsPartitioned}
use Rattle.tri_partition.specs.Partitioning.{Spills, parcels_of}
use Rattle.tri_partition.specs.PartStreams.{HasStream}
use Rattle.tri_partition.proofs.ReachedParts.{parts_within}
use Rattle.tri_partition.proofs.Callers.{nothing_added, added_next, flushed, parts_told}
use Rattle.build_tests.proofs.tri_partition_spill_tests.spill_two.Goals as goal

pub next-requires-clause-stream : goal.next-requires-clause-stream
next-requires-clause-stream g c =
    let some : 8 ^ 0 ≤ 8 ^ c.args.split = parts_within 0 c.args.split (omega arith) in
    let started : g.S.Scratch.started c.flush.new.scratch ≡ g.S.Scratch.started c.args.scratch.now = c.flush.ensures.started ∙ (c.add-2.ensures.started ∙ c.add.ensures.started) in
    subst (λ part. HasStream (g.S.Scratch.started c.flush.new.scratch) part) (sym (ap (λ view. view.part) c.new-reader.ensures))
    (record { is_started = omega (arith, some, started, c.requires.streams); numbered = omega arith })

pub returns : goal.returns
returns g c =
    let x : Faced = record { triangle = c.args.first.now; face = 0 } in
    let y : Faced = record { triangle = c.args.second.now; face = 1 } in
    let start = g.S.Scratch.told c.args.scratch.now in
    let one : Spills start (g.S.Scratch.told c.add.new.scratch) [] (parcels_of c.args.grid c.args.split x) c.add.new.self.waiting =
    subst (λ view. Spills start (g.S.Scratch.told c.add.new.scratch) view.waiting (parcels_of view.grid view.split x) c.add.new.self.waiting) c.new-partition.ensures c.in_ok-add.ensures.added in
    let grid : c.add.new.self.grid ≡ c.args.grid = c.add.ensures.grid ∙ ap (λ view. view.grid) c.new-partition.ensures in
    let split : c.add.new.self.split ≡ c.args.split = c.add.ensures.split ∙ ap (λ view. view.split) c.new-partition.ensures in
    let two : Spills (g.S.Scratch.told c.add.new.scratch) (g.S.Scratch.told c.add-2.new.scratch) c.add.new.self.waiting (parcels_of c.args.grid c.args.split y) c.add-2.new.self.waiting =
    subst (λ shape. Spills (g.S.Scratch.told c.add.new.scratch) (g.S.Scratch.told c.add-2.new.scratch) c.add.new.self.waiting (parcels_of shape c.args.split y) c.add-2.new.self.waiting) grid
    (subst (λ digits. Spills (g.S.Scratch.told c.add.new.scratch) (g.S.Scratch.told c.add-2.new.scratch) c.add.new.self.waiting (parcels_of c.add.new.self.grid digits y) c.add-2.new.self.waiting) split
    c.in_ok-add-2.ensures.added) in
    let first = added_next c.args.grid c.args.split start start (g.S.Scratch.told c.add.new.scratch) [] x [] c.add.new.self.waiting (nothing_added c.args.grid c.args.split start) one in
    let both = added_next c.args.grid c.args.split start (g.S.Scratch.told c.add.new.scratch) (g.S.Scratch.told c.add-2.new.scratch) (x ∷ []) y c.add.new.self.waiting c.add-2.new.self.waiting first two in
    let all = flushed c.args.grid c.args.split start (g.S.Scratch.told c.add-2.new.scratch) (g.S.Scratch.told c.flush.new.scratch) (x ∷ y ∷ []) c.add-2.new.self.waiting both c.in_ok-flush.ensures.flushed in
    let parts = parts_told c.args.grid c.args.split (x ∷ y ∷ []) start (g.S.Scratch.told c.flush.new.scratch) all in
    record {
      parts = subst (λ told. IfSome start (λ before. IfSome told (λ after. IsPartitioned c.args.grid c.args.split (x ∷ y ∷ []) before after))) (sym c.next.ensures.told) parts;
    }
