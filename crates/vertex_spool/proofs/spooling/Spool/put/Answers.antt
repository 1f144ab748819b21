-- The point is behind the bytes that wait.
use Rattle.std.proofs.Common.{◌≡◌, take, sym, ap, ◌∙◌}
use Rattle.octree_specs.specs.Parcels.{point_bytes}
use Rattle.dev_traits.specs.Streams.{grown_known}
use Rattle.vertex_spool.specs.Spooling.{with_waiting}
use Rattle.dev_traits.proofs.GrownStreams.{known_twice}
use Rattle.vertex_spool.proofs.spooling.Spool.put.Goals as goal

pub returns-clause-put : goal.returns-clause-put
returns-clause-put g c =
    let waiting : take c.self.inside.used c.self.inside.block.now ≡ c.args.self.now.waiting = ap (λ view. view.waiting) c.self.view_is in
    ap (with_waiting (g.S.Scratch.told c.make_room.new.scratch)) c.write_point-self-inside.ensures.waiting
    ∙ (sym (known_twice (g.S.Scratch.told c.make_room.new.scratch) 0 (take c.in_ok-used.used c.make_room.new.block) (point_bytes c.args.point))
    ∙ ap (λ told. grown_known told 0 (point_bytes c.args.point))
    (c.in_ok-used.ensures.told ∙ ap (with_waiting (g.S.Scratch.told c.args.scratch.now)) waiting))
