-- The point that was put at the number is the mesh's.
use Rattle.build_core.proofs.SpilledTriangles.{corner_is}
use Rattle.build_core.proofs.triangles.fetch_corner.Goals as goal

pub returns-clause-point : goal.returns-clause-point
returns-clause-point g c = λ points spooled. corner_is (g.S.Scratch.told c.args.scratch.now) points c.args.spool.now c.args.number c.fetch.result spooled c.fetch.ensures.point
