-- Each corner is that of its number.
use Rattle.std.proofs.Common.{◌≡◌, ◌∙◌, subst, sym, refl}
use Rattle.std.specs.Prelude.{IfSome}
use Rattle.octree_specs.specs.Mesh.{vertex_at}
use Rattle.mesh_laws.specs.Meshes.{corner_of}
use Rattle.build_core.specs.Spilling.{IsSpooled}
use Rattle.build_core.proofs.SpilledTriangles.{corners_are}
use Rattle.build_core.proofs.triangles.fetch_corners.Goals as goal

pub returns-clause-triangle : goal.returns-clause-triangle
returns-clause-triangle g c = λ points spooled.
    let told = g.S.Scratch.told c.args.scratch.now in
    let found = c.args.found.now in
    let one = c.fetch_corner.ensures.told in
    let two = c.fetch_corner-2.ensures.told ∙ one in
    let spooled_one : IsSpooled points c.fetch_corner.new.spool (g.S.Scratch.told c.fetch_corner.new.scratch) =
    subst (λ streams. IsSpooled points c.fetch_corner.new.spool streams) (sym one) (c.fetch_corner.ensures.spooled points spooled) in
    let spooled_two : IsSpooled points c.fetch_corner-2.new.spool (g.S.Scratch.told c.fetch_corner-2.new.scratch) =
    subst (λ streams. IsSpooled points c.fetch_corner-2.new.spool streams) (sym c.fetch_corner-2.ensures.told) (c.fetch_corner-2.ensures.spooled points spooled_one) in
    corners_are told points found c.in_ok-fetch_corner.field-0 c.in_ok-fetch_corner-2.field-0 c.in_ok-fetch_corner-3.field-0 (corner_of found 0) (corner_of found 1) (corner_of found 2) refl refl refl
    (c.in_ok-fetch_corner.ensures.point points spooled)
    (subst (λ streams. IfSome streams (λ _. c.in_ok-fetch_corner-2.field-0 ≡ vertex_at points (corner_of found 1))) one (c.in_ok-fetch_corner-2.ensures.point points spooled_one))
    (subst (λ streams. IfSome streams (λ _. c.in_ok-fetch_corner-3.field-0 ≡ vertex_at points (corner_of found 2))) two (c.in_ok-fetch_corner-3.ensures.point points spooled_two))
