-- How many points and triangles a made mesh has.
use Rattle.std.proofs.Common.{◌≡◌, ℕ, zero, suc, ◌+◌, ◌*◌, length, arith, refl}
use Rattle.std.specs.List.{flat_map, range_with_len}
use Rattle.std.proofs.lemmas.List.FromFn.{length-map-range_with_len}
use Rattle.mesh_maker.specs.Laws.{CountMadeMeshes}
use Rattle.mesh_maker.specs.MadeMeaning.{made_mesh, triangles_at}
use Rattle.mesh_maker.specs.MadeText.{made_vertices, made_vertex, vertex_total, face_total}

two_each : (side face n : ℕ) → length (flat_map (triangles_at side) (range_with_len face n)) ≡ 2 * n
two_each side face zero = refl
two_each side face (suc n) = omega (arith, two_each side (face + 1) n)

pub counted : CountMadeMeshes
unfolding made_mesh made_vertices
counted number side = (length-map-range_with_len (made_vertex number side) 0 (vertex_total side), two_each side 0 (face_total side))
