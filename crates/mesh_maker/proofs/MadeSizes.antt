-- The numbers of a made mesh, and the length of its text.
use Rattle.std.proofs.Common.{◌≡◌, ℕ, zero, suc, ◌+◌, ◌*◌, ◌/◌, ◌%◌, ◌^◌, ◌<◌, ◌≤◌, List, [], ◌++◌, length, map, arith, length-append}
use Rattle.std.specs.Prelude.{codes, decimal, All}
use Rattle.std.specs.List.{flat_map, range_with_len}
use Rattle.std.proofs.Math.Nat.{mod-lt, div-lt_iff_lt-mul, div-le_self, mul-le-mul_right, mul-le-mul_left}
use Rattle.std.proofs.lemmas.Grind.{common_steps}
use Rattle.std.proofs.lemmas.List.Elements.{All-cons, All-nil}
use Rattle.octree_specs.specs.PlainText.{plain_header, vertex_line, IsNear}
use Rattle.mesh_laws.proofs.NumberTokens.{few_digits}
use Rattle.mesh_maker.specs.MadeText.{next_number, number_after, height_of, made_vertex, made_face, quad_line, first_corner, vertex_total, face_total, made_vertices, made_faces, made_body, made_text}

-- ---- faces

-- the last corner of a face that counts highest, by its row and its column
within : (row column m : ℕ) → row ≤ m → column ≤ m → row * (suc m + 1) + column + suc m + 2 < (suc m + 1) * (suc m + 1)
within row column m low near = omega (arith, near, mul-le-mul_right (suc m + 1) low)

by_side : (m face : ℕ) → face < face_total (suc m) → first_corner (suc m) face + suc m + 2 < vertex_total (suc m)
by_side m face inside =
    let some : 0 < suc m = omega arith in
    let row : face / suc m < suc m = (div-lt_iff_lt-mul some).1 inside in
    let column : face % suc m < suc m = mod-lt face some in
    within (face / suc m) (face % suc m) m (omega (arith, row)) (omega (arith, column))

pub corners_known : (side face : ℕ) → 1 ≤ side → face < face_total side → first_corner side face + side + 2 < vertex_total side
corners_known zero face some inside = absurd (omega (arith, some))
corners_known (suc m) face some inside = by_side m face inside

-- few of both, so that a few bytes for each are no long text
square : (n most : ℕ) → n ≤ most → n * n ≤ most * most
square n most few = omega (arith, mul-le-mul_right n few, mul-le-mul_left most few)

pub few_vertices : (side : ℕ) → side ≤ 1024 → vertex_total side ≤ 1050625
few_vertices side few = square (side + 1) 1025 (omega (arith, few))

pub few_faces : (side : ℕ) → side ≤ 1024 → face_total side ≤ 1048576
few_faces side few = square side 1024 few

-- ---- vertices

pub low_height : (number side v : ℕ) → height_of (number_after number (suc v)) < 64
unfolding number_after next_number
low_height number side v = omega arith

pub vertex_near : (number side v : ℕ) → side ≤ 1024 → v < vertex_total side → IsNear (made_vertex number side v)
vertex_near number side v few inside =
    let column : v % (side + 1) < side + 1 = mod-lt v (omega arith) in
    let row : v / (side + 1) ≤ v = div-le_self v (side + 1) in
    record {
      x = omega (arith, few, column);
      y = omega (arith, row, inside, few_vertices side few);
      z = omega (arith, low_height number side v);
    }

pub all_near : (number side from n : ℕ) → side ≤ 1024 → from + n ≤ vertex_total side → All IsNear (map (made_vertex number side) (range_with_len from n))
all_near number side from zero few inside = All-nil IsNear
all_near number side from (suc n) few inside =
    All-cons IsNear (made_vertex number side from) (map (made_vertex number side) (range_with_len (from + 1) n))
    (vertex_near number side from few (omega (arith, inside))) (all_near number side (from + 1) n few (omega (arith, inside)))

-- ---- lengths

short : (n : ℕ) → n < 2 ^ 32 → length (decimal n) ≤ 20
short n few = few_digits n (omega (arith, few))

three_long : (a b c : List ℕ) → length (a ++ codes " " ++ b ++ codes " " ++ c ++ codes "\n") ≡ length a + length b + length c + 3
three_long a b c = grind (arith, common_steps)

four_long : (a b c d : List ℕ)
    → length (codes "4" ++ ((codes " " ++ a) ++ ((codes " " ++ b) ++ ((codes " " ++ c) ++ ((codes " " ++ d) ++ [])))) ++ codes "\n") ≡ length a + length b + length c + length d + 6
four_long a b c d = grind (arith, common_steps)

vertex_short : (number side v : ℕ) → side ≤ 1024 → v < vertex_total side → length (vertex_line (made_vertex number side v)) ≤ 100
unfolding vertex_line
vertex_short number side v few inside =
    let column : v % (side + 1) < side + 1 = mod-lt v (omega arith) in
    let row : v / (side + 1) ≤ v = div-le_self v (side + 1) in
    let x : ℕ = 16 * (v % (side + 1)) in
    let y : ℕ = 16 * (v / (side + 1)) in
    let z : ℕ = height_of (number_after number (suc v)) in
    omega (
      arith,
      three_long (decimal x) (decimal y) (decimal z),
      short x (omega (arith, few, column)),
      short y (omega (arith, row, inside, few_vertices side few)),
      short z (omega (arith, low_height number side v)),
    )

face_short : (side face : ℕ) → 1 ≤ side → side ≤ 1024 → face < face_total side → length (quad_line (made_face side face)) ≤ 100
unfolding quad_line
face_short side face some few inside =
    let corner : ℕ = first_corner side face in
    let known : corner + side + 2 < vertex_total side = corners_known side face some inside in
    let vertices : vertex_total side ≤ 1050625 = few_vertices side few in
    omega (
      arith,
      four_long (decimal corner) (decimal (corner + 1)) (decimal (corner + side + 2)) (decimal (corner + side + 1)),
      short corner (omega (arith, known, vertices)),
      short (corner + 1) (omega (arith, known, vertices)),
      short (corner + side + 2) (omega (arith, known, vertices)),
      short (corner + side + 1) (omega (arith, known, vertices)),
    )

vertices_short : (number side from n : ℕ) → side ≤ 1024 → from + n ≤ vertex_total side → length (flat_map vertex_line (map (made_vertex number side) (range_with_len from n))) ≤ 100 * n
vertices_short number side from zero few inside = omega arith
vertices_short number side from (suc n) few inside =
    let rest : List ℕ = flat_map vertex_line (map (made_vertex number side) (range_with_len (from + 1) n)) in
    omega (arith, length-append (vertex_line (made_vertex number side from)) rest, vertex_short number side from few (omega (arith, inside)), vertices_short number side (from + 1) n few (omega (arith, inside)))

faces_short : (side from n : ℕ) → 1 ≤ side → side ≤ 1024 → from + n ≤ face_total side → length (flat_map quad_line (map (made_face side) (range_with_len from n))) ≤ 100 * n
faces_short side from zero some few inside = omega arith
faces_short side from (suc n) some few inside =
    let rest : List ℕ = flat_map quad_line (map (made_face side) (range_with_len (from + 1) n)) in
    omega (arith, length-append (quad_line (made_face side from)) rest, face_short side from some few (omega (arith, inside)), faces_short side (from + 1) n some few (omega (arith, inside)))

header_short : (v f : ℕ) → v < 2 ^ 32 → f < 2 ^ 32 → length (plain_header v f) ≤ 300
unfolding plain_header
header_short v f few_v few_f =
    let front : List ℕ = codes "ply\nformat ascii 1.0\nelement vertex " in
    let middle : List ℕ = codes "\nproperty int x\nproperty int y\nproperty int z\nelement face " in
    let back : List ℕ = codes "\nproperty list uchar int vertex_indices\nend_header\n" in
    omega (
      arith,
      length-append (front ++ decimal v ++ middle ++ decimal f) back,
      length-append (front ++ decimal v ++ middle) (decimal f),
      length-append (front ++ decimal v) middle,
      length-append front (decimal v),
      short v few_v,
      short f few_f,
    )

pub text_short : (number side : ℕ) → 1 ≤ side → side ≤ 1024 → length (made_text number side) ≤ 2 ^ 62
unfolding made_text made_body made_vertices made_faces
text_short number side some few =
    let v : ℕ = vertex_total side in
    let f : ℕ = face_total side in
    let vertices : List ℕ = flat_map vertex_line (made_vertices number side) in
    let faces : List ℕ = flat_map quad_line (made_faces side) in
    let few_v : v ≤ 1050625 = few_vertices side few in
    let few_f : f ≤ 1048576 = few_faces side few in
    omega (
      arith,
      few_v,
      few_f,
      length-append (plain_header v f) (vertices ++ faces),
      length-append vertices faces,
      header_short v f (omega (arith, few_v)) (omega (arith, few_f)),
      vertices_short number side 0 v few (omega arith),
      faces_short side 0 f some few (omega arith),
    )
