-- The lines of a made text, one after the other.
use Rattle.std.proofs.Common.{◌≡◌, ℕ, zero, suc, ◌+◌, ◌-◌, ◌<◌, ◌≤◌, List, [], ◌∷◌, ◌++◌, map, refl, sym, ap, ◌∙◌, arith, append-nil}
use Rattle.std.specs.Prelude.{codes, decimal}
use Rattle.std.specs.List.{flat_map, range_with_len}
use Rattle.std.proofs.lemmas.List.{append_assoc}
use Rattle.octree_specs.specs.PlainText.{vertex_line}
use Rattle.mesh_maker.specs.MadeText.{next_number, number_after, height_of, vertex_with, made_vertex, made_face, quad_line, vertex_total, face_total, made_vertices, made_faces, made_body}
use Rattle.mesh_maker.specs.Left.{vertices_left, faces_left, lines_left}

-- ---- a line is taken from what is left

pub vertex_on : (side number v face : ℕ) → v < vertex_total side
    → lines_left side number v face ≡ vertex_line (vertex_with side v (height_of (next_number number))) ++ lines_left side (next_number number) (v + 1) face
unfolding vertices_left
vertex_on side number v face within =
    let faces : List ℕ = faces_left side face (face_total side - face) in
    let next : ℕ = next_number number in
    let line : List ℕ = vertex_line (vertex_with side v (height_of next)) in
    let left : ℕ = vertex_total side - (v + 1) in
    let steps : vertex_total side - v ≡ suc left = omega (arith, within) in
    ap (λ n. vertices_left side number v n ++ faces) steps
    ∙ append_assoc line (vertices_left side next (v + 1) left) faces

pub face_on : (side number v face : ℕ) → vertex_total side ≤ v → face < face_total side
    → lines_left side number v face ≡ quad_line (made_face side face) ++ lines_left side number v (face + 1)
unfolding vertices_left faces_left
face_on side number v face done within =
    let left : ℕ = face_total side - (face + 1) in
    let none : vertex_total side - v ≡ 0 = omega (arith, done) in
    let steps : face_total side - face ≡ suc left = omega (arith, within) in
    ap (λ n. vertices_left side number v n ++ faces_left side face (face_total side - face)) none
    ∙ (ap (faces_left side face) steps
    ∙ ap (λ n. quad_line (made_face side face) ++ (vertices_left side number v n ++ faces_left side (face + 1) left)) (sym none))

pub none_on : (side number v face : ℕ) → vertex_total side ≤ v → face_total side ≤ face → lines_left side number v face ≡ []
unfolding vertices_left faces_left
none_on side number v face done over =
    let none : vertex_total side - v ≡ 0 = omega (arith, done) in
    let nothing : face_total side - face ≡ 0 = omega (arith, over) in
    rw (none, nothing) refl

-- ---- a line is not empty

ended : (xs : List ℕ) → xs ++ codes "\n" ≡ [] → ⊥
ended [] is = cc
ended (x ∷ xs) is = cc

pub some_vertex : (side v height : ℕ) (line : List ℕ) → line ≡ vertex_line (vertex_with side v height) → line ≡ [] → ⊥
unfolding vertex_line
some_vertex side v height line is none = ended _ (sym is ∙ none)

pub some_face : (face line : List ℕ) → line ≡ quad_line face → line ≡ [] → ⊥
unfolding quad_line
some_face face line is none = ended (codes "4" ++ flat_map (λ corner. codes " " ++ decimal corner) face) (sym is ∙ none)

-- ---- all lines

vertices_are : (side number v n : ℕ) → vertices_left side (number_after number v) v n ≡ flat_map vertex_line (map (made_vertex number side) (range_with_len v n))
unfolding vertices_left number_after
vertices_are side number v zero = refl
vertices_are side number v (suc n) =
    let one : suc v ≡ v + 1 = omega arith in
    let line : List ℕ = vertex_line (made_vertex number side v) in
    ap (λ w. line ++ vertices_left side (number_after number w) (v + 1) n) one ∙ ap (λ rest. line ++ rest) (vertices_are side number (v + 1) n)

faces_are : (side face n : ℕ) → faces_left side face n ≡ flat_map quad_line (map (made_face side) (range_with_len face n))
unfolding faces_left
faces_are side face zero = refl
faces_are side face (suc n) = ap (λ rest. quad_line (made_face side face) ++ rest) (faces_are side (face + 1) n)

pub all_lines : (number side : ℕ) → lines_left side number 0 0 ≡ made_body number side
unfolding made_body made_vertices made_faces number_after
all_lines number side =
    let vertices : vertex_total side - 0 ≡ vertex_total side = omega arith in
    let faces : face_total side - 0 ≡ face_total side = omega arith in
    ap (λ n. vertices_left side number 0 n ++ faces_left side 0 (face_total side - 0)) vertices
    ∙ (ap (λ n. vertices_left side number 0 (vertex_total side) ++ faces_left side 0 n) faces
    ∙ (ap (λ l. l ++ faces_left side 0 (face_total side)) (vertices_are side number 0 (vertex_total side))
    ∙ ap (λ l. flat_map vertex_line (made_vertices number side) ++ l) (faces_are side 0 (face_total side))))

-- ---- the line of a face

-- four numbers, a space before each
pub four : (a b c d rest : List ℕ)
    → (codes " " ++ a) ++ ((codes " " ++ b) ++ ((codes " " ++ c) ++ ((codes " " ++ d) ++ []))) ++ rest
    ≡ 32 ∷ (a ++ (32 ∷ (b ++ (32 ∷ (c ++ (32 ∷ (d ++ rest)))))))
four a b c d rest =
    let last : List ℕ = (codes " " ++ d) ++ [] in
    let third : List ℕ = (codes " " ++ c) ++ last in
    let second : List ℕ = (codes " " ++ b) ++ third in
    ap (λ l. 32 ∷ l) (append_assoc a second rest
    ∙ ap (λ l. a ++ (32 ∷ l)) (append_assoc b third rest
    ∙ ap (λ l. b ++ (32 ∷ l)) (append_assoc c last rest ∙ ap (λ l. c ++ (32 ∷ (l ++ rest))) (append-nil d))))

pub face_bytes : (a b c d : List ℕ)
    → codes "4 " ++ a ++ codes " " ++ b ++ codes " " ++ c ++ codes " " ++ d ++ codes "\n"
    ≡ codes "4" ++ ((codes " " ++ a) ++ ((codes " " ++ b) ++ ((codes " " ++ c) ++ ((codes " " ++ d) ++ [])))) ++ codes "\n"
face_bytes a b c d =
    let s : List ℕ = codes " " in
    let n : List ℕ = codes "\n" in
    let one : List ℕ = codes "4 " ++ a ++ s in
    let two : List ℕ = one ++ b ++ s in
    let three : List ℕ = two ++ c ++ s in
    append_assoc three d n
    ∙ (append_assoc (two ++ c) s (d ++ n)
    ∙ (append_assoc two c (32 ∷ (d ++ n))
    ∙ (append_assoc (one ++ b) s (c ++ (32 ∷ (d ++ n)))
    ∙ (append_assoc one b (32 ∷ (c ++ (32 ∷ (d ++ n))))
    ∙ (append_assoc (codes "4 " ++ a) s (b ++ (32 ∷ (c ++ (32 ∷ (d ++ n)))))
    ∙ (append_assoc (codes "4 ") a (32 ∷ (b ++ (32 ∷ (c ++ (32 ∷ (d ++ n))))))
    ∙ ap (λ l. 52 ∷ l) (sym (four a b c d n))))))))

-- ---- what a made line leaves

pub vertex_made : (side number v face next : ℕ) (line all : List ℕ) → lines_left side number v face ≡ all → v < vertex_total side → next ≡ next_number number
    → line ≡ vertex_line (vertex_with side v (height_of next)) → all ≡ line ++ lines_left side next (v + 1) face
vertex_made side number v face next line all is within step spelled =
    sym is ∙ (vertex_on side number v face within ∙ (
    ap (λ n. vertex_line (vertex_with side v (height_of n)) ++ lines_left side n (v + 1) face) (sym step)
    ∙ ap (λ l. l ++ lines_left side next (v + 1) face) (sym spelled)))

pub face_made : (side number v face : ℕ) (line all : List ℕ) → lines_left side number v face ≡ all → vertex_total side ≤ v → face < face_total side
    → line ≡ quad_line (made_face side face) → all ≡ line ++ lines_left side number v (face + 1)
face_made side number v face line all is done within spelled =
    sym is ∙ (face_on side number v face done within ∙ ap (λ l. l ++ lines_left side number v (face + 1)) (sym spelled))
