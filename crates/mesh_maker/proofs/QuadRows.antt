-- The rows of faces with four corners, taken token by token.
use Rattle.std.proofs.Common.{◌≡◌, ℕ, zero, suc, ◌+◌, ◌-◌, ◌^◌, ◌<◌, ◌≤◌, true, List, [], ◌∷◌, ◌++◌, length, map, Some, Ok, refl, ap, ◌∙◌, arith, length-append}
use Rattle.std.specs.Prelude.{codes, decimal}
use Rattle.std.specs.List.{list_all, prefix_len, flat_map, range_with_len}
use Rattle.std.proofs.lemmas.List.{append_assoc}
use Rattle.ply_text.specs.declared.run.Run.TheVariants.{Token, White}
use Rattle.ply_text.specs.Pieces.{belongs}
use Rattle.ply_text.specs.Wholes.{whole_of}
use Rattle.ply_reader.specs.declared.fans.FaceTriangle.{FaceTriangle}
use Rattle.ply_reader.specs.declared.fault.PlyKind.TheVariants.{BadCount}
use Rattle.ply_reader.specs.Cursors.{Cursor, at}
use Rattle.ply_reader.specs.PlyMeaning.{Outcome, give_triangle, reach, faces_rest, fan_rest}
use Rattle.ply_reader.specs.Rows.{fan_opened, fan_of, row_passed}
use Rattle.mesh_laws.proofs.NextTokens.{IsPlainToken}
use Rattle.mesh_laws.proofs.PlainBodies.{LinesRead}
use Rattle.mesh_laws.proofs.PlainHeaders.{plain_declared}
use Rattle.mesh_laws.proofs.PlainRows.{whole_taken, corner_taken}
use Rattle.mesh_maker.specs.MadeText.{made_face, quad_line, first_corner, vertex_total, face_total}
use Rattle.mesh_maker.specs.MadeMeaning.{triangles_at}
use Rattle.mesh_maker.proofs.MadeLines.{four}
use Rattle.mesh_maker.proofs.MadeSizes.{corners_known}

-- ---- the number 4

four_token : IsPlainToken (52 ∷ [])
unfolding belongs
four_token = record { some = omega arith; few = omega arith; whole = refl }

four_is : whole_of (52 ∷ []) (2 ^ 64 - 1) ≡ Some 4
unfolding whole_of
four_is = refl

-- ---- one face

quad_opened : (v place : ℕ) (white : List ℕ) (i j : ℕ) (rest : List ℕ) → v < 2 ^ 32 → i < v → j < v → list_all (belongs White) white ≡ true → prefix_len (belongs Token) rest ≡ 0
    → place + length (white ++ (52 ∷ (32 ∷ (decimal i ++ (32 ∷ (decimal j ++ rest)))))) ≤ 2 ^ 62
    → fan_opened v [] (at place (white ++ (52 ∷ (32 ∷ (decimal i ++ (32 ∷ (decimal j ++ rest)))))))
    ≡ Ok (fan_of 4 i j, at (place + (length white + 1) + (1 + length (decimal i)) + (1 + length (decimal j))) rest)
unfolding fan_opened row_passed belongs
quad_opened v place white i j rest few known_i known_j blank ends room =
    let last : List ℕ = 32 ∷ (decimal j ++ rest) in
    let both : List ℕ = 32 ∷ (decimal i ++ last) in
    let whole_size : length (white ++ (52 ∷ both)) ≡ length white + suc (length both) = length-append white (52 ∷ both) in
    let both_size : length both ≡ 1 + (length (decimal i) + length last) = ap suc (length-append (decimal i) last) ∙ omega arith in
    let count = whole_taken BadCount 3 256 place white (52 ∷ []) 4 both four_token four_is (omega arith) (omega arith) blank refl room in
    let first = corner_taken v (place + (length white + 1)) i last known_i few refl (omega (arith, room, whole_size)) in
    let second = corner_taken v (place + (length white + 1) + (1 + length (decimal i))) j rest known_j few ends (omega (arith, room, whole_size, both_size)) in
    rw (count, first, second) refl

quad_split : (i j k l : ℕ) (rest : List ℕ)
    → quad_line (i ∷ j ∷ k ∷ l ∷ []) ++ rest ≡ 52 ∷ (32 ∷ (decimal i ++ (32 ∷ (decimal j ++ (32 ∷ (decimal k ++ (32 ∷ (decimal l ++ (10 ∷ rest)))))))))
unfolding quad_line
quad_split i j k l rest =
    append_assoc (codes "4" ++ ((codes " " ++ decimal i) ++ ((codes " " ++ decimal j) ++ ((codes " " ++ decimal k) ++ ((codes " " ++ decimal l) ++ []))))) (codes "\n") rest
    ∙ ap (λ t. 52 ∷ t) (four (decimal i) (decimal j) (decimal k) (decimal l) (10 ∷ rest))

-- a face gives two triangles
abbrev pub give_two : ℕ → ℕ → ℕ → ℕ → ℕ → Outcome → Outcome
give_two number i j k l o = give_triangle (record { face = number; corners = i ∷ j ∷ k ∷ [] }) (give_triangle (record { face = number; corners = i ∷ k ∷ l ∷ [] }) o)

quad_read : (v f number place : ℕ) (then : Cursor → Outcome) (white : List ℕ) (i j k l : ℕ) (rest : List ℕ) → v < 2 ^ 32 → i < v → j < v → k < v → l < v → list_all (belongs White) white ≡ true
    → place + length (white ++ (quad_line (i ∷ j ∷ k ∷ l ∷ []) ++ rest)) ≤ 2 ^ 62
    → LinesRead (reach (fan_opened v [] (at place (white ++ (quad_line (i ∷ j ∷ k ∷ l ∷ []) ++ rest)))) (λ fan. fan_rest (plain_declared v f) number fan.first fan.last fan.left then))
    (give_two number i j k l) then (place + length (white ++ (quad_line (i ∷ j ∷ k ∷ l ∷ []) ++ rest))) rest
unfolding fan_rest row_passed belongs
quad_read v f number place then white i j k l rest few known_i known_j known_k known_l blank room =
    let fourth : List ℕ = 32 ∷ (decimal l ++ (10 ∷ rest)) in
    let third : List ℕ = 32 ∷ (decimal k ++ fourth) in
    let both : List ℕ = 32 ∷ (decimal i ++ (32 ∷ (decimal j ++ third))) in
    let split : quad_line (i ∷ j ∷ k ∷ l ∷ []) ++ rest ≡ 52 ∷ both = quad_split i j k l rest in
    let long : length (white ++ (quad_line (i ∷ j ∷ k ∷ l ∷ []) ++ rest)) ≡ length (white ++ (52 ∷ both)) = ap (λ t. length (white ++ t)) split in
    let whole_size : length (white ++ (52 ∷ both)) ≡ length white + suc (length both) = length-append white (52 ∷ both) in
    let both_size : length both ≡ 1 + (length (decimal i) + (1 + (length (decimal j) + length third))) =
    ap suc (length-append (decimal i) (32 ∷ (decimal j ++ third)) ∙ ap (λ n. length (decimal i) + suc n) (length-append (decimal j) third)) ∙ omega arith in
    let third_size : length third ≡ 1 + (length (decimal k) + length fourth) = ap suc (length-append (decimal k) fourth) ∙ omega arith in
    let fourth_size : length fourth ≡ 1 + (length (decimal l) + suc (length rest)) = ap suc (length-append (decimal l) (10 ∷ rest)) ∙ omega arith in
    let at_k : ℕ = place + (length white + 1) + (1 + length (decimal i)) + (1 + length (decimal j)) in
    let at_l : ℕ = at_k + (1 + length (decimal k)) in
    let opened = quad_opened v place white i j third few known_i known_j blank refl (omega (arith, room, long)) in
    let next = corner_taken v at_k k fourth known_k few refl (omega (arith, room, long, whole_size, both_size)) in
    let last = corner_taken v at_l l (10 ∷ rest) known_l few refl (omega (arith, room, long, whole_size, both_size, third_size)) in
    record {
      place = at_l + (1 + length (decimal l));
      white = 10 ∷ [];
      read = ap (λ t. reach (fan_opened v [] (at place (white ++ t))) (λ fan. fan_rest (plain_declared v f) number fan.first fan.last fan.left then)) split ∙ rw (opened, next, last) refl;
      blank = refl;
      reached = omega (arith, long, whole_size, both_size, third_size, fourth_size);
    }

-- ---- all faces

-- the triangles of so many faces from one on
unfoldable pub with_quads : ℕ → ℕ → ℕ → Outcome → Outcome
with_quads side face zero o = o
with_quads side face (suc n) o =
    give_two face (first_corner side face) (first_corner side face + 1) (first_corner side face + side + 2) (first_corner side face + side + 1) (with_quads side (face + 1) n o)

pub quads_read : (side : ℕ) (then : Cursor → Outcome) (n face place : ℕ) (white more : List ℕ) → 1 ≤ side → vertex_total side < 2 ^ 32 → face + n ≡ face_total side → list_all (belongs White) white ≡ true
    → place + length (white ++ (flat_map quad_line (map (made_face side) (range_with_len face n)) ++ more)) ≤ 2 ^ 62
    → LinesRead (faces_rest (plain_declared (vertex_total side) (face_total side)) n then (at place (white ++ (flat_map quad_line (map (made_face side) (range_with_len face n)) ++ more))))
    (with_quads side face n) then (place + length (white ++ (flat_map quad_line (map (made_face side) (range_with_len face n)) ++ more))) more
unfolding faces_rest with_quads belongs
quads_read side then zero face place white more some few count blank room = record { place = place; white = white; read = refl; blank = blank; reached = refl }
quads_read side then (suc n) face place white more some few count blank room =
    let v : ℕ = vertex_total side in
    let f : ℕ = face_total side in
    let line : List ℕ = quad_line (made_face side face) in
    let lines : List ℕ = flat_map quad_line (map (made_face side) (range_with_len (face + 1) n)) in
    let behind : List ℕ = lines ++ more in
    let text : white ++ ((line ++ lines) ++ more) ≡ white ++ (line ++ behind) = ap (λ t. white ++ t) (append_assoc line lines more) in
    let long : length (white ++ ((line ++ lines) ++ more)) ≡ length (white ++ (line ++ behind)) = ap length text in
    let next : Cursor → Outcome = faces_rest (plain_declared v f) n then in
    let i : ℕ = first_corner side face in
    let known : i + side + 2 < v = corners_known side face some (omega (arith, count)) in
    let row = quad_read v f face place next white i (i + 1) (i + side + 2) (i + side + 1) behind few (omega (arith, known)) (omega (arith, known)) known (omega (arith, known)) blank (omega (arith, room, long)) in
    let further : LinesRead (next (at row.place (row.white ++ behind))) (with_quads side (face + 1) n) then (row.place + length (row.white ++ behind)) more =
    quads_read side then n (face + 1) row.place row.white more some few (omega (arith, count)) row.blank (omega (arith, row.reached, room, long)) in
    let here : f - suc n ≡ face = omega (arith, count) in
    record {
      place = further.place;
      white = further.white;
      read = ap (λ t. reach (fan_opened v [] (at place t)) (λ fan. fan_rest (plain_declared v f) (f - suc n) fan.first fan.last fan.left next)) text
          ∙ (ap (λ m. reach (fan_opened v [] (at place (white ++ (line ++ behind)))) (λ fan. fan_rest (plain_declared v f) m fan.first fan.last fan.left next)) here
          ∙ (row.read ∙ ap (give_two face i (i + 1) (i + side + 2) (i + side + 1)) further.read));
      blank = further.blank;
      reached = omega (arith, further.reached, row.reached, long);
    }

pub quads_are : (side face n : ℕ) (o : Outcome) → o.triangles ≡ [] → (with_quads side face n o).triangles ≡ flat_map (triangles_at side) (range_with_len face n)
unfolding with_quads
quads_are side face zero o none = none
quads_are side face (suc n) o none = ap (λ (ts : List FaceTriangle). triangles_at side face ++ ts) (quads_are side (face + 1) n o none)

pub quads_keep : (side face n : ℕ) (o : Outcome) → ((with_quads side face n o).points ≡ o.points) × ((with_quads side face n o).ends ≡ o.ends)
unfolding with_quads
quads_keep side face zero o = (refl, refl)
quads_keep side face (suc n) o = quads_keep side (face + 1) n o
