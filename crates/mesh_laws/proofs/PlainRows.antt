-- The lines of a plain text behind its header, taken token by token.
use Rattle.std.proofs.Common.{◌≡◌, ℕ, zero, suc, ◌+◌, ◌-◌, ◌^◌, ◌<◌, ◌≤◌, Bool, true, false, nat_le, nat_lt, List, [], ◌∷◌, ◌++◌, length, ℤ, unsigned_abs, Option, None, Some, Result, Ok, Err, refl, sym, ap, ◌∙◌, arith, append-nil, length-append}
use Rattle.std.specs.Prelude.{codes, decimal, ◌&&◌}
use Rattle.std.specs.Fmt.{signed_decimal}
use Rattle.std.specs.List.{list_all, prefix_len, flat_map}
use Rattle.std.proofs.lemmas.Bool.Decides.{nat_tests}
use Rattle.std.proofs.lemmas.List.{append_assoc}
use Rattle.svo_base.specs.declared.shapes.Point.{Point}
use Rattle.octree_specs.specs.PlainText.{vertex_line, face_line, IsNear}
use Rattle.ply_text.specs.declared.run.Run.TheVariants.{Token, White}
use Rattle.ply_text.specs.Pieces.{Piece, belongs}
use Rattle.ply_text.specs.Wholes.{whole_of}
use Rattle.ply_reader.specs.declared.fault.PlyFault.{PlyFault}
use Rattle.ply_reader.specs.declared.fault.PlyKind.{PlyKind}
use Rattle.ply_reader.specs.declared.fault.PlyKind.TheVariants.{BadCount}
use Rattle.ply_reader.specs.declared.scales.Scale.{Scale}
use Rattle.ply_reader.specs.Cursors.{Cursor, at, onward, done, taken, with_cursor}
use Rattle.ply_reader.specs.Layout.{vertex_properties}
use Rattle.ply_reader.specs.Rows.{vertex_row, coordinate_taken, origin, corner, fan_opened, row_passed, fan_of}
use Rattle.ply_reader.specs.TokenValues.{coordinate, placed, whole_in, within_bounds}
use Rattle.mesh_laws.proofs.NextTokens.{IsPlainToken, token_taken}
use Rattle.mesh_laws.proofs.NumberTokens.{signed_token, fixed_signed, decimal_token, whole_of_decimal}
use Rattle.mesh_laws.proofs.PlainHeaders.{plain_declared}

-- whole numbers, whether or not decimals are cut
abbrev pub whole_scale : Bool → Scale
whole_scale cut = record { decimals = 0; cut = cut }

-- ---- one number behind white space

pub number_taken : (cut : Bool) (place : ℕ) (white : List ℕ) (z : ℤ) (rest : List ℕ) → unsigned_abs z ≤ 2 ^ 30 → list_all (belongs White) white ≡ true → prefix_len (belongs Token) rest ≡ 0
    → place + length (white ++ (signed_decimal z ++ rest)) ≤ 2 ^ 62
    → taken (coordinate (whole_scale cut)) (at place (white ++ (signed_decimal z ++ rest))) ≡ Ok (z, at (place + (length white + length (signed_decimal z))) rest)
number_taken cut place white z rest near blank ends room =
    token_taken place white (signed_decimal z) rest (record { blank = blank; token = signed_token z near; ends = ends; room = room }) (coordinate (whole_scale cut))
    ∙ ap (λ r. with_cursor (at (place + (length white + length (signed_decimal z))) rest) (placed (place + length white) r)) (fixed_signed cut z near)

whole_within : (kind : PlyKind) (least bound place : ℕ) (n : ℕ) → least ≤ n → n < bound → within_bounds kind least bound place (Some n) ≡ Ok n
whole_within kind least bound place n low high = let inside : (nat_le least n && nat_lt n bound) ≡ true = grind (arith, nat_tests, low, high) in rw inside refl

pub whole_taken : (kind : PlyKind) (least bound place : ℕ) (white t : List ℕ) (n : ℕ) (rest : List ℕ) → IsPlainToken t → whole_of t (2 ^ 64 - 1) ≡ Some n → least ≤ n → n < bound
    → list_all (belongs White) white ≡ true → prefix_len (belongs Token) rest ≡ 0 → place + length (white ++ (t ++ rest)) ≤ 2 ^ 62
    → taken (whole_in kind least bound) (at place (white ++ (t ++ rest))) ≡ Ok (n, at (place + (length white + length t)) rest)
whole_taken kind least bound place white t n rest token value low high blank ends room =
    token_taken place white t rest (record { blank = blank; token = token; ends = ends; room = room }) (whole_in kind least bound)
    ∙ ap (λ o. with_cursor (at (place + (length white + length t)) rest) (within_bounds kind least bound (place + length white) o)) value
    ∙ ap (with_cursor (at (place + (length white + length t)) rest)) (whole_within kind least bound (place + length white) n low high)

pub corner_taken : (vertices place n : ℕ) (rest : List ℕ) → n < vertices → vertices < 2 ^ 32 → prefix_len (belongs Token) rest ≡ 0 → place + length (32 ∷ (decimal n ++ rest)) ≤ 2 ^ 62
    → corner vertices (at place (32 ∷ (decimal n ++ rest))) ≡ Ok (n, at (place + (1 + length (decimal n))) rest)
unfolding belongs
corner_taken vertices place n rest known few ends room =
    whole_taken _ 0 vertices place (32 ∷ []) (decimal n) n rest (decimal_token n (omega (arith, known, few))) (whole_of_decimal n (2 ^ 64 - 1) (omega (arith, known, few)) (omega (arith, known, few))) (omega arith) known refl ends room

-- the number 3
three_token : IsPlainToken (51 ∷ [])
unfolding belongs
three_token = record { some = omega arith; few = omega arith; whole = refl }

three_is : whole_of (51 ∷ []) (2 ^ 64 - 1) ≡ Some 3
unfolding whole_of
three_is = refl

-- ---- lines, cut into numbers

pub vertex_split : (p : Point) (rest : List ℕ)
    → vertex_line p ++ rest ≡ signed_decimal p.x ++ (32 ∷ (signed_decimal p.y ++ (32 ∷ (signed_decimal p.z ++ (10 ∷ rest)))))
unfolding vertex_line
vertex_split p rest =
    let x : List ℕ = signed_decimal p.x in
    let y : List ℕ = signed_decimal p.y in
    let z : List ℕ = signed_decimal p.z in
    append_assoc (x ++ codes " " ++ y ++ codes " " ++ z) (codes "\n") rest
    ∙ (append_assoc (x ++ codes " " ++ y ++ codes " ") z (10 ∷ rest)
    ∙ (append_assoc (x ++ codes " " ++ y) (codes " ") (z ++ (10 ∷ rest))
    ∙ (append_assoc (x ++ codes " ") y (32 ∷ (z ++ (10 ∷ rest))) ∙ append_assoc x (codes " ") (y ++ (32 ∷ (z ++ (10 ∷ rest)))))))

pub face_split : (i j k : ℕ) (rest : List ℕ)
    → face_line (i ∷ j ∷ k ∷ []) ++ rest ≡ 51 ∷ (32 ∷ (decimal i ++ (32 ∷ (decimal j ++ (32 ∷ (decimal k ++ (10 ∷ rest)))))))
unfolding face_line
face_split i j k rest =
    let a : List ℕ = decimal i in
    let b : List ℕ = decimal j in
    let c : List ℕ = decimal k in
    append_assoc (codes "3" ++ ((32 ∷ a) ++ ((32 ∷ b) ++ ((32 ∷ c) ++ [])))) (codes "\n") rest
    ∙ ap (λ l. 51 ∷ (32 ∷ l)) (append_assoc a ((32 ∷ b) ++ ((32 ∷ c) ++ [])) (10 ∷ rest)
    ∙ ap (λ l. a ++ (32 ∷ l)) (append_assoc b ((32 ∷ c) ++ []) (10 ∷ rest) ∙ ap (λ l. b ++ (32 ∷ (l ++ (10 ∷ rest)))) (append-nil c)))

-- ---- rows

-- a row is read up to its LF
pub record RowRead {A : Type 0} (start : Result (A × Cursor) PlyFault) (value : A) (end : ℕ) (rest : List ℕ) : Type 0 where
  pub place : ℕ
  pub read : start ≡ Ok (value, at place (10 ∷ rest))
  pub reached : place + suc (length rest) ≡ end

pub vertex_read : (cut : Bool) (v f place : ℕ) (white : List ℕ) (p : Point) (rest : List ℕ) → IsNear p → list_all (belongs White) white ≡ true
    → place + length (white ++ (vertex_line p ++ rest)) ≤ 2 ^ 62
    → RowRead (vertex_row (whole_scale cut) (vertex_properties (plain_declared v f)) origin (at place (white ++ (vertex_line p ++ rest)))) p (place + length (white ++ (vertex_line p ++ rest))) rest
unfolding vertex_row coordinate_taken belongs
vertex_read cut v f place white p rest near blank room =
    let x : List ℕ = signed_decimal p.x in
    let y : List ℕ = signed_decimal p.y in
    let z : List ℕ = signed_decimal p.z in
    let third : List ℕ = 32 ∷ (z ++ (10 ∷ rest)) in
    let second : List ℕ = 32 ∷ (y ++ third) in
    let split : vertex_line p ++ rest ≡ x ++ second = vertex_split p rest in
    let whole : ℕ = length (white ++ (x ++ second)) in
    let long : length (white ++ (vertex_line p ++ rest)) ≡ whole = ap (λ l. length (white ++ l)) split in
    let first_size : whole ≡ length white + (length x + length second) = length-append white (x ++ second) ∙ ap (λ n. length white + n) (length-append x second) in
    let second_size : length second ≡ 1 + (length y + length third) = ap suc (length-append y third) ∙ omega arith in
    let third_size : length third ≡ 1 + (length z + suc (length rest)) = ap suc (length-append z (10 ∷ rest)) ∙ omega arith in
    let at_y : ℕ = place + (length white + length x) in
    let at_z : ℕ = at_y + (1 + length y) in
    let read_x = number_taken cut place white p.x second near.x blank refl (omega (arith, room, long)) in
    let read_y = number_taken cut at_y (32 ∷ []) p.y third near.y refl refl (omega (arith, room, long, first_size, second_size)) in
    let read_z = number_taken cut at_z (32 ∷ []) p.z (10 ∷ rest) near.z refl refl (omega (arith, room, long, first_size, second_size, third_size)) in
    record {
      place = at_z + (1 + length z);
      read = ap (λ l. vertex_row (whole_scale cut) (vertex_properties (plain_declared v f)) origin (at place (white ++ l))) split ∙ rw (read_x, read_y, read_z) refl;
      reached = omega (arith, long, first_size, second_size, third_size);
    }

pub fan_read : (v f place : ℕ) (white : List ℕ) (i j : ℕ) (rest : List ℕ) → v < 2 ^ 32 → i < v → j < v → list_all (belongs White) white ≡ true → prefix_len (belongs Token) rest ≡ 0
    → place + length (white ++ (51 ∷ (32 ∷ (decimal i ++ (32 ∷ (decimal j ++ rest)))))) ≤ 2 ^ 62
    → fan_opened v [] (at place (white ++ (51 ∷ (32 ∷ (decimal i ++ (32 ∷ (decimal j ++ rest)))))))
    ≡ Ok (fan_of 3 i j, at (place + (length white + 1) + (1 + length (decimal i)) + (1 + length (decimal j))) rest)
unfolding fan_opened row_passed belongs
fan_read v f place white i j rest few known_i known_j blank ends room =
    let last : List ℕ = 32 ∷ (decimal j ++ rest) in
    let both : List ℕ = 32 ∷ (decimal i ++ last) in
    let whole_size : length (white ++ (51 ∷ both)) ≡ length white + suc (length both) = length-append white (51 ∷ both) in
    let both_size : length both ≡ 1 + (length (decimal i) + length last) = ap suc (length-append (decimal i) last) ∙ omega arith in
    let count = whole_taken BadCount 3 256 place white (51 ∷ []) 3 both three_token three_is (omega arith) (omega arith) blank refl room in
    let first = corner_taken v (place + (length white + 1)) i last known_i few refl (omega (arith, room, whole_size)) in
    let second = corner_taken v (place + (length white + 1) + (1 + length (decimal i))) j rest known_j few ends (omega (arith, room, whole_size, both_size)) in
    rw (count, first, second) refl
