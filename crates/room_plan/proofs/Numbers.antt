-- Numbers that stand one after another in bytes.
use Rattle.std.proofs.Common.{◌≡◌, ◌≤◌, ◌<◌, ◌+◌, ◌-◌, ◌*◌, ◌^◌, ℕ, ℤ, List, ◌++◌, length, drop, take, SFits, refl, arith, sym, ap, ◌∙◌}
use Rattle.std.specs.Int.{w32, cast_signed, cast_unsigned}
use Rattle.std.proofs.Math.Facts.{Fits-of_z, to_z-of_z}
use Rattle.std.proofs.lemmas.List.{length-take-le, take-append-drop, length-drop, drop-take, drop-drop}
use Rattle.byteorder.specs.Endian.{little_number, little_bytes}
use Rattle.byteorder.specs.Numbers.{little_from-append, little_number-reads_back}
use Rattle.svo_base.specs.declared.shapes.Point.{Point}
use Rattle.octree_specs.specs.Parcels.{coordinate_bytes, point_bytes}
use Rattle.room_plan.specs.Coordinates.{IsPoint, number_at, point_at}

-- a number depends on its own bytes alone
pub number_of_front : (m : ℕ) (bytes : List ℕ) → 4 ≤ m → m ≤ length bytes → little_number 4 (take m bytes) ≡ little_number 4 bytes
number_of_front m bytes four within =
    let fits : 4 ≤ length (take m bytes) = omega (arith, length-take-le m bytes within) in
    sym (little_from-append 4 (take m bytes) (drop m bytes) fits) ∙ ap (little_number 4) (take-append-drop m bytes)

-- one of the numbers in a front of the bytes
pub number_in_front : (size place : ℕ) (bytes : List ℕ) → 4 * place + 4 ≤ size → size ≤ length bytes → number_at (take size bytes) place ≡ number_at bytes place
number_in_front size place bytes inside within =
    let rest : size ≡ 4 * place + (size - 4 * place) = omega arith in
    let moved : drop (4 * place) (take size bytes) ≡ take (size - 4 * place) (drop (4 * place) bytes) =
    ap (λ n. drop (4 * place) (take n bytes)) rest ∙ drop-take (4 * place) (size - 4 * place) bytes in
    ap (little_number 4) moved
    ∙ number_of_front (size - 4 * place) (drop (4 * place) bytes) (omega arith) (omega (arith, length-drop (4 * place) bytes))

-- what is read of a number's own bytes is the number
pub reads_number : (n : ℕ) (rest : List ℕ) → n < 2 ^ 32 → little_number 4 (little_bytes 4 n ++ rest) ≡ n
reads_number n rest small = little_number-reads_back 4 n rest (omega (arith, small))

pub reads_coordinate : (z : ℤ) (rest : List ℕ) → SFits w32 z → cast_signed w32 (little_number 4 (coordinate_bytes z ++ rest)) ≡ z
reads_coordinate z rest fits =
    ap (cast_signed w32) (reads_number (cast_unsigned w32 z) rest (Fits-of_z fits).fits) ∙ to_z-of_z fits

-- ---- points read back from their bytes

pub reads_point : (p : Point) (rest : List ℕ) → IsPoint p → point_at (point_bytes p ++ rest) 0 ≡ p
unfolding point_bytes
reads_point p rest is =
    let x = reads_coordinate p.x (coordinate_bytes p.y ++ (coordinate_bytes p.z ++ rest)) is.x in
    let y = reads_coordinate p.y (coordinate_bytes p.z ++ rest) is.y in
    let z = reads_coordinate p.z rest is.z in
    λ i. record { x = x i; y = y i; z = z i }

-- numbers from a place on
pub point_moved : (bytes : List ℕ) (place : ℕ) → point_at bytes place ≡ point_at (drop (4 * place) bytes) 0
point_moved bytes place =
    let read : List ℕ → ℤ = λ l. cast_signed w32 (little_number 4 l) in
    let one : 4 * (place + 1) ≡ 4 * place + 4 = omega arith in
    let two : 4 * (place + 2) ≡ 4 * place + 8 = omega arith in
    let y : drop (4 * (place + 1)) bytes ≡ drop 4 (drop (4 * place) bytes) = ap (λ n. drop n bytes) one ∙ sym (drop-drop 4 (4 * place) bytes) in
    let z : drop (4 * (place + 2)) bytes ≡ drop 8 (drop (4 * place) bytes) = ap (λ n. drop n bytes) two ∙ sym (drop-drop 8 (4 * place) bytes) in
    λ i. record { x = read (drop (4 * place) bytes); y = read (y i); z = read (z i) }

pub length_point : (p : Point) → length (point_bytes p) ≡ 12
unfolding point_bytes
length_point p = refl
