-- What a code's coordinates are.
use Rattle.std.proofs.Common.{◌%◌, ◌≡◌, ℕ, zero, suc, ◌+◌, ◌*◌, ◌/◌, ◌^◌, ◌<◌, ◌≤◌, refl, sym, ap, ◌∙◌, add_comm, arith, lit<, lt_of_lt_of_le}
use Rattle.std.proofs.lemmas.Nat.{shr-shr}
use Rattle.std.proofs.Math.Nat.{pow-suc, zero-div, pow-le-pow_right}
use Rattle.octree_specs.specs.NodeCube.{code_of, coordinate_of}

-- a coordinate of so many digits has so many bits
pub coordinate_below : (axis digits code : ℕ) → coordinate_of axis digits code < 2 ^ digits
unfolding coordinate_of
coordinate_below axis zero code = lit< tt
coordinate_below axis (suc digits) code =
    let below : coordinate_of axis digits (code / 8) < 2 ^ digits = coordinate_below axis digits (code / 8) in
    omega (arith, below, pow-suc 2 digits)

-- digits of 0 in front change no coordinate
pub coordinate_of_zero : (axis digits : ℕ) → coordinate_of axis digits 0 ≡ 0
unfolding coordinate_of
coordinate_of_zero axis zero = refl
coordinate_of_zero axis (suc digits) =
    let none : 0 / 2 ^ axis ≡ 0 = zero-div (2 ^ axis) in
    rw (none, coordinate_of_zero axis digits) refl

code_of_zero : (digits : ℕ) → code_of digits 0 0 0 ≡ 0
unfolding code_of
code_of_zero zero = refl
code_of_zero (suc digits) = rw (code_of_zero digits) refl

pub coordinate_of_short : (axis digits more code : ℕ) → digits ≤ more → code < 8 ^ digits → coordinate_of axis more code ≡ coordinate_of axis digits code
unfolding coordinate_of
coordinate_of_short axis zero more code fits below =
    let none : code ≡ 0 = omega arith in
    rw none (coordinate_of_zero axis more)
coordinate_of_short axis (suc digits) zero code fits below = absurd (omega arith)
coordinate_of_short axis (suc digits) (suc more) code fits below =
    let short : code / 8 < 8 ^ digits = omega (arith, pow-suc 8 digits) in
    ap (λ rest. code / 2 ^ axis % 2 + 2 * rest) (coordinate_of_short axis digits more (code / 8) (omega arith) short)

pub code_of_short : (digits more x y z : ℕ) → digits ≤ more → x < 2 ^ digits → y < 2 ^ digits → z < 2 ^ digits → code_of more x y z ≡ code_of digits x y z
unfolding code_of
code_of_short zero more x y z fits x_below y_below z_below =
    let no_x : x ≡ 0 = omega arith in
    let no_y : y ≡ 0 = omega arith in
    let no_z : z ≡ 0 = omega arith in
    rw (no_x, no_y, no_z) (code_of_zero more)
code_of_short (suc digits) zero x y z fits x_below y_below z_below = absurd (omega arith)
code_of_short (suc digits) (suc more) x y z fits x_below y_below z_below =
    let rest = code_of_short digits more (x / 2) (y / 2) (z / 2) (omega arith) (omega (arith, pow-suc 2 digits)) (omega (arith, pow-suc 2 digits)) (omega (arith, pow-suc 2 digits)) in
    ap (λ above. x % 2 + 2 * (y % 2) + 4 * (z % 2) + 8 * above) rest

-- the code of a node of a level of at most 20 has at most 60 bits
pub code_fits : (level code : ℕ) → level ≤ 20 → code < 8 ^ level → code < 2 ^ 60
code_fits level code shallow below = lt_of_lt_of_le below (pow-le-pow_right {n = 8} (lit< tt) {i = level} {j = 20} shallow)

-- its coordinates are below the level's width
pub coordinate_in_level : (axis level code : ℕ) → level ≤ 20 → code < 8 ^ level → coordinate_of axis 20 code < 2 ^ level
coordinate_in_level axis level code shallow below = rw (coordinate_of_short axis level 20 code shallow below) (coordinate_below axis level code)

-- a code of so many digits is below that power of 8
pub code_below : (digits x y z : ℕ) → code_of digits x y z < 8 ^ digits
unfolding code_of
code_below zero x y z = lit< tt
code_below (suc digits) x y z = omega (arith, code_below digits (x / 2) (y / 2) (z / 2), pow-suc 8 digits)

-- the coordinate of a code that was shifted down is that of a later axis
pub coordinate_shifted : (shift digits code : ℕ) → coordinate_of 0 digits (code / 2 ^ shift) ≡ coordinate_of shift digits code
unfolding coordinate_of
coordinate_shifted shift zero code = refl
coordinate_shifted shift (suc digits) code =
    let same : code / 2 ^ shift / 2 ^ 3 ≡ code / 2 ^ 3 / 2 ^ shift = shr-shr code shift 3 ∙ ap (λ k. code / 2 ^ k) (add_comm shift 3) ∙ sym (shr-shr code 3 shift) in
    let rest : coordinate_of 0 digits (code / 2 ^ shift / 8) ≡ coordinate_of shift digits (code / 8) = ap (coordinate_of 0 digits) same ∙ coordinate_shifted shift digits (code / 8) in
    omega (arith, rest)

-- a code is the code of its coordinates
pub code_of_coordinates : (digits code : ℕ) → code < 8 ^ digits → code_of digits (coordinate_of 0 digits code) (coordinate_of 1 digits code) (coordinate_of 2 digits code) ≡ code
unfolding code_of coordinate_of
code_of_coordinates zero code below = omega arith
code_of_coordinates (suc digits) code below =
    let short : code / 8 < 8 ^ digits = omega (arith, pow-suc 8 digits) in
    let x_rest : (code / 1 % 2 + 2 * coordinate_of 0 digits (code / 8)) / 2 ≡ coordinate_of 0 digits (code / 8) = omega arith in
    let y_rest : (code / 2 % 2 + 2 * coordinate_of 1 digits (code / 8)) / 2 ≡ coordinate_of 1 digits (code / 8) = omega arith in
    let z_rest : (code / 4 % 2 + 2 * coordinate_of 2 digits (code / 8)) / 2 ≡ coordinate_of 2 digits (code / 8) = omega arith in
    rw (x_rest, y_rest, z_rest, code_of_coordinates digits (code / 8) short) (omega arith)

-- the digits above the last one
digits_above : (a b c rest : ℕ) → a < 2 → b < 2 → c < 2 → (a + 2 * b + 4 * c + 8 * rest) / 8 ≡ rest
digits_above a b c rest p q r = omega arith

-- the coordinates of a code
pub x_of_code : (digits x y z : ℕ) → x < 2 ^ digits → coordinate_of 0 digits (code_of digits x y z) ≡ x
unfolding code_of coordinate_of
x_of_code zero x y z below = omega arith
x_of_code (suc digits) x y z below =
    let short : x / 2 < 2 ^ digits = omega (arith, pow-suc 2 digits) in
    rw (digits_above (x % 2) (y % 2) (z % 2) (code_of digits (x / 2) (y / 2) (z / 2)) (omega arith) (omega arith) (omega arith), x_of_code digits (x / 2) (y / 2) (z / 2) short) (omega arith)

pub y_of_code : (digits x y z : ℕ) → y < 2 ^ digits → coordinate_of 1 digits (code_of digits x y z) ≡ y
unfolding code_of coordinate_of
y_of_code zero x y z below = omega arith
y_of_code (suc digits) x y z below =
    let short : y / 2 < 2 ^ digits = omega (arith, pow-suc 2 digits) in
    rw (digits_above (x % 2) (y % 2) (z % 2) (code_of digits (x / 2) (y / 2) (z / 2)) (omega arith) (omega arith) (omega arith), y_of_code digits (x / 2) (y / 2) (z / 2) short) (omega arith)

pub z_of_code : (digits x y z : ℕ) → z < 2 ^ digits → coordinate_of 2 digits (code_of digits x y z) ≡ z
unfolding code_of coordinate_of
z_of_code zero x y z below = omega arith
z_of_code (suc digits) x y z below =
    let short : z / 2 < 2 ^ digits = omega (arith, pow-suc 2 digits) in
    rw (digits_above (x % 2) (y % 2) (z % 2) (code_of digits (x / 2) (y / 2) (z / 2)) (omega arith) (omega arith) (omega arith), z_of_code digits (x / 2) (y / 2) (z / 2) short) (omega arith)
