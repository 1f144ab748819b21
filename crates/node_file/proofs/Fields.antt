-- The numbers in a header's and in a trailer's bytes.
use Rattle.std.proofs.Common.{◌≡◌, ℕ, ◌*◌, ◌^◌, ◌<◌, ◌≤◌, true, List, [], ◌∷◌, length, take, drop, refl, sym, ap, subst, ◌∙◌, inl, inr, arith, ℤ, pos, negsuc, Ok, lit<}
use Rattle.std.specs.Prelude.{All, FitsSigned, unsigned_abs, nat_le}
use Rattle.std.specs.List.{list_all}
use Rattle.std.specs.Int.{w32, w64, cast_signed, cast_unsigned, to_le_bytes, from_le_bytes}
use Rattle.std.proofs.lemmas.Int.{to_z-of_z, fits_signed_from_abs}
use Rattle.std.proofs.Math.Nat.{one-le-pow, mul-le-mul_left}
use Rattle.std.proofs.lemmas.Bool.{le-leb}
use Rattle.std.proofs.lemmas.List.Elements.{All-head, All-tail}
use Rattle.std.proofs.lemmas.Nat.{from_le_bytes-to_le_bytes_4, from_le_bytes-to_le_bytes_8}
use Rattle.svo_base.specs.declared.grids.TheConstants.{MAX_DEPTH}
use Rattle.svo_base.specs.GridShape.{GridShape, IsGrid}
use Rattle.svo_base.specs.GridLimits.{is_within, grid_from}
use Rattle.octree_specs.specs.Formats.{IsFormat}
use Rattle.octree_specs.specs.OctreeFile.{header_of, trailer_of}
use Rattle.node_file.specs.Framing.{IsHeader, IsTrailer}
use Rattle.node_file.specs.declared.records.Totals.{Totals}

-- ---- a trailer

eight_back : (bytes : List ℕ) (n m : ℕ) → bytes ≡ to_le_bytes w64 n → n < 2 ^ 64 → m ≡ from_le_bytes w64 bytes → m ≡ n
eight_back bytes n m are small read = read ∙ (ap (from_le_bytes w64) are ∙ from_le_bytes-to_le_bytes_8 n small)

records_at : (format records cells : ℕ) → take 8 (drop 8 (trailer_of format records cells)) ≡ to_le_bytes w64 records
unfolding trailer_of
records_at format records cells = refl

cells_at : (format records cells : ℕ) → take 8 (drop 16 (trailer_of format records cells)) ≡ to_le_bytes w64 cells
unfolding trailer_of
cells_at format records cells = refl

pub totals_are : (format m n : ℕ) (totals : Totals) (bytes : List ℕ) → IsTrailer format totals bytes
    → m ≡ from_le_bytes w64 (take 8 (drop 8 bytes)) → n ≡ from_le_bytes w64 (take 8 (drop 16 bytes)) → record { records = m; cells = n } ≡ totals
totals_are format m n totals bytes is records cells =
    let first : m ≡ totals.records = eight_back (take 8 (drop 8 bytes)) totals.records m (ap (λ l. take 8 (drop 8 l)) is.trailer ∙ records_at format totals.records totals.cells) is.records records in
    let second : n ≡ totals.cells = eight_back (take 8 (drop 16 bytes)) totals.cells n (ap (λ l. take 8 (drop 16 l)) is.trailer ∙ cells_at format totals.records totals.cells) is.cells cells in
    λ i. record { records = first i; cells = second i }

-- ---- a header

-- where the numbers of a grid stand
record HasGrid (bytes : List ℕ) (depth : ℕ) (x y z : ℤ) (cell : ℕ) : Type 0 where
  depth_at : take 4 (drop 8 bytes) ≡ to_le_bytes w32 depth
  x_at : take 8 (drop 16 bytes) ≡ to_le_bytes w64 (cast_unsigned w64 x)
  y_at : take 8 (drop 24 bytes) ≡ to_le_bytes w64 (cast_unsigned w64 y)
  z_at : take 8 (drop 32 bytes) ≡ to_le_bytes w64 (cast_unsigned w64 z)
  cell_at : take 8 (drop 40 bytes) ≡ to_le_bytes w64 cell

has_grid : (format depth cell : ℕ) (x y z : ℤ) → IsFormat format → HasGrid (header_of format (record { depth = depth; origin = x ∷ y ∷ z ∷ []; cell = cell })) depth x y z cell
unfolding header_of
has_grid format depth cell x y z (inl one) =
    subst (λ f. HasGrid (header_of f (record { depth = depth; origin = x ∷ y ∷ z ∷ []; cell = cell })) depth x y z cell) (sym one) (record { depth_at = refl; x_at = refl; y_at = refl; z_at = refl; cell_at = refl })
has_grid format depth cell x y z (inr two) =
    subst (λ f. HasGrid (header_of f (record { depth = depth; origin = x ∷ y ∷ z ∷ []; cell = cell })) depth x y z cell) (sym two) (record { depth_at = refl; x_at = refl; y_at = refl; z_at = refl; cell_at = refl })

-- a number with a sign that is near 0
near_fits : (z : ℤ) → unsigned_abs z ≤ 2 ^ 32 → FitsSigned w64 z
near_fits z near = fits_signed_from_abs w64 z (omega arith)

cast_small : (z : ℤ) → unsigned_abs z ≤ 2 ^ 32 → cast_unsigned w64 z < 2 ^ 64
cast_small (pos n) near = omega arith
cast_small (negsuc k) near = omega arith

-- as it is passed on by value
abbrev through : ℤ → ℤ
through z = cast_signed w64 (cast_unsigned w64 z)

through_same : (w o : ℤ) → w ≡ o → unsigned_abs o ≤ 2 ^ 32 → through w ≡ o
through_same w o same near = ap through same ∙ to_z-of_z w64 o (near_fits o near)

signed_back : (bytes : List ℕ) (o w : ℤ) → bytes ≡ to_le_bytes w64 (cast_unsigned w64 o) → unsigned_abs o ≤ 2 ^ 32 → w ≡ cast_signed w64 (from_le_bytes w64 bytes) → through w ≡ o
signed_back bytes o w are near read =
    through_same w o (read ∙ (ap (λ l. cast_signed w64 (from_le_bytes w64 l)) are ∙ (ap (cast_signed w64) (from_le_bytes-to_le_bytes_8 (cast_unsigned w64 o) (cast_small o near)) ∙ to_z-of_z w64 o (near_fits o near)))) near

four_back : (bytes : List ℕ) (n m : ℕ) → bytes ≡ to_le_bytes w32 n → n < 2 ^ 32 → m ≡ from_le_bytes w32 bytes → m ≡ n
four_back bytes n m are small read = read ∙ (ap (from_le_bytes w32) are ∙ from_le_bytes-to_le_bytes_4 n small)

all_near : (origin : List ℤ) → All (λ o. unsigned_abs o ≤ 2 ^ 30) origin → list_all (is_within (2 ^ 30)) origin ≡ true
all_near [] near = refl
all_near (o ∷ rest) near =
    let first : is_within (2 ^ 30) o ≡ true = le-leb (unsigned_abs o) (2 ^ 30) (All-head (λ o. unsigned_abs o ≤ 2 ^ 30) o rest near) in
    rw first (all_near rest (All-tail (λ o. unsigned_abs o ≤ 2 ^ 30) o rest near))

-- the numbers of a grid make this grid
grid_made : (grid : GridShape) → IsGrid grid → grid_from (pos grid.depth) grid.origin (pos grid.cell) ≡ Ok grid
unfolding grid_from
grid_made grid limits =
    let deep : nat_le 1 grid.depth ≡ true = le-leb 1 grid.depth limits.halved in
    let shallow : nat_le grid.depth MAX_DEPTH ≡ true = le-leb grid.depth MAX_DEPTH limits.shallow in
    let near : list_all (is_within (2 ^ 30)) grid.origin ≡ true = all_near grid.origin limits.near in
    let solid : nat_le 1 grid.cell ≡ true = le-leb 1 grid.cell limits.solid in
    let narrow : nat_le (grid.cell * 2 ^ grid.depth) (2 ^ 32) ≡ true = le-leb (grid.cell * 2 ^ grid.depth) (2 ^ 32) limits.narrow in
    rw (deep, shallow, near, solid, narrow) refl

cell_few : (grid : GridShape) → IsGrid grid → grid.cell ≤ 2 ^ 32
cell_few grid limits =
    let one : 1 ≤ 2 ^ grid.depth = one-le-pow grid.depth 2 (lit< tt) in
    let wide : grid.cell * 1 ≤ grid.cell * 2 ^ grid.depth = mul-le-mul_left grid.cell one in
    omega (arith, limits.narrow)

-- the numbers read from a header
pub record AreRead (bytes : List ℕ) (depth x y z cell : ℤ) : Type 0 where
  pub depth_is : depth ≡ pos (from_le_bytes w32 (take 4 (drop 8 bytes)))
  pub x_is : x ≡ cast_signed w64 (from_le_bytes w64 (take 8 (drop 16 bytes)))
  pub y_is : y ≡ cast_signed w64 (from_le_bytes w64 (take 8 (drop 24 bytes)))
  pub z_is : z ≡ cast_signed w64 (from_le_bytes w64 (take 8 (drop 32 bytes)))
  pub cell_is : cell ≡ cast_signed w64 (from_le_bytes w64 (take 8 (drop 40 bytes)))

three_axes : (origin : List ℤ) → length origin ≡ 3 → (x : ℤ) × (y : ℤ) × (z : ℤ) × (origin ≡ x ∷ y ∷ z ∷ [])
three_axes (x ∷ y ∷ z ∷ []) three = (x, y, z, refl)
three_axes xs three = absurd (omega (arith, three))

-- are those of its grid
module _ (format : ℕ) (grid : GridShape) (bytes : List ℕ) (is : IsHeader format grid bytes) (depth x y z cell : ℤ) (read : AreRead bytes depth x y z cell) where
  axes_read : (a b c : ℤ) → grid.origin ≡ a ∷ b ∷ c ∷ [] → grid_from (through depth) (through x ∷ through y ∷ through z ∷ []) (through cell) ≡ Ok grid
  axes_read a b c axes =
      let same : grid ≡ record { depth = grid.depth; origin = a ∷ b ∷ c ∷ []; cell = grid.cell } = λ i. record { depth = grid.depth; origin = axes i; cell = grid.cell } in
      let has : HasGrid bytes grid.depth a b c grid.cell =
      subst (λ l. HasGrid l grid.depth a b c grid.cell) (sym (is.header ∙ ap (header_of format) same)) (has_grid format grid.depth grid.cell a b c is.known) in
      let near : ℤ → Type 0 = λ o. unsigned_abs o ≤ 2 ^ 30 in
      let all : All near (a ∷ b ∷ c ∷ []) = subst (All near) axes is.limits.near in
      let near_a : unsigned_abs a ≤ 2 ^ 30 = All-head near a (b ∷ c ∷ []) all in
      let later : All near (b ∷ c ∷ []) = All-tail near a (b ∷ c ∷ []) all in
      let near_b : unsigned_abs b ≤ 2 ^ 30 = All-head near b (c ∷ []) later in
      let near_c : unsigned_abs c ≤ 2 ^ 30 = All-head near c [] (All-tail near b (c ∷ []) later) in
      let deep : from_le_bytes w32 (take 4 (drop 8 bytes)) ≡ grid.depth = four_back (take 4 (drop 8 bytes)) grid.depth (from_le_bytes w32 (take 4 (drop 8 bytes))) has.depth_at (omega (arith, is.limits.shallow)) refl in
      let depth_same : through depth ≡ pos grid.depth = through_same depth (pos grid.depth) (read.depth_is ∙ ap pos deep) (omega (arith, is.limits.shallow)) in
      let first : through x ≡ a = signed_back (take 8 (drop 16 bytes)) a x has.x_at (omega (arith, near_a)) read.x_is in
      let second : through y ≡ b = signed_back (take 8 (drop 24 bytes)) b y has.y_at (omega (arith, near_b)) read.y_is in
      let third : through z ≡ c = signed_back (take 8 (drop 32 bytes)) c z has.z_at (omega (arith, near_c)) read.z_is in
      let side : through cell ≡ pos grid.cell = signed_back (take 8 (drop 40 bytes)) (pos grid.cell) cell has.cell_at (cell_few grid is.limits) read.cell_is in
      let origin : through x ∷ through y ∷ through z ∷ [] ≡ grid.origin = (λ i. first i ∷ second i ∷ third i ∷ []) ∙ sym axes in
      (λ i. grid_from (depth_same i) (origin i) (side i)) ∙ grid_made grid is.limits

  pub grid_read : grid_from (through depth) (through x ∷ through y ∷ through z ∷ []) (through cell) ≡ Ok grid
  grid_read =
      let axes : (a : ℤ) × (b : ℤ) × (c : ℤ) × (grid.origin ≡ a ∷ b ∷ c ∷ []) = three_axes grid.origin is.limits.axes in
      axes_read axes.0 axes.1 axes.2 axes.3
