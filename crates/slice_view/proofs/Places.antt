-- Places of cells and nodes along the axes of a slice, and the numbers of their samples.
use Rattle.std.proofs.Common.{◌≡◌, ℕ, zero, suc, ◌+◌, ◌-◌, ◌*◌, ◌/◌, ◌%◌, ◌^◌, ◌<◌, ◌≤◌, true, refl, sym, ap, subst, ◌∙◌, arith, lit<}
use Rattle.std.specs.Prelude.{◌==◌, ◌&&◌, nat_le, Bool}
use Rattle.std.proofs.Math.Nat.{pow-suc, div-div-eq-div-mul, div-lt_iff_lt-mul, div-mul-le_self, mul-le-mul_right, pow-le-pow_right}
use Rattle.std.proofs.lemmas.Nat.{le-div, pow_pos, mod_below, div-add-mod', div-mul-add, mod-mul-add}
use Rattle.std.proofs.lemmas.Bool.{eq-eqb, le-leb, eqb-true, leb-true, and_parts}
use Rattle.octree_specs.specs.NodeCube.{coordinate_of}
use Rattle.octree_laws.proofs.Under.{div-up, div-leaf}
use Rattle.morton_code.proofs.Children.{halves_coordinates}
use Rattle.morton_code.proofs.Coordinates.{coordinate_below, code_of_coordinates, x_of_code, y_of_code, z_of_code}
use Rattle.slice_view.specs.Bands.{across, along_columns, along_rows, IsBand, IsSquare, band_size, cell_of, crosses}
use Rattle.slice_view.specs.Slices.{cell_in}
use Rattle.slice_view.specs.declared.axes.Axis.{Axis}
use Rattle.slice_view.specs.declared.axes.Axis.TheVariants.{X, Y, Z}
use Rattle.slice_view.specs.declared.bands.Band.{Band}
use Rattle.slice_view.specs.declared.squares.Square.{Square}

-- a node's place is that of the cells below it, halved once a level
pub place_above : (axis more height code : ℕ) → coordinate_of axis more (code / 8 ^ height) ≡ coordinate_of axis (more + height) code / 2 ^ height
place_above axis more zero code =
    let same : more + 0 ≡ more = omega arith in
    let whole : coordinate_of axis (more + 0) code / 2 ^ 0 ≡ coordinate_of axis (more + 0) code = omega arith in
    ap (coordinate_of axis more) (div-leaf code) ∙ (ap (λ n. coordinate_of axis n code) (sym same) ∙ sym whole)
place_above axis more (suc height) code =
    let levels : more + 1 + height ≡ more + suc height = omega arith in
    ap (coordinate_of axis more) (div-up code height)
    ∙ (halves_coordinates.parent axis more (code / 8 ^ height)
    ∙ (ap (λ n. n / 2) (place_above axis (more + 1) height code)
    ∙ (div-div-eq-div-mul (coordinate_of axis (more + 1 + height) code) (2 ^ height) 2
    ∙ (ap (λ n. coordinate_of axis (more + 1 + height) code / n) (sym (pow-suc 2 height)) ∙ ap (λ n. coordinate_of axis n code / 2 ^ suc height) levels))))

pub place_at : (axis depth height code : ℕ) → height ≤ depth → coordinate_of axis (depth - height) (code / 8 ^ height) ≡ coordinate_of axis depth code / 2 ^ height
place_at axis depth height code within =
    let levels : depth - height + height ≡ depth = omega (arith, within) in
    place_above axis (depth - height) height code ∙ ap (λ n. coordinate_of axis n code / 2 ^ height) levels

pub div_up_to : (a b power : ℕ) → 0 < power → a ≤ b → a / power ≤ b / power
div_up_to a b power some below = le-div (a / power) b power some (omega (arith, below, div-mul-le_self a power))

-- ---- a cell by its places

pub layer_in : (depth : ℕ) (axis : Axis) (at column row : ℕ) → at < 2 ^ depth → column < 2 ^ depth → row < 2 ^ depth → coordinate_of (across axis) depth (cell_in depth axis at column row) ≡ at
layer_in depth X at column row p q r = x_of_code depth at column row p
layer_in depth Y at column row p q r = y_of_code depth column at row p
layer_in depth Z at column row p q r = z_of_code depth column row at p

pub column_in : (depth : ℕ) (axis : Axis) (at column row : ℕ) → at < 2 ^ depth → column < 2 ^ depth → row < 2 ^ depth → coordinate_of (along_columns axis) depth (cell_in depth axis at column row) ≡ column
column_in depth X at column row p q r = y_of_code depth at column row q
column_in depth Y at column row p q r = x_of_code depth column at row q
column_in depth Z at column row p q r = x_of_code depth column row at q

pub row_in : (depth : ℕ) (axis : Axis) (at column row : ℕ) → at < 2 ^ depth → column < 2 ^ depth → row < 2 ^ depth → coordinate_of (along_rows axis) depth (cell_in depth axis at column row) ≡ row
row_in depth X at column row p q r = z_of_code depth at column row r
row_in depth Y at column row p q r = z_of_code depth column at row r
row_in depth Z at column row p q r = y_of_code depth column row at r

pub cell_back : (depth : ℕ) (axis : Axis) (code : ℕ) → code < 8 ^ depth
    → cell_in depth axis (coordinate_of (across axis) depth code) (coordinate_of (along_columns axis) depth code) (coordinate_of (along_rows axis) depth code) ≡ code
cell_back depth X code below = code_of_coordinates depth code below
cell_back depth Y code below = code_of_coordinates depth code below
cell_back depth Z code below = code_of_coordinates depth code below

-- ---- samples of a band

pub in_rows : (band : Band) → IsBand band → (number : ℕ) → number < band_size band → number / 2 ^ band.depth ≤ band.high - band.low
in_rows band is number below =
    let rows : number / 2 ^ band.depth < band.high - band.low + 1 = (div-lt_iff_lt-mul (pow_pos band.depth)).1 below in
    omega (arith, rows)

pub column_below : (band : Band) (number : ℕ) → number % 2 ^ band.depth < 2 ^ band.depth
column_below band number = mod_below number (2 ^ band.depth) (pow_pos band.depth)

pub row_below : (band : Band) → IsBand band → (number : ℕ) → band.high - number / 2 ^ band.depth < 2 ^ band.depth
row_below band is number = omega (arith, is.high)

pub sample_layer : (band : Band) → IsBand band → (number : ℕ) → coordinate_of (across band.axis) band.depth (cell_of band number) ≡ band.at
sample_layer band is number = layer_in band.depth band.axis band.at (number % 2 ^ band.depth) (band.high - number / 2 ^ band.depth) is.at (column_below band number) (row_below band is number)

pub sample_column : (band : Band) → IsBand band → (number : ℕ) → coordinate_of (along_columns band.axis) band.depth (cell_of band number) ≡ number % 2 ^ band.depth
sample_column band is number = column_in band.depth band.axis band.at (number % 2 ^ band.depth) (band.high - number / 2 ^ band.depth) is.at (column_below band number) (row_below band is number)

pub sample_row : (band : Band) → IsBand band → (number : ℕ) → coordinate_of (along_rows band.axis) band.depth (cell_of band number) ≡ band.high - number / 2 ^ band.depth
sample_row band is number = row_in band.depth band.axis band.at (number % 2 ^ band.depth) (band.high - number / 2 ^ band.depth) is.at (column_below band number) (row_below band is number)

-- the band crosses each node that a cell of one of its samples lies under
pub crossed : (band : Band) (square : Square) → IsBand band → IsSquare band.depth band.axis square → (number : ℕ) → number < band_size band → cell_of band number / 8 ^ square.height ≡ square.code → crosses band square ≡ true
crossed band square is node number below under =
    let layer : band.at / 2 ^ square.height ≡ square.layer =
    sym (node.layer ∙ (ap (coordinate_of (across band.axis) (band.depth - square.height)) (sym under)
    ∙ (place_at (across band.axis) band.depth square.height (cell_of band number) node.within ∙ ap (λ n. n / 2 ^ square.height) (sample_layer band is number)))) in
    let row : square.row ≡ (band.high - number / 2 ^ band.depth) / 2 ^ square.height =
    node.row ∙ (ap (coordinate_of (along_rows band.axis) (band.depth - square.height)) (sym under)
    ∙ (place_at (along_rows band.axis) band.depth square.height (cell_of band number) node.within ∙ ap (λ n. n / 2 ^ square.height) (sample_row band is number))) in
    let rows : number / 2 ^ band.depth ≤ band.high - band.low = in_rows band is number below in
    let low : band.low / 2 ^ square.height ≤ square.row =
    subst (λ n. band.low / 2 ^ square.height ≤ n) (sym row) (div_up_to band.low (band.high - number / 2 ^ band.depth) (2 ^ square.height) (pow_pos square.height) (omega (arith, rows, is.some))) in
    let high : square.row ≤ band.high / 2 ^ square.height =
    subst (λ n. n ≤ band.high / 2 ^ square.height) (sym row) (div_up_to (band.high - number / 2 ^ band.depth) band.high (2 ^ square.height) (pow_pos square.height) (omega arith)) in
    all_true (band.at / 2 ^ square.height == square.layer) (nat_le (band.low / 2 ^ square.height) square.row) (nat_le square.row (band.high / 2 ^ square.height))
    (eq-eqb (band.at / 2 ^ square.height) square.layer layer) (le-leb (band.low / 2 ^ square.height) square.row low) (le-leb square.row (band.high / 2 ^ square.height) high)
  where
    all_true : (a b c : Bool) → a ≡ true → b ≡ true → c ≡ true → (a && b && c) ≡ true
    all_true a b c p q r = rw (p, q, r) refl

-- ---- the sample of a cell

-- what a band that shows a cell says of the cell's places
pub record IsShown (band : Band) (cell : Square) : Type 0 where
  pub layer : cell.layer ≡ band.at
  pub low : band.low ≤ cell.row
  pub high : cell.row ≤ band.high

pub shown : (band : Band) (cell : Square) → cell.height ≡ 0 → crosses band cell ≡ true → IsShown band cell
shown band cell leaf crossed =
    let power : 2 ^ cell.height ≡ 1 = ap (λ h. 2 ^ h) leaf in
    let same : (n : ℕ) → n / 2 ^ cell.height ≡ n = λ n. ap (λ p. n / p) power ∙ omega arith in
    let front : ((band.at / 2 ^ cell.height == cell.layer) && nat_le (band.low / 2 ^ cell.height) cell.row ≡ true) × (nat_le cell.row (band.high / 2 ^ cell.height) ≡ true) =
    and_parts ((band.at / 2 ^ cell.height == cell.layer) && nat_le (band.low / 2 ^ cell.height) cell.row) (nat_le cell.row (band.high / 2 ^ cell.height)) crossed in
    let parts : (band.at / 2 ^ cell.height == cell.layer ≡ true) × (nat_le (band.low / 2 ^ cell.height) cell.row ≡ true) =
    and_parts (band.at / 2 ^ cell.height == cell.layer) (nat_le (band.low / 2 ^ cell.height) cell.row) front.0 in
    record {
      layer = sym (sym (same band.at) ∙ eqb-true (band.at / 2 ^ cell.height) cell.layer parts.0);
      low = omega (arith, same band.low, leb-true (band.low / 2 ^ cell.height) cell.row parts.1);
      high = omega (arith, same band.high, leb-true cell.row (band.high / 2 ^ cell.height) front.1);
    }

abbrev pub sample_number : Band → Square → ℕ
sample_number band cell = (band.high - cell.row) * 2 ^ band.depth + cell.column

-- a cell's places, by its own code
pub leaf_level : (depth height : ℕ) → height ≡ 0 → depth - height ≡ depth
leaf_level depth height leaf = omega (arith, leaf)

pub cell_column : (band : Band) (cell : Square) → IsSquare band.depth band.axis cell → cell.column < 2 ^ band.depth
cell_column band cell is =
    let most : cell.column < 2 ^ (band.depth - cell.height) = subst (λ n. n < 2 ^ (band.depth - cell.height)) (sym is.column) (coordinate_below (along_columns band.axis) (band.depth - cell.height) cell.code) in
    let wider : 2 ^ (band.depth - cell.height) ≤ 2 ^ band.depth = pow-le-pow_right {n = 2} (lit< tt) {i = band.depth - cell.height} {j = band.depth} (omega arith) in
    omega (arith, most, wider)

-- its sample is one of the band
pub sample_within : (band : Band) (cell : Square) → IsBand band → IsSquare band.depth band.axis cell → IsShown band cell → sample_number band cell < band_size band
sample_within band cell is square here =
    let rows : (band.high - cell.row + 1) * 2 ^ band.depth ≤ (band.high - band.low + 1) * 2 ^ band.depth = mul-le-mul_right (2 ^ band.depth) (omega (arith, here.low, here.high)) in
    omega (arith, rows, cell_column band cell square)

-- and the sample of that number is the cell's
pub cell_of_sample : (band : Band) (cell : Square) → IsBand band → IsSquare band.depth band.axis cell → cell.height ≡ 0 → IsShown band cell → cell_of band (sample_number band cell) ≡ cell.code
cell_of_sample band cell is square leaf here =
    let level : band.depth - cell.height ≡ band.depth = leaf_level band.depth cell.height leaf in
    let column : sample_number band cell % 2 ^ band.depth ≡ cell.column = mod-mul-add (band.high - cell.row) (2 ^ band.depth) cell.column (cell_column band cell square) in
    let above : sample_number band cell / 2 ^ band.depth ≡ band.high - cell.row = div-mul-add (band.high - cell.row) (2 ^ band.depth) cell.column (cell_column band cell square) in
    let row : band.high - sample_number band cell / 2 ^ band.depth ≡ cell.row = omega (arith, above, here.high) in
    let below : cell.code < 8 ^ band.depth = subst (λ n. cell.code < 8 ^ n) level square.code in
    let own_layer : band.at ≡ coordinate_of (across band.axis) band.depth cell.code = sym here.layer ∙ (square.layer ∙ ap (λ n. coordinate_of (across band.axis) n cell.code) level) in
    let own_column : cell.column ≡ coordinate_of (along_columns band.axis) band.depth cell.code = square.column ∙ ap (λ n. coordinate_of (along_columns band.axis) n cell.code) level in
    let own_row : cell.row ≡ coordinate_of (along_rows band.axis) band.depth cell.code = square.row ∙ ap (λ n. coordinate_of (along_rows band.axis) n cell.code) level in
    ap (λ n. cell_in band.depth band.axis n (sample_number band cell % 2 ^ band.depth) (band.high - sample_number band cell / 2 ^ band.depth)) own_layer
    ∙ (ap (λ n. cell_in band.depth band.axis (coordinate_of (across band.axis) band.depth cell.code) n (band.high - sample_number band cell / 2 ^ band.depth)) (column ∙ own_column)
    ∙ (ap (λ n. cell_in band.depth band.axis (coordinate_of (across band.axis) band.depth cell.code) (coordinate_of (along_columns band.axis) band.depth cell.code) n) (row ∙ own_row)
    ∙ cell_back band.depth band.axis cell.code below))

-- no other one is
pub sample_of_cell : (band : Band) (cell : Square) → IsBand band → IsSquare band.depth band.axis cell → cell.height ≡ 0 → IsShown band cell
    → (number : ℕ) → number < band_size band → cell_of band number ≡ cell.code → number ≡ sample_number band cell
sample_of_cell band cell is square leaf here number below same =
    let level : band.depth - cell.height ≡ band.depth = leaf_level band.depth cell.height leaf in
    let column : cell.column ≡ number % 2 ^ band.depth =
    square.column ∙ (ap (λ n. coordinate_of (along_columns band.axis) n cell.code) level ∙ (ap (coordinate_of (along_columns band.axis) band.depth) (sym same) ∙ sample_column band is number)) in
    let row : cell.row ≡ band.high - number / 2 ^ band.depth =
    square.row ∙ (ap (λ n. coordinate_of (along_rows band.axis) n cell.code) level ∙ (ap (coordinate_of (along_rows band.axis) band.depth) (sym same) ∙ sample_row band is number)) in
    let rows : number / 2 ^ band.depth ≤ band.high - band.low = in_rows band is number below in
    let above : band.high - cell.row ≡ number / 2 ^ band.depth = omega (arith, row, rows, is.some) in
    sym (div-add-mod' number (2 ^ band.depth)) ∙ (ap (λ n. n * 2 ^ band.depth + number % 2 ^ band.depth) (sym above) ∙ ap (λ n. (band.high - cell.row) * 2 ^ band.depth + n) (sym column))
