-- The rows of a band of a slice.
use Rattle.std.proofs.Common.{◌≡◌, ℕ, ◌+◌, ◌-◌, ◌*◌, ◌^◌, ◌<◌, ◌≤◌, refl, sym, ap, subst, ◌∙◌, arith, lit<}
use Rattle.std.specs.Prelude.{min}
use Rattle.std.proofs.Math.Nat.{pow-le-pow_right, mul-le-mul_right}
use Rattle.std.proofs.lemmas.Nat.{pow-add, pow_pos}
use Rattle.svo_base.specs.declared.grids.TheConstants.{MAX_DEPTH}
use Rattle.slice_view.specs.declared.bands.TheConstants.{BAND_EXPONENT}
use Rattle.slice_view.specs.Bands.{IsBand, IsBandOf, rows_of}
use Rattle.slice_view.specs.declared.axes.Axis.{Axis}

height_within : (depth : ℕ) → min depth (BAND_EXPONENT - depth) ≤ depth
height_within depth = omega arith

-- all bands together are the picture
pub bands_whole : (depth : ℕ) → 2 ^ (depth - min depth (BAND_EXPONENT - depth)) * rows_of depth ≡ 2 ^ depth
bands_whole depth =
    let sum : depth - min depth (BAND_EXPONENT - depth) + min depth (BAND_EXPONENT - depth) ≡ depth = omega (arith, height_within depth) in
    sym (pow-add 2 (depth - min depth (BAND_EXPONENT - depth)) (min depth (BAND_EXPONENT - depth))) ∙ ap (λ n. 2 ^ n) sum

pub band_room : (depth number rows whole : ℕ) → rows ≡ rows_of depth → whole ≡ 2 ^ depth → number < 2 ^ (depth - min depth (BAND_EXPONENT - depth)) → number * rows + rows ≤ whole
band_room depth number rows whole rows_is whole_is below =
    let most : (number + 1) * rows_of depth ≤ 2 ^ (depth - min depth (BAND_EXPONENT - depth)) * rows_of depth = mul-le-mul_right (rows_of depth) (omega (arith, below)) in
    let sum : (number + 1) * rows_of depth ≡ number * rows_of depth + rows_of depth = omega arith in
    let all : number * rows_of depth + rows_of depth ≤ 2 ^ depth = omega (arith, most, sum, bands_whole depth) in
    subst (λ w. number * rows + rows ≤ w) (sym whole_is) (subst (λ r. number * r + r ≤ 2 ^ depth) (sym rows_is) all)

-- a band has room in a block
pub band_fits : (depth : ℕ) → depth ≤ MAX_DEPTH → rows_of depth * 2 ^ depth ≤ 4096
band_fits depth shallow =
    let sum : 2 ^ (min depth (BAND_EXPONENT - depth) + depth) ≡ rows_of depth * 2 ^ depth = pow-add 2 (min depth (BAND_EXPONENT - depth)) depth in
    let most : 2 ^ (min depth (BAND_EXPONENT - depth) + depth) ≤ 2 ^ BAND_EXPONENT = pow-le-pow_right {n = 2} (lit< tt) {i = min depth (BAND_EXPONENT - depth) + depth} {j = BAND_EXPONENT} (omega (arith, shallow)) in
    omega (arith, sum, most)

pub band_made : (depth : ℕ) (axis : Axis) (at number rows whole : ℕ) → 1 ≤ depth → depth ≤ MAX_DEPTH → at < 2 ^ depth → rows ≡ rows_of depth → whole ≡ 2 ^ depth → number < 2 ^ (depth - min depth (BAND_EXPONENT - depth))
    → IsBandOf (record { depth = depth; axis = axis; at = at; low = whole - 1 - number * rows + 1 - rows; high = whole - 1 - number * rows }) depth axis at number
band_made depth axis at number rows whole halved shallow place rows_is whole_is below =
    let room : number * rows + rows ≤ whole = band_room depth number rows whole rows_is whole_is below in
    let some : 0 < rows = subst (λ r. 0 < r) (sym rows_is) (pow_pos (min depth (BAND_EXPONENT - depth))) in
    record {
      depth_is = refl;
      axis_is = refl;
      at_is = refl;
      high_is = ap (λ w. w - 1 - number * rows) whole_is ∙ ap (λ r. 2 ^ depth - 1 - number * r) rows_is;
      rows = ap (λ r. whole - 1 - number * rows + 1 - rows + r) (sym rows_is) ∙ omega (arith, room, some);
    }

pub band_is : (depth : ℕ) (axis : Axis) (at number rows whole : ℕ) → 1 ≤ depth → depth ≤ MAX_DEPTH → at < 2 ^ depth → rows ≡ rows_of depth → whole ≡ 2 ^ depth → number < 2 ^ (depth - min depth (BAND_EXPONENT - depth))
    → IsBand (record { depth = depth; axis = axis; at = at; low = whole - 1 - number * rows + 1 - rows; high = whole - 1 - number * rows })
band_is depth axis at number rows whole halved shallow place rows_is whole_is below =
    let room : number * rows + rows ≤ whole = band_room depth number rows whole rows_is whole_is below in
    let some : 0 < rows = subst (λ r. 0 < r) (sym rows_is) (pow_pos (min depth (BAND_EXPONENT - depth))) in
    let height : whole - 1 - number * rows - (whole - 1 - number * rows + 1 - rows) + 1 ≡ rows = omega (arith, room, some) in
    record {
      halved = halved;
      shallow = shallow;
      at = place;
      some = omega (arith, some);
      high = omega (arith, whole_is, room, some);
      fits = subst (λ n. n * 2 ^ depth ≤ 4096) (sym height) (subst (λ r. r * 2 ^ depth ≤ 4096) (sym rows_is) (band_fits depth shallow));
    }
