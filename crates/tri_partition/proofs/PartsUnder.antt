-- The parts of a level that lie under a node of level 4.
use Rattle.std.proofs.Common.{◌≡◌, ◌≤◌, ◌<◌, ◌+◌, ◌-◌, ◌*◌, ◌/◌, ◌%◌, ◌^◌, ℕ, zero, suc, min, refl, arith, sym, ap, subst, ◌∙◌}
use Rattle.std.specs.Prelude.{◌&&◌, nat_le, nat_lt}
use Rattle.std.specs.Cmp.{both_ways}
use Rattle.std.proofs.Math.Nat.{pow-suc, mul-le-mul_left}
use Rattle.std.proofs.lemmas.Bool.{le-leb, leb-true}
use Rattle.std.proofs.lemmas.Nat.{pow-add}
use Rattle.svo_base.specs.GridShape.{GridShape}
use Rattle.svo_base.specs.Boxes.{bounds_of}
use Rattle.svo_base.specs.declared.boxes.Bounds.{Bounds}
use Rattle.octree_specs.specs.FacedTriangles.{Faced}
use Rattle.octree_specs.specs.NodeCube.{code_of, coordinate_of}
use Rattle.octree_specs.specs.Parcels.{HoldAlike}
use Rattle.octree_specs.specs.Parts.{is_in_part}
use Rattle.morton_code.proofs.Coordinates.{code_of_coordinates, coordinate_below, coordinate_of_short}
use Rattle.room_plan.specs.declared.elements.Parcel.{Parcel}
use Rattle.tri_partition.specs.declared.part_ranges.PartRange.{PartRange}
use Rattle.tri_partition.specs.Partitioning.{parcel_of, part_under, parcels_under}
use Rattle.tri_partition.specs.PartRanges.{extent_reaches, in_range, box_parcels}
use Rattle.tri_partition.proofs.BoxParcels.{box_alike, in_part_is}
use Rattle.tri_partition.proofs.ReachedParts.{few_places}

-- ---- their codes

-- a coordinate without its last bit
half : (top k at : ℕ) → (top * 2 ^ suc k + at) / 2 ≡ top * 2 ^ k + at / 2
half top k at =
    let double : top * 2 ^ suc k ≡ 2 * (top * 2 ^ k) = ap (λ n. top * n) (pow-suc 2 k) ∙ omega arith in
    omega (arith, double)

last_bit : (top k at : ℕ) → (top * 2 ^ suc k + at) % 2 ≡ at % 2
last_bit top k at =
    let double : top * 2 ^ suc k ≡ 2 * (top * 2 ^ k) = ap (λ n. top * n) (pow-suc 2 k) ∙ omega arith in
    omega (arith, double)

pub code_under : (digits k a b c x y z : ℕ) → x < 2 ^ k → y < 2 ^ k → z < 2 ^ k
    → code_of (digits + k) (a * 2 ^ k + x) (b * 2 ^ k + y) (c * 2 ^ k + z) ≡ code_of digits a b c * 8 ^ k + code_of k x y z
unfolding code_of
code_under digits zero a b c x y z x_in y_in z_in =
    let same : digits + 0 ≡ digits = omega arith in
    let x_is : a * 2 ^ 0 + x ≡ a = omega (arith, x_in) in
    let y_is : b * 2 ^ 0 + y ≡ b = omega (arith, y_in) in
    let z_is : c * 2 ^ 0 + z ≡ c = omega (arith, z_in) in
    rw (same, x_is, y_is, z_is) (omega arith)
code_under digits (suc k) a b c x y z x_in y_in z_in =
    let more : digits + suc k ≡ suc (digits + k) = omega arith in
    let two : 2 ^ suc k ≡ 2 * 2 ^ k = omega (arith, pow-suc 2 k) in
    let above = code_under digits k a b c (x / 2) (y / 2) (z / 2) (omega (arith, x_in, two)) (omega (arith, y_in, two)) (omega (arith, z_in, two)) in
    let eight : code_of digits a b c * 8 ^ suc k ≡ 8 * (code_of digits a b c * 8 ^ k) = ap (λ n. code_of digits a b c * n) (pow-suc 8 k) ∙ omega arith in
    rw (more, last_bit a k x, last_bit b k y, last_bit c k z, half a k x, half b k y, half c k z, above, eight) (omega arith)

-- a place along an axis under a node
place_below : (k top at : ℕ) → top < 2 ^ 4 → at < 2 ^ k → top * 2 ^ k + at < 2 ^ (4 + k)
place_below k top at top_in at_in =
    let whole : 2 ^ (4 + k) ≡ 2 ^ 4 * 2 ^ k = pow-add 2 4 k in
    let most : 2 ^ k * (top + 1) ≤ 2 ^ k * 2 ^ 4 = mul-le-mul_left (2 ^ k) (omega (arith, top_in)) in
    omega (arith, whole, most, at_in)

pub place_in_level : (split top at : ℕ) → 4 ≤ split → top < 2 ^ 4 → at < 2 ^ (split - 4) → top * 2 ^ (split - 4) + at < 2 ^ split
place_in_level split top at deep top_in at_in =
    let whole : 4 + (split - 4) ≡ split = omega (arith, deep) in
    subst (λ n. top * 2 ^ (split - 4) + at < 2 ^ n) whole (place_below (split - 4) top at top_in at_in)

-- a box reaches a part where it reaches it along each axis
pub in_part_under : (grid : GridShape) (split a b c x y z : ℕ) (t : Faced) → 4 ≤ split → a < 2 ^ 4 → b < 2 ^ 4 → c < 2 ^ 4 → x < 2 ^ (split - 4) → y < 2 ^ (split - 4) → z < 2 ^ (split - 4)
    → is_in_part grid split (part_under split (code_of 4 a b c) (code_of (split - 4) x y z)) t
    ≡ (extent_reaches grid split 0 (bounds_of t.triangle).x (a * 2 ^ (split - 4) + x)
    && (extent_reaches grid split 1 (bounds_of t.triangle).y (b * 2 ^ (split - 4) + y) && extent_reaches grid split 2 (bounds_of t.triangle).z (c * 2 ^ (split - 4) + z)))
in_part_under grid split a b c x y z t deep a_in b_in c_in x_in y_in z_in =
    let k : ℕ = split - 4 in
    let whole : 4 + k ≡ split = omega (arith, deep) in
    let code : code_of split (a * 2 ^ k + x) (b * 2 ^ k + y) (c * 2 ^ k + z) ≡ part_under split (code_of 4 a b c) (code_of k x y z) =
    ap (λ n. code_of n (a * 2 ^ k + x) (b * 2 ^ k + y) (c * 2 ^ k + z)) (sym whole) ∙ code_under 4 k a b c x y z x_in y_in z_in in
    ap (λ part. is_in_part grid split part t) (sym code)
    ∙ in_part_is grid split (a * 2 ^ k + x) (b * 2 ^ k + y) (c * 2 ^ k + z) t
    (place_in_level split a x deep a_in x_in) (place_in_level split b y deep b_in y_in) (place_in_level split c z deep c_in z_in)

-- ---- ranges that are cut to those under a node

from_cut : (from first k : ℕ) → nat_le (from - first) k ≡ nat_le from (first + k)
from_cut from first k = both_ways (nat_le (from - first) k) (nat_le from (first + k))
    (λ h. le-leb from (first + k) (omega (arith, leb-true (from - first) k h)))
    (λ h. le-leb (from - first) k (omega (arith, leb-true from (first + k) h)))

to_cut : (to first parts k : ℕ) → k < parts → nat_lt k (min (to - first) parts) ≡ nat_lt (first + k) to
to_cut to first parts k inside = both_ways (nat_lt k (min (to - first) parts)) (nat_lt (first + k) to)
    (λ h. le-leb (suc (first + k)) to (omega (arith, leb-true (suc k) (min (to - first) parts) h)))
    (λ h. le-leb (suc k) (min (to - first) parts) (omega (arith, leb-true (suc (first + k)) to h, inside)))

pub cut_range : (all : PartRange) (from to first parts k : ℕ) → k < parts → from ≡ all.from - first → to ≡ min (all.to - first) parts
    → (nat_le from k && nat_lt k to) ≡ in_range all (first + k)
cut_range all from to first parts k inside is_from is_to = rw (is_from, is_to, from_cut all.from first k, to_cut all.to first parts k inside) refl

-- the same, as code has the numbers
pub cut_ends : (all : PartRange) (split node from over to place : ℕ) → split ≤ 8 → place < 2 ^ (split - 4)
    → from ≡ all.from - node * (1 * 2 ^ (split - 4) % 2 ^ 32) → over ≡ all.to - node * (1 * 2 ^ (split - 4) % 2 ^ 32) → to ≡ min over (1 * 2 ^ (split - 4) % 2 ^ 32)
    → (nat_le from place && nat_lt place to) ≡ in_range all (node * 2 ^ (split - 4) + place)
cut_ends all split node from over to place few inside is_from is_over is_to =
    let parts : 1 * 2 ^ (split - 4) % 2 ^ 32 ≡ 2 ^ (split - 4) = omega (arith, few_places (split - 4) (omega (arith, few))) in
    let first : node * (1 * 2 ^ (split - 4) % 2 ^ 32) ≡ node * 2 ^ (split - 4) = ap (λ n. node * n) parts in
    cut_range all from to (node * 2 ^ (split - 4)) (2 ^ (split - 4)) place inside
    (is_from ∙ ap (λ n. all.from - n) first)
    (is_to ∙ (ap (λ n. min n (1 * 2 ^ (split - 4) % 2 ^ 32)) is_over ∙ (ap (λ n. min (all.to - n) (1 * 2 ^ (split - 4) % 2 ^ 32)) first ∙ ap (λ n. min (all.to - node * 2 ^ (split - 4)) n) parts)))

-- ---- the parcels of a triangle

-- the place of the node along an axis
pub place_of : (axis first code at : ℕ) → first < 8 ^ 4 → code ≡ first → at ≡ coordinate_of axis 20 code → at ≡ coordinate_of axis 4 first
place_of axis first code at below is_code is_at = is_at ∙ (ap (coordinate_of axis 20) is_code ∙ coordinate_of_short axis 4 20 first (omega arith) below)

pub place_few : (axis first code at : ℕ) → first < 8 ^ 4 → code ≡ first → at ≡ coordinate_of axis 20 code → at < 2 ^ 4
place_few axis first code at below is_code is_at = subst (λ n. n < 2 ^ 4) (sym (place_of axis first code at below is_code is_at)) (coordinate_below axis 4 first)

second_alike : (grid : GridShape) (split first a b c : ℕ) (t : Faced) (parcel : Parcel) (xs ys zs : PartRange) → 4 ≤ split → first < 8 ^ 4
    → a ≡ coordinate_of 0 4 first → b ≡ coordinate_of 1 4 first → c ≡ coordinate_of 2 4 first → parcel ≡ parcel_of t 0
    → xs.to ≤ 2 ^ (split - 4) → ys.to ≤ 2 ^ (split - 4) → zs.to ≤ 2 ^ (split - 4)
    → ((place : ℕ) → place < 2 ^ (split - 4) → in_range xs place ≡ extent_reaches grid split 0 (bounds_of t.triangle).x (a * 2 ^ (split - 4) + place))
    → ((place : ℕ) → place < 2 ^ (split - 4) → in_range ys place ≡ extent_reaches grid split 1 (bounds_of t.triangle).y (b * 2 ^ (split - 4) + place))
    → ((place : ℕ) → place < 2 ^ (split - 4) → in_range zs place ≡ extent_reaches grid split 2 (bounds_of t.triangle).z (c * 2 ^ (split - 4) + place))
    → HoldAlike (box_parcels (split - 4) (8 ^ 4) parcel xs ys zs) (parcels_under grid split first t)
unfolding parcels_under
second_alike grid split first a b c t parcel xs ys zs deep below a_is b_is c_is is x_to y_to z_to x_reached y_reached z_reached =
    let whole : code_of 4 a b c ≡ first =
    ap (λ n. code_of 4 n b c) a_is ∙ (ap (λ n. code_of 4 (coordinate_of 0 4 first) n c) b_is ∙ (ap (λ n. code_of 4 (coordinate_of 0 4 first) (coordinate_of 1 4 first) n) c_is ∙ code_of_coordinates 4 first below)) in
    let a_in : a < 2 ^ 4 = subst (λ n. n < 2 ^ 4) (sym a_is) (coordinate_below 0 4 first) in
    let b_in : b < 2 ^ 4 = subst (λ n. n < 2 ^ 4) (sym b_is) (coordinate_below 1 4 first) in
    let c_in : c < 2 ^ 4 = subst (λ n. n < 2 ^ 4) (sym c_is) (coordinate_below 2 4 first) in
    box_alike (split - 4) (8 ^ 4) t (λ place. is_in_part grid split (part_under split first place) t) (λ place. 8 ^ 4 + place) parcel xs ys zs is (λ place. refl) x_to y_to z_to
    (λ z y x z_in y_in x_in.
    ap (λ node. is_in_part grid split (part_under split node (code_of (split - 4) x y z)) t) (sym whole)
    ∙ (in_part_under grid split a b c x y z t deep a_in b_in c_in x_in y_in z_in ∙ rw (x_reached x x_in, y_reached y y_in, z_reached z z_in) refl))

-- the same, as code has the box, the grid and the numbers
pub under_alike : (inside_grid grid : GridShape) (inside_split split inside_first first levels before code a b c : ℕ) (bounds : Bounds) (t : Faced) (parcel : Parcel) (xs ys zs : PartRange)
    → inside_grid ≡ grid → inside_split ≡ split → inside_first ≡ first → 4 ≤ inside_split → inside_first < 8 ^ 4 → levels ≡ inside_split - 4 → before ≡ 8 ^ 4
    → code ≡ inside_first → a ≡ coordinate_of 0 20 code → b ≡ coordinate_of 1 20 code → c ≡ coordinate_of 2 20 code → bounds ≡ bounds_of t.triangle → parcel ≡ parcel_of t 0
    → xs.to ≤ 2 ^ (inside_split - 4) → ys.to ≤ 2 ^ (inside_split - 4) → zs.to ≤ 2 ^ (inside_split - 4)
    → ((place : ℕ) → place < 2 ^ (inside_split - 4) → in_range xs place ≡ extent_reaches inside_grid inside_split 0 bounds.x (a * 2 ^ (inside_split - 4) + place))
    → ((place : ℕ) → place < 2 ^ (inside_split - 4) → in_range ys place ≡ extent_reaches inside_grid inside_split 1 bounds.y (b * 2 ^ (inside_split - 4) + place))
    → ((place : ℕ) → place < 2 ^ (inside_split - 4) → in_range zs place ≡ extent_reaches inside_grid inside_split 2 bounds.z (c * 2 ^ (inside_split - 4) + place))
    → HoldAlike (box_parcels levels before parcel xs ys zs) (parcels_under grid split first t)
under_alike inside_grid grid inside_split split inside_first first levels before code a b c bounds t parcel xs ys zs grid_is split_is first_is deep below levels_is before_is code_is a_is b_is c_is bounds_is is x_to y_to z_to x_reached y_reached z_reached =
    subst (λ n. HoldAlike (box_parcels n before parcel xs ys zs) (parcels_under grid split first t)) (sym levels_is)
    (subst (λ n. HoldAlike (box_parcels (inside_split - 4) n parcel xs ys zs) (parcels_under grid split first t)) (sym before_is)
    (subst (λ n. HoldAlike (box_parcels (inside_split - 4) (8 ^ 4) parcel xs ys zs) (parcels_under grid split n t)) first_is
    (subst (λ n. HoldAlike (box_parcels (inside_split - 4) (8 ^ 4) parcel xs ys zs) (parcels_under grid n inside_first t)) split_is
    (subst (λ shape. HoldAlike (box_parcels (inside_split - 4) (8 ^ 4) parcel xs ys zs) (parcels_under shape inside_split inside_first t)) grid_is
    (second_alike inside_grid inside_split inside_first a b c t parcel xs ys zs deep below
    (place_of 0 inside_first code a below code_is a_is) (place_of 1 inside_first code b below code_is b_is) (place_of 2 inside_first code c below code_is c_is) is x_to y_to z_to
    (λ place inside. x_reached place inside ∙ ap (λ box. extent_reaches inside_grid inside_split 0 box.x (a * 2 ^ (inside_split - 4) + place)) bounds_is)
    (λ place inside. y_reached place inside ∙ ap (λ box. extent_reaches inside_grid inside_split 1 box.y (b * 2 ^ (inside_split - 4) + place)) bounds_is)
    (λ place inside. z_reached place inside ∙ ap (λ box. extent_reaches inside_grid inside_split 2 box.z (c * 2 ^ (inside_split - 4) + place)) bounds_is))))))
