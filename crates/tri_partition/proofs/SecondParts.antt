-- What the streams of the parts under a node of level 4 hold once the triangles that reach the node were spilled again.
use Rattle.std.proofs.Common.{◌≡◌, ◌≤◌, ◌<◌, ◌+◌, ◌-◌, ◌*◌, ◌^◌, ℕ, Bool, true, false, cond, ℤ, pos, ◌+ℤ◌, List, map, filter, refl, arith, sym, ap, subst, ◌∙◌, append-nil}
use Rattle.std.specs.Prelude.{◌&&◌, int_le, slice_index_or}
use Rattle.std.specs.List.{flat_map, sum_by, range_with_len}
use Rattle.std.proofs.Math.Nat.{mul-le-mul_left}
use Rattle.std.proofs.lemmas.Bool.{and_parts}
use Rattle.std.proofs.lemmas.Int.{ints}
use Rattle.std.proofs.lemmas.Nat.{pow-add}
use Rattle.svo_base.specs.GridShape.{GridShape}
use Rattle.svo_base.specs.Boxes.{bounds_of}
use Rattle.svo_base.specs.declared.boxes.Extent.{Extent}
use Rattle.dev_traits.specs.Streams.{stream_of}
use Rattle.octree_specs.specs.FacedTriangles.{Faced}
use Rattle.octree_specs.specs.NodeCube.{side_of, code_of, coordinate_of}
use Rattle.octree_specs.specs.Parcels.{HoldAlike}
use Rattle.octree_specs.specs.Parts.{is_in_part, part_of}
use Rattle.morton_code.proofs.Coordinates.{code_of_coordinates, coordinate_below}
use Rattle.room_plan.specs.declared.elements.Parcel.{Parcel}
use Rattle.tri_partition.specs.Laws.{GrewByParcels, IsPartitionedUnder, SecondPartsAreSpilled}
use Rattle.tri_partition.specs.Partitioning.{appended, parcel_of, part_under, parcels_under}
use Rattle.tri_partition.specs.PartRanges.{extent_reaches}
use Rattle.tri_partition.proofs.BoxParcels.{in_part_is}
use Rattle.tri_partition.proofs.PartsUnder.{in_part_under}
use Rattle.tri_partition.proofs.SpilledParts.{length_appended, some_told, stays, stream_grew, sum_kept, sum_same}

-- ---- what reaches a part reaches the node above it

holds : (test : Bool) → (test ≡ false → ⊥) → test ≡ true
holds true fails = refl
holds false fails = absurd (fails refl)

-- a span that holds another is reached where that is
wider : (o low high : ℤ) (first second side whole : ℕ) → second ≤ first → first + side ≤ second + whole
    → (int_le (o +ℤ pos first) high && int_le low ((o +ℤ pos first) +ℤ pos side)) ≡ true → (int_le (o +ℤ pos second) high && int_le low ((o +ℤ pos second) +ℤ pos whole)) ≡ true
wider o low high first second side whole begins ends reached =
    let both = and_parts (int_le (o +ℤ pos first) high) (int_le low ((o +ℤ pos first) +ℤ pos side)) reached in
    let below : int_le (o +ℤ pos second) high ≡ true = holds (int_le (o +ℤ pos second) high) (λ fails. omega (arith, ints, fails, both.0, begins)) in
    let above : int_le low ((o +ℤ pos second) +ℤ pos whole) ≡ true = holds (int_le low ((o +ℤ pos second) +ℤ pos whole)) (λ fails. omega (arith, ints, fails, both.1, ends)) in
    rw (below, above) refl

-- the side of a node is that of the parts under it, as often as they stand along it
side_above : (grid : GridShape) (split : ℕ) → 4 ≤ split → split ≤ grid.depth → side_of grid 4 ≡ side_of grid split * 2 ^ (split - 4)
side_above grid split deep within =
    let whole : grid.depth - 4 ≡ (grid.depth - split) + (split - 4) = omega (arith, deep, within) in
    ap (λ n. grid.cell * 2 ^ n) whole ∙ (ap (λ n. grid.cell * n) (pow-add 2 (grid.depth - split) (split - 4)) ∙ omega arith)

extent_above : (grid : GridShape) (split axis : ℕ) (extent : Extent) (top at : ℕ) → 4 ≤ split → split ≤ grid.depth → at < 2 ^ (split - 4)
    → extent_reaches grid split axis extent (top * 2 ^ (split - 4) + at) ≡ true → extent_reaches grid 4 axis extent top ≡ true
extent_above grid split axis extent top at deep within inside reached =
    let side : ℕ = side_of grid split in
    let count : ℕ = 2 ^ (split - 4) in
    let whole : side_of grid 4 ≡ side * count = side_above grid split deep within in
    let most : side * (at + 1) ≤ side * count = mul-le-mul_left side (omega (arith, inside)) in
    let begins : side * count * top ≤ side * (top * count + at) = omega arith in
    let ends : side * (top * count + at) + side ≤ side * count * top + side * count = omega (arith, most) in
    subst (λ n. (int_le (slice_index_or grid.origin axis (pos 0) +ℤ pos (n * top)) extent.high && int_le extent.low ((slice_index_or grid.origin axis (pos 0) +ℤ pos (n * top)) +ℤ pos n)) ≡ true) (sym whole)
    (wider (slice_index_or grid.origin axis (pos 0)) extent.low extent.high (side * (top * count + at)) (side * count * top) side (side * count) begins ends reached)

node_reached : (grid : GridShape) (split a b c x y z : ℕ) (t : Faced) → 4 ≤ split → split ≤ grid.depth → a < 2 ^ 4 → b < 2 ^ 4 → c < 2 ^ 4
    → x < 2 ^ (split - 4) → y < 2 ^ (split - 4) → z < 2 ^ (split - 4)
    → is_in_part grid split (part_under split (code_of 4 a b c) (code_of (split - 4) x y z)) t ≡ true → is_in_part grid 4 (code_of 4 a b c) t ≡ true
node_reached grid split a b c x y z t deep within a_in b_in c_in x_in y_in z_in reached =
    let along : ℕ → Extent → ℕ → ℕ → Bool = λ axis extent top at. extent_reaches grid split axis extent (top * 2 ^ (split - 4) + at) in
    let all = sym (in_part_under grid split a b c x y z t deep a_in b_in c_in x_in y_in z_in) ∙ reached in
    let first = and_parts (along 0 (bounds_of t.triangle).x a x) (along 1 (bounds_of t.triangle).y b y && along 2 (bounds_of t.triangle).z c z) all in
    let others = and_parts (along 1 (bounds_of t.triangle).y b y) (along 2 (bounds_of t.triangle).z c z) first.1 in
    in_part_is grid 4 a b c t a_in b_in c_in
    ∙ rw (
      extent_above grid split 0 (bounds_of t.triangle).x a x deep within x_in first.0,
      extent_above grid split 1 (bounds_of t.triangle).y b y deep within y_in others.0,
      extent_above grid split 2 (bounds_of t.triangle).z c z deep within z_in others.1,
    ) refl

first_reached : (grid : GridShape) (split first place : ℕ) (t : Faced) → 4 ≤ split → split ≤ grid.depth → first < 8 ^ 4 → place < 8 ^ (split - 4)
    → is_in_part grid split (part_under split first place) t ≡ true → is_in_part grid 4 first t ≡ true
first_reached grid split first place t deep within first_in place_in reached =
    let k : ℕ = split - 4 in
    let node : code_of 4 (coordinate_of 0 4 first) (coordinate_of 1 4 first) (coordinate_of 2 4 first) ≡ first = code_of_coordinates 4 first first_in in
    let part : code_of k (coordinate_of 0 k place) (coordinate_of 1 k place) (coordinate_of 2 k place) ≡ place = code_of_coordinates k place place_in in
    subst (λ n. is_in_part grid 4 n t ≡ true) node
    (node_reached grid split (coordinate_of 0 4 first) (coordinate_of 1 4 first) (coordinate_of 2 4 first) (coordinate_of 0 k place) (coordinate_of 1 k place) (coordinate_of 2 k place) t deep within
    (coordinate_below 0 4 first) (coordinate_below 1 4 first) (coordinate_below 2 4 first) (coordinate_below 0 k place) (coordinate_below 1 k place) (coordinate_below 2 k place)
    (ap (λ n. is_in_part grid split (part_under split n (code_of k (coordinate_of 0 k place) (coordinate_of 1 k place) (coordinate_of 2 k place))) t) node
    ∙ (ap (λ n. is_in_part grid split (part_under split first n) t) part ∙ reached)))

-- ---- so the triangles of a part are among those of the node

tested : (above below : Bool) (n : ℕ) → (below ≡ true → above ≡ true) → cond above (cond below n 0) 0 ≡ cond below n 0
tested true below n implied = refl
tested false true n implied = absurd (no (implied refl))
  where
    no : false ≡ true → ⊥
    no e = cc
tested false false n implied = refl

kept_of_held : (grid : GridShape) (split first place : ℕ) (faced held : List Faced) → 4 ≤ split → split ≤ grid.depth → first < 8 ^ 4 → place < 8 ^ (split - 4) → HoldAlike held (part_of grid 4 first faced)
    → HoldAlike (filter (is_in_part grid split (part_under split first place)) held) (part_of grid split (part_under split first place) faced)
kept_of_held grid split first place faced held deep within first_in place_in alike = λ f.
    let below : Faced → Bool = is_in_part grid split (part_under split first place) in
    let above : Faced → Bool = is_in_part grid 4 first in
    sum_kept f below held
    ∙ (alike (λ x. cond (below x) (f x) 0)
    ∙ (sum_kept (λ x. cond (below x) (f x) 0) above faced
    ∙ (sum_same (λ x. cond (above x) (cond (below x) (f x) 0) 0) (λ x. cond (below x) (f x) 0) faced
    (λ x. tested (above x) (below x) (f x) (first_reached grid split first place x deep within first_in place_in))
    ∙ sym (sum_kept f below faced))))

grew_alike : (before after : List ℕ) (some others : List Faced) → HoldAlike some others → GrewByParcels before after some → GrewByParcels before after others
grew_alike before after some others same grew = record { stand = grew.stand; bytes = grew.bytes; alike = λ f. grew.alike f ∙ same f }

second_are : (grid : GridShape) (split first : ℕ) (x : Faced)
    → parcels_under grid split first x ≡ map (λ place. parcel_of x (8 ^ 4 + place)) (filter (λ place. is_in_part grid split (part_under split first place) x) (range_with_len 0 (8 ^ (split - 4))))
unfolding parcels_under
second_are grid split first x = refl

partitioned_under : (grid : GridShape) (split first : ℕ) (faced held : List Faced) (before now : List (List ℕ)) (spilled : List Parcel) → 4 ≤ split → split ≤ grid.depth → first < 8 ^ 4
    → HoldAlike held (part_of grid 4 first faced) → now ≡ appended before spilled → HoldAlike spilled (flat_map (parcels_under grid split first) held)
    → IsPartitionedUnder grid split first faced before now
partitioned_under grid split first faced held before now spilled deep within first_in same is alike = subst (λ streams. IsPartitionedUnder grid split first faced before streams) (sym is) (record {
  many = length_appended before spilled;
  parts = λ place inside started.
      let stream : 1 + (8 ^ 4 + place) ≡ 4097 + place = omega arith in
      subst (λ n. GrewByParcels (stream_of before n) (stream_of (appended before spilled) n) (part_of grid split (part_under split first place) faced)) stream
      (grew_alike (stream_of before (1 + (8 ^ 4 + place))) (stream_of (appended before spilled) (1 + (8 ^ 4 + place))) (filter (reached place) held) (part_of grid split (part_under split first place) faced)
      (kept_of_held grid split first place faced held deep within first_in inside same)
      (stream_grew parcels reached number (8 ^ (split - 4)) (second_are grid split first) place held before spilled (λ k m e. omega (arith, e)) inside (omega (arith, started)) alike));
  front = λ stream low. stays parcels reached number (8 ^ (split - 4)) (second_are grid split first) stream held before spilled (λ k inside e. absurd (omega (arith, low, e))) alike;
  behind = λ stream beyond. stays parcels reached number (8 ^ (split - 4)) (second_are grid split first) stream held before spilled (λ k inside e. absurd (omega (arith, inside, beyond, e))) alike;
})
  where
    parcels : Faced → List Parcel
    parcels = parcels_under grid split first

    reached : ℕ → Faced → Bool
    reached place x = is_in_part grid split (part_under split first place) x

    number : ℕ → ℕ
    number place = 8 ^ 4 + place

pub second_parts_spilled : SecondPartsAreSpilled
second_parts_spilled grid split first faced held before now deep within first_in same spills =
    partitioned_under grid split first faced held before now spills.parcels deep within first_in same (some_told spills.grew)
    (λ f. ap (sum_by f) (sym (append-nil spills.parcels)) ∙ spills.alike f)
