-- Parcels read back from their bytes.
use Rattle.std.proofs.Common.{◌≡◌, ◌<◌, ◌*◌, ◌/◌, ℕ, suc, Bool, true, false, cond, List, [], ◌∷◌, ◌++◌, map, filter, length, take, drop, get_or, refl, arith, sym, ap, subst, ◌∙◌, append_assoc}
use Rattle.std.specs.List.{flat_map, sum_by}
use Rattle.std.specs.Int.{w32, to_le_bytes}
use Rattle.std.proofs.lemmas.List.{length-append, take_at, drop_at, drop-drop}
use Rattle.std.proofs.lemmas.List.Concat.{flat_map-cons}
use Rattle.byteorder.specs.Endian.{little_number}
use Rattle.octree_specs.specs.FacedTriangles.{Faced}
use Rattle.octree_specs.specs.Parcels.{point_bytes, parcel_bytes, pieces_of, HoldAlike, HoldsParcels}
use Rattle.octree_specs.specs.Parts.{is_in_part, part_of}
use Rattle.room_plan.specs.Coordinates.{point_at, number_at}
use Rattle.room_plan.proofs.Numbers.{reads_point, point_moved, length_point, reads_number}
use Rattle.tri_partition.specs.PartStreams.{parcel_from, parcels_in}
use Rattle.tri_partition.specs.Laws.{GrewByParcels, IsFaced, ReadsBack, ReadsBehind}
use Rattle.tri_partition.proofs.BoxParcels.{sum_cons, sum_map}
use Rattle.tri_partition.proofs.SpilledParts.{sum_ones}

-- ---- one parcel

length_parcel : (x : Faced) → length (parcel_bytes x) ≡ 40
unfolding parcel_bytes point_bytes
length_parcel x = refl

reads_parcel : (x : Faced) → IsFaced x → parcel_from (parcel_bytes x) ≡ x
unfolding parcel_bytes parcel_from
reads_parcel x is =
    let a : List ℕ = point_bytes x.triangle.a in
    let b : List ℕ = point_bytes x.triangle.b in
    let c : List ℕ = point_bytes x.triangle.c in
    let face : List ℕ = to_le_bytes w32 x.face in
    let whole : ((a ++ b) ++ c) ++ face ≡ a ++ (b ++ (c ++ face)) = append_assoc (a ++ b) c face ∙ append_assoc a b (c ++ face) in
    let behind_a : drop 12 (a ++ (b ++ (c ++ face))) ≡ b ++ (c ++ face) = drop_at a (b ++ (c ++ face)) 12 (length_point x.triangle.a) in
    let behind_b : drop 12 (b ++ (c ++ face)) ≡ c ++ face = drop_at b (c ++ face) 12 (length_point x.triangle.b) in
    let behind_c : drop 12 (c ++ face) ≡ face = drop_at c face 12 (length_point x.triangle.c) in
    let second : drop 12 (((a ++ b) ++ c) ++ face) ≡ b ++ (c ++ face) = ap (drop 12) whole ∙ behind_a in
    let third : drop 24 (((a ++ b) ++ c) ++ face) ≡ c ++ face = sym (drop-drop 12 12 (((a ++ b) ++ c) ++ face)) ∙ (ap (drop 12) second ∙ behind_b) in
    let last : drop 36 (((a ++ b) ++ c) ++ face) ≡ face = sym (drop-drop 12 24 (((a ++ b) ++ c) ++ face)) ∙ (ap (drop 12) third ∙ behind_c) in
    let is_a : point_at (((a ++ b) ++ c) ++ face) 0 ≡ x.triangle.a = ap (λ l. point_at l 0) whole ∙ reads_point x.triangle.a (b ++ (c ++ face)) is.a in
    let is_b : point_at (((a ++ b) ++ c) ++ face) 3 ≡ x.triangle.b = point_moved (((a ++ b) ++ c) ++ face) 3 ∙ (ap (λ l. point_at l 0) second ∙ reads_point x.triangle.b (c ++ face) is.b) in
    let is_c : point_at (((a ++ b) ++ c) ++ face) 6 ≡ x.triangle.c = point_moved (((a ++ b) ++ c) ++ face) 6 ∙ (ap (λ l. point_at l 0) third ∙ reads_point x.triangle.c face is.c) in
    let is_face : number_at (((a ++ b) ++ c) ++ face) 9 ≡ x.face = ap (little_number 4) last ∙ reads_number x.face [] is.face in
    λ i. record { triangle = record { a = is_a i; b = is_b i; c = is_c i }; face = is_face i }

-- ---- parcels one after another

length_parcels : (xs : List Faced) → length (flat_map parcel_bytes xs) ≡ 40 * length xs
length_parcels [] = refl
length_parcels (x ∷ rest) =
    ap length (flat_map-cons parcel_bytes x rest) ∙ (length-append (parcel_bytes x) (flat_map parcel_bytes rest) ∙ omega (arith, length_parcel x, length_parcels rest))

pieces_are : (xs : List Faced) → pieces_of (flat_map parcel_bytes xs) (length xs) ≡ map parcel_bytes xs
pieces_are [] = refl
pieces_are (x ∷ rest) =
    let bytes : flat_map parcel_bytes (x ∷ rest) ≡ parcel_bytes x ++ flat_map parcel_bytes rest = flat_map-cons parcel_bytes x rest in
    let front : take 40 (flat_map parcel_bytes (x ∷ rest)) ≡ parcel_bytes x = ap (take 40) bytes ∙ take_at (parcel_bytes x) (flat_map parcel_bytes rest) 40 (length_parcel x) in
    let behind : drop 40 (flat_map parcel_bytes (x ∷ rest)) ≡ flat_map parcel_bytes rest = ap (drop 40) bytes ∙ drop_at (parcel_bytes x) (flat_map parcel_bytes rest) 40 (length_parcel x) in
    ap (λ l. l ∷ pieces_of (drop 40 (flat_map parcel_bytes (x ∷ rest))) (length rest)) front
    ∙ ap (λ l. parcel_bytes x ∷ l) (ap (λ l. pieces_of l (length rest)) behind ∙ pieces_are rest)

parcels_are : (xs : List Faced) → parcels_in (flat_map parcel_bytes xs) ≡ map parcel_from (map parcel_bytes xs)
unfolding parcels_in
parcels_are xs =
    let long : length (flat_map parcel_bytes xs) ≡ 40 * length xs = length_parcels xs in
    let count : length (flat_map parcel_bytes xs) / 40 ≡ length xs = omega (arith, long) in
    ap (λ n. map parcel_from (pieces_of (flat_map parcel_bytes xs) n)) count ∙ ap (map parcel_from) (pieces_are xs)

-- ---- a stream of parcels

holds_stand : (stand parcels : List Faced) → HoldAlike stand parcels → HoldsParcels (flat_map parcel_bytes stand) parcels
holds_stand stand parcels alike =
    let many : length stand ≡ length parcels = sym (sum_ones stand) ∙ (alike (λ _. 1) ∙ sum_ones parcels) in
    record {
      long = length_parcels stand ∙ ap (λ n. 40 * n) many;
      alike = λ f.
          ap (λ n. sum_by f (pieces_of (flat_map parcel_bytes stand) n)) (sym many)
          ∙ (ap (sum_by f) (pieces_are stand) ∙ (sum_map f parcel_bytes stand ∙ alike (λ x. f (parcel_bytes x))));
    }

holds_parcels : (bytes : List ℕ) (parcels : List Faced) → GrewByParcels [] bytes parcels → HoldsParcels bytes parcels
holds_parcels bytes parcels grew = subst (λ l. HoldsParcels l parcels) (sym grew.bytes) (holds_stand grew.stand parcels grew.alike)

again : Faced → Faced
again x = parcel_from (parcel_bytes x)

kept_again : (p : Faced → Bool) (xs : List Faced) → ((k : ℕ) (d : Faced) → k < length xs → IsFaced (get_or xs k d)) → (f : Faced → ℕ) → sum_by (λ x. f (again x)) (filter p xs) ≡ sum_by f (filter p xs)
unfolding again
kept_again p [] all f = refl
kept_again p (x ∷ rest) all f =
    let here : again x ≡ x = reads_parcel x (all 0 x (omega arith)) in
    let later = kept_again p rest (λ k d within. all (suc k) d (omega (arith, within))) f in
    kept (p x) (filter p rest) here later
  where
    kept : (b : Bool) (others : List Faced) → again x ≡ x → sum_by (λ y. f (again y)) others ≡ sum_by f others
        → sum_by (λ y. f (again y)) (cond b (x ∷ others) others) ≡ sum_by f (cond b (x ∷ others) others)
    kept true others here later = sum_cons (λ y. f (again y)) x others ∙ (omega (arith, ap f here, later) ∙ sym (sum_cons f x others))
    kept false others here later = later

pub read_back : ReadsBack
unfolding again
read_back = record {
  holds = holds_parcels;
  reads = λ grid split part bytes faced all grew f.
      ap (λ l. sum_by f (parcels_in l)) grew.bytes
      ∙ (ap (sum_by f) (parcels_are grew.stand)
      ∙ (sum_map f parcel_from (map parcel_bytes grew.stand)
      ∙ (sum_map (λ l. f (parcel_from l)) parcel_bytes grew.stand
      ∙ (grew.alike (λ x. f (again x)) ∙ kept_again (is_in_part grid split part) faced (λ k d within. all k d within) f))));
}

-- ---- behind what the stream had

bytes_behind : (before after : List ℕ) (parcels : List Faced) → (grew : GrewByParcels before after parcels) → drop (length before) after ≡ flat_map parcel_bytes grew.stand
bytes_behind before after parcels grew = ap (drop (length before)) grew.bytes ∙ drop_at before (flat_map parcel_bytes grew.stand) (length before) refl

grew_behind : (before after : List ℕ) (parcels : List Faced) → GrewByParcels before after parcels → GrewByParcels [] (drop (length before) after) parcels
grew_behind before after parcels grew = record {
  stand = grew.stand;
  bytes = bytes_behind before after parcels grew;
  alike = grew.alike;
}

pub read_behind : ReadsBehind
read_behind = record {
  holds = λ before after parcels grew.
      let behind : drop (length before) after ≡ flat_map parcel_bytes grew.stand = bytes_behind before after parcels grew in
      (grew.bytes ∙ ap (λ l. before ++ l) (sym behind), holds_parcels (drop (length before) after) parcels (grew_behind before after parcels grew));
  long = λ before after parcels grew.
      let many : length grew.stand ≡ length parcels = sym (sum_ones grew.stand) ∙ (grew.alike (λ _. 1) ∙ sum_ones parcels) in
      omega (arith, ap length grew.bytes, length-append before (flat_map parcel_bytes grew.stand), length_parcels grew.stand, many);
  reads = λ grid split part before after faced all grew. read_back.reads grid split part (drop (length before) after) faced all (grew_behind before after (part_of grid split part faced) grew);
}
