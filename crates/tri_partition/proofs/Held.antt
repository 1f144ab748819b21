-- Bytes that a reader holds: so many whole pieces of 40, in the middle of a block.
use Rattle.std.proofs.Common.{◌≡◌, ◌≢◌, ◌≤◌, ◌<◌, ◌+◌, ◌-◌, ◌*◌, ◌/◌, ℕ, zero, suc, List, [], ◌∷◌, map, length, drop, take, arith, sym, ap, ◌∙◌}
use Rattle.std.specs.Prelude.{slice_range}
use Rattle.std.proofs.lemmas.List.{length-take-le, length-drop, drop-take, drop-drop, take-take}
use Rattle.octree_specs.specs.Parcels.{pieces_of}
use Rattle.tri_partition.specs.PartStreams.{parcel_from, parcels_in}

-- how many bytes there are between two places
pub length_between : (block : List ℕ) (from to : ℕ) → from ≤ to → to ≤ length block → length (slice_range block from to) ≡ to - from
length_between block from to order inside = length-take-le (to - from) (drop from block) (omega (arith, length-drop from block))

pub nothing_between : (block : List ℕ) (from to : ℕ) → from ≡ to → slice_range block from to ≡ []
nothing_between block from to same =
    let none : to - from ≡ 0 = omega arith in
    ap (λ n. take n (drop from block)) none

-- pieces that are some are one at least
pub some_whole : (block : List ℕ) (from to whole : ℕ) → from + 40 * whole ≡ to → slice_range block from to ≢ [] → from + 40 ≤ to
some_whole block from to zero same some =
    let none : to - from ≡ 0 = omega arith in
    absurd (some (ap (λ n. take n (drop from block)) none))
some_whole block from to (suc whole) same some = omega arith

-- the piece in front, and what is behind it
pub front_piece : (block : List ℕ) (from to : ℕ) → from + 40 ≤ to → take 40 (slice_range block from to) ≡ slice_range block from (from + 40)
front_piece block from to within =
    let forty : (from + 40) - from ≡ 40 = omega arith in
    take-take 40 (to - from) (drop from block) (omega arith) ∙ ap (λ n. take n (drop from block)) (sym forty)

pub behind_front : (block : List ℕ) (from to : ℕ) → from + 40 ≤ to → drop 40 (slice_range block from to) ≡ slice_range block (from + 40) to
behind_front block from to within =
    let count : to - from ≡ 40 + (to - (from + 40)) = omega arith in
    ap (λ n. drop 40 (take n (drop from block))) count
    ∙ (drop-take 40 (to - (from + 40)) (drop from block)
    ∙ ap (λ l. take (to - (from + 40)) l) (drop-drop 40 from block))

-- ---- the parcels of bytes

pub no_parcel : (bytes : List ℕ) → length bytes < 40 → parcels_in bytes ≡ []
unfolding parcels_in
no_parcel bytes few =
    let none : length bytes / 40 ≡ 0 = omega arith in
    ap (λ n. map parcel_from (pieces_of bytes n)) none

pub next_parcel : (bytes : List ℕ) → 40 ≤ length bytes → parcels_in bytes ≡ parcel_from (take 40 bytes) ∷ parcels_in (drop 40 bytes)
unfolding parcels_in
next_parcel bytes some =
    let count : length bytes / 40 ≡ suc (length (drop 40 bytes) / 40) = omega (arith, length-drop 40 bytes) in
    ap (λ n. map parcel_from (pieces_of bytes n)) count
