-- The bytes of a parcel, as its coordinates and its face are written.
use Rattle.std.proofs.Common.{◌≡◌, ℕ, ℤ, List, [], ◌∷◌, ◌++◌, length, take, drop, refl, arith}
use Rattle.std.specs.List.{flat_map}
use Rattle.std.specs.Int.{w32, to_le_bytes}
use Rattle.std.proofs.lemmas.List.{take_at, drop_at}
use Rattle.octree_specs.specs.Parcels.{coordinate_bytes, point_bytes, parcel_bytes}
use Rattle.room_plan.specs.declared.elements.Parcel.{Parcel}
use Rattle.tri_partition.specs.PartStreams.{corner_at, faced_of}
use Rattle.tri_partition.specs.Partitioning.{bytes_of}

-- nine coordinates are three points
corners_bytes : (corners : List ℤ) → length corners ≡ 9
    → flat_map coordinate_bytes corners ≡ point_bytes (corner_at corners 0) ++ point_bytes (corner_at corners 3) ++ point_bytes (corner_at corners 6)
unfolding point_bytes
corners_bytes [] long = absurd (omega (arith, long))
corners_bytes (a ∷ []) long = absurd (omega (arith, long))
corners_bytes (a ∷ b ∷ []) long = absurd (omega (arith, long))
corners_bytes (a ∷ b ∷ c ∷ []) long = absurd (omega (arith, long))
corners_bytes (a ∷ b ∷ c ∷ d ∷ []) long = absurd (omega (arith, long))
corners_bytes (a ∷ b ∷ c ∷ d ∷ e ∷ []) long = absurd (omega (arith, long))
corners_bytes (a ∷ b ∷ c ∷ d ∷ e ∷ f ∷ []) long = absurd (omega (arith, long))
corners_bytes (a ∷ b ∷ c ∷ d ∷ e ∷ f ∷ g ∷ []) long = absurd (omega (arith, long))
corners_bytes (a ∷ b ∷ c ∷ d ∷ e ∷ f ∷ g ∷ h ∷ []) long = absurd (omega (arith, long))
corners_bytes (a ∷ b ∷ c ∷ d ∷ e ∷ f ∷ g ∷ h ∷ i ∷ []) long = refl
corners_bytes (a ∷ b ∷ c ∷ d ∷ e ∷ f ∷ g ∷ h ∷ i ∷ j ∷ rest) long = absurd (omega (arith, long))

-- the bytes of the face are written behind those of the coordinates
pub parcel_written : (parcel : Parcel) (corners face : List ℕ) → length parcel.corners ≡ 9 → length corners ≡ 36 → corners ≡ flat_map coordinate_bytes parcel.corners
    → face ≡ to_le_bytes w32 parcel.face ++ drop 4 (take 4 (drop 36 (corners ++ 0 ∷ 0 ∷ 0 ∷ 0 ∷ [])))
    → take 36 (corners ++ 0 ∷ 0 ∷ 0 ∷ 0 ∷ []) ++ (face ++ drop 4 (drop 36 (corners ++ 0 ∷ 0 ∷ 0 ∷ 0 ∷ []))) ≡ bytes_of parcel
unfolding parcel_bytes faced_of
parcel_written parcel corners face nine long is face_is =
    rw (
      face_is,
      take_at corners (0 ∷ 0 ∷ 0 ∷ 0 ∷ []) 36 long,
      drop_at corners (0 ∷ 0 ∷ 0 ∷ 0 ∷ []) 36 long,
      is,
      corners_bytes parcel.corners nine,
    ) refl
