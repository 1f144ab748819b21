-- Parcels by their numbers.
use Rattle.std.proofs.Common.{◌≡◌, ◌<◌, ℕ, pos, List, refl, arith}
use Rattle.std.specs.Prelude.{slice_index_or}
use Rattle.room_plan.specs.declared.elements.Parcel.{Parcel}
use Rattle.tri_partition.specs.PartStreams.{faced_of, parcel_from}
use Rattle.room_plan.specs.Coordinates.{number_at, coordinate_at}

-- a parcel is known by its ten numbers
pub parcel_is : (parcel : Parcel) (bytes : List ℕ) → ((k : ℕ) → k < 9 → slice_index_or parcel.corners k (pos 0) ≡ coordinate_at bytes k) → parcel.face ≡ number_at bytes 9 → faced_of parcel ≡ parcel_from bytes
unfolding faced_of parcel_from
parcel_is parcel bytes each face =
    rw (
      each 0 (omega arith),
      each 1 (omega arith),
      each 2 (omega arith),
      each 3 (omega arith),
      each 4 (omega arith),
      each 5 (omega arith),
      each 6 (omega arith),
      each 7 (omega arith),
      each 8 (omega arith),
      face,
    ) refl
