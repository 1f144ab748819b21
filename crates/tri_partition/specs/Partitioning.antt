-- Parcels on their way to the streams of their parts, of which some wait in memory.
use Rattle.std.specs.Prelude.{◌≡◌, ℕ, ◌+◌, ◌-◌, ◌*◌, ◌^◌, ◌<◌, List, [], ◌∷◌, ◌++◌, map, filter, All, Option}
use Rattle.std.specs.List.{range_with_len}
use Rattle.std.specs.Option.{option_map}
use Rattle.svo_base.specs.GridShape.{GridShape}
use Rattle.dev_traits.specs.Streams.{grown}
use Rattle.octree_specs.specs.FacedTriangles.{Faced}
use Rattle.octree_specs.specs.Parcels.{parcel_bytes, HoldAlike}
use Rattle.octree_specs.specs.Parts.{is_in_part}
use Rattle.room_plan.specs.declared.elements.Parcel.{Parcel}
use Rattle.tri_partition.specs.PartStreams.{faced_of}

-- what a partition is made for, and the parcels that are not on scratch yet
pub record PartitionView : Type 0 where
  pub grid : GridShape
  pub split : ℕ
  pub waiting : List Parcel

-- the same of the parts of a level below 4 that lie under one node of level 4, which is the first part
pub record SecondView : Type 0 where
  pub grid : GridShape
  pub split : ℕ
  pub first : ℕ
  pub waiting : List Parcel

-- the parcels on their way to the parts so many levels below a node, where so many parts are numbered before these
pub record WaitingView : Type 0 where
  pub levels : ℕ
  pub before : ℕ
  pub waiting : List Parcel

-- ---- the parcels of a triangle

-- a triangle on its way to a part
unfoldable pub parcel_of : Faced → ℕ → Parcel
parcel_of x part =
    record {
      corners = x.triangle.a.x ∷ x.triangle.a.y ∷ x.triangle.a.z ∷ x.triangle.b.x ∷ x.triangle.b.y ∷ x.triangle.b.z ∷ x.triangle.c.x ∷ x.triangle.c.y ∷ x.triangle.c.z ∷ [];
      face = x.face;
      part = part;
    }

-- one for each part that its box reaches
unfoldable pub parcels_of : GridShape → ℕ → Faced → List Parcel
parcels_of grid split x = map (parcel_of x) (filter (λ part. is_in_part grid split part x) (range_with_len 0 (8 ^ split)))

-- the part of a level below 4 that has so many others under the same node of level 4 before it
abbrev pub part_under : ℕ → ℕ → ℕ → ℕ
part_under split first place = first * 8 ^ (split - 4) + place

-- one for each part under a node of level 4 that its box reaches; these are numbered behind the parts of level 4, the first under each node alike, so that their streams stand behind those of level 4
unfoldable pub parcels_under : GridShape → ℕ → ℕ → Faced → List Parcel
parcels_under grid split first x =
    map (λ place. parcel_of x (8 ^ 4 + place)) (filter (λ place. is_in_part grid split (part_under split first place) x) (range_with_len 0 (8 ^ (split - 4))))

-- ---- what is appended

-- the 40 bytes of a parcel
abbrev pub bytes_of : Parcel → List ℕ
bytes_of parcel = parcel_bytes (faced_of parcel)

-- the streams after parcels were appended, one after another, each to the stream of its part
unfoldable pub appended : List (List ℕ) → List Parcel → List (List ℕ)
appended streams [] = streams
appended streams (parcel ∷ rest) = appended (grown streams (1 + parcel.part) (bytes_of parcel)) rest

abbrev pub appended_known : Option (List (List ℕ)) → List Parcel → Option (List (List ℕ))
appended_known known parcels = option_map (λ streams. appended streams parcels) known

-- parcels were appended: these and those that wait now are those that waited before and the further ones, each as often, in any order
pub record Spills (before after : Option (List (List ℕ))) (waited more waits : List Parcel) : Type 0 where
  pub parcels : List Parcel
  pub grew : after ≡ appended_known before parcels
  pub alike : HoldAlike (parcels ++ waits) (waited ++ more)

-- where all parcels belong to so many parts, the later ones do
abbrev pub StayInParts : List Parcel → List Parcel → Type 0
StayInParts old new = (parts : ℕ) → All (λ p. p.part < parts) old → All (λ p. p.part < parts) new
