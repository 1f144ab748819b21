-- Triangles and vertices as bytes on scratch. Numbers are little-endian, of 4 bytes each.
use Rattle.std.specs.Prelude.{◌≡◌, ℕ, zero, suc, ◌*◌, ℤ, List, [], ◌∷◌, ◌++◌, length, take, drop}
use Rattle.std.specs.List.{flat_map, sum_by}
use Rattle.std.specs.Int.{w32, cast_unsigned, to_le_bytes}
use Rattle.svo_base.specs.declared.shapes.Point.{Point}
use Rattle.octree_specs.specs.FacedTriangles.{Faced}

abbrev pub coordinate_bytes : ℤ → List ℕ
coordinate_bytes z = to_le_bytes w32 (cast_unsigned w32 z)

-- 12 bytes
unfoldable pub point_bytes : Point → List ℕ
point_bytes p = coordinate_bytes p.x ++ coordinate_bytes p.y ++ coordinate_bytes p.z

-- 40 bytes: nine coordinates and the face
unfoldable pub parcel_bytes : Faced → List ℕ
parcel_bytes x = point_bytes x.triangle.a ++ point_bytes x.triangle.b ++ point_bytes x.triangle.c ++ to_le_bytes w32 x.face

-- the vertices of a mesh, one after another
abbrev pub vertex_bytes : List Point → List ℕ
vertex_bytes vertices = flat_map point_bytes vertices

-- so many pieces of 40 bytes
abbrev pub pieces_of : List ℕ → ℕ → List (List ℕ)
pieces_of bytes zero = []
pieces_of bytes (suc count) = take 40 bytes ∷ pieces_of (drop 40 bytes) count

-- two lists have the same items, each as often, in any order: whatever is counted of the items, the sums are equal. Counting 1 for an item and 0 for all others says how often it stands in each
abbrev pub HoldAlike : {A : Type 0} → List A → List A → Type 0
HoldAlike {A} xs ys = (f : A → ℕ) → sum_by f xs ≡ sum_by f ys

-- a stream has the bytes of these parcels, each as often, in any order
pub record HoldsParcels (bytes : List ℕ) (parcels : List Faced) : Type 0 where
  pub long : length bytes ≡ 40 * length parcels
  pub alike : (f : List ℕ → ℕ) → sum_by f (pieces_of bytes (length parcels)) ≡ sum_by (λ parcel. f (parcel_bytes parcel)) parcels
