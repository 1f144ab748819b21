-- Which parts a box reaches along each axis.
use Rattle.std.specs.Prelude.{ℕ, ◌+◌, ◌-◌, ◌*◌, Bool, ◌&&◌, nat_le, nat_lt, ℤ, pos, ◌+ℤ◌, int_le, List, map, slice_index_or}
use Rattle.std.specs.List.{flat_map, range_with_len}
use Rattle.svo_base.specs.GridShape.{GridShape}
use Rattle.octree_specs.specs.NodeCube.{side_of, code_of}
use Rattle.room_plan.specs.declared.elements.Parcel.{Parcel}
use Rattle.svo_base.specs.declared.boxes.Extent.{Extent}
use Rattle.tri_partition.specs.declared.part_ranges.PartRange.{PartRange}

-- the plane between the parts before this one along an axis and this one
abbrev pub plane_of : GridShape → ℕ → ℕ → ℕ → ℤ
plane_of grid split axis part = slice_index_or grid.origin axis (pos 0) +ℤ pos (side_of grid split * part)

-- the extent and a part share a point along an axis
abbrev pub extent_reaches : GridShape → ℕ → ℕ → Extent → ℕ → Bool
extent_reaches grid split axis extent part =
    int_le (plane_of grid split axis part) extent.high && int_le extent.low (plane_of grid split axis part +ℤ pos (side_of grid split))

-- ---- the parts from one on to before another

abbrev pub in_range : PartRange → ℕ → Bool
in_range range part = nat_le range.from part && nat_lt part range.to

abbrev pub parts_in : PartRange → List ℕ
parts_in range = range_with_len range.from (range.to - range.from)

-- the parcel on its way to the part with these coordinates, so many levels below a node, where so many parts are numbered before those under the node
abbrev pub parcel_to : ℕ → ℕ → Parcel → ℕ → ℕ → ℕ → Parcel
parcel_to levels before parcel z y x = record { corners = parcel.corners; face = parcel.face; part = before + code_of levels x y z }

-- on its way to each part of a row, of a layer of rows, and of a box of layers
abbrev pub row_parcels : ℕ → ℕ → Parcel → PartRange → ℕ → ℕ → List Parcel
row_parcels levels before parcel xs z y = map (parcel_to levels before parcel z y) (parts_in xs)

abbrev pub layer_parcels : ℕ → ℕ → Parcel → PartRange → PartRange → ℕ → List Parcel
layer_parcels levels before parcel xs ys z = flat_map (row_parcels levels before parcel xs z) (parts_in ys)

abbrev pub box_parcels : ℕ → ℕ → Parcel → PartRange → PartRange → PartRange → List Parcel
box_parcels levels before parcel xs ys zs = flat_map (layer_parcels levels before parcel xs ys) (parts_in zs)
