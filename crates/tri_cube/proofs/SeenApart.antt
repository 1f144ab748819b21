-- A triangle and a cube share a point exactly where no test sees them apart, and what a test sees is that an axis separates them.
use Rattle.std.proofs.Common.{◌≡◌, Bool, true, ◌||◌, inl, inr, refl, arith, ◌∙◌, pos, ◌<ℤ◌}
use Rattle.std.specs.Prelude.{◌⊎◌}
use Rattle.std.proofs.lemmas.Bool.{or_left, or_right}
use Rattle.std.proofs.lemmas.Int.{ints}
use Rattle.svo_base.specs.declared.shapes.Triangle.{Triangle}
use Rattle.svo_base.specs.declared.shapes.Cube.{Cube}
use Rattle.svo_base.specs.declared.shapes.Vector.{Vector}
use Rattle.octree_specs.specs.Meeting.{Meets}
use Rattle.octree_specs.specs.Candidates.{rows_of, has_good_candidate}
use Rattle.octree_specs.specs.Vectors.{dot_of}
use Rattle.octree_specs.proofs.Vectors.{IsNonzero}
use Rattle.octree_specs.proofs.Candidates.{candidate_from_weights}
use Rattle.octree_specs.proofs.Meetings.{good_candidates_meet}
use Rattle.tri_cube.specs.Boxes.{extents_miss}
use Rattle.tri_cube.specs.Edges.{corner}
use Rattle.tri_cube.specs.Extents.{between, extent_of, shapes_miss}
use Rattle.tri_cube.specs.Planes.{misses_plane, is_above, is_below}
use Rattle.tri_cube.specs.Views.{are_seen_apart, box_of, cube_box, plane_of, misses_edges, outline_x, outline_y, outline_z}
use Rattle.tri_cube.proofs.Farkas.{Cleared}
use Rattle.tri_cube.proofs.Directions.{IsIn, IsBehind, IsBefore, nine_rows, ones, weights_or_direction}
use Rattle.tri_cube.proofs.DirectionKinds.{IsBox, Kind, Kind.along_x, Kind.along_y, Kind.along_z, Kind.side_x, Kind.side_y, Kind.side_z, Kind.across_all, direction_of_kind, turned}
use Rattle.tri_cube.proofs.NotBoth.{lowest, highest}
use Rattle.tri_cube.proofs.SeenBoxes.{is_beside, boxes_miss, plane_misses}
use Rattle.tri_cube.proofs.SeenSides.{misses_seen, misses_by_sides}

-- ---- the tests, over vectors

-- one of the tests sees the triangle and the box apart
abbrev pub seen_apart : (lo hi a b c : Vector) → Bool
seen_apart lo hi a b c =
    (shapes_miss (extent_of a.x b.x c.x) (between lo.x hi.x) || shapes_miss (extent_of a.y b.y c.y) (between lo.y hi.y) || shapes_miss (extent_of a.z b.z c.z) (between lo.z hi.z))
    || (is_beside lo hi a b c || (misses_seen lo hi a b c || misses_seen (turned lo) (turned hi) (turned a) (turned b) (turned c)
    || misses_seen (turned (turned lo)) (turned (turned hi)) (turned (turned a)) (turned (turned b)) (turned (turned c))))

pub seen_apart_is : (t : Triangle) (cube : Cube) → are_seen_apart t (cube_box cube) ≡ seen_apart (lowest cube) (highest cube) (corner t.a) (corner t.b) (corner t.c)
unfolding are_seen_apart cube_box box_of extents_miss misses_plane is_above is_below plane_of misses_edges outline_x outline_y outline_z
seen_apart_is t cube = refl

-- ---- the coordinates in turn

in_turned : (lo hi x : Vector) → IsIn (turned lo) (turned hi) x → IsIn lo hi (turned (turned x))
in_turned lo hi x is =
    record { low_x = is.low_z; high_x = is.high_z; low_y = is.low_x; high_y = is.high_x; low_z = is.low_y; high_z = is.high_y }

behind_turned : (lo hi n p : Vector) → IsBehind lo hi n p → IsBehind (turned lo) (turned hi) (turned n) (turned p)
behind_turned lo hi n p is =
    record { behind = λ x in_box. omega (arith, ints, is.behind (turned (turned x)) (in_turned lo hi x in_box)) }

pub axes_turned : (lo hi a b c n : Vector) → IsBefore lo hi a b c n → IsBefore (turned lo) (turned hi) (turned a) (turned b) (turned c) (turned n)
axes_turned lo hi a b c n is =
    record { first = behind_turned lo hi n a is.first; second = behind_turned lo hi n b is.second; third = behind_turned lo hi n c is.third }

box_turned : (lo hi : Vector) → IsBox lo hi → IsBox (turned lo) (turned hi)
box_turned lo hi is = record { x = is.y; y = is.z; z = is.x }

some_turned : (m : Vector) → IsNonzero m → IsNonzero (turned m)
some_turned m some none = some (record { x = none.z; y = none.x; z = none.y })

-- ---- a direction of a kind is seen

second : (x y z : Bool) → y ≡ true → (x || y || z) ≡ true
second x y z test = or_left (x || y) z (or_right x y test)

third : (x y z : Bool) → z ≡ true → (x || y || z) ≡ true
third x y z test = or_right (x || y) z test

seen_by_kind : (lo hi a b c m : Vector) → IsBox lo hi → IsBefore lo hi a b c m → IsNonzero m → Kind a b c m → seen_apart lo hi a b c ≡ true
seen_by_kind lo hi a b c m is_box before some (along_x y z) =
    or_left _ _ (or_left _ _ (or_left _ _ (boxes_miss lo hi a b c m (λ v. v.x) is_box before m.x (λ v. rw (y, z) (omega (arith, ints))) (λ x. some (record { x = x; y = y; z = z })))))
seen_by_kind lo hi a b c m is_box before some (along_y z x) =
    or_left _ _ (or_left _ _ (or_right _ _ (boxes_miss lo hi a b c m (λ v. v.y) is_box before m.y (λ v. rw (z, x) (omega (arith, ints))) (λ y. some (record { x = x; y = y; z = z })))))
seen_by_kind lo hi a b c m is_box before some (along_z x y) =
    or_left _ _ (or_right _ _ (boxes_miss lo hi a b c m (λ v. v.z) is_box before m.z (λ v. rw (x, y) (omega (arith, ints))) (λ z. some (record { x = x; y = y; z = z }))))
seen_by_kind lo hi a b c m is_box before some (across_all is) =
    or_right _ _ (or_left _ _ (plane_misses lo hi a b c m is_box before some is))
seen_by_kind lo hi a b c m is_box before some (side_x is) =
    or_right _ _ (or_right _ _ (or_left _ _ (or_left _ _ (misses_by_sides lo hi a b c m is_box before some is))))
seen_by_kind lo hi a b c m is_box before some (side_y is) =
    or_right _ _ (or_right (is_beside lo hi a b c) _ (second (misses_seen lo hi a b c) _ _
    (misses_by_sides (turned lo) (turned hi) (turned a) (turned b) (turned c) (turned m) (box_turned lo hi is_box) (axes_turned lo hi a b c m before) (some_turned m some) is)))
seen_by_kind lo hi a b c m is_box before some (side_z is) =
    or_right _ _ (or_right (is_beside lo hi a b c) _ (third (misses_seen lo hi a b c) (misses_seen (turned lo) (turned hi) (turned a) (turned b) (turned c)) _
    (misses_by_sides (turned (turned lo)) (turned (turned hi)) (turned (turned a)) (turned (turned b)) (turned (turned c)) (turned (turned m))
    (box_turned (turned lo) (turned hi) (box_turned lo hi is_box))
    (axes_turned (turned lo) (turned hi) (turned a) (turned b) (turned c) (turned m) (axes_turned lo hi a b c m before))
    (some_turned (turned m) (some_turned m some)) is)))

-- ---- a triangle and a cube share a point, or are seen apart

some_weights : (w : Vector) → pos 0 <ℤ dot_of w ones → IsNonzero w
some_weights w ahead none = omega (arith, ints, ahead, none.x, none.y, none.z)

meets_by_weights : (t : Triangle) (cube : Cube) → Cleared (nine_rows (lowest cube) (highest cube) (corner t.a) (corner t.b) (corner t.c)) ones → Meets t cube
unfolding rows_of has_good_candidate
meets_by_weights t cube (w, clears, ahead) =
    good_candidates_meet t cube
    (candidate_from_weights (rows_of t cube) w (record { x = inl refl; y = inr (inl refl); z = inr (inr (inl refl)) }) (some_weights w ahead) clears)

pub met_or_seen : (t : Triangle) (cube : Cube) → IsBox (lowest cube) (highest cube) → Meets t cube ⊎ (are_seen_apart t (cube_box cube) ≡ true)
met_or_seen t cube is_box =
    elim (weights_or_direction (lowest cube) (highest cube) (corner t.a) (corner t.b) (corner t.c)) [
      | inl cleared ↦ inl (meets_by_weights t cube cleared)
      | inr (n, before) ↦
          let (m, is) = direction_of_kind (lowest cube) (highest cube) (corner t.a) (corner t.b) (corner t.c) n is_box before in
          inr (seen_apart_is t cube ∙ seen_by_kind (lowest cube) (highest cube) (corner t.a) (corner t.b) (corner t.c) m is_box is.before is.some is.kind)
    ]
