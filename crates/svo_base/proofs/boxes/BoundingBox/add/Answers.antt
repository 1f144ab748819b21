-- Along each axis the box is widened by the point's coordinate.
use Rattle.std.proofs.Common.{◌≡◌, ℤ, List, [], ◌∷◌, ◌++◌, Option, None, Some, map, sym, subst, ◌∙◌, w32, to_z, of_z}
use Rattle.std.specs.Prelude.{FitsSigned}
use Rattle.std.proofs.lemmas.Int.{to_z-of_z}
use Rattle.std.proofs.lemmas.List.{map-append}
use Rattle.svo_base.specs.declared.shapes.Point.{Point}
use Rattle.svo_base.specs.declared.boxes.Bounds.{Bounds}
use Rattle.svo_base.specs.declared.boxes.Extent.{Extent}
use Rattle.svo_base.specs.Boxes.{IsExtentOf, IsBoxOf, IsPoint}
use Rattle.svo_base.proofs.boxes.BoundingBox.add.Goals.{in-None, in-Some}
use Rattle.svo_base.proofs.boxes.BoundingBox.add.Goals as goal

-- a coordinate as it is passed on by value
abbrev passed : ℤ → ℤ
passed z = to_z w32 (of_z w32 z)

widened_axis : (at : Point → ℤ) (points : List Point) (p : Point) (old new : Extent) → FitsSigned w32 (at p)
    → ((numbers : List ℤ) → IsExtentOf numbers old → IsExtentOf (numbers ++ passed (at p) ∷ []) new) → IsExtentOf (map at points) old → IsExtentOf (map at (points ++ p ∷ [])) new
widened_axis at points p old new fits more extent =
    rw (map-append at points (p ∷ [])) (subst (λ z. IsExtentOf (map at points ++ z ∷ []) new) (to_z-of_z w32 (at p) fits) (more (map at points) extent))

first_axis : (at : Point → ℤ) (points : List Point) (p : Point) (new : Extent) → FitsSigned w32 (at p) → points ≡ [] → IsExtentOf (passed (at p) ∷ []) new → IsExtentOf (map at (points ++ p ∷ [])) new
first_axis at points p new fits none extent = rw none (subst (λ z. IsExtentOf (z ∷ []) new) (to_z-of_z w32 (at p) fits) extent)

first_box : (points : List Point) (p : Point) (old : Option Bounds) (new : Bounds) → IsPoint p → IsBoxOf points old → old ≡ None
    → IsExtentOf (passed p.x ∷ []) new.x → IsExtentOf (passed p.y ∷ []) new.y → IsExtentOf (passed p.z ∷ []) new.z → IsBoxOf (points ++ p ∷ []) (Some new)
first_box points p old new fits bounds none x y z =
    let empty : points ≡ [] = subst (λ o. IsBoxOf points o) none bounds in
    (first_axis (λ q. q.x) points p new.x fits.x empty x, first_axis (λ q. q.y) points p new.y fits.y empty y, first_axis (λ q. q.z) points p new.z fits.z empty z)

abbrev Widens : ℤ → Extent → Extent → Type 0
Widens z old new = (numbers : List ℤ) → IsExtentOf numbers old → IsExtentOf (numbers ++ passed z ∷ []) new

wider_box : (points : List Point) (p : Point) (old : Option Bounds) (b new : Bounds) → IsPoint p → IsBoxOf points old → old ≡ Some b
    → Widens p.x b.x new.x → Widens p.y b.y new.y → Widens p.z b.z new.z → IsBoxOf (points ++ p ∷ []) (Some new)
wider_box points p old b new fits bounds some x y z =
    let was : IsBoxOf points (Some b) = subst (λ o. IsBoxOf points o) some bounds in
    (widened_axis (λ q. q.x) points p b.x new.x fits.x x was.0, widened_axis (λ q. q.y) points p b.y new.y fits.y y was.1, widened_axis (λ q. q.z) points p b.z new.z fits.z z was.2)

pub returns : goal.returns
returns c = λ points fits bounds.
    let p = c.args.point.now in
    elim c.match-self.branch [
      | in-None w ↦ subst (λ new. IsBoxOf (points ++ p ∷ []) (Some new)) (sym w.bounds-is)
          (first_box points p c.args.self.now (record { x = w.extent_at.result; y = w.extent_at-in-None.result; z = w.extent_at-in-None-2.result }) fits bounds (sym c.self.view_is ∙ w.in-None.is)
          w.extent_at.ensures w.extent_at-in-None.ensures w.extent_at-in-None-2.ensures)
      | in-Some w ↦ subst (λ new. IsBoxOf (points ++ p ∷ []) (Some new)) (sym w.bounds-is)
          (wider_box points p c.args.self.now w.in-Some.bounds (record { x = w.widened.result; y = w.widened-in-Some.result; z = w.widened-in-Some-2.result }) fits bounds (sym c.self.view_is ∙ w.in-Some.is)
          w.widened.ensures w.widened-in-Some.ensures w.widened-in-Some-2.ensures)
    ]
