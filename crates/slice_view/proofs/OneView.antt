-- A camera has one view of some cells.
use Rattle.std.proofs.Common.{◌≡◌, ℕ, suc, ◌*◌, ◌≤◌, List, [], ◌∷◌, ◌++◌, length, refl, sym, ap, subst, ◌∙◌, arith, Option, None, Some, Result, Ok, Err, append_assoc, append-nil, length-append, ◌/◌, ◌%◌}
use Rattle.std.proofs.lemmas.List.{nil_from_length}
use Rattle.svo_base.specs.GridShape.{GridShape}
use Rattle.octree_specs.specs.Cells.{Cell}
use Rattle.node_check.specs.Stops.{PutsFront}
use Rattle.node_file.proofs.Fronts.{front_of_longer}
use Rattle.ray_fraction.specs.RayShape.{RayShape}
use Rattle.ray_fraction.specs.declared.rays.RayFault.{RayFault}
use Rattle.ray_fraction.proofs.TimeOrder.{are_ordered}
use Rattle.ray_walk.specs.Answers.{IsFirst}
use Rattle.ray_walk.specs.declared.hits.Hit.{Hit}
use Rattle.slice_view.specs.Cameras.{CameraShape, pixel_ray}
use Rattle.slice_view.specs.Greys.{AreGreys, IsGreyOf, grey_at, grey_of}
use Rattle.slice_view.specs.Laws.{FrontsOfViews, ViewsAreOne}
use Rattle.slice_view.specs.Pictures.{pgm_header}
use Rattle.slice_view.specs.Views.{ShowsPixels}

-- a ray's first hits are at one time
one_grey : (grid : GridShape) (cells : List Cell) (far : ℕ) (ray : RayShape) (a b : Option Hit) → IsFirst ray grid cells a → IsFirst ray grid cells b → grey_of far a ≡ grey_of far b
one_grey grid cells far ray None None is too = refl
one_grey grid cells far ray None (Some b) is too = absurd (is b.code b.time.n b.time.m too.met)
one_grey grid cells far ray (Some a) None is too = absurd (too a.code a.time.n a.time.m is.met)
one_grey grid cells far ray (Some a) (Some b) is too =
    let here = is.first b.code b.time.n b.time.m too.met in
    let there = too.first a.code a.time.n a.time.m is.met in
    ap (λ time. grey_at far time.n time.m) (are_ordered.same a.time b.time here.sooner there.sooner)

one_pixel : (grid : GridShape) (cells : List Cell) (far : ℕ) (ray : Result RayShape RayFault) (a b : ℕ) → IsGreyOf grid cells far ray a → IsGreyOf grid cells far ray b → a ≡ b
one_pixel grid cells far (Ok ray) a b is too = is.grey_is ∙ (one_grey grid cells far ray is.hit too.hit is.first too.first ∙ sym too.grey_is)
one_pixel grid cells far (Err fault) a b is too = is ∙ sym too

module _ (camera : CameraShape) (grid : GridShape) (cells : List Cell) where
  -- more greys begin with fewer
  greys_begin : (pixel : ℕ) (few many : List ℕ) → length few ≤ length many → AreGreys camera grid cells pixel few → AreGreys camera grid cells pixel many → (rest : List ℕ) × (many ≡ few ++ rest)
  unfolding AreGreys
  greys_begin pixel [] many short are too = (many, refl)
  greys_begin pixel (a ∷ few) [] short are too = absurd (omega (arith, short))
  greys_begin pixel (a ∷ few) (b ∷ many) short are too =
      let same : b ≡ a = one_pixel grid cells camera.far (pixel_ray camera (pixel % camera.width) (pixel / camera.width)) b a too.0 are.0 in
      let later = greys_begin (suc pixel) few many (omega (arith, short)) are.1 too.1 in
      (later.0, λ i. same i ∷ later.1 i)

  -- a picture of more pixels begins with one of fewer
  pictures_begin : (few many : ℕ) (begun picture : List ℕ) → few ≤ many → ShowsPixels camera grid cells few begun → ShowsPixels camera grid cells many picture → (rest : List ℕ) × (picture ≡ begun ++ rest)
  pictures_begin few many begun picture short first all =
      let later = greys_begin 0 first.greys all.greys (omega (arith, short, first.counted, all.counted)) first.shown all.shown in
      let header : List ℕ = pgm_header camera.width camera.height in (
        later.0,
        all.picture_is ∙ (ap (λ greys. header ++ greys) later.1 ∙ (sym (append_assoc header first.greys later.0) ∙ ap (λ front. front ++ later.0) (sym first.picture_is))),
      )

  -- pictures of as many pixels are one
  one_picture : (count : ℕ) (picture other : List ℕ) → ShowsPixels camera grid cells count picture → ShowsPixels camera grid cells count other → picture ≡ other
  one_picture count picture other is too =
      let later = greys_begin 0 is.greys too.greys (omega (arith, is.counted, too.counted)) is.shown too.shown in
      let none : later.0 ≡ [] = nil_from_length later.0 (omega (arith, is.counted, too.counted, ap length later.1, length-append is.greys later.0)) in
      let same : too.greys ≡ is.greys = later.1 ∙ (ap (λ rest. is.greys ++ rest) none ∙ append-nil is.greys) in
      is.picture_is ∙ (ap (λ greys. pgm_header camera.width camera.height ++ greys) (sym same) ∙ sym too.picture_is)

pub views_are_one : ViewsAreOne
views_are_one camera grid cells picture other is too = one_picture camera grid cells (camera.width * camera.height) picture other is too

pub fronts_of_views : FrontsOfViews
fronts_of_views camera grid cells before after begun picture begins front is =
    let later = pictures_begin camera grid cells begins.0 (camera.width * camera.height) begun picture begins.1 begins.2 is in
    subst (λ text. PutsFront before after text) (sym later.1) (front_of_longer before after begun later.0 front)
