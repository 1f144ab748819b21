-- Greys that are put out one after another, and the view that they are of.
use Rattle.std.proofs.Common.{◌≡◌, ℕ, suc, ◌+◌, ◌-◌, ◌*◌, ◌≤◌, List, [], ◌∷◌, ◌++◌, length, Some, None, Result, Ok, Err, refl, sym, ap, subst, ◌∙◌, arith, append-nil, length-append}
use Rattle.std.specs.Prelude.{⊤, Option}
use Rattle.std.specs.Result.{IsErr, IsErrAnd}
use Rattle.std.specs.Io.KnownBytes.{append_known}
use Rattle.std.proofs.Math.Seq.{take-length}
use Rattle.svo_base.specs.GridShape.{GridShape}
use Rattle.octree_specs.specs.Cells.{Cell}
use Rattle.node_check.specs.Stops.{PutsFront, Puts}
use Rattle.node_check.specs.declared.stops.AnswerStop.{AnswerStop}
use Rattle.node_check.specs.declared.stops.AnswerStop.TheVariants.{WriteFault, Walk}
use Rattle.node_check.specs.declared.walking.WalkFault.{WalkFault}
use Rattle.node_check.specs.declared.walking.WalkFault.TheVariants.{Failed, Refused}
use Rattle.node_file.proofs.Fronts.{append_twice, front_of_more, front_of_longer, front_of_none}
use Rattle.slice_view.specs.Cameras.{CameraShape}
use Rattle.slice_view.specs.Greys.{AreGreys, IsGrey}
use Rattle.slice_view.specs.Pictures.{pgm_header}
use Rattle.slice_view.specs.Views.{PutsGreys, PutsView}

-- what stopped a call
pub err_is : {A E : Type 0} (result : Result A E) (fault : E) → IsErr result × IsErrAnd result (λ e. e ≡ fault) → result ≡ Err fault
err_is (Ok x) fault h = absurd (let e = h.0 in cc)
err_is (Err e) fault h = ap Err h.1

append_none : (told : Option (List ℕ)) → append_known told [] ≡ told
append_none None = refl
append_none (Some x) = ap Some (append-nil x)

-- some bytes, and then a front of others
pub front_beyond : (a b c : Option (List ℕ)) (xs ys : List ℕ) → b ≡ append_known a xs → PutsFront b c ys → PutsFront a c (xs ++ ys)
front_beyond a b c xs ys put front =
    front_of_more a b c xs ys ys (length xs, put ∙ ap (append_known a) (sym (take-length xs))) (ap (λ o. append_known o ys) put) front

-- the greys of the pixels before one were put out
abbrev pub PutSoFar : CameraShape → GridShape → List Cell → ℕ → (before after : Option (List ℕ)) → Type 0
PutSoFar camera grid cells pixel before after = PutsGreys {T = ⊤} camera grid cells 0 pixel before after (Ok tt)

module _ (camera : CameraShape) (grid : GridShape) (cells : List Cell) where
  pub greys_more : (pixel : ℕ) (xs ys : List ℕ) → AreGreys camera grid cells pixel xs → AreGreys camera grid cells (pixel + length xs) ys → AreGreys camera grid cells pixel (xs ++ ys)
  unfolding AreGreys
  greys_more pixel [] ys first second = subst (λ p. AreGreys camera grid cells p ys) (omega arith) second
  greys_more pixel (x ∷ xs) ys first second = (first.0, greys_more (suc pixel) xs ys first.1 (subst (λ p. AreGreys camera grid cells p ys) (omega arith) second))

  pub greys_none : (pixel : ℕ) → AreGreys camera grid cells pixel []
  unfolding AreGreys
  greys_none pixel = tt

  pub greys_one : (from pixel : ℕ) (xs : List ℕ) (grey : ℕ) → from + length xs ≡ pixel → AreGreys camera grid cells from xs → IsGrey camera grid cells pixel grey → AreGreys camera grid cells from (xs ++ grey ∷ [])
  unfolding AreGreys
  greys_one from pixel xs grey at first next = greys_more from xs (grey ∷ []) first (subst (λ p. AreGreys camera grid cells p (grey ∷ [])) (sym at) (next, tt))

  -- nothing yet
  pub puts_none : (from : ℕ) (a : Option (List ℕ)) → PutsGreys {T = ⊤} camera grid cells from from a a (Ok tt)
  puts_none from a = record { greys = []; counted = omega arith; shown = greys_none from; put = sym (append_none a) }

  -- a read failed before anything was put out
  pub puts_failed : (from end : ℕ) (a : Option (List ℕ)) (fault : WalkFault) → fault ≡ Failed → PutsGreys {T = ⊤} camera grid cells from end a a (Err (Walk fault))
  puts_failed from end a Failed failed = (0, omega arith, record { greys = []; counted = refl; shown = greys_none from; put = front_of_none a [] })
  puts_failed from end a (Refused number word) failed = absurd (cc failed)

  -- a block of greys was put out, or a front of it
  pub puts_block : {T : Type 0} (from end : ℕ) (a b : Option (List ℕ)) (block : List ℕ) (result : Result T AnswerStop) → length block ≡ end - from → AreGreys camera grid cells from block → Puts a b block result
      → PutsGreys camera grid cells from end a b result
  puts_block from end a b block (Ok answer) size shown put = record { greys = block; counted = size; shown = shown; put = put }
  puts_block from end a b block (Err WriteFault) size shown put = (length block, omega (arith, size), record { greys = block; counted = refl; shown = shown; put = put })
  puts_block from end a b block (Err (Walk Failed)) size shown put = (length block, omega (arith, size), record { greys = block; counted = refl; shown = shown; put = put })
  puts_block from end a b block (Err (Walk (Refused number word))) size shown put = absurd put

  -- some, and then more
  pub puts_more : (from middle end : ℕ) (a b c : Option (List ℕ)) (result : Result ⊤ AnswerStop) → from ≤ middle → middle ≤ end
      → PutsGreys {T = ⊤} camera grid cells from middle a b (Ok tt) → PutsGreys {T = ⊤} camera grid cells middle end b c result → PutsGreys {T = ⊤} camera grid cells from end a c result
  puts_more from middle end a b c (Ok answer) low high first last =
      record {
        greys = first.greys ++ last.greys;
        counted = length-append first.greys last.greys ∙ omega (arith, low, high, first.counted, last.counted);
        shown = greys_more from first.greys last.greys first.shown (subst (λ p. AreGreys camera grid cells p last.greys) (omega (arith, low, first.counted)) last.shown);
        put = last.put ∙ (ap (λ o. append_known o last.greys) first.put ∙ append_twice a first.greys last.greys);
      }
  puts_more from middle end a b c (Err WriteFault) low high first last = (
    length first.greys + last.0,
    omega (arith, low, high, first.counted, last.1),
    record {
      greys = first.greys ++ last.2.greys;
      counted = length-append first.greys last.2.greys ∙ ap (λ n. length first.greys + n) last.2.counted;
      shown = greys_more from first.greys last.2.greys first.shown (subst (λ p. AreGreys camera grid cells p last.2.greys) (omega (arith, low, first.counted)) last.2.shown);
      put = front_beyond a b c first.greys last.2.greys first.put last.2.put;
    },
  )
  puts_more from middle end a b c (Err (Walk Failed)) low high first last = (
    length first.greys + last.0,
    omega (arith, low, high, first.counted, last.1),
    record {
      greys = first.greys ++ last.2.greys;
      counted = length-append first.greys last.2.greys ∙ ap (λ n. length first.greys + n) last.2.counted;
      shown = greys_more from first.greys last.2.greys first.shown (subst (λ p. AreGreys camera grid cells p last.2.greys) (omega (arith, low, first.counted)) last.2.shown);
      put = front_beyond a b c first.greys last.2.greys first.put last.2.put;
    },
  )
  puts_more from middle end a b c (Err (Walk (Refused number word))) low high first last = absurd last

  -- a front of some is one of more
  pub puts_longer : (from end last : ℕ) (a b : Option (List ℕ)) (stop : AnswerStop) → end ≤ last → PutsGreys {T = ⊤} camera grid cells from end a b (Err stop) → PutsGreys {T = ⊤} camera grid cells from last a b (Err stop)
  puts_longer from end last a b WriteFault far puts = (puts.0, omega (arith, far, puts.1), puts.2)
  puts_longer from end last a b (Walk Failed) far puts = (puts.0, omega (arith, far, puts.1), puts.2)
  puts_longer from end last a b (Walk (Refused number word)) far puts = absurd puts

  -- the header, and then the greys
  pub puts_view : {T : Type 0} (a b c : Option (List ℕ)) (result : Result T AnswerStop) → b ≡ append_known a (pgm_header camera.width camera.height)
      → PutsGreys camera grid cells 0 (camera.width * camera.height) b c result → PutsView camera grid cells a c result
  puts_view a b c (Ok answer) header greys = (
    pgm_header camera.width camera.height ++ greys.greys,
    record { greys = greys.greys; counted = greys.counted ∙ omega arith; shown = greys.shown; picture_is = refl },
    greys.put ∙ (ap (λ o. append_known o greys.greys) header ∙ append_twice a (pgm_header camera.width camera.height) greys.greys),
  )
  puts_view a b c (Err WriteFault) header greys = (
    pgm_header camera.width camera.height ++ greys.2.greys,
    (greys.0, omega (arith, greys.1), record { greys = greys.2.greys; counted = greys.2.counted; shown = greys.2.shown; picture_is = refl }),
    front_beyond a b c (pgm_header camera.width camera.height) greys.2.greys header greys.2.put,
  )
  puts_view a b c (Err (Walk Failed)) header greys = (
    pgm_header camera.width camera.height ++ greys.2.greys,
    (greys.0, omega (arith, greys.1), record { greys = greys.2.greys; counted = greys.2.counted; shown = greys.2.shown; picture_is = refl }),
    front_beyond a b c (pgm_header camera.width camera.height) greys.2.greys header greys.2.put,
  )
  puts_view a b c (Err (Walk (Refused number word))) header greys = absurd greys

  -- a front of the header alone
  header_alone : (a b : Option (List ℕ)) → PutsFront a b (pgm_header camera.width camera.height) → PutsView {T = ⊤} camera grid cells a b (Err WriteFault)
  header_alone a b front = (
    pgm_header camera.width camera.height ++ [],
    (0, omega arith, record { greys = []; counted = refl; shown = greys_none 0; picture_is = refl }),
    front_of_longer a b (pgm_header camera.width camera.height) [] front,
  )

  pub puts_header : (a b : Option (List ℕ)) (stop : AnswerStop) → Puts {T = ⊤} a b (pgm_header camera.width camera.height) (Err stop) → PutsView {T = ⊤} camera grid cells a b (Err stop)
  puts_header a b WriteFault put = header_alone a b put
  puts_header a b (Walk Failed) put = header_alone a b put
  puts_header a b (Walk (Refused number word)) put = absurd put

-- a header for a camera's sides
pub header_of : (camera : CameraShape) (width height : ℕ) (a b : Option (List ℕ)) (result : Result ⊤ AnswerStop) → width ≡ camera.width → height ≡ camera.height
    → Puts {T = ⊤} a b (pgm_header width height) result → Puts {T = ⊤} a b (pgm_header camera.width camera.height) result
header_of camera width height a b result wide high put =
    subst (λ h. Puts {T = ⊤} a b (pgm_header camera.width h) result) high (subst (λ w. Puts {T = ⊤} a b (pgm_header w height) result) wide put)
