-- The box of no point, widened twice, is that of the two points.
use Rattle.std.proofs.Common.{◌∷◌, [], subst, refl, sym}
use Rattle.std.proofs.lemmas.List.Elements.{All-cons, All-nil}
use Rattle.svo_base.specs.Boxes.{IsBoxOf, IsNearPoint}
use Rattle.svo_base.proofs.Widening.{near_point_fits, near_box}
use Rattle.svo_base.proofs.tests.fitted.Goals as goal

pub grid-requires-clause-near : goal.grid-requires-clause-near
grid-requires-clause-near c =
    let a = c.args.a.now in
    let b = c.args.b.now in
    let first : IsBoxOf (a ∷ []) c.add.new.self = c.add.ensures [] (near_point_fits a c.requires.a) (subst (λ s. IsBoxOf [] s) (sym c.new-bounds.ensures) refl) in
    near_box (a ∷ b ∷ []) c.add-2.new.self (All-cons IsNearPoint a (b ∷ []) c.requires.a (All-cons IsNearPoint b [] c.requires.b (All-nil IsNearPoint)))
    (c.add-2.ensures (a ∷ []) (near_point_fits b c.requires.b) first)

pub returns : goal.returns
returns c =
    let a = c.args.a.now in
    let b = c.args.b.now in
    let first : IsBoxOf (a ∷ []) c.add.new.self = c.add.ensures [] (near_point_fits a c.requires.a) (subst (λ s. IsBoxOf [] s) (sym c.new-bounds.ensures) refl) in
    record {
      depth_is = c.grid.ensures.depth;
      bounds = c.add-2.new.self;
      is_box = c.add-2.ensures (a ∷ []) (near_point_fits b c.requires.b) first;
      fits = c.grid.ensures.fits;
    }
