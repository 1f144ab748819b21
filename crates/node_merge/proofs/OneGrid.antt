-- Two grids are the same where their fields are.
use Rattle.std.proofs.Common.{◌≡◌, Bool, true, false, ◌&&◌, refl, ap, ◌∙◌}
use Rattle.std.specs.Prelude.{IsTrue, ◌==◌}
use Rattle.std.specs.Ordering.{int_eq}
use lib.Pointwise.{pointwise}
use Rattle.std.specs.Bool.{Decides}
use Rattle.std.specs.Cmp.{unsigned_Decides}
use Rattle.std.specs.Cmp.Rules.{signed_items}
use Rattle.std.proofs.lemmas.Bool.{both_ways}
use Rattle.svo_base.specs.GridShape.{GridShape}

three : (result x y z : Bool) (P Q R S : Type 0) → result ≡ (x && (y && z)) → Decides x P → Decides y Q → Decides z R → (P → Q → R → S) → (S → P × Q × R)
    → (IsTrue result → S) × (S → IsTrue result)
three result true true true P Q R S is p q r all parts = (λ told. all (p.0 refl) (q.0 refl) (r.0 refl), λ s. is)
three result true true false P Q R S is p q r all parts = (λ told. absurd (both_ways result is told), λ s. is ∙ r.1 (parts s).2)
three result true false z P Q R S is p q r all parts = (λ told. absurd (both_ways result is told), λ s. is ∙ q.1 (parts s).1)
three result false y z P Q R S is p q r all parts = (λ told. absurd (both_ways result is told), λ s. is ∙ p.1 (parts s).0)

pub one_grid : (result : Bool) (a b : GridShape) → result ≡ ((a.depth == b.depth) && (pointwise int_eq a.origin b.origin && (a.cell == b.cell))) → (IsTrue result → a ≡ b) × (a ≡ b → IsTrue result)
one_grid result a b is =
    three result (a.depth == b.depth) (pointwise int_eq a.origin b.origin) (a.cell == b.cell) (a.depth ≡ b.depth) (a.origin ≡ b.origin) (a.cell ≡ b.cell) (a ≡ b) is (unsigned_Decides a.depth b.depth) (signed_items a.origin b.origin) (unsigned_Decides a.cell b.cell)
    (λ depth origin cell i. record { depth = depth i; origin = origin i; cell = cell i })
    (λ same. (ap (λ (shape : GridShape). shape.depth) same, ap (λ (shape : GridShape). shape.origin) same, ap (λ (shape : GridShape). shape.cell) same))
