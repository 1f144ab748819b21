-- Where both halves along an axis are reached, no octant is reached alone.
use Rattle.std.proofs.Common.{◌≡◌, ◌≢◌, ℕ, zero, suc, ◌+◌, ◌-◌, ◌*◌, ◌/◌, ◌%◌, ◌<◌, Bool, true, ◌&&◌, refl, ap, ◌∙◌, arith}
use Rattle.std.specs.Prelude.{Option, None, Some}
use Rattle.std.specs.Option.{IfNone}
use Rattle.std.proofs.lemmas.Bool.{and_parts}
use Rattle.morton_scan.specs.declared.octants.Halves.{Halves}
use Rattle.morton_scan.specs.declared.octants.Octants.{Octants}
use Rattle.morton_scan.specs.Reaching.{has_half, has_octant, HasOther}

pub if_none : (o : Option ℕ) (P : Type 0) → P → IfNone o P
if_none None P holds = holds
if_none (Some n) P holds = tt

both : (halves : Halves) → halves.lower ≡ true → halves.upper ≡ true → (half : ℕ) → has_half halves half ≡ true
both halves lower upper zero = lower
both halves lower upper (suc n) = upper

all_three : (a b c : Bool) → a ≡ true → b ≡ true → c ≡ true → (a && b && c) ≡ true
all_three a b c p q r = rw (p, q, r) refl

-- the octant on the other side along an axis
module _ (octants : Octants) (octant : ℕ) (below : octant < 8) (reached : has_octant octants octant ≡ true) where
  has_x : has_half octants.x (octant % 2) ≡ true
  unfolding has_octant
  has_x =
      (and_parts (has_half octants.x (octant % 2)) (has_half octants.y (octant / 2 % 2))
      (and_parts (has_half octants.x (octant % 2) && has_half octants.y (octant / 2 % 2)) (has_half octants.z (octant / 4 % 2)) reached).0).0

  has_y : has_half octants.y (octant / 2 % 2) ≡ true
  unfolding has_octant
  has_y =
      (and_parts (has_half octants.x (octant % 2)) (has_half octants.y (octant / 2 % 2))
      (and_parts (has_half octants.x (octant % 2) && has_half octants.y (octant / 2 % 2)) (has_half octants.z (octant / 4 % 2)) reached).0).1

  has_z : has_half octants.z (octant / 4 % 2) ≡ true
  unfolding has_octant
  has_z = (and_parts (has_half octants.x (octant % 2) && has_half octants.y (octant / 2 % 2)) (has_half octants.z (octant / 4 % 2)) reached).1

  beside : (other : ℕ) → other < 8 → other ≢ octant → has_half octants.x (other % 2) ≡ true → has_half octants.y (other / 2 % 2) ≡ true → has_half octants.z (other / 4 % 2) ≡ true → HasOther octants octant
  unfolding has_octant
  beside other low apart x y z = record {
    other = other;
    below = low;
    apart = apart;
    reached = all_three (has_half octants.x (other % 2)) (has_half octants.y (other / 2 % 2)) (has_half octants.z (other / 4 % 2)) x y z;
  }

  pub beside_x : octants.x.lower ≡ true → octants.x.upper ≡ true → HasOther octants octant
  beside_x lower upper =
      let other : ℕ = octant + 1 - 2 * (octant % 2) in
      let y : other / 2 % 2 ≡ octant / 2 % 2 = omega (arith, below) in
      let z : other / 4 % 2 ≡ octant / 4 % 2 = omega (arith, below) in
      beside other (omega (arith, below)) (λ same. omega (arith, same, below)) (both octants.x lower upper (other % 2)) (ap (has_half octants.y) y ∙ has_y) (ap (has_half octants.z) z ∙ has_z)

  pub beside_y : octants.y.lower ≡ true → octants.y.upper ≡ true → HasOther octants octant
  beside_y lower upper =
      let other : ℕ = octant + 2 - 4 * (octant / 2 % 2) in
      let x : other % 2 ≡ octant % 2 = omega (arith, below) in
      let z : other / 4 % 2 ≡ octant / 4 % 2 = omega (arith, below) in
      beside other (omega (arith, below)) (λ same. omega (arith, same, below)) (ap (has_half octants.x) x ∙ has_x) (both octants.y lower upper (other / 2 % 2)) (ap (has_half octants.z) z ∙ has_z)

  pub beside_z : octants.z.lower ≡ true → octants.z.upper ≡ true → HasOther octants octant
  beside_z lower upper =
      let other : ℕ = octant + 4 - 8 * (octant / 4 % 2) in
      let x : other % 2 ≡ octant % 2 = omega (arith, below) in
      let y : other / 2 % 2 ≡ octant / 2 % 2 = omega (arith, below) in
      beside other (omega (arith, below)) (λ same. omega (arith, same, below)) (ap (has_half octants.x) x ∙ has_x) (ap (has_half octants.y) y ∙ has_y) (both octants.z lower upper (other / 4 % 2))
