-- The order of times, of which each value has one.
use Rattle.std.proofs.Common.{◌≡◌, ℕ, ◌↔◌, IsTrue, ◌*◌, ◌<◌, ◌≤◌, ◌⊎◌, arith, refl, Option, None, Some, ap, ⊎_elim, inl, inr}
use mathlib.Core.HLevel.{is_prop→PathP, Π_prop}
use Rattle.std.specs.Coded.{le_prop}
use Rattle.std.proofs.lemmas.Bool.{cases_lt}
use Rattle.std.proofs.lemmas.Map.Keys.{le_from_is_le}
use Rattle.std.specs.Ordering.{nat_cmp, is_le}
use Rattle.svo_base.specs.declared.shapes.Cube.{Cube}
use Rattle.ray_fraction.specs.EndTimes.{IsLeastTime, IsGreatestTime}
use Rattle.ray_fraction.specs.Fractions.{IsReduced, IsUpTo}
use Rattle.ray_fraction.specs.InCube.{InAt}
use Rattle.ray_fraction.specs.Laws.{AreOrdered}
use Rattle.ray_fraction.specs.RayShape.{RayShape}
use Rattle.ray_fraction.specs.declared.times.Time.{Time}
use Rattle.ray_fraction.proofs.LowestTerms.{same_terms}
use Rattle.ray_fraction.proofs.Order.{up_to_trans}

same_parts : (t u : Time) → t.n ≡ u.n → t.m ≡ u.m → t ≡ u
same_parts t u n m = λ i. record {
  n = n i;
  m = m i;
  some = is_prop→PathP (λ j. 1 ≤ m j) (λ j. le_prop) t.some u.some i;
  reduced = is_prop→PathP (λ j. IsReduced (n j) (m j)) (λ j. Π_prop (λ d. Π_prop (λ top. Π_prop (λ bottom. le_prop)))) t.reduced u.reduced i;
}

same_time : (t u : Time) → IsUpTo t.n t.m u.n u.m → IsUpTo u.n u.m t.n t.m → t ≡ u
same_time t u up down =
    let terms = same_terms t.n t.m u.n u.m t.some u.some t.reduced u.reduced (omega (arith, up, down)) in
    same_parts t u terms.0 terms.1

total : (t u : Time) → IsUpTo t.n t.m u.n u.m ⊎ IsUpTo u.n u.m t.n t.m
total t u =
    ⊎_elim (λ (less : t.n * u.m < u.n * t.m). inl (omega (arith, less))) (λ (rest : u.n * t.m ≤ t.n * u.m). inr rest) (cases_lt (t.n * u.m) (u.n * t.m))

compared : (x y : ℕ) → (x ≤ y) ↔ IsTrue (is_le (nat_cmp x y))
compared x y = (λ up. grind arith, λ seen. le_from_is_le x y seen)

same_entry : (ray : RayShape) (cube : Cube) (t u : Option Time) → IsLeastTime (InAt ray cube) t → IsLeastTime (InAt ray cube) u → t ≡ u
same_entry ray cube None None t_is u_is = refl
same_entry ray cube None (Some u) t_is u_is = absurd (t_is u.n u.m u_is.0)
same_entry ray cube (Some t) None t_is u_is = absurd (u_is t.n t.m t_is.0)
same_entry ray cube (Some t) (Some u) t_is u_is = ap (λ time. Some time) (same_time t u (t_is.1 u.n u.m u_is.0) (u_is.1 t.n t.m t_is.0))

same_exit : (ray : RayShape) (cube : Cube) (t u : Option Time) → IsGreatestTime (InAt ray cube) t → IsGreatestTime (InAt ray cube) u → t ≡ u
same_exit ray cube None None t_is u_is = refl
same_exit ray cube None (Some u) t_is u_is = absurd (t_is u.n u.m u_is.0)
same_exit ray cube (Some t) None t_is u_is = absurd (u_is t.n t.m t_is.0)
same_exit ray cube (Some t) (Some u) t_is u_is = ap (λ time. Some time) (same_time t u (u_is.1 t.n t.m t_is.0) (t_is.1 u.n u.m u_is.0))

pub are_ordered : AreOrdered
are_ordered = record {
  compared = λ t u. compared (t.n * u.m) (u.n * t.m);
  total = total;
  transitive = λ t u v first second. up_to_trans t.n t.m u.n u.m v.n v.m u.some first second;
  same = same_time;
  entry = same_entry;
  exit = same_exit;
}
