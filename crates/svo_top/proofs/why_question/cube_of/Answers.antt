use Rattle.std.proofs.Common.{ℤ, ◌^◌, ◌≤◌, unsigned_abs, of_z, to_z, w64, subst, sym, arith}
use Rattle.morton_code.proofs.Sides.{all_of_three, plane_kept}
use Rattle.svo_top.proofs.why_question.cube_of.Goals as goal

-- a plane that is at most so far away, as it is stored
near : (plane : ℤ) → unsigned_abs plane ≤ 2 ^ 33 → unsigned_abs (to_z w64 (of_z w64 plane)) ≤ 2 ^ 33
near plane within = subst (λ p. unsigned_abs p ≤ 2 ^ 33) (sym (plane_kept plane within)) within

lower : (plane : ℤ) → unsigned_abs plane ≤ 2 ^ 32 → unsigned_abs (to_z w64 (of_z w64 plane)) ≤ 2 ^ 33
lower plane within = near plane (omega (arith, within))

pub returns-clause-planes : goal.returns-clause-planes
returns-clause-planes c = record {
  lo = all_of_three (λ plane. unsigned_abs plane ≤ 2 ^ 33) _ _ _ (lower c.part.result c.part.ensures.within) (lower c.part-2.result c.part-2.ensures.within) (lower c.part-3.result c.part-3.ensures.within);
  hi = all_of_three (λ plane. unsigned_abs plane ≤ 2 ^ 33) _ _ _ (near c.upper.result c.upper.ensures.within) (near c.upper-2.result c.upper-2.ensures.within) (near c.upper-3.result c.upper-3.ensures.within);
}
