use Rattle.std.proofs.Common.{refl, ◌∙◌}
use Rattle.solid_parity.proofs.ColumnNumbers.{sum_kept}
use Rattle.solid_parity.proofs.prepared.base.Goals as goal

pub returns-clause-value : goal.returns-clause-value
returns-clause-value c =
    sum_kept c.along-x.result c.along-y.result c.along-x.ensures.within c.along-y.ensures.within ∙ rw (c.along-x.ensures.value, c.along-y.ensures.value) refl
