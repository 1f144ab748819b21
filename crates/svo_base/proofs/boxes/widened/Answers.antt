-- Both ends move as one more number wants.
use Rattle.std.proofs.Common.{◌∙◌, ap, w32, to_z, of_z}
use Rattle.std.specs.Int.{int_min, int_max}
use Rattle.std.proofs.lemmas.Int.{to_z-of_z}
use Rattle.svo_base.proofs.Widening.{widened_extent}
use Rattle.svo_base.proofs.boxes.widened.Goals as goal

pub returns : goal.returns
returns c = λ numbers extent.
    let same = to_z-of_z w32 c.args.number c.ranges.number in
    widened_extent numbers c.args.extent.now c.raised.result c.args.number
    (c.raised.ensures.low ∙ c.lowered.ensures.low ∙ ap (λ z. int_min c.args.extent.now.low z) same)
    (c.raised.ensures.high ∙ ap (λ high. int_max high (to_z w32 (of_z w32 c.args.number))) c.lowered.ensures.high ∙ ap (λ z. int_max c.args.extent.now.high z) same) extent
