use Rattle.ray_fraction.proofs.LowestTerms.{same_value, some_quotient, lowest_terms}
use Rattle.ray_fraction.proofs.times.Time.new.Goals as goal

pub invariant_of-result : goal.invariant_of-result
invariant_of-result c = record {
  some = some_quotient c.args.n c.args.m c.greatest_common_divisor-divisor.result c.greatest_common_divisor-divisor.ensures.divisor c.requires;
  reduced = lowest_terms c.args.n c.args.m c.greatest_common_divisor-divisor.result c.greatest_common_divisor-divisor.ensures.divisor c.greatest_common_divisor-divisor.ensures.some;
}

pub returns : goal.returns
returns c = same_value c.args.n c.args.m c.greatest_common_divisor-divisor.result c.greatest_common_divisor-divisor.ensures.divisor
