-- A file has fewer words than there are numbers of 64 bits, so that it has none of the number that empty places have.
use Rattle.std.proofs.Common.{◌<◌, ◌^◌, subst}
use Rattle.recent_words.proofs.Remembering.{none_yet}
use Rattle.recent_words.proofs.reading.RecentWords.new.Goals as goal

pub invariant_of-result : goal.invariant_of-result
invariant_of-result g c = record {
  right = none_yet (g.R.Records.file c.args.nodes.now) c.new.result (subst (λ n. n < 2 ^ 64) c.count_records.ensures c.count_records.type_inv) c.new.ensures;
}
