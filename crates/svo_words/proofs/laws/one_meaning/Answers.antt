use Rattle.svo_words.proofs.Meanings.{one_meaning_is}
use Rattle.svo_words.proofs.laws.one_meaning.Goals as goal

pub returns : goal.returns
returns c = one_meaning_is
