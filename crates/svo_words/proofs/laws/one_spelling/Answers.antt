use Rattle.svo_words.proofs.Meanings.{one_list}
use Rattle.svo_words.proofs.laws.one_spelling.Goals as goal

pub returns : goal.returns
returns c = one_list
