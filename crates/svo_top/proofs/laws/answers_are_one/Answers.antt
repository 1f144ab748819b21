-- From the laws of the answers to rays and of views.
use Rattle.svo_top.proofs.OneAnswer.{one_answer}
use Rattle.svo_top.proofs.laws.answers_are_one.Goals as goal

pub returns : goal.returns
returns c = one_answer c.answers_are_one.ensures c.views_are_one.ensures
