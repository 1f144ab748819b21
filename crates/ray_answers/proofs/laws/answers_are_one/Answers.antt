use Rattle.ray_answers.proofs.OneAnswer as one
use Rattle.ray_answers.proofs.laws.answers_are_one.Goals as goal

pub returns : goal.returns
returns c = one.answers_are_one
