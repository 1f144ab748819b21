use Rattle.ray_answers.proofs.OneAnswer.{fronts_of_answers}
use Rattle.ray_answers.proofs.laws.fronts_are_of_all_answers.Goals as goal

pub returns : goal.returns
returns c = fronts_of_answers
