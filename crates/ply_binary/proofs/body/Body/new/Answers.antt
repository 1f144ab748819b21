use Rattle.std.proofs.Common.{refl}
use Rattle.ply_binary.specs.Bodies.{body_text, values_then, row_then, rows_then}
use Rattle.ply_binary.specs.BodyStates.{body_left}
use Rattle.ply_binary.proofs.body.Body.new.Goals as goal

pub returns-clause-left : goal.returns-clause-left
unfolding body_left body_text values_then row_then rows_then
returns-clause-left c = λ d. refl
