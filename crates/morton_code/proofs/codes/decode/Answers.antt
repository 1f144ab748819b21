use Rattle.std.proofs.Common.{◌∙◌}
use Rattle.morton_code.proofs.Coordinates.{coordinate_shifted, code_of_coordinates}
use Rattle.morton_code.proofs.codes.decode.Goals as goal

pub returns-clause-y : goal.returns-clause-y
returns-clause-y c = c.gather-2.ensures.value ∙ coordinate_shifted 1 20 c.args.code

pub returns-clause-z : goal.returns-clause-z
returns-clause-z c = c.gather-3.ensures.value ∙ coordinate_shifted 2 20 c.args.code

pub returns-clause-code : goal.returns-clause-code
returns-clause-code c =
    rw (c.gather.ensures.value, c.gather-2.ensures.value, c.gather-3.ensures.value, coordinate_shifted 1 20 c.args.code, coordinate_shifted 2 20 c.args.code)
    (code_of_coordinates 20 c.args.code c.requires)
