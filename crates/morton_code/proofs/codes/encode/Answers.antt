use Rattle.morton_code.proofs.Spreads.{encode_is}
use Rattle.morton_code.proofs.Coordinates.{code_below, x_of_code, y_of_code, z_of_code}
use Rattle.morton_code.proofs.codes.encode.Goals as goal

pub returns-clause-code : goal.returns-clause-code
returns-clause-code c = encode_is _ _ _ _ _ _ c.spread.ensures c.spread-2.ensures c.spread-3.ensures

pub returns-clause-below : goal.returns-clause-below
returns-clause-below c = rw (encode_is _ _ _ _ _ _ c.spread.ensures c.spread-2.ensures c.spread-3.ensures) (code_below 20 c.args.x c.args.y c.args.z)

pub returns-clause-x : goal.returns-clause-x
returns-clause-x c = rw (encode_is _ _ _ _ _ _ c.spread.ensures c.spread-2.ensures c.spread-3.ensures) (x_of_code 20 c.args.x c.args.y c.args.z c.requires.x)

pub returns-clause-y : goal.returns-clause-y
returns-clause-y c = rw (encode_is _ _ _ _ _ _ c.spread.ensures c.spread-2.ensures c.spread-3.ensures) (y_of_code 20 c.args.x c.args.y c.args.z c.requires.y)

pub returns-clause-z : goal.returns-clause-z
returns-clause-z c = rw (encode_is _ _ _ _ _ _ c.spread.ensures c.spread-2.ensures c.spread-3.ensures) (z_of_code 20 c.args.x c.args.y c.args.z c.requires.z)
