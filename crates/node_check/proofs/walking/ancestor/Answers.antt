-- Three bits are one octal digit.
use Rattle.std.proofs.Common.{◌/◌, ap}
use Rattle.node_check.proofs.Walks.{octal_digits}
use Rattle.node_check.proofs.walking.ancestor.Goals as goal

pub returns : goal.returns
returns c = ap (λ n. c.args.code / n) (octal_digits c.args.height)
