-- Three bits are one octal digit.
use Rattle.std.proofs.Common.{◌/◌, ap}
use Rattle.level_queues.proofs.Digits.{octal_digits}
use Rattle.level_queues.proofs.codes.ancestor.Goals as goal

pub returns : goal.returns
returns c = ap (λ n. c.args.code / n) (octal_digits c.args.height)
