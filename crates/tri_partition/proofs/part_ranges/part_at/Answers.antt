-- A code of few digits is that of more, with leading zeros.
use Rattle.std.proofs.Common.{◌^◌, ◌<◌, subst, sym, arith}
use Rattle.morton_code.proofs.Coordinates.{code_below}
use Rattle.tri_partition.proofs.ReachedParts.{few_parts, short_code}
use Rattle.tri_partition.proofs.part_ranges.part_at.Goals as goal

pub returns-clause-code : goal.returns-clause-code
returns-clause-code c = short_code c.args.split c.args.x c.args.y c.args.z c.encode.result c.requires.split c.requires.x c.requires.y c.requires.z c.encode.ensures.code

pub returns-clause-below : goal.returns-clause-below
returns-clause-below c =
    subst (λ n. n < 8 ^ c.args.split) (sym (short_code c.args.split c.args.x c.args.y c.args.z c.encode.result c.requires.split c.requires.x c.requires.y c.requires.z c.encode.ensures.code))
    (code_below c.args.split c.args.x c.args.y c.args.z)

pub overflow_cast-result : goal.overflow_cast-result
overflow_cast-result c =
    let below : c.encode.result < 8 ^ c.args.split =
    subst (λ n. n < 8 ^ c.args.split) (sym (short_code c.args.split c.args.x c.args.y c.args.z c.encode.result c.requires.split c.requires.x c.requires.y c.requires.z c.encode.ensures.code))
    (code_below c.args.split c.args.x c.args.y c.args.z) in
    record { fits = omega (arith, below, few_parts c.args.split c.requires.split) }
