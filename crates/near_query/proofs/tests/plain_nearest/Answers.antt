-- A code that has no bit at or above three for each level is one of the grid's.
use Rattle.std.proofs.Common.{◌≡◌, ℕ, ◌+◌, ◌*◌, ◌/◌, ◌%◌, ◌^◌, ◌<◌, get_or, arith, sym, ap, subst}
use Rattle.std.proofs.lemmas.Nat.{div-add-mod', mod_below, pow_pos}
use Rattle.morton_code.proofs.Heights.{eights}
use Rattle.near_query.proofs.tests.plain_nearest.Goals as goal

below : (code depth : ℕ) → code / 2 ^ (3 * depth) ≡ 0 → code < 8 ^ depth
below code depth none =
    let parts : code / 2 ^ (3 * depth) * 2 ^ (3 * depth) + code % 2 ^ (3 * depth) ≡ code = div-add-mod' code (2 ^ (3 * depth)) in
    let front : code / 2 ^ (3 * depth) * 2 ^ (3 * depth) ≡ 0 * 2 ^ (3 * depth) = ap (λ n. n * 2 ^ (3 * depth)) none in
    let rest : code % 2 ^ (3 * depth) < 2 ^ (3 * depth) = mod_below code (2 ^ (3 * depth)) (pow_pos (3 * depth)) in
    let short : code < 2 ^ (3 * depth) = omega (arith, parts, front, rest) in
    subst (λ n. code < n) (sym (eights depth)) short

pub cube_of-requires-clause-code : goal.cube_of-requires-clause-code
cube_of-requires-clause-code c = below (get_or c.args.codes.now c.loop-code.code-index 0) c.depth-depth.result c.if-code-depth-eq0.true
