-- A code that has no bit at or above three for each level is one of the grid's.
use Rattle.std.proofs.Common.{◌≡◌, ℕ, ◌+◌, ◌*◌, ◌/◌, ◌%◌, ◌^◌, ◌<◌, arith, sym, ap, subst}
use Rattle.std.proofs.lemmas.Nat.{div-add-mod', mod_below, pow_pos}
use Rattle.morton_code.proofs.Heights.{eights}
use Rattle.query_tests.proofs.slice_view_tests.plain_sample.Goals as goal

below : (code depth bound : ℕ) → bound ≡ depth → code / 2 ^ (3 * bound) ≡ 0 → code < 8 ^ depth
below code depth bound is none =
    let parts : code / 2 ^ (3 * bound) * 2 ^ (3 * bound) + code % 2 ^ (3 * bound) ≡ code = div-add-mod' code (2 ^ (3 * bound)) in
    let front : code / 2 ^ (3 * bound) * 2 ^ (3 * bound) ≡ 0 * 2 ^ (3 * bound) = ap (λ n. n * 2 ^ (3 * bound)) none in
    let rest : code % 2 ^ (3 * bound) < 2 ^ (3 * bound) = mod_below code (2 ^ (3 * bound)) (pow_pos (3 * bound)) in
    let short : code < 2 ^ (3 * bound) = omega (arith, parts, front, rest) in
    subst (λ n. code < 8 ^ n) is (subst (λ n. code < n) (sym (eights bound)) short)

pub has_in-requires-clause-code : goal.has_in-requires-clause-code
has_in-requires-clause-code c = below c.args.code c.args.case.now.grid.now.depth c.depth-depth.result c.depth-depth.ensures.value c.if-code-depth-eq0.true
