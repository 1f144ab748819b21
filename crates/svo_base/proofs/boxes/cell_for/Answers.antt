-- What is rounded up is the width divided by the side of a grid with cells of side 1.
use Rattle.std.proofs.Common.{◌≡◌, ◌≤◌, ◌<◌, ◌+◌, ◌*◌, ◌^◌, ℕ, ◌/◌, ◌%◌, min, max, arith, ap, ◌∙◌}
use Rattle.std.proofs.Math.Pow.{pow_mono}
use Rattle.std.proofs.Math.Nat.{mod-eq_of_lt}
use Rattle.std.proofs.lemmas.Nat.{pow_pos}
use Rattle.svo_base.specs.declared.grids.TheConstants.{MAX_DEPTH}
use Rattle.svo_base.proofs.Widening.{least_side, side_within}
use Rattle.svo_base.proofs.boxes.cell_for.Goals as goal

abbrev rounded : ℕ → ℕ → ℕ
rounded width side = max (width / side + min 1 (width % side)) 1

rounded_is : (width depth up result : ℕ) → depth ≤ MAX_DEPTH → up ≡ width / (1 * 2 ^ depth % 2 ^ 64) + min 1 (width % (1 * 2 ^ depth % 2 ^ 64)) → result ≡ max up 1
    → result ≡ rounded width (2 ^ depth)
rounded_is width depth up result small is_up is_result =
    let less : 1 * 2 ^ depth < 2 ^ 64 = omega (arith, pow_mono small) in
    let same : 1 * 2 ^ depth % 2 ^ 64 ≡ 2 ^ depth = omega (arith, mod-eq_of_lt less) in
    is_result ∙ ap (λ u. max u 1) (is_up ∙ ap (λ w. width / w + min 1 (width % w)) same)

pub returns-clause-least : goal.returns-clause-least
returns-clause-least c = λ cell some wide.
    rw (rounded_is c.args.width c.args.depth c.div_ceil.result c.max.result c.requires.depth c.div_ceil.ensures c.max.ensures)
    (least_side c.args.width (2 ^ c.args.depth) cell (pow_pos c.args.depth) some wide)

pub returns-clause-narrow : goal.returns-clause-narrow
returns-clause-narrow c =
    rw (rounded_is c.args.width c.args.depth c.div_ceil.result c.max.result c.requires.depth c.div_ceil.ensures c.max.ensures)
    (side_within c.args.width (2 ^ c.args.depth) (pow_pos c.args.depth) (pow_mono c.requires.depth) c.requires.small)
