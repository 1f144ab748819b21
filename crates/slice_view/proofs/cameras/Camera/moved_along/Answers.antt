use Rattle.std.proofs.Common.{◌≡◌, ◌^◌, ◌≤◌, get_or, length, rules, arith, pos, to_z-of_z}
use Rattle.std.specs.Prelude.{unsigned_abs}
use Rattle.std.proofs.lemmas.Int.{ints}
use Rattle.std.proofs.lemmas.List.Elements.{All-get_or}
use Rattle.slice_view.proofs.cameras.Camera.moved_along.Goals as goal

pub overflow_add-result : goal.overflow_add-result
overflow_add-result c =
    let axes : length c.args.vector.now ≡ 3 = search rules in
    let near : unsigned_abs (get_or c.args.vector.now c.args.axis (pos 0)) ≤ 2 ^ 39 = All-get_or (λ z. unsigned_abs z ≤ 2 ^ 39) c.args.vector.now c.args.axis (pos 0) (omega (arith, c.requires.axis, axes)) c.requires.vector in
    grind (arith, ints, to_z-of_z)

pub returns-clause-value : goal.returns-clause-value
returns-clause-value c =
    let axes : length c.args.vector.now ≡ 3 = search rules in
    let near : unsigned_abs (get_or c.args.vector.now c.args.axis (pos 0)) ≤ 2 ^ 39 = All-get_or (λ z. unsigned_abs z ≤ 2 ^ 39) c.args.vector.now c.args.axis (pos 0) (omega (arith, c.requires.axis, axes)) c.requires.vector in
    grind (arith, ints, to_z-of_z)

pub returns-clause-within : goal.returns-clause-within
returns-clause-within c =
    let axes : length c.args.vector.now ≡ 3 = search rules in
    let near : unsigned_abs (get_or c.args.vector.now c.args.axis (pos 0)) ≤ 2 ^ 39 = All-get_or (λ z. unsigned_abs z ≤ 2 ^ 39) c.args.vector.now c.args.axis (pos 0) (omega (arith, c.requires.axis, axes)) c.requires.vector in
    grind (arith, ints, to_z-of_z)
