-- Each place is halved once.
use Rattle.std.proofs.Common.{◌+◌, ◌*◌, ◌/◌, ◌%◌, ◌^◌, ap, ◌∙◌, arith}
use Rattle.slice_view.specs.Bands.{across, along_columns, along_rows}
use Rattle.slice_view.proofs.ChildSquares.{place_small, code_small, child_square}
use Rattle.slice_view.proofs.squares.Square.child.Goals as goal

pub overflow_mul-result : goal.overflow_mul-result
overflow_mul-result c = omega (arith, code_small c.args.depth c.args.self.now.height c.args.self.now.code c.requires.depth c.requires.square.code)

pub overflow_add-result : goal.overflow_add-result
overflow_add-result c = omega (arith, c.requires.place, code_small c.args.depth c.args.self.now.height c.args.self.now.code c.requires.depth c.requires.square.code)

pub half-requires-clause-parent : goal.half-requires-clause-parent
half-requires-clause-parent c = place_small (across c.args.axis) c.args.depth c.args.self.now.height c.args.self.now.code c.args.self.now.layer c.requires.depth c.requires.square.layer

pub half-requires-2-clause-parent : goal.half-requires-2-clause-parent
half-requires-2-clause-parent c = place_small (along_columns c.args.axis) c.args.depth c.args.self.now.height c.args.self.now.code c.args.self.now.column c.requires.depth c.requires.square.column

pub half-requires-3-clause-parent : goal.half-requires-3-clause-parent
half-requires-3-clause-parent c = place_small (along_rows c.args.axis) c.args.depth c.args.self.now.height c.args.self.now.code c.args.self.now.row c.requires.depth c.requires.square.row

pub returns-clause-square : goal.returns-clause-square
returns-clause-square c =
    child_square c.args.depth c.args.axis c.args.self.now c.args.place c.half.result c.half-2.result c.half-3.result c.requires.square c.requires.above c.requires.place
    (c.half.ensures ∙ ap (λ n. 2 * c.args.self.now.layer + c.args.place / 2 ^ n % 2) c.number.ensures.value)
    (c.half-2.ensures ∙ ap (λ n. 2 * c.args.self.now.column + c.args.place / 2 ^ n % 2) c.of_columns.ensures.value)
    (c.half-3.ensures ∙ ap (λ n. 2 * c.args.self.now.row + c.args.place / 2 ^ n % 2) c.of_rows.ensures.value)
