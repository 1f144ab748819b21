use Rattle.std.proofs.Common.{◌∙◌, ◌*◌, ap}
use Rattle.morton_code.proofs.Coordinates.{code_fits, coordinate_in_level, coordinate_of_short}
use Rattle.morton_code.proofs.Sides.{cube_from_offsets, is_shallow}
use Rattle.morton_code.proofs.cubes.cube_of.Goals as goal

pub decode-x-requires : goal.decode-x-requires
decode-x-requires c = code_fits c.args.level c.args.code (is_shallow c.args.grid.now c.args.level c.origin-origin.ensures.limits c.requires.depth) c.requires.code

pub offset-x-requires-clause-coordinate : goal.offset-x-requires-clause-coordinate
offset-x-requires-clause-coordinate c =
    rw c.decode-x.ensures.x
    (coordinate_in_level 0 c.args.level c.args.code (is_shallow c.args.grid.now c.args.level c.origin-origin.ensures.limits c.requires.depth) c.requires.code)

pub offset-y-requires-clause-coordinate : goal.offset-y-requires-clause-coordinate
offset-y-requires-clause-coordinate c =
    rw c.decode-x.ensures.y
    (coordinate_in_level 1 c.args.level c.args.code (is_shallow c.args.grid.now c.args.level c.origin-origin.ensures.limits c.requires.depth) c.requires.code)

pub offset-z-requires-clause-coordinate : goal.offset-z-requires-clause-coordinate
offset-z-requires-clause-coordinate c =
    rw c.decode-x.ensures.z
    (coordinate_in_level 2 c.args.level c.args.code (is_shallow c.args.grid.now c.args.level c.origin-origin.ensures.limits c.requires.depth) c.requires.code)

pub returns-clause-cube : goal.returns-clause-cube
returns-clause-cube c =
    let shallow = is_shallow c.args.grid.now c.args.level c.origin-origin.ensures.limits c.requires.depth in
    let side = c.side-side.result in
    let along_x = c.offset-x.ensures.value ∙ ap (λ at. side * at) (c.decode-x.ensures.x ∙ coordinate_of_short 0 c.args.level 20 c.args.code shallow c.requires.code) in
    let along_y = c.offset-y.ensures.value ∙ ap (λ at. side * at) (c.decode-x.ensures.y ∙ coordinate_of_short 1 c.args.level 20 c.args.code shallow c.requires.code) in
    let along_z = c.offset-z.ensures.value ∙ ap (λ at. side * at) (c.decode-x.ensures.z ∙ coordinate_of_short 2 c.args.level 20 c.args.code shallow c.requires.code) in
    rw (c.corner.ensures.value, c.corner-2.ensures.value, c.origin-origin.ensures.value)
    (cube_from_offsets c.args.grid.now c.args.level c.args.code side c.offset-x.result c.offset-y.result c.offset-z.result c.side-side.ensures.value along_x along_y along_z)
