-- From the root down, along the nodes that were entered last.
use Rattle.std.proofs.Common.{◌≡◌, ◌-◌, ◌/◌, ◌^◌, ◌≤◌, List, Some, Ok, Err, sym, subst, arith}
use Rattle.std.specs.Prelude.{IfSome}
use Rattle.svo_base.specs.declared.grids.TheConstants.{MAX_DEPTH}
use Rattle.octree_specs.specs.Cells.{Cell}
use Rattle.octree_specs.specs.Formats.{StandFor}
use Rattle.node_file.specs.FileView.{FileView}
use Rattle.node_check.specs.Walks.{GivesNext}
use Rattle.node_check.proofs.Cursoring.{walk_told, walk_inside, walk_small}
use Rattle.node_check.proofs.NextCells.{Unders, power_some}
use Rattle.node_check.proofs.Walks.{err_is}
use Rattle.node_check.proofs.cursor.CellWalk.next.Goals as goal

pub next_under-requires-clause-code : goal.next_under-requires-clause-code
next_under-requires-clause-code g c = power_some (MAX_DEPTH - c.args.self.now.depth)

pub returns-in_err-next-clause-told : goal.returns-in_err-next-clause-told
returns-in_err-next-clause-told g c =
    subst
    (λ r. IfSome (g.R.Records.file c.args.nodes.now).words
    (λ words. (cells : List Cell) → StandFor (g.R.Records.file c.args.nodes.now).format (g.R.Records.file c.args.nodes.now).grid.depth words cells → GivesNext cells c.args.self.now.from r))
    (sym (err_is c.from_residual.result c.in_err-next.field-0.0 c.from_residual.ensures))
    (walk_told (g.R.Records.file c.args.nodes.now) c.args.self.now c.requires.on (Err c.in_err-next.field-0.0) tt c.in_err-next.ensures.told)

pub overflow_add-self : goal.overflow_add-self
overflow_add-self g c =
    let inside : (c.args.self.now.from ≤ c.in-Some.code) × (c.in-Some.code / 8 ^ c.args.self.now.depth ≡ 0) =
    subst (λ o. IfSome o (λ cell. (c.args.self.now.from ≤ cell) × (cell / 8 ^ c.args.self.now.depth ≡ 0))) c.in-Some.is c.in_ok-next.ensures.inside in
    omega (arith, walk_small (g.R.Records.file c.args.nodes.now) c.args.self.now c.requires.on c.in-Some.code inside.1)

pub returns-in-Some-clause-told : goal.returns-in-Some-clause-told
returns-in-Some-clause-told g c =
    let file : FileView = g.R.Records.file c.args.nodes.now in
    walk_told file c.args.self.now c.requires.on (Ok (Some c.in-Some.code))
    (subst (λ o. IfSome o (λ cell. (c.args.self.now.from ≤ cell) × (cell / 8 ^ c.args.self.now.depth ≡ 0))) c.in-Some.is c.in_ok-next.ensures.inside)
    (subst (λ o. Unders file.words file.format c.args.self.now.depth 0 c.args.self.now.root.number c.args.self.now.from (Ok o)) c.in-Some.is c.in_ok-next.ensures.told)

pub returns-in-Some-clause-inside : goal.returns-in-Some-clause-inside
returns-in-Some-clause-inside g c =
    walk_inside (g.R.Records.file c.args.nodes.now) c.args.self.now c.requires.on (Some c.in-Some.code)
    (subst (λ o. IfSome o (λ cell. (c.args.self.now.from ≤ cell) × (cell / 8 ^ c.args.self.now.depth ≡ 0))) c.in-Some.is c.in_ok-next.ensures.inside)

pub returns-in_default-clause-told : goal.returns-in_default-clause-told
returns-in_default-clause-told g c =
    walk_told (g.R.Records.file c.args.nodes.now) c.args.self.now c.requires.on (Ok c.in_ok-next.next) c.in_ok-next.ensures.inside c.in_ok-next.ensures.told
