-- From the root down.
use Rattle.std.proofs.Common.{◌≡◌, ◌-◌, ◌/◌, ◌^◌, ◌≤◌, Ok, Err, sym, ap, subst, ◌∙◌}
use Rattle.std.specs.Prelude.{IfSome, List}
use Rattle.svo_base.specs.declared.grids.TheConstants.{MAX_DEPTH}
use Rattle.svo_base.specs.GridShape.{GridShape}
use Rattle.octree_specs.specs.Cells.{Cell}
use Rattle.octree_specs.specs.Formats.{StandFor}
use Rattle.node_file.specs.FileView.{FileView}
use Rattle.node_check.specs.Cursors.{IsKept}
use Rattle.node_check.specs.Walks.{GivesNext}
use Rattle.node_check.proofs.NextCells.{Unders, power_some, next_inside, next_told}
use Rattle.node_check.proofs.Walks.{root_leads, err_is}
use Rattle.node_check.proofs.following.next_cell.Goals as goal

pub next_under-requires-clause-code : goal.next_under-requires-clause-code
next_under-requires-clause-code g c = power_some (MAX_DEPTH - c.depth-depth.result)

pub returns-in_err-next-clause-told : goal.returns-in_err-next-clause-told
returns-in_err-next-clause-told g c =
    let deep : c.depth-depth.result ≡ (g.R.Records.file c.args.nodes.now).grid.depth = c.depth-depth.ensures.value ∙ ap (λ (s : GridShape). s.depth) c.grid.ensures.value in
    subst
    (λ r. IfSome (g.R.Records.file c.args.nodes.now).words
    (λ words. (cells : List Cell) → StandFor (g.R.Records.file c.args.nodes.now).format (g.R.Records.file c.args.nodes.now).grid.depth words cells → GivesNext cells c.args.from r))
    (sym (err_is c.from_residual-in_err-next.result c.in_err-next.field-0.0 c.from_residual-in_err-next.ensures))
    (next_told (g.R.Records.file c.args.nodes.now).words (g.R.Records.file c.args.nodes.now).format (g.R.Records.file c.args.nodes.now).grid.depth c.depth-depth.result c.args.from c.in_ok-node.node.number
    (Err c.in_err-next.field-0.0) deep (root_leads (g.R.Records.file c.args.nodes.now) c.grid.ensures.framed 0 c.in_ok-node.node.number (power_some (g.R.Records.file c.args.nodes.now).grid.depth) c.in_ok-node.ensures.last) tt
    (subst (λ (f : FileView). Unders f.words f.format c.depth-depth.result 0 c.in_ok-node.node.number c.args.from (Err c.in_err-next.field-0.0)) c.in_ok-node.ensures.same c.in_err-next.ensures.told))

pub returns-clause-told : goal.returns-clause-told
returns-clause-told g c =
    let deep : c.depth-depth.result ≡ (g.R.Records.file c.args.nodes.now).grid.depth = c.depth-depth.ensures.value ∙ ap (λ (s : GridShape). s.depth) c.grid.ensures.value in
    next_told (g.R.Records.file c.args.nodes.now).words (g.R.Records.file c.args.nodes.now).format (g.R.Records.file c.args.nodes.now).grid.depth c.depth-depth.result c.args.from c.in_ok-node.node.number
    (Ok c.in_ok-next.next) deep (root_leads (g.R.Records.file c.args.nodes.now) c.grid.ensures.framed 0 c.in_ok-node.node.number (power_some (g.R.Records.file c.args.nodes.now).grid.depth) c.in_ok-node.ensures.last)
    (subst (λ d. IfSome c.in_ok-next.next (λ cell. (c.args.from ≤ cell) × (cell / 8 ^ d ≡ 0))) deep c.in_ok-next.ensures.inside)
    (subst (λ (f : FileView). Unders f.words f.format c.depth-depth.result 0 c.in_ok-node.node.number c.args.from (Ok c.in_ok-next.next)) c.in_ok-node.ensures.same c.in_ok-next.ensures.told)

pub returns-clause-inside : goal.returns-clause-inside
returns-clause-inside g c =
    let deep : c.depth-depth.result ≡ (g.R.Records.file c.args.nodes.now).grid.depth = c.depth-depth.ensures.value ∙ ap (λ (s : GridShape). s.depth) c.grid.ensures.value in
    next_inside c.args.from (g.R.Records.file c.args.nodes.now).grid.depth c.in_ok-next.next
    (subst (λ d. IfSome c.in_ok-next.next (λ cell. (c.args.from ≤ cell) × (cell / 8 ^ d ≡ 0))) deep c.in_ok-next.ensures.inside)

pub next_under-requires-clause-kept : goal.next_under-requires-clause-kept
next_under-requires-clause-kept g c =
    subst (λ (f : FileView). IsKept f.words f.totals.records c.at-path.result) (sym c.in_ok-node.ensures.same)
    (c.at-path.ensures (g.R.Records.file c.args.nodes.now).words (g.R.Records.file c.args.nodes.now).totals.records c.in_ok-node.ensures.word)
