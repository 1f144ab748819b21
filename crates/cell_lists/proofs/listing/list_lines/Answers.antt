-- A line more for each cell.
use Rattle.std.proofs.Common.{rules, ◌≡◌, ◌+◌, ◌^◌, ◌<◌, ◌≤◌, None, Some, Ok, refl, subst, ◌∙◌, arith}
use Rattle.std.specs.Prelude.{IfSome}
use Rattle.node_check.specs.Cursors.{IsOn}
use Rattle.node_file.specs.FileView.{FileView}
use Rattle.cell_lists.specs.Lists.{cell_line}
use Rattle.cell_lists.proofs.Listed.{Nexts, listed_first, listed_line, listed_cut, listed_end, code_few}
use Rattle.cell_lists.proofs.listing.list_lines.Goals as goal

pub cells-init : goal.cells-init
cells-init g c = record {
  on = c.requires.on;
  from = omega (arith, c.requires.from);
  room = c.requires.room;
  inside = omega arith;
  listed = listed_first (g.R.Records.file c.args.nodes.now).format (g.R.Records.file c.args.nodes.now).grid.depth (g.O.ByteSink.written c.args.out.now) (g.O.ByteSink.written c.args.out.now) c.args.block.now
      (g.R.Records.file c.args.nodes.now).words c.args.walk.now.from c.requires.from refl;
  looked = omega arith;
  same = refl;
  lender = refl;
  nodes_later = omega arith;
  out_later = omega arith;
}

pub returns-in-Ok-None-clause-told : goal.returns-in-Ok-None-clause-told
returns-in-Ok-None-clause-told g c =
    let file : FileView = g.R.Records.file c.args.nodes.now in
    let here : FileView = g.R.Records.file c.cells.nodes in
    listed_end file.format file.grid.depth (g.O.ByteSink.written c.args.out.now) (g.O.ByteSink.written c.cells.out) c.cells.block file.words c.cells.used c.cells.walk.from
    (subst (λ (f : FileView). Nexts f.words f.format f.grid.depth c.cells.walk.from (Ok None)) c.cells.invariant.same
    (subst (λ o. Nexts here.words here.format here.grid.depth c.cells.walk.from (Ok o)) c.in-Ok-None.field-0-is c.in-Ok-None.ensures.told))
    c.cells.invariant.listed

pub cell_line-line-requires : goal.cell_line-line-requires
cell_line-line-requires g c =
    let here : FileView = g.R.Records.file c.cells.nodes in
    let inside : (c.cells.walk.from ≤ c.in-Ok-Some.code) × (c.in-Ok-Some.code < 8 ^ here.grid.depth) =
    subst (λ o. IfSome o (λ code. (c.cells.walk.from ≤ code) × (code < 8 ^ here.grid.depth))) c.in-Ok-Some.field-0-is c.in-Ok-Some.ensures.inside in
    code_few (g.R.Records.file c.args.nodes.now) c.cells.invariant.on.framed c.in-Ok-Some.code (subst (λ (f : FileView). c.in-Ok-Some.code < 8 ^ f.grid.depth) c.cells.invariant.same inside.1)

pub returns-in-Err-append-clause-told : goal.returns-in-Err-append-clause-told
returns-in-Err-append-clause-told g c =
    listed_cut (g.R.Records.file c.args.nodes.now).format (g.R.Records.file c.args.nodes.now).grid.depth (g.O.ByteSink.written c.args.out.now) (g.O.ByteSink.written c.cells.out) c.cells.block
    (g.R.Records.file c.args.nodes.now).words c.cells.used c.cells.walk.from (g.O.ByteSink.written c.append.new.sink) c.append.new.block c.in-Err-append.ensures.front c.cells.invariant.listed

pub cells-preserved : goal.cells-preserved
cells-preserved g c =
    let file : FileView = g.R.Records.file c.args.nodes.now in
    let here : FileView = g.R.Records.file c.cells.nodes in
    let before = c.cells.invariant in
    let inside : (c.cells.walk.from ≤ c.in-Ok-Some.code) × (c.in-Ok-Some.code < 8 ^ here.grid.depth) =
    subst (λ o. IfSome o (λ code. (c.cells.walk.from ≤ code) × (code < 8 ^ here.grid.depth))) c.in-Ok-Some.field-0-is c.in-Ok-Some.ensures.inside in
    let below : c.in-Ok-Some.code < 8 ^ file.grid.depth = subst (λ (f : FileView). c.in-Ok-Some.code < 8 ^ f.grid.depth) before.same inside.1 in
    let from : c.next.new.self.from ≡ c.in-Ok-Some.code + 1 = subst (λ o. IfSome o (λ code. c.next.new.self.from ≡ code + 1)) c.in-Ok-Some.field-0-is c.in-Ok-Some.ensures.from in
    let line : c.as_bytes.result.now ≡ cell_line c.in-Ok-Some.code = search (rules, c.as_bytes.ensures.value, c.as_str.ensures.value, c.cell_line-line.ensures.bytes) in
    record {
      on = subst (λ (f : FileView). IsOn f c.next.new.self) before.same c.next.ensures.on;
      from = omega (arith, from, below);
      room = c.append.ensures.room ∙ before.room;
      inside = c.in-Ok.ensures.inside;
      listed = listed_line file.format file.grid.depth (g.O.ByteSink.written c.args.out.now) (g.O.ByteSink.written c.cells.out) c.cells.block file.words c.cells.used c.in-Ok.waiting c.cells.walk.from c.in-Ok-Some.code
          c.next.new.self.from (g.O.ByteSink.written c.append.new.sink) c.append.new.block c.as_bytes.result.now
          (subst (λ (f : FileView). Nexts f.words f.format f.grid.depth c.cells.walk.from (Ok (Some c.in-Ok-Some.code))) before.same
          (subst (λ o. Nexts here.words here.format here.grid.depth c.cells.walk.from (Ok o)) c.in-Ok-Some.field-0-is c.in-Ok-Some.ensures.told))
          from line c.in-Ok.ensures.given c.append.ensures.front before.listed;
      looked = omega (arith, before.looked, c.next.ensures.looked);
      same = c.next.ensures.same ∙ before.same;
      lender = c.next.ensures.lender ∙ before.lender;
      nodes_later = omega (arith, before.nodes_later, c.next.ensures.cause.later);
      out_later = omega (arith, before.out_later, c.append.ensures.cause.later);
    }
