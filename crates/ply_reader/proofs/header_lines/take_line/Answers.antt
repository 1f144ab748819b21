use Rattle.std.proofs.Common.{sym, subst}
use Rattle.ply_text.specs.Reading.{reading}
use Rattle.ply_text.specs.Calls.{line_piece}
use Rattle.ply_reader.specs.Declarations.{declared}
use Rattle.ply_reader.specs.Cursors.{mapped}
use Rattle.ply_reader.specs.HeaderSteps.{header_line, taken_from}
use Rattle.ply_reader.specs.Runs.{Runs}
use Rattle.ply_reader.proofs.HeaderRuns.{line_given, no_line_given, line_fault_given, taken_line, taken_header_end, taken_line_fault}
use Rattle.ply_reader.proofs.header_lines.take_line.Goals as goal

pub returns-in-Ok-Some-clause-runs : goal.returns-in-Ok-Some-clause-runs
returns-in-Ok-Some-clause-runs g c =
    let a = reading c.args.tokens.now in
    let b = reading c.next_line.follows.lender-at-none in
    let d = declared c.args.header.now in
    let next = declared c.take.new.self in
    let call = line_given a b c.next_line.result c.in-Ok-Some.field-0 c.in-Ok-Some.line c.in-Ok-Some.is c.in-Ok-Some.field-0-is c.next_line.follows.holds-at-none.1 in
    subst (λ r. Runs (header_line d) a b (mapped (taken_from next) r)) (sym c.refused_at.ensures)
    (taken_line d next a b (line_piece c.in-Ok-Some.line) c.take.result c.requires.free call c.take.ensures.line)

pub returns-in-Ok-None-clause-runs : goal.returns-in-Ok-None-clause-runs
returns-in-Ok-None-clause-runs g c =
    let a = reading c.args.tokens.now in
    let b = reading c.next_line.follows.lender-at-none in
    let call = no_line_given a b c.next_line.result c.in-Ok-None.field-0 c.in-Ok-None.is c.in-Ok-None.field-0-is c.next_line.follows.holds-at-none.1 in
    taken_header_end (declared c.args.header.now) a b c.cut_off.result c.place.result c.requires.free call c.place.ensures c.cut_off.ensures

pub returns-in-Err-clause-runs : goal.returns-in-Err-clause-runs
returns-in-Err-clause-runs g c =
    let a = reading c.args.tokens.now in
    let b = reading c.next_line.follows.lender-at-none in
    let call = line_fault_given a b c.next_line.result c.in-Err.fault c.in-Err.is c.next_line.follows.holds-at-none.1 in
    taken_line_fault (declared c.args.header.now) a b c.in-Err.fault c.of_text.result c.requires.free call c.of_text.ensures
