-- A line, the end, or what stops the reading.
use Rattle.ply_text.specs.Reading.{reading}
use Rattle.ply_text.specs.Calls.{line_piece}
use Rattle.ray_answers.proofs.LineRuns.{line_given, no_line_given, line_fault_given, line_read, end_read, fault_read}
use Rattle.ray_answers.proofs.lines.read_line.Goals as goal

pub returns-in-Ok-Some-clause-call : goal.returns-in-Ok-Some-clause-call
returns-in-Ok-Some-clause-call g c =
    let a = reading c.args.tokens.now in
    let b = reading c.next_line.follows.lender-at-none in
    let call = line_given a b c.next_line.result c.in-Ok-Some.field-0 c.in-Ok-Some.line c.in-Ok-Some.is c.in-Ok-Some.field-0-is c.next_line.follows.holds-at-none.1 in
    line_read c.args.kind a b (line_piece c.in-Ok-Some.line) c.meaning.result c.line_of.result c.requires.free call c.meaning.ensures c.line_of.ensures

pub returns-in-Ok-None-clause-call : goal.returns-in-Ok-None-clause-call
returns-in-Ok-None-clause-call g c =
    let a = reading c.args.tokens.now in
    let b = reading c.next_line.follows.lender-at-none in
    end_read c.args.kind a b c.requires.free (no_line_given a b c.next_line.result c.in-Ok-None.field-0 c.in-Ok-None.is c.in-Ok-None.field-0-is c.next_line.follows.holds-at-none.1)

pub returns-in-Err-clause-call : goal.returns-in-Err-clause-call
returns-in-Err-clause-call g c =
    let a = reading c.args.tokens.now in
    let b = reading c.next_line.follows.lender-at-none in
    fault_read c.args.kind a b c.in-Err.fault c.stop_of.result c.requires.free (line_fault_given a b c.next_line.result c.in-Err.fault c.in-Err.is c.next_line.follows.holds-at-none.1) c.stop_of.ensures
