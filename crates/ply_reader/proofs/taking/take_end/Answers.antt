use Rattle.ply_text.specs.Reading.{reading}
use Rattle.ply_reader.proofs.EndRuns.{place_given, no_place_given, place_fault_given, taken_text_end, taken_trailing, taken_end_fault}
use Rattle.ply_reader.proofs.taking.take_end.Goals as goal

pub returns-in-Ok-None-clause-runs : goal.returns-in-Ok-None-clause-runs
returns-in-Ok-None-clause-runs g c =
    let a = reading c.args.tokens.now in
    let b = reading c.next_place.new.self in
    taken_text_end a b c.place.result c.requires.free (no_place_given a b c.next_place.result c.in-Ok-None.field-0 c.in-Ok-None.is c.in-Ok-None.field-0-is c.next_place.ensures.call) c.place.ensures

pub returns-in-Ok-Some-clause-runs : goal.returns-in-Ok-Some-clause-runs
returns-in-Ok-Some-clause-runs g c =
    let a = reading c.args.tokens.now in
    let b = reading c.next_place.new.self in
    taken_trailing a b c.in-Ok-Some.place c.requires.free (place_given a b c.next_place.result c.in-Ok-Some.field-0 c.in-Ok-Some.place c.in-Ok-Some.is c.in-Ok-Some.field-0-is c.next_place.ensures.call)

pub returns-in-Err-clause-runs : goal.returns-in-Err-clause-runs
returns-in-Err-clause-runs g c =
    let a = reading c.args.tokens.now in
    let b = reading c.next_place.new.self in
    taken_end_fault a b c.in-Err.fault c.of_text.result c.requires.free (place_fault_given a b c.next_place.result c.in-Err.fault c.in-Err.is c.next_place.ensures.call) c.of_text.ensures

pub returns-in-Ok-None-clause-nothing : goal.returns-in-Ok-None-clause-nothing
returns-in-Ok-None-clause-nothing g c =
    let a = reading c.args.tokens.now in
    let b = reading c.next_place.new.self in
    λ text told. ((no_place_given a b c.next_place.result c.in-Ok-None.field-0 c.in-Ok-None.is c.in-Ok-None.field-0-is c.next_place.ensures.call).whole text told).1
