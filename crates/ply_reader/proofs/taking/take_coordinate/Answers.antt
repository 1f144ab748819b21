use Rattle.std.proofs.Common.{◌∙◌, ap, sym, subst}
use Rattle.ply_text.specs.Reading.{reading}
use Rattle.ply_text.specs.Calls.{token_piece}
use Rattle.ply_reader.specs.TokenValues.{coordinate, placed}
use Rattle.ply_reader.proofs.TokenRuns.{token_given, none_given, fault_given, IsPlaced, coordinate_placed, taken_token, taken_end, taken_fault}
use Rattle.ply_reader.proofs.taking.take_coordinate.Goals as goal

pub returns-in-Ok-Some-clause-runs : goal.returns-in-Ok-Some-clause-runs
returns-in-Ok-Some-clause-runs g c =
    let a = reading c.args.tokens.now in
    let b = reading c.next_token.follows.lender-at-none in
    let call = token_given a b c.next_token.result c.in-Ok-Some.field-0 c.in-Ok-Some.token c.in-Ok-Some.is c.in-Ok-Some.field-0-is c.next_token.follows.holds-at-none.1 in
    let token = token_piece c.in-Ok-Some.token in
    let is = c.placed.ensures.value ∙ ap (placed token.place) c.read_fixed.ensures.fixed in
    taken_token (coordinate c.args.scale.now) a b token c.placed.result c.requires.free call is
    (subst (IsPlaced token.place) (sym c.placed.ensures.value) (coordinate_placed token.place c.read_fixed.result))

pub returns-in-Ok-None-clause-runs : goal.returns-in-Ok-None-clause-runs
returns-in-Ok-None-clause-runs g c =
    let a = reading c.args.tokens.now in
    let b = reading c.next_token.follows.lender-at-none in
    let call = none_given a b c.next_token.result c.in-Ok-None.field-0 c.in-Ok-None.is c.in-Ok-None.field-0-is c.next_token.follows.holds-at-none.1 in
    taken_end (coordinate c.args.scale.now) a b c.place.result c.truncated.result c.requires.free call c.place.ensures c.truncated.ensures

pub returns-in-Err-clause-runs : goal.returns-in-Err-clause-runs
returns-in-Err-clause-runs g c =
    let a = reading c.args.tokens.now in
    let b = reading c.next_token.follows.lender-at-none in
    let call = fault_given a b c.next_token.result c.in-Err.fault c.in-Err.is c.next_token.follows.holds-at-none.1 in
    taken_fault (coordinate c.args.scale.now) a b c.in-Err.fault c.of_text.result c.requires.free call c.of_text.ensures
