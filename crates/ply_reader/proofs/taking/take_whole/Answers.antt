use Rattle.std.proofs.Common.{◌∙◌, ap, sym, subst}
use Rattle.ply_text.specs.Reading.{reading}
use Rattle.ply_text.specs.Calls.{token_piece}
use Rattle.ply_reader.specs.TokenValues.{whole_in, within_bounds}
use Rattle.ply_reader.proofs.TokenRuns.{token_given, none_given, fault_given, IsPlaced, whole_placed, taken_token, taken_end, taken_fault}
use Rattle.ply_reader.proofs.taking.take_whole.Goals as goal

pub returns-in-Ok-Some-clause-runs : goal.returns-in-Ok-Some-clause-runs
returns-in-Ok-Some-clause-runs g c =
    let a = reading c.args.tokens.now in
    let b = reading c.next_token.follows.lender-at-none in
    let call = token_given a b c.next_token.result c.in-Ok-Some.field-0 c.in-Ok-Some.token c.in-Ok-Some.is c.in-Ok-Some.field-0-is c.next_token.follows.holds-at-none.1 in
    let token = token_piece c.in-Ok-Some.token in
    let is = c.within_bounds.ensures.value ∙ ap (within_bounds c.args.kind c.args.least c.args.bound token.place) c.read_whole.ensures in
    taken_token (whole_in c.args.kind c.args.least c.args.bound) a b token c.within_bounds.result c.requires.free call is
    (subst (IsPlaced token.place) (sym c.within_bounds.ensures.value) (whole_placed c.args.kind c.args.least c.args.bound token.place c.read_whole.result))

pub returns-in-Ok-None-clause-runs : goal.returns-in-Ok-None-clause-runs
returns-in-Ok-None-clause-runs g c =
    let a = reading c.args.tokens.now in
    let b = reading c.next_token.follows.lender-at-none in
    let call = none_given a b c.next_token.result c.in-Ok-None.field-0 c.in-Ok-None.is c.in-Ok-None.field-0-is c.next_token.follows.holds-at-none.1 in
    taken_end (whole_in c.args.kind c.args.least c.args.bound) a b c.place.result c.truncated.result c.requires.free call c.place.ensures c.truncated.ensures

pub returns-in-Err-clause-runs : goal.returns-in-Err-clause-runs
returns-in-Err-clause-runs g c =
    let a = reading c.args.tokens.now in
    let b = reading c.next_token.follows.lender-at-none in
    let call = fault_given a b c.next_token.result c.in-Err.fault c.in-Err.is c.next_token.follows.holds-at-none.1 in
    taken_fault (whole_in c.args.kind c.args.least c.args.bound) a b c.in-Err.fault c.of_text.result c.requires.free call c.of_text.ensures
