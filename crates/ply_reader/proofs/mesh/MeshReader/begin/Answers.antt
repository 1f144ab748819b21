use Rattle.std.proofs.Common.{Ok, Err, ap}
use Rattle.ply_text.specs.Reading.{reading}
use Rattle.ply_reader.specs.declared.scales.Scale.{Scale}
use Rattle.ply_reader.specs.Declarations.{declared}
use Rattle.ply_reader.specs.Cursors.{mapped}
use Rattle.ply_reader.specs.PlyMeaning.{vertices_reached}
use Rattle.ply_reader.specs.MeshCalls.{body_reading}
use Rattle.ply_reader.proofs.MeshRuns.{begins_well, begins_stopped}
use Rattle.ply_reader.proofs.Steps.{runs_given}
use Rattle.ply_reader.proofs.mesh.MeshReader.begin.Goals as goal

pub returns-in-Ok-clause-begins : goal.returns-in-Ok-clause-begins
returns-in-Ok-clause-begins g c =
    let a = reading c.args.tokens.now in
    let b = reading c.read_to_vertices.new.tokens in
    let scale : Scale = record { decimals = c.args.decimals; cut = c.args.cut } in
    let d = declared c.in-Ok.header in
    let runs = runs_given vertices_reached a b (mapped declared c.read_to_vertices.result) (Ok d) (ap (mapped declared) c.in-Ok.is) c.read_to_vertices.ensures.runs in
    begins_well scale d a b (body_reading b c.new.result) (c.new.ensures b) runs

pub returns-in-Err-clause-begins : goal.returns-in-Err-clause-begins
returns-in-Err-clause-begins g c =
    let a = reading c.args.tokens.now in
    let b = reading c.read_to_vertices.new.tokens in
    let scale : Scale = record { decimals = c.args.decimals; cut = c.args.cut } in
    let d = declared c.new-in-Err.result in
    let runs = runs_given vertices_reached a b (mapped declared c.read_to_vertices.result) (Err c.in-Err.fault) (ap (mapped declared) c.in-Err.is) c.read_to_vertices.ensures.runs in
    begins_stopped scale d a b c.in-Err.fault (body_reading b c.new-in-Err-2.result) c.new-in-Err.ensures (c.new-in-Err-2.ensures b) runs
