use Rattle.std.proofs.Common.{◌∙◌, ap, rules}
use Rattle.ply_text.specs.Reading.{reading}
use Rattle.ply_text.proofs.Callers.{starts}
use Rattle.ply_reader.specs.declared.scales.Scale.{Scale}
use Rattle.ply_reader.specs.MeshCalls.{mesh_reading}
use Rattle.ply_reader.proofs.GatheredMeshes.{gave_nothing}
use Rattle.ply_reader.proofs.WholeReads.{answers, later_by, rose_by, later_source, rose_source}
use Rattle.ply_reader.proofs.whole_mesh.read_mesh.Goals as goal

pub returns-clause-told : goal.returns-clause-told
returns-clause-told g c = λ text told.
    let scale : Scale = record { decimals = c.args.decimals; cut = c.args.cut } in
    let start = reading c.new-tokens.result in
    let begins = c.new-tokens.ensures.start in
    let gave = c.take_mesh.ensures.gave scale start (gave_nothing scale start (mesh_reading c.begin-reader.new.tokens c.begin-reader.result) c.begin-reader.ensures.begins) in
    answers scale start c.take_mesh.new.tokens c.take_mesh.new.reader text _ _ (record { place = ap (λ r. r.place) begins; left = ap (λ r. r.left) begins ∙ told; stands = starts c.new-tokens.result text begins told }) (search rules) gave

pub returns-clause-later : goal.returns-clause-later
returns-clause-later g c =
    let scale : Scale = record { decimals = c.args.decimals; cut = c.args.cut } in
    let start = reading c.new-tokens.result in
    let gave = c.take_mesh.ensures.gave scale start (gave_nothing scale start (mesh_reading c.begin-reader.new.tokens c.begin-reader.result) c.begin-reader.ensures.begins) in
    let later = later_by scale start (mesh_reading c.take_mesh.new.tokens c.take_mesh.new.reader) _ gave in
    later_source later (ap (λ r. r.faults) c.new-tokens.ensures.start) (search rules)

pub returns-clause-cause : goal.returns-clause-cause
returns-clause-cause g c = λ is.
    let scale : Scale = record { decimals = c.args.decimals; cut = c.args.cut } in
    let start = reading c.new-tokens.result in
    let gave = c.take_mesh.ensures.gave scale start (gave_nothing scale start (mesh_reading c.begin-reader.new.tokens c.begin-reader.result) c.begin-reader.ensures.begins) in
    let rose = rose_by scale start (mesh_reading c.take_mesh.new.tokens c.take_mesh.new.reader) _ gave is in
    rose_source rose (ap (λ r. r.faults) c.new-tokens.ensures.start) (search rules)
