-- The reader begins at the start of the text and had given nothing.
use Rattle.std.proofs.Common.{◌∙◌, [], ap, rules}
use Rattle.ply_text.specs.Reading.{reading}
use Rattle.ply_text.proofs.Callers.{starts}
use Rattle.ply_reader.specs.Gathering.{Gave}
use Rattle.ply_reader.specs.MeshCalls.{mesh_reading}
use Rattle.ply_reader.proofs.GatheredMeshes.{gave_nothing}
use Rattle.ply_reader.proofs.WholeReads.{later_source, rose_source}
use Rattle.build_core.specs.Meshes.{scale_of}
use Rattle.build_core.proofs.SpilledTexts.{text_spilled, spill_later, spill_rose}
use Rattle.build_core.proofs.spilling.spill.Goals as goal

pub returns-clause-spills : goal.returns-clause-spills
returns-clause-spills g c =
    let job = c.args.job.now in
    let start = reading c.new-tokens.result in
    let old = mesh_reading c.begin-reader.new.tokens c.begin-reader.result in
    let begins = c.new-tokens.ensures.start in
    let began : Gave (scale_of job) start [] [] old = gave_nothing (scale_of job) start old c.begin-reader.ensures.begins in
    text_spilled job start old c.spill_mesh.new.tokens c.spill_mesh.new.reader (g.I.ByteSource.rest c.args.input.now) _ (g.S.Scratch.told c.spill_mesh.new.scratch) c.spill_mesh.result
    (λ text told. record { place = ap (λ r. r.place) begins; left = ap (λ r. r.left) begins ∙ told; stands = starts c.new-tokens.result text begins told }) (search rules) began c.spill_mesh.ensures.spills

pub returns-clause-read_later : goal.returns-clause-read_later
returns-clause-read_later g c =
    let job = c.args.job.now in
    let start = reading c.new-tokens.result in
    let old = mesh_reading c.begin-reader.new.tokens c.begin-reader.result in
    let began : Gave (scale_of job) start [] [] old = gave_nothing (scale_of job) start old c.begin-reader.ensures.begins in
    let later = spill_later job start old (mesh_reading c.spill_mesh.new.tokens c.spill_mesh.new.reader) (g.S.Scratch.told c.spill_mesh.new.scratch) c.spill_mesh.result began c.spill_mesh.ensures.spills in
    later_source later (ap (λ r. r.faults) c.new-tokens.ensures.start) (search rules)

pub returns-clause-read_cause : goal.returns-clause-read_cause
returns-clause-read_cause g c = λ is.
    let job = c.args.job.now in
    let start = reading c.new-tokens.result in
    let old = mesh_reading c.begin-reader.new.tokens c.begin-reader.result in
    let began : Gave (scale_of job) start [] [] old = gave_nothing (scale_of job) start old c.begin-reader.ensures.begins in
    let rose = spill_rose job start old (mesh_reading c.spill_mesh.new.tokens c.spill_mesh.new.reader) (g.S.Scratch.told c.spill_mesh.new.scratch) c.spill_mesh.result began c.spill_mesh.ensures.spills is in
    rose_source rose (ap (λ r. r.faults) c.new-tokens.ensures.start) (search rules)
