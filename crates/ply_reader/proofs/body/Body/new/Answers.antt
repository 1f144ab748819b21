use Rattle.std.proofs.Common.{◌≡◌, ap, true, None}
use Rattle.ply_reader.specs.Declarations.{declared}
use Rattle.ply_reader.specs.Layout.{vertex_count, face_count}
use Rattle.ply_reader.proofs.body.Body.new.Goals as goal

pub returns : goal.returns
returns c =
    let d = declared c.args.header in
    let vertices : c.layout_of-layout.result.vertex.count ≡ vertex_count d = ap (λ l. l.vertex.count) c.layout_of-layout.ensures.value in
    let faces : c.layout_of-layout.result.face.count ≡ face_count d = ap (λ l. l.face.count) c.layout_of-layout.ensures.value in
    λ text. λ i. record { text = text; scale = c.args.scale; header = d; vertices = vertices i; waits = true; faces = faces i; fan = None }
