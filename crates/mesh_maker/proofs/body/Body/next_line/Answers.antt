use Rattle.std.proofs.Common.{sym, ◌∙◌}
use Rattle.mesh_maker.proofs.MadeLines.{vertex_made, face_made, none_on, some_vertex, some_face}
use Rattle.mesh_maker.proofs.body.Body.next_line.Goals as goal

pub returns-then-self-columns-clause-line : goal.returns-then-self-columns-clause-line
returns-then-self-columns-clause-line c =
    vertex_made c.self.inside.side c.self.inside.number c.self.inside.vertex c.self.inside.face _ _ _ c.self.view_is c.if-self-columns.true c.next_number-self-inside.ensures c.write_vertex.ensures

pub returns-then-self-columns-clause-end : goal.returns-then-self-columns-clause-end
returns-then-self-columns-clause-end c = λ none. absurd (some_vertex _ _ _ _ c.write_vertex.ensures none)

pub returns-then-self-clause-line : goal.returns-then-self-clause-line
returns-then-self-clause-line c =
    face_made c.self.inside.side c.self.inside.number c.self.inside.vertex c.self.inside.face _ _ c.self.view_is c.if-self-columns.false c.if-self.true c.write_face.ensures

pub returns-then-self-clause-end : goal.returns-then-self-clause-end
returns-then-self-clause-end c = λ none. absurd (some_face _ _ c.write_face.ensures none)

pub returns-else-self-clause-end : goal.returns-else-self-clause-end
returns-else-self-clause-end c =
    λ _. sym c.self.view_is ∙ none_on c.self.inside.side c.self.inside.number c.self.inside.vertex c.self.inside.face c.if-self-columns.false c.if-self.false
