use Rattle.std.proofs.Common.{◌≡◌, ◌<◌, ◌^◌, ◌∙◌, ap, sym, subst, not, get_or}
use Rattle.std.specs.List.{prefix_len}
use Rattle.ply_reader.specs.declared.elements.Element.{Element}
use Rattle.ply_reader.specs.declared.elements.Role.TheVariants.{Vertex, Face}
use Rattle.ply_reader.specs.Declarations.{declared, is_role, properties_of}
use Rattle.ply_reader.specs.Layout.{first_of, element_in, no_element, list_place, face_properties}
use Rattle.ply_reader.proofs.FewElements.{few_in}
use Rattle.ply_reader.proofs.layouts.layout_of.Goals as goal

pub returns-clause-value : goal.returns-clause-value
returns-clause-value c =
    let d = declared c.args.header.now in
    let vertex_at : c.first_of-vertex_at.result ≡ first_of Vertex d = c.first_of-vertex_at.ensures ∙ ap (prefix_len (λ (e : Element). not (is_role Vertex e.role))) c.all_elements-elements.ensures in
    let face_at : c.first_of-face_at.result ≡ first_of Face d = c.first_of-face_at.ensures ∙ ap (prefix_len (λ (e : Element). not (is_role Face e.role))) c.all_elements-elements.ensures in
    let vertex : c.element_at.result ≡ element_in Vertex d = c.element_at.ensures ∙ (λ i. get_or (c.all_elements-elements.ensures i) (vertex_at i) no_element) in
    let face : c.element_at-face.result ≡ element_in Face d = c.element_at-face.ensures ∙ (λ i. get_or (c.all_elements-elements.ensures i) (face_at i) no_element) in
    let list_at : c.list_place.result ≡ list_place (face_properties d) = c.list_place.ensures ∙ ap list_place (c.properties_of.ensures ∙ ap (properties_of d) face) in
    λ i. record { vertex_at = vertex_at i; face_at = face_at i; list_at = list_at i; vertex = vertex i; face = face i }

pub returns-clause-vertices : goal.returns-clause-vertices
returns-clause-vertices c =
    let d = declared c.args.header.now in
    let vertex_at : c.first_of-vertex_at.result ≡ first_of Vertex d = c.first_of-vertex_at.ensures ∙ ap (prefix_len (λ (e : Element). not (is_role Vertex e.role))) c.all_elements-elements.ensures in
    let vertex : c.element_at.result ≡ element_in Vertex d = c.element_at.ensures ∙ (λ i. get_or (c.all_elements-elements.ensures i) (vertex_at i) no_element) in
    subst (λ e. e.count < 2 ^ 32) (sym vertex) (few_in Vertex (λ e. cc e) d c.args.header.now.few)

pub returns-clause-faces : goal.returns-clause-faces
returns-clause-faces c =
    let d = declared c.args.header.now in
    let face_at : c.first_of-face_at.result ≡ first_of Face d = c.first_of-face_at.ensures ∙ ap (prefix_len (λ (e : Element). not (is_role Face e.role))) c.all_elements-elements.ensures in
    let face : c.element_at-face.result ≡ element_in Face d = c.element_at-face.ensures ∙ (λ i. get_or (c.all_elements-elements.ensures i) (face_at i) no_element) in
    subst (λ e. e.count < 2 ^ 32) (sym face) (few_in Face (λ e. cc e) d c.args.header.now.few)
