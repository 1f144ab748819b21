-- A ray and a point have one answer.
use Rattle.std.proofs.Common.{◌≡◌, ℕ, ◌*◌, ◌≤◌, List, [], ◌∷◌, ◌++◌, ℤ, refl, sym, ap, ◌∙◌, subst, arith, Option, None, Some, append_assoc}
use Rattle.svo_base.specs.GridShape.{GridShape}
use Rattle.octree_specs.specs.Cells.{Cell}
use Rattle.node_check.specs.Stops.{PutsFront}
use Rattle.node_check.specs.Walks.{face_at}
use Rattle.node_file.proofs.Fronts.{front_of_longer}
use Rattle.ray_answers.specs.declared.queries.Query.{Query}
use Rattle.ray_answers.specs.declared.queries.Query.TheVariants.{Ray, Point}
use Rattle.ray_fraction.specs.RayShape.{RayShape}
use Rattle.near_query.specs.Distances.{distance_to}
use Rattle.ray_fraction.proofs.LowestTerms.{same_terms}
use Rattle.ray_answers.specs.AnswerLines.{IsAnswer, IsHit, IsNeighbour, AreAnswers, hit_line, near_line}
use Rattle.ray_answers.specs.Laws.{AnswersAreOne, FrontsOfAnswers}
use Rattle.ray_answers.specs.declared.hits.FacedHit.{FacedHit}
use Rattle.ray_answers.specs.declared.neighbours.FacedCell.{FacedCell}

both : (a b : ℕ) → a ≤ b → b ≤ a → a ≡ b
both a b h k = omega (arith, h, k)

face_of_some : (x y : ℕ) → Some x ≡ Some y → x ≡ y
face_of_some x y e = cc e

one_hit : (grid : GridShape) (cells : List Cell) (ray : RayShape) (a b : Option FacedHit) → IsHit grid cells ray a → IsHit grid cells ray b → a ≡ b
one_hit grid cells ray None None is other = refl
one_hit grid cells ray None (Some b) is other = absurd (is b.code b.n b.m other.0.met)
one_hit grid cells ray (Some a) None is other = absurd (other a.code a.n a.m is.0.met)
one_hit grid cells ray (Some a) (Some b) is other =
    let here = is.0.first b.code b.n b.m other.0.met in
    let there = other.0.first a.code a.n a.m is.0.met in
    let value : a.n * b.m ≡ b.n * a.m = both (a.n * b.m) (b.n * a.m) here.sooner there.sooner in
    let code : a.code ≡ b.code = both a.code b.code (here.tie there.sooner) (there.tie here.sooner) in
    let terms = same_terms a.n a.m b.n b.m is.0.met.at.some other.0.met.at.some is.1 other.1 value in
    let face : a.face ≡ b.face = face_of_some a.face b.face (sym is.2 ∙ (ap (face_at cells) code ∙ other.2)) in
    λ i. Some (record { n = terms.0 i; m = terms.1 i; code = code i; face = face i })

one_neighbour : (grid : GridShape) (cells : List Cell) (point : List ℤ) (a b : Option FacedCell) → IsNeighbour grid cells point a → IsNeighbour grid cells point b → a ≡ b
one_neighbour grid cells point None None is other = refl
one_neighbour grid cells point None (Some b) is other = absurd (is b.code other.0.found.filled)
one_neighbour grid cells point (Some a) None is other = absurd (other a.code is.0.found.filled)
one_neighbour grid cells point (Some a) (Some b) is other =
    let here = is.0.first b.code other.0.found.filled in
    let there = other.0.first a.code is.0.found.filled in
    let far : b.distance ≡ distance_to point grid 0 b.code = other.0.found.at in
    let near : a.distance ≡ distance_to point grid 0 a.code = is.0.found.at in
    let distance : a.distance ≡ b.distance = omega (arith, here.nearer, there.nearer, far, near) in
    let code : a.code ≡ b.code = both a.code b.code (here.tie (omega (arith, there.nearer, far, near))) (there.tie (omega (arith, here.nearer, far, near))) in
    let face : a.face ≡ b.face = face_of_some a.face b.face (sym is.1 ∙ (ap (face_at cells) code ∙ other.1)) in
    λ i. Some (record { distance = distance i; code = code i; face = face i })

-- a query has one line
one_answer : (grid : GridShape) (cells : List Cell) (query : Query) (a b : List ℕ) → IsAnswer grid cells query a → IsAnswer grid cells query b → a ≡ b
one_answer grid cells (Ray ray) a b is other = is.2 ∙ (ap hit_line (one_hit grid cells ray is.0 other.0 is.1 other.1) ∙ sym other.2)
one_answer grid cells (Point point) a b is other = is.2 ∙ (ap near_line (one_neighbour grid cells point is.0 other.0 is.1 other.1) ∙ sym other.2)

pub answers_are_one : AnswersAreOne
answers_are_one grid cells [] text other are too = are ∙ sym too
answers_are_one grid cells (query ∷ queries) text other are too =
    let answer : are.0 ≡ too.0 = one_answer grid cells query are.0 too.0 are.2 too.2 in
    let later : are.1 ≡ too.1 = answers_are_one grid cells queries are.1 too.1 are.3 too.3 in
    are.4 ∙ (ap (λ a. a ++ are.1) answer ∙ (ap (λ t. too.0 ++ t) later ∙ sym too.4))

-- the answers to all queries begin with those to the first
pub first_answers : (grid : GridShape) (cells : List Cell) (first later : List Query) (answers all : List ℕ) → AreAnswers grid cells first answers → AreAnswers grid cells (first ++ later) all
    → (rest : List ℕ) × (all ≡ answers ++ rest)
first_answers grid cells [] later answers all none are = (all, ap (λ t. t ++ all) (sym none))
first_answers grid cells (query ∷ first) later answers all are too =
    let answer : are.0 ≡ too.0 = one_answer grid cells query are.0 too.0 are.2 too.2 in
    let rest = first_answers grid cells first later are.1 too.1 are.3 too.3 in (
      rest.0,
      too.4 ∙ (ap (λ t. too.0 ++ t) rest.1 ∙ (sym (append_assoc (too.0) are.1 rest.0)
          ∙ ap (λ t. t ++ rest.0) (ap (λ a. a ++ are.1) (sym answer) ∙ sym are.4))),
    )

pub fronts_of_answers : FrontsOfAnswers
fronts_of_answers grid cells queries before after answers some are =
    let rest = first_answers grid cells some.first some.later some.answers answers some.are (subst (λ r. AreAnswers grid cells r answers) some.parts are) in
    subst (λ t. PutsFront before after t) (sym rest.1) (front_of_longer before after some.answers rest.0 some.front)
