-- The least face of the cells under a node, gathered from one cell after another.
use Rattle.std.proofs.Common.{◌≡◌, ℕ, zero, suc, ◌+◌, ◌-◌, ◌*◌, ◌/◌, ◌^◌, ◌<◌, ◌≤◌, ◌==◌, List, Option, None, Some, inl, inr, refl, sym, ap, subst, ◌∙◌, arith, add-one, lit<}
use Rattle.std.specs.Prelude.{IfSome, min}
use Rattle.std.proofs.Math.Nat.{one-le-pow, div-mul-le_self, lt-div-mul-add, le-div_iff_mul-le, mul-le-mul_left}
use Rattle.std.proofs.lemmas.Nat.{pow-add}
use Rattle.std.proofs.lemmas.Bool.{cases_eq, cases_lt, eq-eqb, ne_eqb, cond-true, cond-false}
use Rattle.octree_specs.specs.Cells.{Cell}
use Rattle.node_file.specs.FileView.{FileView}
use Rattle.node_check.specs.Walks.{face_at}
use Rattle.node_check.specs.declared.cursor.FacedCell.{FacedCell}
use Rattle.node_merge.specs.Combined.{least_of, least_in, coarse_grid}
use Rattle.node_merge.specs.Gathered.{face_under, codes_left, GathersNext}
use Rattle.node_merge.specs.Maps.{IsMapOf, IsCoarse, AreCoarseFaces}
use Rattle.node_merge.specs.Pushing.{IsHead, IsFront}
use Rattle.node_merge.specs.declared.fronts.Front.{Front}
use Rattle.node_merge.proofs.Heads.{AtLeast, front_later, none_below}
use Rattle.node_merge.proofs.ToMaps.{Covers}

least_none : (o : Option ℕ) → least_of o None ≡ o
least_none None = refl
least_none (Some face) = refl

module _ (f : ℕ → Option ℕ) (first : ℕ) where
  least_zero : least_in f first 0 ≡ None
  unfolding least_in
  least_zero = refl

  least_more : (count : ℕ) → least_in f first (suc count) ≡ least_of (least_in f first count) (f (first + count))
  unfolding least_in
  least_more count = refl

  -- no code more has a face
  least_to : (from to : ℕ) → from ≤ to → ((code : ℕ) → first + from ≤ code → code < first + to → f code ≡ None) → least_in f first to ≡ least_in f first from
  least_to from zero high none = ap (least_in f first) (omega (arith, high))
  least_to from (suc to) high none = elim (cases_eq from (suc to)) [
    | inl same ↦ ap (least_in f first) (sym same)
    | inr apart ↦
        let within : from ≤ to = omega (arith, high, apart) in
        least_more to
        ∙ (ap (least_of (least_in f first to)) (none (first + to) (omega (arith, within)) (omega arith))
        ∙ (least_none (least_in f first to) ∙ least_to from to within (λ code low below. none code low (omega (arith, below)))))
  ]

  -- one more has
  least_with : (from to face : ℕ) → from ≤ to → ((code : ℕ) → first + from ≤ code → code < first + to → f code ≡ None) → f (first + to) ≡ Some face
      → least_in f first (to + 1) ≡ least_of (least_in f first from) (Some face)
  least_with from to face high none some =
      ap (least_in f first) (add-one to)
      ∙ (least_more to ∙ (ap (λ o. least_of o (f (first + to))) (least_to from to high none) ∙ ap (least_of (least_in f first from)) some))

-- ---- nodes over codes

wide : (levels : ℕ) → 0 < 8 ^ levels
wide levels = one-le-pow levels 8 (lit< tt)

code_low : (levels code node : ℕ) → node ≡ code / 8 ^ levels → node * 8 ^ levels ≤ code
code_low levels code node over = subst (λ n. n * 8 ^ levels ≤ code) (sym over) (div-mul-le_self code (8 ^ levels))

code_high : (levels code node : ℕ) → node ≡ code / 8 ^ levels → code < node * 8 ^ levels + 8 ^ levels
code_high levels code node over = subst (λ n. code < n * 8 ^ levels + 8 ^ levels) (sym over) (lt-div-mul-add (wide levels))

node_low : (levels code node from : ℕ) → node ≡ code / 8 ^ levels → from * 8 ^ levels ≤ code → from ≤ node
node_low levels code node from over low = subst (λ n. from ≤ n) (sym over) ((le-div_iff_mul-le (wide levels)).1 low)

scaled : (levels low high : ℕ) → low ≤ high → low * 8 ^ levels ≤ high * 8 ^ levels
scaled levels low high least =
    let wider : 8 ^ levels * low ≤ 8 ^ levels * high = mul-le-mul_left (8 ^ levels) least in
    omega (arith, wider)

-- a node over a cell of an octree is one of the coarser octree
node_inside : (levels depth code node : ℕ) → levels ≤ depth → node ≡ code / 8 ^ levels → code < 8 ^ depth → node < 8 ^ (depth - levels)
node_inside levels depth code node less over below = elim (cases_lt node (8 ^ (depth - levels))) [
  | inl inside ↦ inside
  | inr outside ↦
      let parts : 8 ^ (depth - levels + levels) ≡ 8 ^ (depth - levels) * 8 ^ levels = pow-add 8 (depth - levels) levels in
      let whole : 8 ^ depth ≡ 8 ^ (depth - levels) * 8 ^ levels = ap (λ d. 8 ^ d) (omega (arith, less)) ∙ parts in
      let above : 8 ^ (depth - levels) * 8 ^ levels ≤ node * 8 ^ levels = scaled levels (8 ^ (depth - levels)) node (omega (arith, outside)) in
      absurd (omega (arith, whole, above, code_low levels code node over, below))
]

-- ---- a walk that stands at a cell

-- what is known of the cell that a walk gave last
abbrev IsBehind : ℕ → ℕ → ℕ → FacedCell → Type 0
IsBehind walk from bound cell = (walk ≡ cell.code + 1) × (from ≤ cell.code) × (cell.code < bound) × (cell.face ≤ 4294967294)

behind_of : (file : FileView) (at : ℕ) (front : Front) (cell : FacedCell) → front.head ≡ Some cell → IsFront file at front → IsBehind front.walk.from at (8 ^ file.grid.depth) cell
behind_of file at front cell is stands = subst (λ head. IfSome head (IsBehind front.walk.from at (8 ^ file.grid.depth))) is stands.behind

head_of : (file : FileView) (at : ℕ) (front : Front) (cell : FacedCell) → front.head ≡ Some cell → IsFront file at front → (cells : List Cell) → IsMapOf file cells → IsHead (face_at cells) at (Some cell)
head_of file at front cell is stands cells map = subst (IsHead (face_at cells) at) is (stands.told cells map)

fewer_left : (bound walk : ℕ) (cell : FacedCell) (head : Option FacedCell) → cell.code < bound → IfSome head (IsBehind walk (cell.code + 1) bound) → codes_left bound head < bound - cell.code
fewer_left bound walk cell None inside behind = omega (arith, inside)
fewer_left bound walk cell (Some next) inside behind = omega (arith, inside, behind.1, behind.2)

pub left_less : (file : FileView) (at : ℕ) (before now : Front) (cell : FacedCell) → before.head ≡ Some cell → IsFront file at before → IsFront file (cell.code + 1) now
    → codes_left (8 ^ file.grid.depth) now.head < codes_left (8 ^ file.grid.depth) before.head
left_less file at before now cell is stands later =
    let less : codes_left (8 ^ file.grid.depth) now.head < 8 ^ file.grid.depth - cell.code =
    fewer_left (8 ^ file.grid.depth) now.walk.from cell now.head (behind_of file at before cell is stands).2 later.behind in
    subst (λ head. codes_left (8 ^ file.grid.depth) now.head < codes_left (8 ^ file.grid.depth) head) (sym is) less

-- the cell whose face was found under a node
record IsUnder (levels node face : ℕ) (head : Option FacedCell) : Type 0 where
  pub cell : FacedCell
  pub is : head ≡ Some cell
  pub over : node ≡ cell.code / 8 ^ levels
  pub face_is : face ≡ cell.face

under_of : (levels node face : ℕ) (head : Option FacedCell) → face_under levels node head ≡ Some face → IsUnder levels node face head
under_of levels node face None none = cc
under_of levels node face (Some cell) some = elim (cases_eq (cell.code / 8 ^ levels) node) [
  | inl same ↦ record {
    cell = cell;
    is = refl;
    over = sym same;
    face_is = one_face (sym some ∙ cond-true (cell.code / 8 ^ levels == node) (Some cell.face) None (eq-eqb (cell.code / 8 ^ levels) node same));
  }
  | inr apart ↦ absurd (no_face (sym (cond-false (cell.code / 8 ^ levels == node) (Some cell.face) None (ne_eqb (cell.code / 8 ^ levels) node apart)) ∙ some))
]
  where
    one_face : Some face ≡ Some cell.face → face ≡ cell.face
    one_face same = cc

    no_face : None ≡ Some face → ⊥
    no_face same = cc

-- ---- a node that is gathered

-- the least face of a node's first codes, from the walk at its first cell to the walk now
pub record IsGathering (file : FileView) (levels node face : ℕ) (before now : Front) : Type 0 where
  pub count : ℕ
  pub inside : count ≤ 8 ^ levels
  pub front : IsFront file (node * 8 ^ levels + count) now
  pub small : face ≤ 4294967294
  pub told : (from : ℕ) → IsFront file (from * 8 ^ levels) before → (cells : List Cell) → IsMapOf file cells → least_in (face_at cells) (node * 8 ^ levels) count ≡ Some face
  pub fewer : codes_left (8 ^ file.grid.depth) now.head < codes_left (8 ^ file.grid.depth) before.head

module _ (file : FileView) (levels node : ℕ) (before : Front) where
  pub gather_first : (at : ℕ) (now : Front) (cell : FacedCell) → before.head ≡ Some cell → node ≡ cell.code / 8 ^ levels → IsFront file at before → IsFront file (cell.code + 1) now
      → IsGathering file levels node cell.face before now
  gather_first at now cell is over stands later =
      let low : node * 8 ^ levels ≤ cell.code = code_low levels cell.code node over in
      let high : cell.code < node * 8 ^ levels + 8 ^ levels = code_high levels cell.code node over in
      let there : node * 8 ^ levels + (cell.code - node * 8 ^ levels) ≡ cell.code = omega (arith, low) in
      record {
        count = cell.code - node * 8 ^ levels + 1;
        inside = omega (arith, low, high);
        front = subst (λ n. IsFront file n now) (omega (arith, low)) later;
        small = (behind_of file at before cell is stands).3;
        told = λ from begun cells map.
            let head = head_of file (from * 8 ^ levels) before cell is begun cells map in
            let least : from * 8 ^ levels ≤ node * 8 ^ levels = scaled levels from node (node_low levels cell.code node from over (behind_of file (from * 8 ^ levels) before cell is begun).1) in
            least_with (face_at cells) (node * 8 ^ levels) 0 (cell.code - node * 8 ^ levels) cell.face (omega arith)
            (λ code above below. head.0 code (omega (arith, above, least)) (omega (arith, below, there))) (ap (face_at cells) there ∙ head.1)
            ∙ ap (λ o. least_of o (Some cell.face)) (least_zero (face_at cells) (node * 8 ^ levels));
        fewer = left_less file at before now cell is stands later;
      }

  gather_more : (face : ℕ) (now later : Front) (next : FacedCell) → now.head ≡ Some next → node ≡ next.code / 8 ^ levels → IsFront file (next.code + 1) later
      → IsGathering file levels node face before now → IsGathering file levels node (min face next.face) before later
  gather_more face now later next is over stands gathers =
      let high : next.code < node * 8 ^ levels + 8 ^ levels = code_high levels next.code node over in
      let behind = behind_of file (node * 8 ^ levels + gathers.count) now next is gathers.front in
      let low : node * 8 ^ levels + gathers.count ≤ next.code = behind.1 in
      let there : node * 8 ^ levels + (next.code - node * 8 ^ levels) ≡ next.code = omega (arith, low) in
      let less = left_less file (node * 8 ^ levels + gathers.count) now later next is gathers.front stands in
      record {
        count = next.code - node * 8 ^ levels + 1;
        inside = omega (arith, low, high);
        front = subst (λ n. IsFront file n later) (omega (arith, low)) stands;
        small = omega (arith, gathers.small);
        told = λ from begun cells map.
            let head = head_of file (node * 8 ^ levels + gathers.count) now next is gathers.front cells map in
            least_with (face_at cells) (node * 8 ^ levels) gathers.count (next.code - node * 8 ^ levels) next.face (omega (arith, low))
            (λ code above below. head.0 code above (omega (arith, below, there))) (ap (face_at cells) there ∙ head.1)
            ∙ ap (λ o. least_of o (Some next.face)) (gathers.told from begun cells map);
        fewer = omega (arith, less, gathers.fewer);
      }

  -- the face of a cell that was found under the node
  pub gather_found : (here : FileView) (face other least : ℕ) (now later : Front) → here ≡ file → face_under levels node now.head ≡ Some other → least ≡ min face other
      → IfSome now.head (λ cell. IsFront here (cell.code + 1) later) → IsGathering file levels node face before now → IsGathering file levels node least before later
  gather_found here face other least now later same found lesser stands gathers =
      let under : IsUnder levels node other now.head = under_of levels node other now.head found in
      let there : IsFront file (under.cell.code + 1) later =
      subst (λ (f : FileView). IsFront f (under.cell.code + 1) later) same (subst (λ head. IfSome head (λ cell. IsFront here (cell.code + 1) later)) under.is stands) in
      subst (λ n. IsGathering file levels node n before later) (ap (min face) (sym under.face_is) ∙ sym lesser) (gather_more face now later under.cell under.is under.over there gathers)

  under_later : (walk at bound : ℕ) (head : Option FacedCell) → face_under levels node head ≡ None → node * 8 ^ levels ≤ at → IfSome head (IsBehind walk at bound) → AtLeast ((node + 1) * 8 ^ levels) head
  under_later walk at bound None none low behind = tt
  under_later walk at bound (Some cell) none low behind = elim (cases_eq (cell.code / 8 ^ levels) node) [
    | inl same ↦ let some : face_under levels node (Some cell) ≡ Some cell.face = cond-true (cell.code / 8 ^ levels == node) (Some cell.face) None (eq-eqb (cell.code / 8 ^ levels) node same) in
        absurd (apart_of cell.face (sym some ∙ none))
    | inr apart ↦
        let least : node ≤ cell.code / 8 ^ levels = node_low levels cell.code (cell.code / 8 ^ levels) node refl (omega (arith, low, behind.1)) in
        let over : (node + 1) * 8 ^ levels ≤ cell.code / 8 ^ levels * 8 ^ levels = scaled levels (node + 1) (cell.code / 8 ^ levels) (omega (arith, least, apart)) in
        omega (arith, over, code_low levels cell.code (cell.code / 8 ^ levels) refl)
  ]
    where
      apart_of : (face : ℕ) → Some face ≡ None → ⊥
      apart_of face same = cc

  pub gather_done : (face : ℕ) (now : Front) (cell : FacedCell) → levels ≤ file.grid.depth → before.head ≡ Some cell → node ≡ cell.code / 8 ^ levels → face_under levels node now.head ≡ None
      → IsGathering file levels node face before now → (from : ℕ) → IsFront file (from * 8 ^ levels) before → GathersNext file levels from now (Some (record { code = node; face = face }))
  gather_done face now cell less is over none gathers from begun =
      let behind = behind_of file (from * 8 ^ levels) before cell is begun in
      let low : from ≤ node = node_low levels cell.code node from over behind.1 in
      let under : node * 8 ^ levels ≤ cell.code = code_low levels cell.code node over in
      let later : AtLeast ((node + 1) * 8 ^ levels) now.head =
      under_later now.walk.from (node * 8 ^ levels + gathers.count) (8 ^ file.grid.depth) now.head none (omega arith) gathers.front.behind in
      let next : (node + 1) * 8 ^ levels ≡ node * 8 ^ levels + 8 ^ levels = omega arith in (
        low,
        node_inside levels file.grid.depth cell.code node less over behind.2,
        (λ f faces. (
          (λ c above below.
              let head = head_of file (from * 8 ^ levels) before cell is begun faces.fine_cells faces.fine_map in
              let first : from * 8 ^ levels ≤ c * 8 ^ levels = scaled levels from c above in
              let last : (c + 1) * 8 ^ levels ≤ node * 8 ^ levels = scaled levels (c + 1) node (omega (arith, below)) in
              faces.faces_are c
              ∙ (least_to (face_at faces.fine_cells) (c * 8 ^ levels) 0 (8 ^ levels) (omega arith)
              (λ code least most. head.0 code (omega (arith, least, first)) (omega (arith, most, last, under)))
              ∙ least_zero (face_at faces.fine_cells) (c * 8 ^ levels))),
          faces.faces_are node
              ∙ (least_to (face_at faces.fine_cells) (node * 8 ^ levels) gathers.count (8 ^ levels) gathers.inside
              (λ code least most. none_below (face_at faces.fine_cells) (node * 8 ^ levels + gathers.count) ((node + 1) * 8 ^ levels) now.head (gathers.front.told faces.fine_cells faces.fine_map) later code least (omega (arith, most, next)))
              ∙ gathers.told from begun faces.fine_cells faces.fine_map),
        )),
        front_later file (node * 8 ^ levels + gathers.count) ((node + 1) * 8 ^ levels) now (omega (arith, next, gathers.inside)) later gathers.front,
      )

-- no cell is left, and so no node
pub none_left : (file : FileView) (levels : ℕ) (front : Front) → front.head ≡ None → (from : ℕ) → IsFront file (from * 8 ^ levels) front → GathersNext file levels from front None
none_left file levels front is from begun f faces node low =
    let head : IsHead (face_at faces.fine_cells) (from * 8 ^ levels) None = subst (IsHead (face_at faces.fine_cells) (from * 8 ^ levels)) is (begun.told faces.fine_cells faces.fine_map) in
    let first : from * 8 ^ levels ≤ node * 8 ^ levels = scaled levels from node low in
    faces.faces_are node
    ∙ (least_to (face_at faces.fine_cells) (node * 8 ^ levels) 0 (8 ^ levels) (omega arith) (λ code least most. head code (omega (arith, least, first)))
    ∙ least_zero (face_at faces.fine_cells) (node * 8 ^ levels))

-- what was gathered under other names
pub gathered_as : (file here : FileView) (levels : ℕ) (before now : Front) (given wanted : Option FacedCell) → here ≡ file → given ≡ wanted
    → ((from : ℕ) → IsFront here (from * 8 ^ levels) before → GathersNext here levels from now given) → (from : ℕ) → IsFront file (from * 8 ^ levels) before → GathersNext file levels from now wanted
gathered_as file here levels before now given wanted same is told =
    subst (λ (f : FileView). (from : ℕ) → IsFront f (from * 8 ^ levels) before → GathersNext f levels from now wanted) same
    (subst (λ o. (from : ℕ) → IsFront here (from * 8 ^ levels) before → GathersNext here levels from now o) is told)

-- the nodes' faces are those of the coarser map
pub covers_coarse : (file : FileView) (levels : ℕ) → Covers (coarse_grid levels file.grid) (AreCoarseFaces file levels) (IsCoarse file levels)
covers_coarse file levels all known = (
  _,
  record { fine_cells = known.fine_cells; fine_map = known.fine_map; faces_are = λ node. refl },
  known.cells_are,
)
