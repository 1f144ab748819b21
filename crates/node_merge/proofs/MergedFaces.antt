-- The next cell of two maps together.
use Rattle.std.proofs.Common.{◌≡◌, ℕ, ◌+◌, ◌^◌, ◌<◌, ◌≤◌, List, Option, None, Some, refl, sym, ap, subst, ◌∙◌, arith, Err}
use Rattle.std.specs.Prelude.{◌*◌, IfSome}
use Rattle.cell_lists.specs.Lifted.{Accepts}
use Rattle.node_check.proofs.Parents.{cells_small}
use Rattle.node_check.specs.declared.walking.WalkFault.{WalkFault}
use Rattle.node_check.specs.declared.walking.WalkFault.TheVariants.{Failed, Refused}
use Rattle.node_check.specs.declared.stops.AnswerStop.TheVariants.{Walk}
use Rattle.svo_base.specs.GridShape.{GridShape}
use Rattle.octree_specs.specs.Cells.{Cell}
use Rattle.node_file.specs.FileView.{FileView}
use Rattle.node_check.specs.Walks.{face_at}
use Rattle.node_check.specs.declared.cursor.FacedCell.{FacedCell}
use Rattle.node_merge.specs.Combined.{face_in, cells_below}
use Rattle.node_merge.specs.Maps.{IsMapOf, IsMerged, AreMergedFaces}
use Rattle.node_merge.specs.Pushing.{IsHead, IsFront, IsNextFace, IsUnrefusedFault, least_code, face_if}
use Rattle.node_merge.specs.declared.fronts.Front.{Front}
use Rattle.node_merge.specs.declared.kinds.MergeKind.{MergeKind}
use Rattle.node_merge.specs.declared.kinds.MergeKind.TheVariants.{Union, Both, Minus}
use Rattle.node_merge.proofs.Heads.{least_first, least_second, least_holds, none_first, none_below, face_there}
use Rattle.node_merge.proofs.ToMaps.{Covers}

pub neither : (kind : MergeKind) → face_in kind None None ≡ None
neither Union = refl
neither Both = refl
neither Minus = refl

none_in : (kind : MergeKind) (one two : Option ℕ) → one ≡ None → two ≡ None → face_in kind one two ≡ None
none_in kind one two first second = ap (λ o. face_in kind o two) first ∙ (ap (λ o. face_in kind None o) second ∙ neither kind)

pub covers_merged : (kind : MergeKind) (first second : FileView) (grid : GridShape) → first.grid ≡ grid → Covers grid (AreMergedFaces kind first second) (IsMerged kind first second)
covers_merged kind first second grid same all known = (
  (λ code. face_in kind (face_at known.first_cells code) (face_at known.second_cells code)),
  record { first_cells = known.first_cells; first_map = known.first_map; second_cells = known.second_cells; second_map = known.second_map; faces_are = λ code. refl },
  subst (λ (shape : GridShape). all ≡ cells_below (8 ^ shape.depth) (λ code. face_in kind (face_at known.first_cells code) (face_at known.second_cells code))) same known.cells_are,
)

module _ (kind : MergeKind) (first second : FileView) (from : ℕ) (one two : Front) (is_one : IsFront first from one) (is_two : IsFront second from two) where
  pub next_face : (code : ℕ) (here there face : Option ℕ) → least_code one.head two.head ≡ Some code → from ≤ code → here ≡ face_if one.head code → there ≡ face_if two.head code → face ≡ face_in kind here there
      → IsNextFace (AreMergedFaces kind first second) from code face
  next_face code here there face least low at beside chosen f faces =
      let xs = is_one.told faces.first_cells faces.first_map in
      let ys = is_two.told faces.second_cells faces.second_map in
      let near = least_first one.head two.head code least in
      let close = least_second one.head two.head code least in (
        (λ c above below.
            faces.faces_are c
            ∙ none_in kind (face_at faces.first_cells c) (face_at faces.second_cells c)
            (none_below (face_at faces.first_cells) from code one.head xs near c above below)
            (none_below (face_at faces.second_cells) from code two.head ys close c above below)),
        faces.faces_are code
            ∙ (ap (λ o. face_in kind o (face_at faces.second_cells code)) (face_there (face_at faces.first_cells) from code one.head xs low near ∙ sym at)
            ∙ (ap (λ o. face_in kind here o) (face_there (face_at faces.second_cells) from code two.head ys low close ∙ sym beside) ∙ sym chosen)),
      )

  pub no_next : least_code one.head two.head ≡ None → (f : ℕ → Option ℕ) → AreMergedFaces kind first second f → (c : ℕ) → from ≤ c → f c ≡ None
  no_next none f faces c low =
      let both = none_first one.head two.head none in
      let xs : IsHead (face_at faces.first_cells) from None = subst (IsHead (face_at faces.first_cells) from) both.0 (is_one.told faces.first_cells faces.first_map) in
      let ys : IsHead (face_at faces.second_cells) from None = subst (IsHead (face_at faces.second_cells) from) both.1 (is_two.told faces.second_cells faces.second_map) in
      faces.faces_are c ∙ none_in kind (face_at faces.first_cells c) (face_at faces.second_cells c) (xs c low) (ys c low)

  head_low : (walk bound : ℕ) (head : Option FacedCell) → IfSome head (λ cell. (walk ≡ cell.code + 1) × (from ≤ cell.code) × (cell.code < bound) × (cell.face ≤ 4294967294)) → IfSome head (λ cell. from ≤ cell.code)
  head_low walk bound None behind = tt
  head_low walk bound (Some cell) behind = behind.1

  head_high : (walk bound : ℕ) (head : Option FacedCell) → IfSome head (λ cell. (walk ≡ cell.code + 1) × (from ≤ cell.code) × (cell.code < bound) × (cell.face ≤ 4294967294)) → IfSome head (λ cell. cell.code < bound)
  head_high walk bound None behind = tt
  head_high walk bound (Some cell) behind = behind.2

  pub code_low : (code : ℕ) → least_code one.head two.head ≡ Some code → from ≤ code
  code_low code least =
      least_holds (λ n. from ≤ n) one.head two.head code least
      (head_low one.walk.from (8 ^ first.grid.depth) one.head is_one.behind) (head_low two.walk.from (8 ^ second.grid.depth) two.head is_two.behind)

  pub code_high : (code : ℕ) → second.grid ≡ first.grid → least_code one.head two.head ≡ Some code → code < 8 ^ first.grid.depth
  code_high code same least =
      least_holds (λ n. n < 8 ^ first.grid.depth) one.head two.head code least
      (head_high one.walk.from (8 ^ first.grid.depth) one.head is_one.behind)
      (subst (λ (shape : GridShape). IfSome two.head (λ cell. cell.code < 8 ^ shape.depth)) same (head_high two.walk.from (8 ^ second.grid.depth) two.head is_two.behind))

  pub code_small : (code : ℕ) → code < 8 ^ first.grid.depth → code + 1 < 2 ^ 64
  code_small code high = cells_small first.grid.depth 1 (code + 1) is_one.on.framed.limits.shallow (omega arith) (omega (arith, high))

-- of a file whose words stand for cells a walk refuses none
pub accepts_of : (S : Type 0) (file now : FileView) (fault : WalkFault) → now ≡ file → ((cells : List Cell) → IsMapOf now cells → IsUnrefusedFault fault)
    → (cells : List Cell) → IsMapOf file cells → Accepts {T = S} (Err (Walk fault))
accepts_of S file now Failed same unrefused cells map = tt
accepts_of S file now (Refused number word) same unrefused cells map = unrefused cells (subst (λ (view : FileView). IsMapOf view cells) (sym same) map)

-- moves go on
pub moves_on : (begun now next depth deep none many more : ℕ) → now + depth * none ≤ begun + depth * many → deep ≡ depth → next + deep * many ≤ now + deep * more → next + depth * none ≤ begun + depth * more
moves_on begun now next depth deep none many more few same moved =
    let here : next + depth * many ≤ now + depth * more = subst (λ d. next + d * many ≤ now + d * more) same moved in
    omega (arith, few, here)
