-- The union of pieces of a mesh.
use Rattle.std.proofs.Common.{◌≡◌, ℕ, ◌+◌, ◌^◌, ◌<◌, ◌≤◌, List, [], ◌∷◌, ◌++◌, length, map, Option, None, Some, inl, inr, refl, sym, ap, subst, ◌∙◌, arith, append-nil, append_assoc}
use Rattle.std.specs.Prelude.{All}
use Rattle.std.specs.List.{Contains, slice_index_or}
use Rattle.std.proofs.lemmas.List.Elements.{All-nil, All-head, All-tail, All-append, All-map, All-contains, All-weaker, Contains-get_or, Contains-append_left, Contains-append_right, Contains-append_cases}
use Rattle.svo_base.specs.GridShape.{GridShape}
use Rattle.svo_base.specs.declared.shapes.Point.{Point}
use Rattle.octree_specs.specs.Cells.{Cell}
use Rattle.octree_specs.specs.FacedTriangles.{Faced, faced_from, faced_triangles}
use Rattle.octree_specs.specs.FilledCells.{MeetsCell, AreFilledCells}
use Rattle.octree_specs.specs.Mesh.{Mesh, fan_of}
use Rattle.node_check.specs.Walks.{face_at}
use Rattle.node_merge.specs.Combined.{face_in, merged}
use Rattle.node_merge.specs.Laws.{TouchesNone, IsPiece, PiecesJoin}
use Rattle.node_merge.specs.declared.kinds.MergeKind.TheVariants.{Union}
use Rattle.node_merge.proofs.PieceCells.{IsFaceOf, AreLower, any_item, item_any, face_of_filled, face_together, filled_by, triangles_join}

-- ---- faces in runs

module _ (vertices : List Point) where
  faced_split : (number : ℕ) (xs ys : List (List ℕ)) → faced_from vertices number (xs ++ ys) ≡ faced_from vertices number xs ++ faced_from vertices (number + length xs) ys
  faced_split number [] ys = ap (λ n. faced_from vertices n ys) (omega arith)
  faced_split number (face ∷ rest) ys =
      let own : List Faced = map (λ triangle. record { triangle = triangle; face = number }) (fan_of vertices face) in
      let many : number + 1 + length rest ≡ number + length (face ∷ rest) = omega arith in
      ap (λ l. own ++ l) (faced_split (number + 1) rest ys ∙ ap (λ n. faced_from vertices (number + 1) rest ++ faced_from vertices n ys) many)
      ∙ sym (append_assoc own (faced_from vertices (number + 1) rest) (faced_from vertices (number + length (face ∷ rest)) ys))

  faces_low : (number : ℕ) (faces : List (List ℕ)) → All (λ x. number ≤ x.face) (faced_from vertices number faces)
  faces_low number [] = All-nil (λ (x : Faced). number ≤ x.face)
  faces_low number (face ∷ rest) =
      All-append (λ (x : Faced). number ≤ x.face) (map (λ triangle. record { triangle = triangle; face = number }) (fan_of vertices face)) (faced_from vertices (number + 1) rest)
      (All-map (λ (x : Faced). number ≤ x.face) (λ triangle. record { triangle = triangle; face = number }) (fan_of vertices face) (λ k d within. omega arith))
      (All-weaker (λ (x : Faced). number + 1 ≤ x.face) (λ x. number ≤ x.face) (λ x low. omega (arith, low)) (faced_from vertices (number + 1) rest) (faces_low (number + 1) rest))

  faces_high : (number : ℕ) (faces : List (List ℕ)) → All (λ x. x.face < number + length faces) (faced_from vertices number faces)
  faces_high number [] = All-nil (λ (x : Faced). x.face < number + length {A = List ℕ} [])
  faces_high number (face ∷ rest) =
      All-append (λ (x : Faced). x.face < number + length (face ∷ rest)) (map (λ triangle. record { triangle = triangle; face = number }) (fan_of vertices face)) (faced_from vertices (number + 1) rest)
      (All-map (λ (x : Faced). x.face < number + length (face ∷ rest)) (λ triangle. record { triangle = triangle; face = number }) (fan_of vertices face) (λ k d within. omega arith))
      (All-weaker (λ (x : Faced). x.face < number + 1 + length rest) (λ x. x.face < number + length (face ∷ rest)) (λ x high. omega (arith, high)) (faced_from vertices (number + 1) rest) (faces_high (number + 1) rest))

  runs_lower : (grid : GridShape) (number : ℕ) (one two : List (List ℕ)) → AreLower grid (faced_from vertices number one) (faced_from vertices (number + length one) two)
  runs_lower grid number one two =
      let second : List Faced = faced_from vertices (number + length one) two in
      All-weaker (λ (x : Faced). x.face < number + length one) (λ x. All (λ y. x.face ≤ y.face) second)
      (λ x below. All-weaker (λ (y : Faced). number + length one ≤ y.face) (λ y. x.face ≤ y.face) (λ y above. omega (arith, below, above)) second (faces_low (number + length one) two))
      (faced_from vertices number one) (faces_high number one)

  never_met : (grid : GridShape) (number : ℕ) (faces : List (List ℕ)) → All (TouchesNone grid vertices) faces → All (λ x. (code : ℕ) → code < 8 ^ grid.depth → MeetsCell grid code x → ⊥) (faced_from vertices number faces)
  never_met grid number [] none = All-nil (λ (x : Faced). (code : ℕ) → code < 8 ^ grid.depth → MeetsCell grid code x → ⊥)
  never_met grid number (face ∷ rest) none =
      All-append (λ (x : Faced). (code : ℕ) → code < 8 ^ grid.depth → MeetsCell grid code x → ⊥) (map (λ triangle. record { triangle = triangle; face = number }) (fan_of vertices face)) (faced_from vertices (number + 1) rest)
      (All-map (λ (x : Faced). (code : ℕ) → code < 8 ^ grid.depth → MeetsCell grid code x → ⊥) (λ triangle. record { triangle = triangle; face = number }) (fan_of vertices face) (All-head (TouchesNone grid vertices) face rest none))
      (never_met grid (number + 1) rest (All-tail (TouchesNone grid vertices) face rest none))

-- ---- triangles that meet a cell

module _ (grid : GridShape) (code : ℕ) where
  -- two lists have the same of them
  record AreAlike (one other : List Faced) : Type 0 where
    to : (x : Faced) → Contains one x → MeetsCell grid code x → Contains other x
    back : (x : Faced) → Contains other x → MeetsCell grid code x → Contains one x

  turned : (one other : List Faced) → AreAlike one other → AreAlike other one
  turned one other are = record { to = are.back; back = are.to }

  alike_face : (one other : List Faced) (face : Option ℕ) → AreAlike one other → IsFaceOf grid one code face → IsFaceOf grid other code face
  alike_face one other None are none = λ k d within meets.
      let there : Contains other (slice_index_or other k d) = Contains-get_or other k d within in
      All-contains (λ x. MeetsCell grid code x → ⊥) one (slice_index_or other k d) none (are.back (slice_index_or other k d) there meets) meets
  alike_face one other (Some face) are is = record {
    met =
        let item = any_item (λ x. (x.face ≡ face) × MeetsCell grid code x) one is.met in
        item_any (λ x. (x.face ≡ face) × MeetsCell grid code x) other item.0 (are.to item.0 item.1 item.2.1) item.2;
    least = λ k d within meets.
        let there : Contains other (slice_index_or other k d) = Contains-get_or other k d within in
        All-contains (λ x. MeetsCell grid code x → face ≤ x.face) one (slice_index_or other k d) is.least (are.back (slice_index_or other k d) there meets) meets;
  }

-- a piece's triangles are those of its run, and others that meet no cell
piece_alike : (grid : GridShape) (vertices : List Point) (number : ℕ) (run : List (List ℕ)) (mesh : Mesh) → IsPiece grid vertices number run mesh → (code : ℕ) → code < 8 ^ grid.depth
    → AreAlike grid code (faced_triangles mesh) (faced_from vertices number run)
unfolding faced_triangles
piece_alike grid vertices number run mesh piece code below =
    let first : List Faced = faced_from vertices 0 piece.before in
    let own : List Faced = faced_from vertices number run in
    let last : List Faced = faced_from vertices (0 + length (piece.before ++ run)) piece.behind in
    let all : faced_triangles mesh ≡ first ++ own ++ last =
    ap faced_triangles piece.mesh_is
    ∙ (faced_split vertices 0 (piece.before ++ run) piece.behind
    ∙ ap (λ l. l ++ last) (faced_split vertices 0 piece.before run ∙ ap (λ n. first ++ faced_from vertices n run) (omega (arith, piece.many)))) in
    let never : List Faced → Type 0 = λ l. All (λ x. (code : ℕ) → code < 8 ^ grid.depth → MeetsCell grid code x → ⊥) l in
    let none_first : never first = never_met vertices grid 0 piece.before piece.none_before in
    let none_last : never last = never_met vertices grid (0 + length (piece.before ++ run)) piece.behind piece.none_behind in
    subst (λ l. AreAlike grid code l own) (sym all) (record {
      to = λ x there meets. elim (Contains-append_cases (first ++ own) last x there) [
        | inl early ↦ elim (Contains-append_cases first own x early) [
          | inl before ↦ absurd (All-contains (λ x. (code : ℕ) → code < 8 ^ grid.depth → MeetsCell grid code x → ⊥) first x none_first before code below meets)
          | inr here ↦ here
        ]
        | inr behind ↦ absurd (All-contains (λ x. (code : ℕ) → code < 8 ^ grid.depth → MeetsCell grid code x → ⊥) last x none_last behind code below meets)
      ];
      back = λ x there meets. Contains-append_left (first ++ own) last x (Contains-append_right first own x there);
    })

-- ---- pieces

whole_piece : (grid : GridShape) (mesh : Mesh) → IsPiece grid mesh.vertices 0 mesh.faces mesh
whole_piece grid mesh = record {
  before = [];
  behind = [];
  many = refl;
  none_before = All-nil (TouchesNone grid mesh.vertices);
  none_behind = All-nil (TouchesNone grid mesh.vertices);
  mesh_is = λ i. record { vertices = mesh.vertices; faces = sym (append-nil mesh.faces) i };
}

join_pieces : (grid : GridShape) (vertices : List Point) (number : ℕ) (one two : List (List ℕ)) (first second both : Mesh) (xs ys : List Cell)
    → IsPiece grid vertices number one first → IsPiece grid vertices (number + length one) two second → IsPiece grid vertices number (one ++ two) both
    → AreFilledCells grid (faced_triangles first) xs → AreFilledCells grid (faced_triangles second) ys → AreFilledCells grid (faced_triangles both) (merged Union grid.depth xs ys)
join_pieces grid vertices number one two first second both xs ys is_first is_second is_both are are_too =
    filled_by grid (faced_triangles both) (λ code. face_in Union (face_at xs code) (face_at ys code)) face
  where
    early : List Faced
    early = faced_from vertices number one

    late : List Faced
    late = faced_from vertices (number + length one) two

    face : (code : ℕ) → code < 8 ^ grid.depth → IsFaceOf grid (faced_triangles both) code (face_in Union (face_at xs code) (face_at ys code))
    face code below =
        let here : IsFaceOf grid early code (face_at xs code) =
        alike_face grid code (faced_triangles first) early (face_at xs code) (piece_alike grid vertices number one first is_first code below) (face_of_filled grid (faced_triangles first) xs are code below) in
        let there : IsFaceOf grid late code (face_at ys code) =
        alike_face grid code (faced_triangles second) late (face_at ys code) (piece_alike grid vertices (number + length one) two second is_second code below) (face_of_filled grid (faced_triangles second) ys are_too code below) in
        let run : IsFaceOf grid (faced_from vertices number (one ++ two)) code (face_in Union (face_at xs code) (face_at ys code)) =
        subst (λ l. IsFaceOf grid l code (face_in Union (face_at xs code) (face_at ys code))) (sym (faced_split vertices number one two))
        (face_together grid early late code (face_at xs code) (face_at ys code) (runs_lower vertices grid number one two) here there) in
        alike_face grid code (faced_from vertices number (one ++ two)) (faced_triangles both) (face_in Union (face_at xs code) (face_at ys code))
        (turned grid code (faced_triangles both) (faced_from vertices number (one ++ two)) (piece_alike grid vertices number (one ++ two) both is_both code below)) run

pub pieces_join : PiecesJoin
pieces_join = record { triangles = triangles_join; whole = whole_piece; join = join_pieces }
