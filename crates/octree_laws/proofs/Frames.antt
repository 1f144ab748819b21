-- What a file's bytes say of its header, its words and its trailer.
use Rattle.std.proofs.Common.{◌≡◌, ℕ, ◌+◌, ◌*◌, ◌^◌, ◌<◌, ◌≤◌, true, false, cond, List, [], ◌∷◌, ◌++◌, length, get_or, refl, sym, ap, ◌∙◌, inl, inr, arith, lit<, ℤ}
use Rattle.std.specs.Prelude.{◌==◌, All, unsigned_abs, codes}
use Rattle.std.specs.List.{flat_map}
use Rattle.std.specs.Int.{w32, w64, cast_unsigned, to_le_bytes}
use Rattle.std.proofs.Math.Nat.{one-le-pow, mul-le-mul_left}
use Rattle.std.proofs.lemmas.List.{length-append}
use Rattle.std.proofs.lemmas.List.Elements.{All-head, All-tail}
use Rattle.svo_base.specs.GridShape.{GridShape, IsGrid}
use Rattle.octree_specs.specs.Formats.{IsFormat}
use Rattle.octree_specs.specs.OctreeFile.{header_of, trailer_of, frame_of, IsFramed}
use Rattle.octree_laws.proofs.Bytes.{same_parts, same_ends, same_four, same_eight, same_signed, bytes_of, length-bytes_of, same_words, length-eight}

-- ---- names

magic : ℕ → List ℕ
magic format = cond (format == 1) (codes "SVOCUBE1") (codes "SVOCUBE2")

ending : ℕ → List ℕ
ending format = cond (format == 1) (codes "SVOCEND1") (codes "SVOCEND2")

length-magic : (format : ℕ) → length (magic format) ≡ 8
unfolding magic
length-magic format = elim (format == 1) as (λ b. length (cond b (codes "SVOCUBE1") (codes "SVOCUBE2")) ≡ 8) [ true ↦ refl | false ↦ refl ]

length-ending : (format : ℕ) → length (ending format) ≡ 8
unfolding ending
length-ending format = elim (format == 1) as (λ b. length (cond b (codes "SVOCEND1") (codes "SVOCEND2")) ≡ 8) [ true ↦ refl | false ↦ refl ]

apart : (a b : ℕ) → a ≡ 49 → b ≡ 50 → a ≡ b → ⊥
apart a b one two same = absurd (omega arith)

same_format : (f g : ℕ) → IsFormat f → IsFormat g → magic f ≡ magic g → f ≡ g
unfolding magic
same_format f g (inl f_one) (inl g_one) same = f_one ∙ sym g_one
same_format f g (inl f_one) (inr g_two) same =
    absurd (apart (get_or (magic 1) 7 0) (get_or (magic 2) 7 0) refl refl (ap (λ l. get_or l 7 0) (sym (ap magic f_one) ∙ (same ∙ ap magic g_two))))
same_format f g (inr f_two) (inl g_one) same =
    absurd (apart (get_or (magic 1) 7 0) (get_or (magic 2) 7 0) refl refl (ap (λ l. get_or l 7 0) (sym (ap magic g_one) ∙ (sym same ∙ ap magic f_two))))
same_format f g (inr f_two) (inr g_two) same = f_two ∙ sym g_two

-- ---- headers

origin_bytes : List ℤ → List ℕ
origin_bytes origin = flat_map (λ o. to_le_bytes w64 (cast_unsigned w64 o)) origin

length-origin : (origin : List ℤ) → length (origin_bytes origin) ≡ 8 * length origin
unfolding origin_bytes
length-origin [] = refl
length-origin (o ∷ rest) =
    let more : length (origin_bytes rest) ≡ 8 * length rest = length-origin rest in
    length-append (to_le_bytes w64 (cast_unsigned w64 o)) (origin_bytes rest) ∙ omega (arith, more, length-eight (cast_unsigned w64 o))

same_origin : (xs ys : List ℤ) → All (λ o. unsigned_abs o ≤ 2 ^ 30) xs → All (λ o. unsigned_abs o ≤ 2 ^ 30) ys → length xs ≡ length ys → origin_bytes xs ≡ origin_bytes ys → xs ≡ ys
unfolding origin_bytes
same_origin [] [] near_x near_y long same = refl
same_origin [] (y ∷ ys) near_x near_y long same = absurd (omega (arith, long))
same_origin (x ∷ xs) [] near_x near_y long same = absurd (omega (arith, long))
same_origin (x ∷ xs) (y ∷ ys) near_x near_y long same =
    let parts : (to_le_bytes w64 (cast_unsigned w64 x) ≡ to_le_bytes w64 (cast_unsigned w64 y)) × (origin_bytes xs ≡ origin_bytes ys) =
    same_parts (to_le_bytes w64 (cast_unsigned w64 x)) (origin_bytes xs) (to_le_bytes w64 (cast_unsigned w64 y)) (origin_bytes ys) refl same in
    let near : ℤ → Type 0 = λ o. unsigned_abs o ≤ 2 ^ 30 in
    let first : x ≡ y = same_signed x y (All-head near x xs near_x) (All-head near y ys near_y) parts.0 in
    let rest : xs ≡ ys = same_origin xs ys (All-tail near x xs near_x) (All-tail near y ys near_y) (omega (arith, long)) parts.1 in
    rw (first, rest) refl

pub length-header : (format : ℕ) (grid : GridShape) → IsGrid grid → length (header_of format grid) ≡ 48
unfolding header_of magic origin_bytes
length-header format grid limits =
    length-append (magic format ++ to_le_bytes w32 grid.depth ++ to_le_bytes w32 0 ++ origin_bytes grid.origin) (to_le_bytes w64 grid.cell)
    ∙ rw (
      length-append (magic format ++ to_le_bytes w32 grid.depth ++ to_le_bytes w32 0) (origin_bytes grid.origin),
      length-append (magic format ++ to_le_bytes w32 grid.depth) (to_le_bytes w32 0),
      length-append (magic format) (to_le_bytes w32 grid.depth),
      length-magic format,
      length-origin grid.origin,
      limits.axes,
    ) refl

grid_is : (g h : GridShape) → g.depth ≡ h.depth → g.origin ≡ h.origin → g.cell ≡ h.cell → g ≡ h
grid_is g h depth origin cell = λ i. record { depth = depth i; origin = origin i; cell = cell i }

cell-small : (grid : GridShape) → IsGrid grid → grid.cell < 2 ^ 64
cell-small grid limits =
    let one : 1 ≤ 2 ^ grid.depth = one-le-pow grid.depth 2 (lit< tt) in
    let wide : grid.cell * 1 ≤ grid.cell * 2 ^ grid.depth = mul-le-mul_left grid.cell one in
    omega (arith, limits.narrow)

pub same_headers : (f g : ℕ) (grid other : GridShape) → IsFormat f → IsFormat g → IsGrid grid → IsGrid other → header_of f grid ≡ header_of g other → (f ≡ g) × (grid ≡ other)
unfolding header_of magic origin_bytes
same_headers f g grid other known_f known_g limits others same =
    let depth_of : GridShape → List ℕ = λ h. to_le_bytes w32 h.depth in
    let zeros : List ℕ = to_le_bytes w32 0 in
    let long : length (origin_bytes grid.origin) ≡ length (origin_bytes other.origin) =
    length-origin grid.origin ∙ (ap (λ n. 8 * n) (limits.axes ∙ sym others.axes) ∙ sym (length-origin other.origin)) in
    let cells : (magic f ++ depth_of grid ++ zeros ++ origin_bytes grid.origin ≡ magic g ++ depth_of other ++ zeros ++ origin_bytes other.origin)
    × (to_le_bytes w64 grid.cell ≡ to_le_bytes w64 other.cell) =
    same_ends (magic f ++ depth_of grid ++ zeros ++ origin_bytes grid.origin) (to_le_bytes w64 grid.cell) (magic g ++ depth_of other ++ zeros ++ origin_bytes other.origin) (to_le_bytes w64 other.cell) refl same in
    let origins : (magic f ++ depth_of grid ++ zeros ≡ magic g ++ depth_of other ++ zeros) × (origin_bytes grid.origin ≡ origin_bytes other.origin) =
    same_ends (magic f ++ depth_of grid ++ zeros) (origin_bytes grid.origin) (magic g ++ depth_of other ++ zeros) (origin_bytes other.origin) long cells.0 in
    let nothing : (magic f ++ depth_of grid ≡ magic g ++ depth_of other) × (zeros ≡ zeros) = same_ends (magic f ++ depth_of grid) zeros (magic g ++ depth_of other) zeros refl origins.0 in
    let depths : (magic f ≡ magic g) × (depth_of grid ≡ depth_of other) = same_ends (magic f) (depth_of grid) (magic g) (depth_of other) refl nothing.0 in (
      same_format f g known_f known_g depths.0,
      grid_is grid other
          (same_four grid.depth other.depth (omega (arith, limits.shallow)) (omega (arith, others.shallow)) depths.1)
          (same_origin grid.origin other.origin limits.near others.near (limits.axes ∙ sym others.axes) origins.1)
          (same_eight grid.cell other.cell (cell-small grid limits) (cell-small other others) cells.1),
    )

-- ---- trailers

pub length-trailer : (format records cells : ℕ) → length (trailer_of format records cells) ≡ 32
unfolding trailer_of ending
length-trailer format records cells =
    length-append (to_le_bytes w64 0 ++ to_le_bytes w64 records ++ to_le_bytes w64 cells) (ending format) ∙ rw (length-ending format) refl

pub same_trailers : (f records cells m n : ℕ) → cells < 2 ^ 64 → n < 2 ^ 64 → trailer_of f records cells ≡ trailer_of f m n → cells ≡ n
unfolding trailer_of ending
same_trailers f records cells m n small_cells small_n same =
    let front : ℕ → ℕ → List ℕ = λ r c. to_le_bytes w64 0 ++ to_le_bytes w64 r ++ to_le_bytes w64 c in
    let fronts : (front records cells ≡ front m n) × (ending f ≡ ending f) = same_ends (front records cells) (ending f) (front m n) (ending f) refl same in
    let counts : (to_le_bytes w64 0 ++ to_le_bytes w64 records ≡ to_le_bytes w64 0 ++ to_le_bytes w64 m) × (to_le_bytes w64 cells ≡ to_le_bytes w64 n) =
    same_ends (to_le_bytes w64 0 ++ to_le_bytes w64 records) (to_le_bytes w64 cells) (to_le_bytes w64 0 ++ to_le_bytes w64 m) (to_le_bytes w64 n) refl fronts.0 in
    same_eight cells n small_cells small_n counts.1

-- ---- frames

pub length-frame : (format : ℕ) (grid : GridShape) (words : List ℕ) (cells : ℕ) → IsGrid grid → length (frame_of format grid words cells) ≡ 80 + 8 * length words
unfolding frame_of
length-frame format grid words cells limits =
    length-append (header_of format grid ++ bytes_of words) (trailer_of format (length words) cells)
    ∙ rw (length-append (header_of format grid) (bytes_of words), length-header format grid limits, length-bytes_of words, length-trailer format (length words) cells) (omega arith)

-- what a framed file's bytes determine
pub record AreOneFrame (f g : ℕ) (grid other : GridShape) (xs ys : List ℕ) (m n : ℕ) : Type 0 where
  pub formats : f ≡ g
  pub grids : grid ≡ other
  pub words : xs ≡ ys
  pub counts : m ≡ n

pub one_frame : (bytes : List ℕ) (f g : ℕ) (grid other : GridShape) (xs ys : List ℕ) (m n : ℕ) → IsFramed f grid xs m bytes → IsFramed g other ys n bytes → AreOneFrame f g grid other xs ys m n
unfolding frame_of
one_frame bytes f g grid other xs ys m n x y =
    let whole : frame_of f grid xs m ≡ frame_of g other ys n = sym x.frame ∙ y.frame in
    let ends : (header_of f grid ++ bytes_of xs ≡ header_of g other ++ bytes_of ys) × (trailer_of f (length xs) m ≡ trailer_of g (length ys) n) =
    same_ends (header_of f grid ++ bytes_of xs) (trailer_of f (length xs) m) (header_of g other ++ bytes_of ys) (trailer_of g (length ys) n)
    (length-trailer f (length xs) m ∙ sym (length-trailer g (length ys) n)) whole in
    let parts : (header_of f grid ≡ header_of g other) × (bytes_of xs ≡ bytes_of ys) =
    same_parts (header_of f grid) (bytes_of xs) (header_of g other) (bytes_of ys) (length-header f grid x.limits ∙ sym (length-header g other y.limits)) ends.0 in
    let heads : (f ≡ g) × (grid ≡ other) = same_headers f g grid other x.known y.known x.limits y.limits parts.0 in
    record {
      formats = heads.0;
      grids = heads.1;
      words = same_words xs ys x.wide y.wide parts.1;
      counts = same_trailers f (length xs) m (length ys) n x.count y.count (ends.1 ∙ ap (λ h. trailer_of h (length ys) n) (sym heads.0));
    }
