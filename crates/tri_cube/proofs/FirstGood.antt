-- The first good candidate, pair by pair; there is one exactly where the triangle and the cube share a point.
use Rattle.std.proofs.Common.{◌≡◌, ℕ, suc, zero, ◌<◌, Bool, true, false, ◌||◌, ◌&&◌, Option, Some, None, List, [], ◌∷◌, ◌++◌, length, get_or, refl, subst, arith, sym, ap, ◌∙◌}
use Rattle.std.specs.Prelude.{IsTrue, ◌↔◌, is_some, cond}
use Rattle.std.specs.Option.{option_or}
use Rattle.std.specs.List.{find, list_any, flat_map, slice_index}
use Rattle.std.proofs.lemmas.Bool.{ltb-true, and_parts, both_ways, true_from_ne_false}
use lib.Dec.{ltb}
use Rattle.std.proofs.lemmas.List.{get_or_default}
use Rattle.std.proofs.lemmas.List.Concat.{flat_map-cons}
use Rattle.std.proofs.lemmas.List.Folds.{find-append, list_all_at}
use Rattle.svo_base.specs.declared.shapes.Triangle.{Triangle}
use Rattle.svo_base.specs.declared.shapes.Cube.{Cube}
use Rattle.svo_base.specs.declared.shapes.Vector.{Vector}
use Rattle.octree_specs.specs.Meeting.{Meets, low_of, high_of}
use Rattle.octree_specs.specs.Candidates.{above_plane, below_plane, rows_of, candidates_of, is_good, has_good_candidate}
use Rattle.octree_specs.proofs.Vectors.{unit_x, unit_y, unit_z}
use Rattle.octree_specs.proofs.Meetings.{good_exactly_where_met}
use Rattle.case_table.specs.CaseLists.{row_pair_list}
use Rattle.tri_cube.specs.CandidatesInTurn.{candidates_at, candidates_by_case, row_at, first_good}
use Rattle.tri_cube.specs.Sides.{unit_rows, sides_of}

-- a search finds something exactly where something passes
is_some-find : {X : Type 0} (p : X → Bool) (xs : List X) → is_some (find p xs) ≡ list_any p xs
is_some-find p [] = refl
is_some-find p (x ∷ xs) = elim (p x) as (λ b. is_some (cond b (Some x) (find p xs)) ≡ (b || list_any p xs)) [
  | true ↦ refl
  | false ↦ is_some-find p xs
]

pub some_good_where_met : (t : Triangle) (cube : Cube) → IsTrue (is_some (first_good t cube)) ↔ Meets t cube
unfolding first_good has_good_candidate
some_good_where_met t cube =
    subst (λ b. IsTrue b ↔ Meets t cube) (sym (is_some-find (is_good (rows_of t cube)) (candidates_of (rows_of t cube)))) (good_exactly_where_met t cube)

-- ---- part by part

-- nothing is found in the first parts, and so what is found in the next
pub find_none : {X Y : Type 0} (p : Y → Bool) (f : X → List Y) (d : X) (xs : List X) → ((k : ℕ) → k < length xs → find p (f (get_or xs k d)) ≡ None) → find p (flat_map f xs) ≡ None
find_none p f d [] none = refl
find_none p f d (x ∷ xs) none =
    rw (flat_map-cons f x xs, find-append p (f x) (flat_map f xs), none 0 (omega arith))
    (find_none p f d xs (λ k below. none (suc k) (omega arith)))

pub find_next : {X Y : Type 0} (p : Y → Bool) (f : X → List Y) (d : X) (xs : List X) (n : ℕ) (o : Option Y) → n < length xs → ((k : ℕ) → k < n → find p (f (get_or xs k d)) ≡ None)
    → o ≡ find p (f (get_or xs n d)) → is_some o ≡ true → o ≡ find p (flat_map f xs)
find_next p f d [] n o below none found some = absurd (omega arith)
find_next p f d (x ∷ xs) zero o below none found some =
    rw (flat_map-cons f x xs, find-append p (f x) (flat_map f xs), ← found) (first_some o (find p (flat_map f xs)) some)
  where
    first_some : {Y : Type 0} (o q : Option Y) → is_some o ≡ true → o ≡ option_or o q
    first_some None q some = cc
    first_some (Some y) q some = refl
find_next p f d (x ∷ xs) (suc n) o below none found some =
    rw (flat_map-cons f x xs, find-append p (f x) (flat_map f xs), none 0 (omega arith))
    (find_next p f d xs n o (omega arith) (λ k before. none (suc k) (omega arith)) found some)

pub none_of : {Y : Type 0} (o : Option Y) → is_some o ≡ false → o ≡ None
none_of None test = refl
none_of (Some y) test = cc

-- ---- the pairs of the table

-- the candidates of nine rows are those of the pairs in the table
pub by_pairs : (r0 r1 r2 r3 r4 r5 r6 r7 r8 : Vector) →
    let rows = r0 ∷ r1 ∷ r2 ∷ r3 ∷ r4 ∷ r5 ∷ r6 ∷ r7 ∷ r8 ∷ [] in flat_map (candidates_by_case rows) row_pair_list ≡ candidates_of rows
unfolding row_pair_list candidates_by_case
by_pairs r0 r1 r2 r3 r4 r5 r6 r7 r8 = refl

pub pair_count : length row_pair_list ≡ 36
unfolding row_pair_list
pair_count = refl

-- and each pair is of two of the nine rows
are_rows : List ℕ → Bool
are_rows found = ltb (slice_index found 0) 9 && ltb (slice_index found 1) 9

pub record IsPairOfRows (found : List ℕ) : Type 0 where
  pub first : slice_index found 0 < 9
  pub second : slice_index found 1 < 9

pub pair_of_rows : (place : ℕ) → place < 36 → IsPairOfRows (get_or row_pair_list place [])
unfolding row_pair_list are_rows
pair_of_rows place below =
    let test : are_rows (get_or row_pair_list place []) ≡ true = true_from_ne_false _ (λ no. both_ways _ (list_all_at are_rows row_pair_list place [] below no) refl) in
    let parts = and_parts (ltb (slice_index (get_or row_pair_list place []) 0) 9) (ltb (slice_index (get_or row_pair_list place []) 1) 9) test in
    record { first = ltb-true _ _ parts.0; second = ltb-true _ _ parts.1 }

-- the rows that are read are those that the case names
pub by_case : (p : Vector → Bool) (rows : List Vector) (found : List ℕ) (i j : ℕ) (a b : Vector) (o : Option Vector) → i ≡ slice_index found 0 → j ≡ slice_index found 1 → i < length rows → j < length rows
    → a ≡ get_or rows i a → b ≡ get_or rows j b → o ≡ find p (candidates_at a b) → o ≡ find p (candidates_by_case rows found)
unfolding candidates_by_case
by_case p rows found i j a b o first second below_i below_j read_a read_b is =
    let first_row : a ≡ row_at rows (slice_index found 0) = read_a ∙ get_or_default rows i a _ below_i ∙ ap (row_at rows) first in
    let second_row : b ≡ row_at rows (slice_index found 1) = read_b ∙ get_or_default rows j b _ below_j ∙ ap (row_at rows) second in
    is ∙ ap (λ v. find p (candidates_at v b)) first_row ∙ ap (λ v. find p (candidates_at (row_at rows (slice_index found 0)) v)) second_row

-- so the table gives the first good candidate
whole : (t : Triangle) (cube : Cube) → find (is_good (unit_rows ++ sides_of t cube)) (flat_map (candidates_by_case (unit_rows ++ sides_of t cube)) row_pair_list) ≡ first_good t cube
unfolding sides_of rows_of first_good
whole t cube =
    ap (find (is_good (rows_of t cube)))
    (by_pairs unit_x unit_y unit_z (above_plane (λ p. p.x) t (low_of cube 0)) (below_plane (λ p. p.x) t (high_of cube 0)) (above_plane (λ p. p.y) t (low_of cube 1)) (below_plane (λ p. p.y) t (high_of cube 1)) (above_plane (λ p. p.z) t (low_of cube 2)) (below_plane (λ p. p.z) t (high_of cube 2)))

pub by_table : (t : Triangle) (cube : Cube) (sides rows : List Vector) (o : Option Vector) → sides ≡ sides_of t cube → rows ≡ unit_rows ++ sides
    → o ≡ find (is_good (unit_rows ++ sides)) (flat_map (candidates_by_case rows) row_pair_list) → o ≡ first_good t cube
by_table t cube sides rows o is_sides is_rows found =
    found
    ∙ ap (λ r. find (is_good (unit_rows ++ sides)) (flat_map (candidates_by_case r) row_pair_list)) is_rows
    ∙ ap (λ s. find (is_good (unit_rows ++ s)) (flat_map (candidates_by_case (unit_rows ++ s)) row_pair_list)) is_sides
    ∙ whole t cube
