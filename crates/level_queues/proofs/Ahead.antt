-- The words that are given up to a height, and at the end, of queues in an octree of some depth.
use Rattle.std.proofs.Common.{◌≡◌, ℕ, suc, ◌+◌, ◌-◌, ◌*◌, ◌/◌, ◌^◌, ◌<◌, ◌≤◌, List, [], ◌∷◌, ◌++◌, length, sym, ap, ◌∙◌, subst, arith, add-one}
use Rattle.std.specs.Prelude.{All}
use Rattle.std.proofs.lemmas.List.{map-append}
use Rattle.std.proofs.lemmas.List.Elements.{All-head, All-tail}
use Rattle.std.proofs.Math.Nat.{div-eq_of_lt}
use Rattle.octree_specs.specs.Cells.{Cell, codes_of}
use Rattle.octree_specs.specs.Formats.{face_leaves, file_words}
use Rattle.octree_specs.specs.Octree.{Leaf, words_of}
use Rattle.octree_laws.proofs.Rising.{Ascends, ascends}
use Rattle.room_plan.specs.declared.queues.QueueEntry.{QueueEntry}
use Rattle.level_queues.specs.Fronts.{Ascend}
use Rattle.level_queues.specs.GivenWords.{words_in}
use Rattle.level_queues.specs.Queued.{AreQueued, written_of}
use Rattle.level_queues.proofs.Continuing.{IsFrontOf, front_shorter, front_further, HasRisen, closed_at, risen_by, front_of_root, Follow, front_of_pushed}
use Rattle.level_queues.proofs.PushedCells.{IsBehind}

module _ (leaves : List Leaf) (depth last : ℕ) where
  risen_to : (height target : ℕ) (queues : ℕ → List QueueEntry) (words : List ℕ) → height ≤ target → target < depth → AreQueued leaves (depth - suc height) height last queues words
      → HasRisen leaves (depth - suc target) target last words
  risen_to height target queues words low high are =
      let e : depth - suc height ≡ (target - height) + (depth - suc target) = omega (arith, low, high) in
      let f : target ≡ (target - height) + height = omega (arith, low) in
      risen_by leaves last (target - height) (depth - suc height) (depth - suc target) height target queues words e f are

  -- a queue's words are the next of those that are given up to a height above
  pub row_toward : (height target : ℕ) (queues : ℕ → List QueueEntry) (words : List ℕ) → height < target → target < depth → AreQueued leaves (depth - suc height) height last queues words
      → IsFrontOf (words ++ words_in (queues height)) (written_of leaves (depth - suc target) target (last / 8 ^ suc target))
  row_toward height target queues words low high are =
      let row : List ℕ = words ++ words_in (queues height) in
      let e : depth - suc height ≡ suc (depth - suc (suc height)) = omega (arith, low, high) in
      let on : HasRisen leaves (depth - suc (suc height)) (suc height) last row =
      closed_at leaves last (depth - suc (suc height)) height queues words (subst (λ n. AreQueued leaves n height last queues words) e are) in
      let top : HasRisen leaves (depth - suc target) target last on.words = risen_to (suc height) target on.queues on.words (omega (arith, low)) high on.are in
      front_further row on.words (written_of leaves (depth - suc target) target (last / 8 ^ suc target)) on.front_is (subst (λ l. IsFrontOf on.words l) {x = top.words} top.are.written top.front_is)

  -- and those up to a height are the next of all words, where the octree has no more leaves
  pub root_toward : (height top : ℕ) (queues : ℕ → List QueueEntry) (words : List ℕ) → height ≤ top → suc top ≡ depth → last < 8 ^ depth → AreQueued leaves (depth - suc height) height last queues words
      → IsFrontOf (written_of leaves (depth - suc top) top (last / 8 ^ suc top)) (words_of leaves depth)
  root_toward height top queues words low high inside are =
      let risen : HasRisen leaves (depth - suc top) top last words = risen_to height top queues words low (omega (arith, high)) are in
      let root : depth - suc top ≡ 0 = omega (arith, high) in
      let e : depth ≡ suc (0 + top) = omega (arith, high) in
      let whole : IsFrontOf (risen.words ++ words_in (risen.queues top)) (words_of leaves depth) =
      front_of_root leaves last 0 top depth risen.queues risen.words e (div-eq_of_lt inside) (subst (λ n. AreQueued leaves n top last risen.queues risen.words) root risen.are) in
      subst (λ l. IsFrontOf l (words_of leaves depth)) {x = risen.words} risen.are.written (front_shorter risen.words (words_in (risen.queues top)) (words_of leaves depth) whole)

  -- or where another leaf comes, which leaves the last one at this height, and more behind it
  pub leaf_toward : (leaf : Leaf) (rest : List Leaf) (height target count : ℕ) (queues : ℕ → List QueueEntry) (words : List ℕ) → height ≤ target → target < depth → count ≡ length leaves → IsBehind count last leaf.node target
      → leaf.node < 8 ^ depth → Follow leaf.node (8 ^ depth) rest → AreQueued leaves (depth - suc height) height last queues words
      → IsFrontOf (written_of leaves (depth - suc target) target (last / 8 ^ suc target)) (words_of (leaves ++ leaf ∷ rest) depth)
  leaf_toward leaf rest height target count queues words low high counted behind inside follow are =
      let risen : HasRisen leaves (depth - suc target) target last words = risen_to height target queues words low high are in
      let path : leaf.node / 8 ^ suc target ≡ last / 8 ^ suc target = ap (λ h. leaf.node / 8 ^ h) (sym (add-one target)) ∙ (behind.same ∙ ap (λ h. last / 8 ^ h) (add-one target)) in
      let e : suc ((depth - suc target) + target) ≡ depth = omega (arith, high) in
      let front : IsFrontOf risen.words (words_of (leaves ++ leaf ∷ rest) (suc ((depth - suc target) + target))) =
      front_of_pushed leaves leaf rest (depth - suc target) target last risen.queues risen.words risen.are path (λ some. behind.later (omega (arith, some, counted)))
      (λ some. behind.apart (omega (arith, some, counted))) (subst (λ n. leaf.node < 8 ^ n) (sym e) inside) (subst (λ n. Follow leaf.node (8 ^ n) rest) (sym e) follow) in
      subst (λ l. IsFrontOf l (words_of (leaves ++ leaf ∷ rest) depth)) {x = risen.words} risen.are.written (subst (λ n. IsFrontOf risen.words (words_of (leaves ++ leaf ∷ rest) n)) e front)

-- ---- cells that ascend

later_part : (low : ℕ) (xs ys : List ℕ) → Ascends low (xs ++ ys) → (n : ℕ) × Ascends n ys
unfolding Ascends
later_part low [] ys up = (low, up)
later_part low (x ∷ xs) ys up = later_part (x + 1) xs ys up.1

all_later : (P : Cell → Type 0) (xs ys : List Cell) → All P (xs ++ ys) → All P ys
all_later P [] ys all = all
all_later P (x ∷ xs) ys all = all_later P xs ys (All-tail P x (xs ++ ys) all)

follow_cells : (limit last : ℕ) (cells : List Cell) → Ascends (last + 1) (codes_of cells) → All (λ cell. cell.code < limit) cells → Follow last limit (face_leaves cells)
unfolding Ascends Follow
follow_cells limit last [] up inside = tt
follow_cells limit last (cell ∷ rest) up inside =
    (omega (arith, up.0), All-head (λ (c : Cell). c.code < limit) cell rest inside, follow_cells limit cell.code rest up.1 (All-tail (λ (c : Cell). c.code < limit) cell rest inside))

pub follow_later : (depth : ℕ) (cells : List Cell) (cell : Cell) (later : List Cell) → Ascend depth (cells ++ cell ∷ later) → Follow cell.code (8 ^ depth) (face_leaves later)
unfolding Ascends
follow_later depth cells cell later are =
    let limit : Cell → Type 0 = λ c. c.code < 8 ^ depth in
    let rising : Ascends 0 (codes_of (cells ++ cell ∷ later)) = ascends 0 (codes_of (cells ++ cell ∷ later)) are.ascending (λ some. omega arith) in
    let parted : Ascends 0 (codes_of cells ++ codes_of (cell ∷ later)) = subst (Ascends 0) (map-append (λ (c : Cell). c.code) cells (cell ∷ later)) rising in
    let part : (n : ℕ) × Ascends n (cell.code ∷ codes_of later) = later_part 0 (codes_of cells) (cell.code ∷ codes_of later) parted in
    follow_cells (8 ^ depth) cell.code later part.1.1 (All-tail limit cell later (all_later limit cells (cell ∷ later) are.inside))

-- ---- the words of a file

pub end_toward : (depth last height top : ℕ) (cells : List Cell) (queues : ℕ → List QueueEntry) (words : List ℕ) → height ≤ top → suc top ≡ depth → last < 8 ^ depth → AreQueued (face_leaves cells) (depth - suc height) height last queues words
    → IsFrontOf (written_of (face_leaves cells) (depth - suc top) top (last / 8 ^ suc top)) (file_words 2 depth cells)
unfolding file_words
end_toward depth last height top cells queues words low high inside are = root_toward (face_leaves cells) depth last height top queues words low high inside are

pub cell_toward : (depth last height target count : ℕ) (cells : List Cell) (cell : Cell) (later : List Cell) (queues : ℕ → List QueueEntry) (words : List ℕ) → height ≤ target → target < depth → count ≡ length (face_leaves cells)
    → IsBehind count last cell.code target → cell.code < 8 ^ depth → Ascend depth (cells ++ cell ∷ later) → AreQueued (face_leaves cells) (depth - suc height) height last queues words
    → IsFrontOf (written_of (face_leaves cells) (depth - suc target) target (last / 8 ^ suc target)) (file_words 2 depth (cells ++ cell ∷ later))
unfolding file_words
cell_toward depth last height target count cells cell later queues words low high counted behind inside ascend are =
    let leaf : Leaf = record { node = cell.code; word = 1 + 256 * cell.face } in
    let parts : face_leaves (cells ++ cell ∷ later) ≡ face_leaves cells ++ leaf ∷ face_leaves later = map-append (λ (c : Cell). record { node = c.code; word = 1 + 256 * c.face }) cells (cell ∷ later) in
    subst (λ l. IsFrontOf (written_of (face_leaves cells) (depth - suc target) target (last / 8 ^ suc target)) (words_of l depth)) (sym parts)
    (leaf_toward (face_leaves cells) depth last leaf (face_leaves later) height target count queues words low high counted behind inside (follow_later depth cells cell later ascend) are)
