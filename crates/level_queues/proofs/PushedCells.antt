-- A cell is pushed behind others.
use Rattle.std.proofs.Common.{◌≡◌, ◌≢◌, ◌≤◌, ℕ, zero, suc, ◌+◌, ◌-◌, ◌*◌, ◌/◌, ◌^◌, ◌<◌, ◌==◌, cond, List, [], ◌∷◌, ◌++◌, length, get_or, set, sym, ap, ◌∙◌, arith, add-one}
use Rattle.std.proofs.lemmas.List.{map-append}
use Rattle.std.proofs.lemmas.Bool.{ne_eqb}
use Rattle.octree_specs.specs.Cells.{Cell}
use Rattle.octree_specs.specs.Formats.{face_leaves}
use Rattle.octree_specs.specs.Octree.{Leaf}
use Rattle.room_plan.specs.declared.queues.QueueEntry.{QueueEntry}
use Rattle.level_queues.specs.Queued.{AreQueued, queue_of}
use Rattle.level_queues.proofs.Turns.{AreRows, room_leaf, put_rows}
use Rattle.level_queues.proofs.Leaving.{none_beyond, none_after}

pub face_leaves-more : (cells : List Cell) (cell : Cell) → face_leaves (cells ++ cell ∷ []) ≡ face_leaves cells ++ record { node = cell.code; word = 1 + 256 * cell.face } ∷ []
face_leaves-more cells cell = map-append (λ (cell : Cell). record { node = cell.code; word = 1 + 256 * cell.face }) cells (cell ∷ [])

pub lowest_later : (n top : ℕ) → cond (n + 1 == 0) top 0 ≡ 0
lowest_later n top = ap (λ b. cond b top 0) (ne_eqb (n + 1) 0 (λ same. omega (arith, same)))

pub lowest_within : (n top : ℕ) → cond (n == 0) top 0 ≤ top
lowest_within zero top = omega arith
lowest_within (suc n) top =
    let e : cond (suc n == 0) top 0 ≡ 0 = ap (λ b. cond b top 0) (ne_eqb (suc n) 0 (λ same. omega (arith, same))) in
    omega (arith, e)

-- a cell comes behind those before, and leaves them below this height
pub record IsBehind (count last code height : ℕ) : Type 0 where
  pub later : 0 < count → last < code
  pub same : code / 8 ^ (height + 1) ≡ last / 8 ^ (height + 1)
  pub apart : 0 < count → 0 < height → code / 8 ^ height ≢ last / 8 ^ height

-- the queues' fields once all below the height is closed at which a cell leaves those before
module _ (depth : ℕ) (entries : List QueueEntry) (counts : List ℕ) (are : AreRows depth entries counts) (leaves : List Leaf) (height last count : ℕ) (words : List ℕ) (low : height < depth)
    (queued : AreQueued leaves (depth - suc height) height last (queue_of entries counts) words) (counted : count ≡ length leaves) (leaf : Leaf)
    (behind : IsBehind count last leaf.node height) where
  path : leaf.node / 8 ^ suc height ≡ last / 8 ^ suc height
  path = ap (λ h. leaf.node / 8 ^ h) (sym (add-one height)) ∙ (behind.same ∙ ap (λ h. last / 8 ^ h) (add-one height))

  pub room_pushed : get_or counts 0 0 < 8
  room_pushed = room_leaf depth entries counts are leaves leaf height last words low queued path (none_beyond leaves count last leaf.node counted behind.later queued.none height behind.apart)

  pub put_pushed : (deep lowest : ℕ) (after : List QueueEntry) (counting : List ℕ)
      → after ≡ set entries (8 * 0 + get_or counts 0 0) (record { word = leaf.word; state = leaf.node }) → counting ≡ set counts 0 (get_or counts 0 0 + 1)
      → deep ≡ depth → lowest ≡ 0
      → AreQueued (leaves ++ leaf ∷ []) (deep - suc lowest) lowest leaf.node (queue_of after counting) words
  put_pushed deep lowest after counting placed counts_are depth_same start =
      rw (depth_same, start)
      (put_rows depth entries counts are leaves leaf height last words low queued path
      (none_beyond leaves count last leaf.node counted behind.later queued.none height behind.apart) (none_after leaves count last leaf.node counted behind.later queued.none)
      after counting placed counts_are)
