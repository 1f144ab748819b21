-- Before the first leaf nothing is given and nothing waits.
use Rattle.std.proofs.Common.{◌≡◌, ℕ, zero, suc, ◌^◌, ◌*◌, ◌<◌, List, [], ◌∷◌, take, drop, get_or, refl, ap, arith}
use Rattle.std.specs.Prelude.{replicate}
use Rattle.std.proofs.Math.Nat.{pow-suc}
use Rattle.svo_base.specs.declared.grids.TheConstants.{MAX_DEPTH}
use Rattle.octree_specs.specs.Octree.{first_children}
use Rattle.room_plan.specs.declared.queues.QueueEntry.{QueueEntry}
use Rattle.level_queues.specs.Queued.{before_of, entries_of, AreHeld, AreQueued, queue_of}

none_row : (n k : ℕ) → get_or (replicate n zero) k 0 ≡ 0
none_row zero k = refl
none_row (suc n) zero = refl
none_row (suc n) (suc k) = none_row n k

-- rows of no entries
abbrev pub no_counts : List ℕ
no_counts = 0 ∷ 0 ∷ 0 ∷ 0 ∷ 0 ∷ 0 ∷ 0 ∷ 0 ∷ 0 ∷ 0 ∷ 0 ∷ 0 ∷ []

pub zero_row : (k : ℕ) → get_or no_counts k 0 ≡ 0
zero_row k = none_row MAX_DEPTH k

pub zero_queue : (entries : List QueueEntry) (k : ℕ) → queue_of entries no_counts k ≡ []
zero_queue entries k = ap (λ n. take n (drop (8 * k) entries)) (zero_row k)

pub none_queued : (height : ℕ) (queues : ℕ → List QueueEntry) → ((k : ℕ) → queues k ≡ []) → AreQueued [] 0 height 0 queues []
unfolding before_of entries_of AreHeld first_children
none_queued height queues empty = record {
  written = refl;
  lowest = empty height;
  higher = tt;
  closed = λ k low. empty k;
  none = λ h k far. refl;
  some = λ higher. absurd (omega (arith, higher));
}

pub some_cells : (depth : ℕ) → 0 < 8 ^ depth
some_cells zero = omega arith
some_cells (suc depth) = omega (arith, some_cells depth, pow-suc 8 depth)
