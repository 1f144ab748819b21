-- How many words and entries there are at most.
use Rattle.std.proofs.Common.{◌≡◌, ℕ, zero, suc, ◌+◌, ◌-◌, ◌*◌, ◌/◌, ◌%◌, ◌^◌, ◌<◌, ◌≤◌, List, [], ◌∷◌, ◌++◌, length, ap, ◌∙◌, arith, suc-mul, mul-le-mul_right}
use Rattle.std.specs.List.{sum_by}
use Rattle.std.proofs.Math.Nat.{pow-suc}
use Rattle.std.proofs.lemmas.List.{length-append}
use Rattle.std.proofs.lemmas.List.Sums.{sum_by-cons}
use Rattle.svo_base.specs.declared.grids.TheConstants.{MAX_DEPTH}
use Rattle.octree_specs.specs.Octree.{Leaf, children_of, size_of, in_turn, below_of}
use Rattle.octree_laws.proofs.FirstChildren.{length-first_children}
use Rattle.octree_laws.proofs.InTurn.{length-in_turn}
use Rattle.octree_laws.proofs.Sizes.{length-below_of, size-few}
use Rattle.room_plan.specs.declared.queues.QueueEntry.{QueueEntry}
use Rattle.level_queues.specs.Queued.{elder_of, before_of, AreHeld, AreQueued}
use Rattle.level_queues.proofs.Runs.{length-entries}
use Rattle.level_queues.proofs.Pushing.{HasReached}

eights_rise : (n more : ℕ) → 8 ^ n ≤ 8 ^ (n + more)
eights_rise n zero =
    let e : n + zero ≡ n = omega arith in
    omega (arith, ap (λ k. 8 ^ k) e)
eights_rise n (suc more) =
    let e : n + suc more ≡ suc (n + more) = omega arith in
    omega (arith, eights_rise n more, ap (λ k. 8 ^ k) e, pow-suc 8 (n + more))

-- as many cells as numbers up to the last
pub cells-few : (depth last cells : ℕ) → depth ≤ MAX_DEPTH → last < 8 ^ depth → cells ≤ last + 1 → cells ≤ 2 ^ 36
cells-few depth last cells shallow inside few =
    let e : depth + (MAX_DEPTH - depth) ≡ MAX_DEPTH = omega (arith, shallow) in
    omega (arith, inside, few, eights_rise depth (MAX_DEPTH - depth), ap (λ n. 8 ^ n) e)

-- words below some nodes of a height
few_below : (leaves : List Leaf) (height : ℕ) (nodes : List ℕ) → 7 * sum_by (size_of leaves height) nodes ≤ length nodes * 8 ^ suc height
few_below leaves height [] = omega arith
few_below leaves height (x ∷ rest) =
    omega (arith, sum_by-cons (size_of leaves height) x rest, suc-mul (length rest) (8 ^ suc height), few_below leaves height rest, size-few leaves height x)

length-below : (leaves : List Leaf) (height at : ℕ) (nodes : List ℕ) → length (in_turn (size_of leaves height) (below_of leaves height) at nodes) ≡ sum_by (size_of leaves height) nodes
length-below leaves height at nodes = length-in_turn (size_of leaves height) (below_of leaves height) (size_of leaves height) (length-below_of leaves height) at nodes

before-few : (leaves : List Leaf) (above height node : ℕ) → 7 * length (before_of leaves above height node) + 8 ^ suc height ≤ 8 ^ (above + suc height)
unfolding before_of
before-few leaves zero height node =
    let e : zero + suc height ≡ suc height = omega arith in
    omega (arith, ap (λ n. 8 ^ n) e)
before-few leaves (suc above) height node =
    let front : List ℕ = before_of leaves above (suc height) (node / 8) in
    let elder : List ℕ = elder_of leaves height node in
    let e : suc above + suc height ≡ above + suc (suc height) = omega arith in
    let seven : length elder ≤ 7 = omega (arith, length-first_children leaves height (node / 8) (node % 8)) in
    let long : length (front ++ in_turn (size_of leaves height) (below_of leaves height) (length front) elder) ≡ length front + sum_by (size_of leaves height) elder =
    length-append front (in_turn (size_of leaves height) (below_of leaves height) (length front) elder) ∙ ap (λ n. length front + n) (length-below leaves height (length front) elder) in
    omega (arith, long, before-few leaves above (suc height) (node / 8), few_below leaves height elder, mul-le-mul_right (8 ^ suc height) seven, pow-suc 8 (suc height), ap (λ n. 8 ^ n) e)

pub words-few : (leaves : List Leaf) (above height last : ℕ) (queues : ℕ → List QueueEntry) (words : List ℕ) → AreQueued leaves above height last queues words → above + height ≤ 11 → length words ≤ 2 ^ 40
words-few leaves above height last queues words are shallow =
    let parent : ℕ = last / 8 ^ suc height in
    let front : List ℕ = before_of leaves above (suc height) parent in
    let children : List ℕ = children_of leaves height parent in
    let eight : length children ≤ 8 = length-first_children leaves height parent 8 in
    let long : length words ≡ length front + sum_by (size_of leaves height) children =
    ap length are.written ∙ (length-append front (in_turn (size_of leaves height) (below_of leaves height) (length front) children) ∙ ap (λ n. length front + n) (length-below leaves height (length front) children)) in
    let levels : ℕ = above + suc (suc height) in
    let e : levels + (13 - levels) ≡ 13 = omega (arith, shallow) in
    let top : 8 ^ levels ≤ 8 ^ 13 = omega (arith, eights_rise levels (13 - levels), ap (λ n. 8 ^ n) e) in
    omega (arith, long, before-few leaves above (suc height) parent, few_below leaves height children, mul-le-mul_right (8 ^ suc height) eight, pow-suc 8 (suc height), top)

-- the next queue above an open one has room
pub room_above : (leaves : List Leaf) (above height last : ℕ) (queues : ℕ → List QueueEntry) (words : List ℕ) → AreQueued leaves (suc above) height last queues words → length (queues (suc height)) < 8
unfolding AreHeld
room_above leaves above height last queues words are =
    let node : ℕ = last / 8 ^ suc height in
    let long : length (queues (suc height)) ≡ length (elder_of leaves (suc height) node) =
    ap length are.higher.0 ∙ length-entries leaves (suc height) (length (before_of leaves above (suc (suc height)) (node / 8))) (elder_of leaves (suc height) node) in
    omega (arith, long, length-first_children leaves (suc height) (node / 8) (node % 8))

-- and so has that of a node before which all is given or waits
pub room_reached : (leaves : List Leaf) (above height node : ℕ) (queues : ℕ → List QueueEntry) (words : List ℕ) → HasReached leaves (suc above) height node queues words → length (queues height) < 8
unfolding AreHeld
room_reached leaves above height node queues words reached =
    let long : length (queues height) ≡ length (elder_of leaves height node) =
    ap length reached.higher.0 ∙ length-entries leaves height (length (before_of leaves above (suc height) (node / 8))) (elder_of leaves height node) in
    omega (arith, long, length-first_children leaves height (node / 8) (node % 8))
