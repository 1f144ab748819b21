-- A front of a list that was copied over the front of another.
use Rattle.std.proofs.Common.{◌≡◌, ℕ, [], min, ◌+◌, ◌-◌, ◌≤◌, List, ◌++◌, length, take, drop, arith}
use Rattle.std.proofs.lemmas.List.{take_at, take_min, drop-drop}
use Rattle.std.proofs.lemmas.Grind.{common_steps}

-- the bytes from a place on are those that were copied and those after them
pub copied_front : (bytes old : List ℕ) (at n : ℕ) → at + n ≤ length bytes
    → drop at bytes ≡ take n (take (at + n - at) (drop at bytes) ++ drop n old) ++ drop (at + n) bytes
copied_front bytes old at n fits =
    let same : at + n - at ≡ n = omega arith in
    let long : length (take n (drop at bytes)) ≡ n = grind (arith, common_steps) in
    rw (same, take_at (take n (drop at bytes)) (drop n old) n long, ← drop-drop n at bytes) (grind (arith, common_steps))

-- a front is cut off at the list's own length too
pub front_kept : (n : ℕ) (xs : List ℕ) → [] ++ take (min (length xs) n) xs ≡ take n xs
front_kept n xs = let same : min (length xs) n ≡ min n (length xs) = omega arith in rw same (take_min n xs)
