-- The table of orders, entry by entry.
use Rattle.std.proofs.Common.{◌≡◌, ℕ, zero, suc, ◌+◌, ◌*◌, ◌<◌, [], ◌∷◌, get_or, arith, refl}
use Rattle.case_table.specs.CaseLists.{octant_order_list}
use Rattle.ray_walk.specs.Octants.{visited}

-- what holds of the first eight numbers, one by one
each_below_eight : (P : ℕ → Type 0) → P 0 → P 1 → P 2 → P 3 → P 4 → P 5 → P 6 → P 7 → (k : ℕ) → k < 8 → P k
each_below_eight P a b c d e f g h zero below = a
each_below_eight P a b c d e f g h (suc zero) below = b
each_below_eight P a b c d e f g h (suc (suc zero)) below = c
each_below_eight P a b c d e f g h (suc (suc (suc zero))) below = d
each_below_eight P a b c d e f g h (suc (suc (suc (suc zero)))) below = e
each_below_eight P a b c d e f g h (suc (suc (suc (suc (suc zero))))) below = f
each_below_eight P a b c d e f g h (suc (suc (suc (suc (suc (suc zero)))))) below = g
each_below_eight P a b c d e f g h (suc (suc (suc (suc (suc (suc (suc zero))))))) below = h
each_below_eight P a b c d e f g h (suc (suc (suc (suc (suc (suc (suc (suc k)))))))) below = absurd (omega (arith, below))

IsEntry : ℕ → ℕ → Type 0
IsEntry turn k = get_or octant_order_list (8 * turn + k) [] ≡ visited turn k ∷ 0 ∷ 0 ∷ []

row : (turn : ℕ) → IsEntry turn 0 → IsEntry turn 1 → IsEntry turn 2 → IsEntry turn 3 → IsEntry turn 4 → IsEntry turn 5 → IsEntry turn 6 → IsEntry turn 7 → (k : ℕ) → k < 8 → IsEntry turn k
row turn = each_below_eight (IsEntry turn)

pub order_at : (turn k : ℕ) → turn < 8 → k < 8 → get_or octant_order_list (8 * turn + k) [] ≡ visited turn k ∷ 0 ∷ 0 ∷ []
unfolding octant_order_list visited IsEntry
order_at turn k turned octant =
    each_below_eight (λ turn. (k : ℕ) → k < 8 → IsEntry turn k)
    (row 0 refl refl refl refl refl refl refl refl)
    (row 1 refl refl refl refl refl refl refl refl)
    (row 2 refl refl refl refl refl refl refl refl)
    (row 3 refl refl refl refl refl refl refl refl)
    (row 4 refl refl refl refl refl refl refl refl)
    (row 5 refl refl refl refl refl refl refl refl)
    (row 6 refl refl refl refl refl refl refl refl)
    (row 7 refl refl refl refl refl refl refl refl)
    turn turned k octant
