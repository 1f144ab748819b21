-- One number for two that stay.
use Rattle.std.specs.Prelude.{ℕ, ◌+◌, ◌*◌, ◌^◌}

-- of the loan through which a file is read, and of the loans behind it: where it stays, neither changed
unfoldable pub loan_number : ℕ → ℕ → ℕ
loan_number name behind = 2 ^ name * (2 * behind + 1)
