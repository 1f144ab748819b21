-- Lists in memory that are made with room, and started as streams later.
use Rattle.std.specs.Prelude.{◌≡◌, ◌≤◌, ℕ, List, [], length, drop}
use Rattle.std.specs.List.{All}

-- each list keeps to its room, and those that are not started are empty
pub record AreRooms {X : Type 0} (lists : List X) (items : X → List ℕ) (capacity : X → ℕ) (started room : ℕ) : Type 0 where
  pub within : started ≤ length lists
  pub rooms : All (λ list. (length (items list) ≤ room) × (room ≤ capacity list)) lists
  pub empty : All (λ list. items list ≡ []) (drop started lists)

-- lists as they are made
abbrev pub AreMade : {X : Type 0} → List X → (X → List ℕ) → (X → ℕ) → ℕ → Type 0
AreMade lists items capacity room = All (λ list. (items list ≡ []) × (room ≤ capacity list)) lists
