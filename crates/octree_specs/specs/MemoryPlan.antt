-- How much memory a build is given, and for what. All sizes are in bytes; divisions round down.
use Rattle.std.specs.Prelude.{ℕ, ◌+◌, ◌-◌, ◌*◌, ◌/◌, ◌^◌, min, nat_le, find, Option}
use Rattle.std.specs.List.{range_with_len}
use Rattle.std.specs.Option.{option_map}

-- the grid is filled in `8 ^ split` parts; so many parcels are gathered before they go to scratch, so many blocks of vertices are kept, and there is a slot for each cell of a part
pub record Plan : Type 0 where
  pub depth : ℕ
  pub split : ℕ
  pub pool : ℕ
  pub window : ℕ
  pub slots : ℕ

-- what every build has: two blocks of 4096, four vertex blocks of 768, 64 parcels of 44, and for each level eight queue entries of 16
abbrev pub base_size : ℕ → ℕ
base_size depth = 14080 + 128 * depth

-- 4 for each cell of a part
abbrev pub slots_size : ℕ → ℕ → ℕ
slots_size depth split = 4 * 8 ^ (depth - split)

-- parts are nodes of level 4 at most
abbrev pub finest_split : ℕ → ℕ
finest_split depth = min depth 4

abbrev pub least_memory : ℕ → ℕ
least_memory depth = base_size depth + slots_size depth (finest_split depth)

-- the least split whose slots find room
abbrev pub split_of : ℕ → ℕ → Option ℕ
split_of depth limit = find (λ split. nat_le (base_size depth + slots_size depth split) limit) (range_with_len 0 (finest_split depth + 1))

-- what is left goes to parcels and vertices by halves
unfoldable pub plan_at : ℕ → ℕ → ℕ → Plan
plan_at depth limit split =
    let rest = limit - base_size depth - slots_size depth split in
    record {
      depth = depth;
      split = split;
      pool = min (2 ^ 20) (64 + rest / 2 / 44);
      window = min (2 ^ 16) (4 + (rest - rest / 2) / 768);
      slots = 8 ^ (depth - split);
    }

-- none where the limit is below the least
unfoldable pub plan_of : ℕ → ℕ → Option Plan
plan_of depth limit = option_map (plan_at depth limit) (split_of depth limit)

-- what the buffers of a plan take
abbrev pub plan_need : Plan → ℕ
plan_need plan = 8192 + 768 * plan.window + 44 * plan.pool + 128 * plan.depth + 4 * plan.slots
