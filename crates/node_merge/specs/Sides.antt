-- The two files of a pair, as contracts see them.
use Rattle.std.specs.Prelude.{ℕ, [], ◌∷◌, Result, Ok, Err}
use Rattle.dev_traits.specs.declared.file_device.NodeStore.{Ghosts}
use Rattle.node_file.specs.FileView.{FileView}
use Rattle.node_merge.specs.Numbered.{list_number, view_number}
use Rattle.node_merge.specs.Paired.{half_view}
use Rattle.node_merge.specs.declared.pair_loading.Frames.{Frames}
use Rattle.node_merge.specs.declared.pair_loading.PairFault.{PairFault}
use Rattle.node_merge.specs.declared.pairs.Pair.{Pair}
use Rattle.node_merge.specs.declared.pairs.UnloadedPair.{UnloadedPair}
use Rattle.node_merge.specs.declared.pairs.Turn.{Turn}
use Rattle.node_merge.specs.declared.pairs.Turn.TheVariants.{First, Second}
use Rattle.node_merge.specs.declared.sides.Side.{Side}

module _ {N : Type 0} {g : Ghosts N} where
  abbrev pub turn_view : Turn → Pair N g → FileView
  turn_view First pair = half_view (g.files pair.store.now) pair.first
  turn_view Second pair = half_view (g.files pair.store.now) pair.second

  -- the answer to a load without the store that comes back with a fault
  abbrev pub frames_of : Result (Pair N g) (UnloadedPair N) → Result Frames PairFault
  frames_of (Ok pair) = Ok (record { first = pair.first.frame; second = pair.second.frame })
  frames_of (Err unloaded) = Err unloaded.fault

  -- the file of a side
  abbrev pub side_view : Side N g → FileView
  side_view side = turn_view side.turn side.pair.now

  -- one number for the loan of a pair of this name, for that of its store and for both files: where it stays, none of these changed
  abbrev pub pair_number : ℕ → Pair N g → ℕ
  pair_number name pair = list_number (name ∷ pair.store.ghost_name ∷ view_number (turn_view First pair) ∷ view_number (turn_view Second pair) ∷ [])

  abbrev pub side_number : Side N g → ℕ
  side_number side = pair_number side.pair.ghost_name side.pair.now
