-- The two files of a pair, in their turns.
use Rattle.std.proofs.Common.{◌≡◌, ℕ, get_or, sym, ap, subst, ◌∙◌}
use Rattle.std.specs.Prelude.{Result}
use Rattle.node_check.specs.Counts.{HasCauseOf}
use Rattle.dev_traits.specs.declared.file_device.NodeStore.{Ghosts}
use Rattle.node_file.specs.FileView.{IsFileView}
use Rattle.node_file.proofs.Frames.{file_view}
use Rattle.node_merge.specs.Paired.{half_bytes}
use Rattle.node_merge.specs.Sides.{turn_view, pair_number, side_number}
use Rattle.node_merge.specs.declared.pairs.Pair.{Pair}
use Rattle.node_merge.specs.declared.pairs.Turn.{Turn}
use Rattle.node_merge.specs.declared.pairs.Turn.TheVariants.{First, Second}
use Rattle.node_merge.specs.declared.sides.Side.{Side}
use Rattle.node_merge.proofs.Numbers.{one_list, one_view}

module _ {N : Type 0} {g : Ghosts N} where
  pub turn_framed : (turn : Turn) (pair : Pair N g) → IsFileView (turn_view turn pair)
  turn_framed First pair = file_view (half_bytes (g.files pair.store.now) pair.first) pair.first.frame pair.first_is.format pair.first_is.limits pair.first_is.some
  turn_framed Second pair = file_view (half_bytes (g.files pair.store.now) pair.second) pair.second.frame pair.second_is.format pair.second_is.limits pair.second_is.some

  -- neither loan changed, nor either file
  pub record IsSamePair (name : ℕ) (pair : Pair N g) (side : Side N g) : Type 0 where
    pub loan : side.pair.ghost_name ≡ name
    pub store : side.pair.now.store.ghost_name ≡ pair.store.ghost_name
    pub first : turn_view First side.pair.now ≡ turn_view First pair
    pub second : turn_view Second side.pair.now ≡ turn_view Second pair

  pub same_pair : (name : ℕ) (pair : Pair N g) (side : Side N g) → side_number side ≡ pair_number name pair → IsSamePair name pair side
  same_pair name pair side same =
      let row = one_list _ _ same in
      record {
        loan = ap (λ l. get_or l 0 0) row;
        store = ap (λ l. get_or l 1 0) row;
        first = one_view (turn_view First side.pair.now) (turn_view First pair) (ap (λ l. get_or l 2 0) row);
        second = one_view (turn_view Second side.pair.now) (turn_view Second pair) (ap (λ l. get_or l 3 0) row);
      }

  -- the pair after a side of it was read on
  module _ (given pair : Pair N g) (name : ℕ) (side : Side N g) (same : side_number side ≡ pair_number name pair) (is : given ≡ side.pair.now) where
    pub first_kept : turn_view First given ≡ turn_view First pair
    first_kept = ap (turn_view First) is ∙ (same_pair name pair side same).first

    pub second_kept : turn_view Second given ≡ turn_view Second pair
    second_kept = ap (turn_view Second) is ∙ (same_pair name pair side same).second

    pub store_kept : given.store.ghost_name ≡ pair.store.ghost_name
    store_kept = ap (λ (p : Pair N g). p.store.ghost_name) is ∙ (same_pair name pair side same).store

    pub cause_kept : {T E : Type 0} (result : Result T E) (fault : E) → HasCauseOf (g.faults pair.store.now) (g.faults side.pair.now.store.now) result fault
        → HasCauseOf (g.faults pair.store.now) (g.faults given.store.now) result fault
    cause_kept result fault cause = subst (λ (p : Pair N g). HasCauseOf (g.faults pair.store.now) (g.faults p.store.now) result fault) (sym is) cause
