-- Filled cells that a ray meets under a node.
use Rattle.std.proofs.Common.{◌≡◌, ℕ, zero, suc, ◌+◌, ◌*◌, ◌/◌, ◌%◌, ◌^◌, ◌<◌, ◌≤◌, ◌⊎◌, true, List, [], ◌∷◌, length, get_or, arith, sym, ap, subst, ◌∙◌, inl, inr}
use Rattle.std.specs.Prelude.{◌==◌}
use Rattle.std.specs.Int.Bits.{bit_xor, xor_assoc, xor_self, xor_zero_r}
use Rattle.std.proofs.lemmas.Bool.{cases_lt, eq-eqb, or_left, or_right}
use Rattle.svo_base.specs.GridShape.{GridShape}
use Rattle.octree_specs.specs.Cells.{Cell, codes_of}
use Rattle.octree_specs.specs.Formats.{face_leaves}
use Rattle.octree_specs.specs.Octree.{is_nonempty}
use Rattle.octree_laws.proofs.Under.{div-up}
use Rattle.ray_fraction.specs.RayShape.{RayShape}
use Rattle.ray_walk.specs.Octants.{turn_of, visited}
use Rattle.ray_walk.specs.Stays.{InBox}
use Rattle.ray_walk.specs.Walks.{MetUnder, MetBefore}
use Rattle.ray_walk.proofs.Siblings.{child_in, visited_below, turn_below}

-- where a filled cell lies under a node the node is nonempty
nonempty_at : (cells : List Cell) (height code : ℕ) (place : ℕ) → place < length (codes_of cells) → get_or (codes_of cells) place code ≡ code → is_nonempty (face_leaves cells) height (code / 8 ^ height) ≡ true
nonempty_at [] height code place below is = absurd (omega (arith, below))
nonempty_at (cell ∷ rest) height code zero below is =
    or_left (cell.code / 8 ^ height == code / 8 ^ height) (is_nonempty (face_leaves rest) height (code / 8 ^ height)) (eq-eqb (cell.code / 8 ^ height) (code / 8 ^ height) (ap (λ n. n / 8 ^ height) is))
nonempty_at (cell ∷ rest) height code (suc place) below is =
    or_right (cell.code / 8 ^ height == code / 8 ^ height) (is_nonempty (face_leaves rest) height (code / 8 ^ height)) (nonempty_at rest height code place (omega (arith, below)) is)

module _ (ray : RayShape) (grid : GridShape) (cells : List Cell) where
  pub met_nonempty : (height node code n m : ℕ) → MetUnder ray grid cells height node code n m → is_nonempty (face_leaves cells) height node ≡ true
  met_nonempty height node code n m met =
      subst (λ at. is_nonempty (face_leaves cells) height at ≡ true) met.under (nonempty_at cells height code met.filled.0 met.filled.1 met.filled.2)

  -- a cell's times are times of each node above it
  pub under_in : (height code n m : ℕ) → height ≤ grid.depth → InBox ray grid 0 code n m → InBox ray grid height (code / 8 ^ height) n m
  under_in zero code n m within at = let same : code ≡ code / 8 ^ 0 = omega arith in subst (λ node. InBox ray grid 0 node n m) same at
  under_in (suc height) code n m within at =
      let child : InBox ray grid height (code / 8 ^ height) n m = under_in height code n m (omega (arith, within)) at in
      let parts : code / 8 ^ height ≡ 8 * (code / 8 ^ height / 8) + code / 8 ^ height % 8 = omega arith in
      let parent : InBox ray grid (height + 1) (code / 8 ^ height / 8) n m =
      child_in ray grid height (code / 8 ^ height / 8) (code / 8 ^ height % 8) n m (omega (arith, within)) (omega arith) (subst (λ node. InBox ray grid height node n m) parts child) in
      let up : height + 1 ≡ suc height = omega arith in
      subst (λ node. InBox ray grid (suc height) node n m) (sym (div-up code height)) (subst (λ h. InBox ray grid h (code / 8 ^ height / 8) n m) up parent)

  pub met_in : (height node code n m : ℕ) → height ≤ grid.depth → MetUnder ray grid cells height node code n m → InBox ray grid height node n m
  met_in height node code n m within met = subst (λ at. InBox ray grid height at n m) met.under (under_in height code n m within met.at)

  -- what is met under a child is met under its parent
  pub met_up : (height node place code n m : ℕ) → place < 8 → MetUnder ray grid cells height (8 * node + place) code n m → MetUnder ray grid cells (height + 1) node code n m
  met_up height node place code n m octant met =
      let up : height + 1 ≡ suc height = omega arith in
      let at : code / 8 ^ suc height ≡ node = div-up code height ∙ (ap (λ n. n / 8) met.under ∙ omega (arith, octant)) in
      record { filled = met.filled; under = ap (λ h. code / 8 ^ h) up ∙ at; at = met.at }

-- the place at which a child is visited
visited_twice : (turn place : ℕ) → visited turn (visited turn place) ≡ place
unfolding visited
visited_twice turn place = xor_assoc place turn turn ∙ (ap (bit_xor place) (xor_self turn) ∙ xor_zero_r place)

module _ (ray : RayShape) (grid : GridShape) (cells : List Cell) where
  -- what is met under a node is met under the child that is visited at some place
  pub met_whole : (height node code n m : ℕ) → MetUnder ray grid cells (height + 1) node code n m → MetBefore ray grid cells height node 8 code n m
  met_whole height node code n m met =
      let up : height + 1 ≡ suc height = omega arith in
      let octant : ℕ = code / 8 ^ height % 8 in
      let parent : code / 8 ^ height / 8 ≡ node = sym (div-up code height) ∙ (ap (λ h. code / 8 ^ h) (sym up) ∙ met.under) in
      let child : code / 8 ^ height ≡ 8 * node + octant = omega (arith, parent) in
      let twice : visited (turn_of ray) (visited (turn_of ray) octant) ≡ octant = visited_twice (turn_of ray) octant in
      record {
        place = visited (turn_of ray) octant;
        before = visited_below (turn_of ray) octant (turn_below ray) (omega arith);
        met = record { filled = met.filled; under = child ∙ ap (λ place. 8 * node + place) (sym twice); at = met.at };
      }

  pub met_part : (height node k code n m : ℕ) → k ≤ 8 → MetBefore ray grid cells height node k code n m → MetUnder ray grid cells (height + 1) node code n m
  met_part height node k code n m within met =
      met_up ray grid cells height node (visited (turn_of ray) met.place) code n m (visited_below (turn_of ray) met.place (turn_below ray) (omega (arith, met.before, within))) met.met

  -- what is met under the k-th child
  pub met_at : (height node k code n m : ℕ) → MetUnder ray grid cells height (8 * node + visited (turn_of ray) k) code n m → MetBefore ray grid cells height node (k + 1) code n m
  met_at height node k code n m met = record { place = k; before = omega arith; met = met }

  pub met_earlier : (height node k code n m : ℕ) → MetBefore ray grid cells height node k code n m → MetBefore ray grid cells height node (k + 1) code n m
  met_earlier height node k code n m met = record { place = met.place; before = omega (arith, met.before); met = met.met }

  -- before the k-th child, or under it
  pub met_split : (height node k code n m : ℕ) → MetBefore ray grid cells height node (k + 1) code n m → MetBefore ray grid cells height node k code n m ⊎ MetUnder ray grid cells height (8 * node + visited (turn_of ray) k) code n m
  met_split height node k code n m met = elim (cases_lt met.place k) [
    | inl earlier ↦ inl (record { place = met.place; before = earlier; met = met.met })
    | inr last ↦
        let same : met.place ≡ k = omega (arith, last, met.before) in
        inr (subst (λ place. MetUnder ray grid cells height (8 * node + visited (turn_of ray) place) code n m) same met.met)
  ]
