-- Levels and heights of nodes.
use Rattle.std.proofs.Common.{◌≡◌, ℕ, suc, ◌+◌, ◌-◌, ◌*◌, ◌%◌, ◌^◌, ◌<◌, ◌≤◌, arith, subst}
use Rattle.std.proofs.Math.Nat.{pow-suc, mul-le-mul_right}
use Rattle.std.proofs.lemmas.Nat.{pow-add}
use Rattle.svo_base.specs.declared.grids.TheConstants.{MAX_DEPTH}
use Rattle.svo_base.specs.GridShape.{GridShape, IsGrid}
use Rattle.morton_code.proofs.Coordinates.{code_fits}
use Rattle.morton_code.proofs.Heights.{eights, eight_pos}
use Rattle.morton_code.proofs.Sides.{is_shallow}
use Rattle.morton_scan.specs.declared.nodes.Node.{Node}
use Rattle.morton_scan.specs.Nodes.{IsNode, HasSlots}
use Rattle.morton_scan.specs.Putting.{first_of_part}

-- a child's code is one of its level
pub child_below : (depth height lower code octant : ℕ) → height ≤ depth → height ≡ suc lower → octant < 8 → code < 8 ^ (depth - height) → 8 * code + octant < 8 ^ (depth - lower)
child_below depth height lower code octant within up below_eight below =
    let level : depth - lower ≡ suc (depth - height) = omega arith in
    let power : 8 ^ suc (depth - height) ≡ 8 ^ (depth - height) * 8 = pow-suc 8 (depth - height) in
    rw level (omega (arith, power))

-- and it is short
pub child_small : (grid : GridShape) (node : Node) (octant : ℕ) → IsNode grid node → 0 < node.height → octant < 8 → 8 * node.code + octant < 2 ^ 60
child_small grid node octant is above below_eight =
    code_fits (grid.depth - (node.height - 1)) (8 * node.code + octant) (omega (arith, is.shallow))
    (child_below grid.depth node.height (node.height - 1) node.code octant is.within (omega (arith, above)) below_eight is.below)

-- the code of a part's first cell is short
pub first_shifted : (grid : GridShape) (split part halved number : ℕ) → IsGrid grid → split ≤ grid.depth → part < 8 ^ split → halved ≡ grid.depth → number ≡ part
    → number * 2 ^ (3 * (halved - split)) % 2 ^ 64 ≡ first_of_part grid split part
first_shifted grid split part halved number limits within below is_depth is_part =
    let whole : split + (grid.depth - split) ≡ grid.depth = omega arith in
    let shallow : grid.depth ≤ 20 = is_shallow grid grid.depth limits (omega arith) in
    let power : 8 ^ (grid.depth - split) ≡ 2 ^ (3 * (grid.depth - split)) = eights (grid.depth - split) in
    let all : 8 ^ (split + (grid.depth - split)) ≡ 8 ^ split * 8 ^ (grid.depth - split) = pow-add 8 split (grid.depth - split) in
    let room : (part + 1) * 8 ^ (grid.depth - split) ≤ 8 ^ split * 8 ^ (grid.depth - split) = mul-le-mul_right (8 ^ (grid.depth - split)) (omega arith) in
    let total : 8 ^ grid.depth ≡ 8 ^ split * 8 ^ (grid.depth - split) = rw whole at all in
    let most : 8 ^ grid.depth - 1 < 2 ^ 60 = code_fits grid.depth (8 ^ grid.depth - 1) shallow (omega (arith, eight_pos grid.depth)) in
    let small : part * 8 ^ (grid.depth - split) < 2 ^ 64 = omega (arith, room, total, most) in
    rw (is_depth, is_part, ← power) (omega (arith, small))

-- cells under a child have slots where those under its parent have
pub child_slots : (first count height lower code octant : ℕ) → height ≡ suc lower → octant < 8 → HasSlots first count height code → HasSlots first count lower (8 * code + octant)
child_slots first count height lower code octant up below_eight has =
    let power : 8 ^ height ≡ 8 * 8 ^ lower = rw up (omega (arith, pow-suc 8 lower)) in
    let from : first ≤ code * (8 * 8 ^ lower) = subst (λ n. first ≤ code * n) power has.from in
    let to : (code + 1) * (8 * 8 ^ lower) ≤ first + count = subst (λ n. (code + 1) * n ≤ first + count) power has.to in
    let last : (8 * code + octant + 1) * 8 ^ lower ≤ (8 * code + 8) * 8 ^ lower = mul-le-mul_right (8 ^ lower) (omega arith) in
    record { from = omega (arith, from); to = omega (arith, to, last) }

-- a part has slots for all its cells
pub part_slots : (grid : GridShape) (split part count height first : ℕ) → height ≡ grid.depth - split → first ≡ first_of_part grid split part → 8 ^ (grid.depth - split) ≤ count → HasSlots first count height part
part_slots grid split part count height first is_height is_first room = record {
  from = rw (is_height, is_first) (omega arith);
  to = rw (is_height, is_first) (omega (arith, room));
}

-- a power of eight by a shift
pub power_kept : (exponent : ℕ) → exponent ≤ MAX_DEPTH → 1 * 2 ^ (3 * exponent) % 2 ^ 64 ≡ 8 ^ exponent
power_kept exponent within =
    let small : 8 ^ exponent - 1 < 2 ^ 60 = code_fits exponent (8 ^ exponent - 1) (omega arith) (omega (arith, eight_pos exponent)) in
    rw (← eights exponent) (omega (arith, small))
