-- The greatest run, by its height.
use Rattle.std.proofs.Common.{◌≡◌, ℕ, ◌+◌, ◌-◌, ◌*◌, ◌/◌, ◌%◌, ◌^◌, ◌<◌, ◌≤◌, min, sym, ap, ◌∙◌, arith, lit<}
use Rattle.std.proofs.lemmas.Nat.{div-add-mod', div_below, pow-add}
use Rattle.std.proofs.Math.Nat.{mul-mod_left, pow-le-pow_right}
use Rattle.morton_code.specs.Runs.{IsGreatestRun}
use Rattle.morton_code.proofs.Heights.{eights, eight_pos, exponent_within}

-- a run is at most as high as the octree is deep
pub height_within : (from to depth log : ℕ) → to ≤ 8 ^ depth → 8 ^ log ≤ to - from → log ≤ depth
height_within from to depth log inside power = exponent_within log depth (to - from) power (omega (arith, eight_pos depth))

-- the run of the greatest height that alignment and room allow
pub run_is : (from to depth aligned log height : ℕ) → from < to → to ≤ 8 ^ depth → depth ≤ 20 →
    ((k : ℕ) → k ≤ aligned → from % 8 ^ k ≡ 0) → ((k : ℕ) → k ≤ 20 → from % 8 ^ k ≡ 0 → k ≤ aligned) →
    8 ^ log ≤ to - from → to - from < 8 * 8 ^ log → height ≡ min aligned log →
    IsGreatestRun from to depth (record { level = depth - height; code = from / 2 ^ (3 * height) })
run_is from to depth aligned log height some inside low divides greatest power above is_height =
    let within : log ≤ depth = height_within from to depth log inside power in
    let down : depth - (depth - height) ≡ height = omega arith in
    let multiple : from % 8 ^ height ≡ 0 = divides height (omega arith) in
    let whole : from / 8 ^ height * 8 ^ height ≡ from = omega (arith, div-add-mod' from (8 ^ height), multiple) in
    let room : 8 ^ height ≤ 8 ^ log = pow-le-pow_right {n = 8} (lit< tt) {i = height} {j = log} (omega arith) in
    let node : from / 8 ^ height < 8 ^ (depth - height) =
    let up : (depth - height) + height ≡ depth = omega arith in
    let width : 8 ^ depth ≡ 8 ^ (depth - height) * 8 ^ height = rw up at (pow-add 8 (depth - height) height) in
    div_below from (8 ^ height) (8 ^ (depth - height)) (eight_pos height) (omega (arith, width)) in
    record {
      fits = rw (← eights height) (record {
        level = omega arith;
        node = node;
        begins = rw down whole;
        ends = rw down (omega (arith, room));
      });
      greatest = λ other fits.
          let k : ℕ = depth - other.level in
          let aligns : from % 8 ^ k ≡ 0 = ap (λ code. code % 8 ^ k) (sym fits.begins) ∙ mul-mod_left other.code (8 ^ k) in
          let under : k ≤ aligned = greatest k (omega arith) aligns in
          let ends = fits.ends in
          let short : k ≤ log = exponent_within k log (to - from) (omega (arith, ends)) above in
          let level = fits.level in
          omega (arith, level, under, short);
    }
