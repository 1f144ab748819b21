-- When there is a plan.
use Rattle.std.proofs.Common.{◌≡◌, ◌^◌, pos, ◌<ℤ◌, false, true, Some, None, Err, sym, ap, ◌∙◌, arith}
use Rattle.std.specs.Prelude.{int_lt}
use Rattle.std.proofs.lemmas.Int.{ints, to_z-of_z}
use Rattle.std.specs.Int.{w64, cast_unsigned, cast_signed}
use Rattle.room_plan.specs.Planning.{bytes_within, plan_from}
use Rattle.octree_specs.specs.MemoryPlan.{least_memory, split_of}
use Rattle.room_plan.specs.declared.planning.PlanFault.{PlanFault}
use Rattle.room_plan.proofs.Sizes.{split_fits, least_fits, none_fits, least_is_accepted, limit_bytes, bytes_limit, plan_is, depth_of_plan}
use Rattle.room_plan.proofs.planning.plan.Goals as goal

pub returns-then-limit-gt-MOST-clause-small : goal.returns-then-limit-gt-MOST-clause-small
returns-then-limit-gt-MOST-clause-small c =
    let limit : cast_signed w64 (cast_unsigned w64 c.args.limit) ≡ c.args.limit = to_z-of_z w64 c.args.limit c.ranges.limit in
    let test : int_lt (pos (2 ^ 31)) c.args.limit ≡ true = sym (ap (int_lt (pos (2 ^ 31))) limit) ∙ c.if-limit-gt-MOST.true in
    let large : pos (2 ^ 31) <ℤ c.args.limit = omega (arith, ints, test) in (
      (λ same. absurd cc),
      (λ small. absurd (omega (arith, ints, large, small, least_is_accepted c.args.depth c.requires.deepest))),
    )

pub plan_for-requires-clause-split : goal.plan_for-requires-clause-split
plan_for-requires-clause-split c =
    let found : split_of c.args.depth c.bytes_of-limit.result ≡ Some c.in-Some.split = sym c.split_for.ensures ∙ c.in-Some.is in
    omega (arith, (split_fits c.args.depth c.bytes_of-limit.result c.in-Some.split found).0)

pub plan_for-requires-clause-fits : goal.plan_for-requires-clause-fits
plan_for-requires-clause-fits c =
    let found : split_of c.args.depth c.bytes_of-limit.result ≡ Some c.in-Some.split = sym c.split_for.ensures ∙ c.in-Some.is in
    (split_fits c.args.depth c.bytes_of-limit.result c.in-Some.split found).1

pub returns-in-None-clause-small : goal.returns-in-None-clause-small
returns-in-None-clause-small c =
    let none : split_of c.args.depth c.bytes_of-limit.result ≡ None = sym c.split_for.ensures ∙ c.in-None.is in
    let limit : cast_signed w64 (cast_unsigned w64 c.args.limit) ≡ c.args.limit = to_z-of_z w64 c.args.limit c.ranges.limit in
    let bytes : c.bytes_of-limit.result ≡ bytes_within c.args.limit = c.bytes_of-limit.ensures ∙ ap bytes_within limit in
    let small : c.args.limit <ℤ pos (least_memory c.args.depth) =
    limit_bytes c.args.limit c.bytes_of-limit.result (least_memory c.args.depth) bytes (none_fits c.args.depth c.bytes_of-limit.result none) in
    let least : c.size_with.result ≡ least_memory c.args.depth = grind (arith, c.size_with.ensures, c.min.ensures) in
    ((λ same. small), (λ below. ap (λ n. Err (PlanFault.TooSmall n)) least))

pub returns-in-Some-clause-small : goal.returns-in-Some-clause-small
returns-in-Some-clause-small c =
    let found : split_of c.args.depth c.bytes_of-limit.result ≡ Some c.in-Some.split = sym c.split_for.ensures ∙ c.in-Some.is in
    let limit : cast_signed w64 (cast_unsigned w64 c.args.limit) ≡ c.args.limit = to_z-of_z w64 c.args.limit c.ranges.limit in
    let bytes : c.bytes_of-limit.result ≡ bytes_within c.args.limit = c.bytes_of-limit.ensures ∙ ap bytes_within limit in (
      (λ same. absurd cc),
      (λ small. absurd (bytes_limit c.args.limit c.bytes_of-limit.result (least_memory c.args.depth) bytes (least_fits c.args.depth c.bytes_of-limit.result c.in-Some.split found) (omega arith) small)),
    )

pub returns-in-Some-clause-valid : goal.returns-in-Some-clause-valid
returns-in-Some-clause-valid c =
    let found : split_of c.args.depth c.bytes_of-limit.result ≡ Some c.in-Some.split = sym c.split_for.ensures ∙ c.in-Some.is in
    let depth : c.plan_for.result.depth ≡ c.args.depth = ap (λ plan. plan.depth) c.plan_for.ensures.plan ∙ depth_of_plan c.args.depth c.bytes_of-limit.result c.in-Some.split in
    let limit : cast_signed w64 (cast_unsigned w64 c.args.limit) ≡ c.args.limit = to_z-of_z w64 c.args.limit c.ranges.limit in
    let bytes : c.bytes_of-limit.result ≡ bytes_within c.args.limit = c.bytes_of-limit.ensures ∙ ap bytes_within limit in
    let small : int_lt (pos (2 ^ 31)) c.args.limit ≡ false = sym (ap (int_lt (pos (2 ^ 31))) limit) ∙ c.if-limit-gt-MOST.false in
    record {
      some = omega (arith, depth, c.requires.some);
      deepest = omega (arith, depth, c.requires.deepest);
      limit = c.args.limit;
      planned =
          ap (λ d. plan_from d c.args.limit) depth
          ∙ plan_is c.args.depth c.args.limit c.bytes_of-limit.result c.in-Some.split c.plan_for.result small bytes found c.plan_for.ensures.plan;
    }
