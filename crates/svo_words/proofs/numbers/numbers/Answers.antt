use Rattle.std.proofs.Common.{◌≡◌, ◌-◌, ◌+◌, ◌<◌, ℕ, suc, length, take, set, List, ℤ, Some, ◌++◌, ◌∷◌, [], arith, sym}
use Rattle.std.proofs.lemmas.Int.{ints, to_z-of_z}
use Rattle.std.proofs.lemmas.Grind.{common_steps}
use Rattle.std.proofs.lemmas.List.{take_more_set}
use Rattle.svo_words.specs.Numbers.{numbers_of}
use Rattle.svo_words.proofs.NumberLists.{IsLeft, one_less, none_before, none_last, all_read, last_set}
use Rattle.svo_words.proofs.numbers.numbers.Goals as goal

pub returns-in_err-number : goal.returns-in_err-number
returns-in_err-number g c =
    let left : g.row.N - c.loop-place.place ≡ suc (suc (g.row.N - c.loop-place.place - 2)) = omega (arith, c.loop-place-test.true) in
    let is : IsLeft g.row.N c.args.text.now (take c.loop-place.place c.loop-place.numbers) (suc (suc (g.row.N - c.loop-place.place - 2))) c.loop-place.rest.now = rw left at c.loop-place.invariant.0 in
    rw c.from_residual.ensures (none_before g.row.N (g.row.N - c.loop-place.place - 2) c.args.text.now (take c.loop-place.place c.loop-place.numbers) c.loop-place.rest.now is c.in_err-number.ensures)

pub loop-place-preserved : goal.loop-place-preserved
loop-place-preserved g c =
    let place : ℕ = c.loop-place.place in
    let front : List ℤ = take place c.loop-place.numbers in
    let less : g.row.N - place ≡ suc (suc (g.row.N - place - 2)) = omega (arith, c.loop-place-test.true) in
    let left : IsLeft g.row.N c.args.text.now front (suc (suc (g.row.N - place - 2))) c.loop-place.rest.now = rw less at c.loop-place.invariant.0 in
    let next : IsLeft g.row.N c.args.text.now (front ++ c.in_ok-number.number ∷ []) (suc (g.row.N - place - 2)) c.in_ok-number.behind.now =
    one_less g.row.N (g.row.N - place - 2) c.args.text.now front c.loop-place.rest.now c.in_ok-number.behind.now c.in_ok-number.number left c.in_ok-number.ensures in
    let inside : place < length c.loop-place.numbers = omega (arith, c.loop-place-test.true, c.loop-place.invariant.1) in
    let more : suc (g.row.N - place - 2) ≡ g.row.N - (place + 1) = omega (arith, c.loop-place-test.true) in
    let whole : IsLeft g.row.N c.args.text.now (take (place + 1) (set c.loop-place.numbers place c.in_ok-number.number)) (g.row.N - (place + 1)) c.in_ok-number.behind.now =
    rw (take_more_set c.loop-place.numbers place c.in_ok-number.number inside, ← more) next in (
      grind (arith, ints, to_z-of_z, whole),
      grind (arith, common_steps, c.loop-place.invariant.1),
    )

pub returns-in_err-numbers : goal.returns-in_err-numbers
returns-in_err-numbers g c =
    let last : g.row.N - c.loop-place.place ≡ 1 = omega (arith, c.loop-place-test.false, c.loop-place.auto) in
    let is : IsLeft g.row.N c.args.text.now (take c.loop-place.place c.loop-place.numbers) 1 c.loop-place.rest.now = rw last at c.loop-place.invariant.0 in
    rw c.from_residual-in_err-numbers.ensures (none_last g.row.N c.args.text.now (take c.loop-place.place c.loop-place.numbers) c.loop-place.rest.now is (sym c.in_err-numbers.ensures))

pub returns : goal.returns
returns g c =
    let end : c.loop-place.place ≡ g.row.N - 1 = omega (arith, c.loop-place-test.false, c.loop-place.auto) in
    let last : g.row.N - c.loop-place.place ≡ 1 = omega (arith, c.loop-place-test.false, c.loop-place.auto) in
    let is : IsLeft g.row.N c.args.text.now (take c.loop-place.place c.loop-place.numbers) 1 c.loop-place.rest.now = rw last at c.loop-place.invariant.0 in
    let read : Some (take c.loop-place.place c.loop-place.numbers ++ c.in_ok-numbers.field-0 ∷ []) ≡ numbers_of g.row.N c.args.text.now =
    all_read g.row.N c.args.text.now (take c.loop-place.place c.loop-place.numbers) c.loop-place.rest.now c.in_ok-numbers.field-0 is (sym c.in_ok-numbers.ensures) in
    let added : set c.loop-place.numbers (g.row.N - 1) c.in_ok-numbers.field-0 ≡ take (g.row.N - 1) c.loop-place.numbers ++ c.in_ok-numbers.field-0 ∷ [] =
    last_set c.loop-place.numbers (g.row.N - 1) c.in_ok-numbers.field-0 (omega (arith, c.loop-place.invariant.1, c.requires)) in
    let whole : Some (set c.loop-place.numbers (g.row.N - 1) c.in_ok-numbers.field-0) ≡ numbers_of g.row.N c.args.text.now = rw (added, ← end) read in
    grind (arith, ints, to_z-of_z, whole)
