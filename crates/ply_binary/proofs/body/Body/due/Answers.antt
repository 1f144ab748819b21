use Rattle.std.proofs.Common.{◌≡◌, sym, subst, arith, Bool}
use Rattle.ply_reader.specs.Declarations.{declared}
use Rattle.ply_binary.specs.declared.body.Kind.TheVariants.{Single}
use Rattle.ply_binary.specs.BodyStates.{IsDue}
use Rattle.ply_binary.proofs.BodySteps.{item_due, single_due, count_due, next_property}
use Rattle.ply_binary.proofs.body.Body.due.Goals as goal

pub returns-then-self-gt0-clause-due : goal.returns-then-self-gt0-clause-due
returns-then-self-gt0-clause-due c = item_due (declared c.args.header.now) c.args.self.now c.if-self-gt0.true

pub returns-in-None-clause-due : goal.returns-in-None-clause-due
returns-in-None-clause-due c =
    let d = declared c.args.header.now in
    let b = c.args.self.now in
    let p = c.property-property.result in
    let none : b.values ≡ 0 = omega (arith, c.if-self-gt0.false) in
    let due = single_due d b p none (next_property d b p c.requires.inside c.requires.value none c.property-property.ensures) c.in-None.is in
    let P : Bool → Type 0 = λ w. IsDue d b (record { scalar = p.values; kind = Single w }) in
    subst P (sym c.is_coordinate.ensures) due

pub returns-in-Some-clause-due : goal.returns-in-Some-clause-due
returns-in-Some-clause-due c =
    let d = declared c.args.header.now in
    let b = c.args.self.now in
    let p = c.property-property.result in
    let none : b.values ≡ 0 = omega (arith, c.if-self-gt0.false) in
    count_due d b p c.in-Some.counts none (next_property d b p c.requires.inside c.requires.value none c.property-property.ensures) c.in-Some.is
