use Rattle.std.proofs.Common.{◌∙◌, sym}
use Rattle.ray_walk.proofs.NodeStays.{enters, misses, entry_is}
use Rattle.ray_walk.proofs.flights.Flight.entry.Goals as goal
use Rattle.ray_walk.proofs.flights.Flight.entry.Goals.{else-allows-via-then-allows+then-allows-2+else-allows-3, else-allows-via-then-allows+else-allows-2, else-allows-via-else-allows}

pub returns-then-allows-3 : goal.returns-then-allows-3
returns-then-allows-3 c height node within stays =
    enters c.args.self.now height node c.args.stay.now c.after-ticks.result c.requires.flight
    (entry_is c.args.stay.now c.after.result c.after-2.result c.after-ticks.result c.after.ensures.value c.after-2.ensures.value c.after-ticks.ensures.value)
    (sym c.allows.ensures ∙ c.if-allows.true) (sym c.allows-then-allows.ensures ∙ c.if-allows-2.true) (sym c.allows-then-allows-2.ensures ∙ c.if-allows-3.true) within stays

pub returns-else-allows : goal.returns-else-allows
returns-else-allows c height node within stays n m at =
    misses c.args.self.now height node c.args.stay.now c.after-ticks.result c.requires.flight
    (entry_is c.args.stay.now c.after.result c.after-2.result c.after-ticks.result c.after.ensures.value c.after-2.ensures.value c.after-ticks.ensures.value)
    (λ x y z. elim c.else-allows.branch [
      | else-allows-via-then-allows+then-allows-2+else-allows-3 w ↦ let stands = w.allows-then-allows-2.ensures in let fails = w.if-allows-3.false in cc
      | else-allows-via-then-allows+else-allows-2 w ↦ let stands = w.allows-then-allows.ensures in let fails = w.if-allows-2.false in cc
      | else-allows-via-else-allows w ↦ let stands = c.allows.ensures in let fails = w.if-allows.false in cc
    ]) within stays n m at
