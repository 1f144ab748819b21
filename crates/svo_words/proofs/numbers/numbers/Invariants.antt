use Rattle.std.proofs.Common.{◌≡◌, ◌-◌, length, take}
use Rattle.svo_words.proofs.NumberLists.{IsLeft}
use Rattle.svo_words.proofs.numbers.numbers.Given as goal

-- the numbers so far are the front, and as many as are missing are left in the rest
abbrev pub invariant-loop-place : goal.invariant-loop-place
invariant-loop-place g l = IsLeft g.row.N l.text (take l.place l.numbers) (g.row.N - l.place) l.rest × (length l.numbers ≡ g.row.N)
