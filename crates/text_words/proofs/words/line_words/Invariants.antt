use Rattle.std.proofs.Common.{◌≡◌, ◌-◌, ◌++◌, length}
use Rattle.text_words.specs.LineWords.{words_of, texts}
use Rattle.text_words.proofs.words.line_words.Given as goal

abbrev pub invariant-loop-rest : goal.invariant-loop-rest
invariant-loop-rest g l = words_of g.row.N l.line ≡ texts l.words.items ++ words_of (g.row.N - length l.words.items) l.rest

abbrev pub decreases-loop-rest : goal.decreases-loop-rest
decreases-loop-rest g l = g.row.N - length l.words.items
