use Rattle.std.proofs.Common.{◌≡◌, ◌-◌, ◌++◌, ◌∷◌, [], suc, length, ap, sym, ◌∙◌, arith}
use Rattle.std.proofs.lemmas.Bool.Decides.{nat_tests}
use Rattle.std.proofs.lemmas.List.{map-append}
use Rattle.text_words.specs.LineWords.{words_of, texts}
use Rattle.text_words.proofs.WordLists.{word_more, no_word_more}
use Rattle.text_words.proofs.words.line_words.Goals as goal

pub loop-rest-preserved : goal.loop-rest-preserved
loop-rest-preserved g c =
    let items = c.loop-rest.words.items in
    let n = g.row.N - length c.push.new.self.items in
    let left : g.row.N - length items ≡ suc n = grind (arith, nat_tests, c.push.ensures.len, c.loop-rest-test.true, c.is_full.ensures.fits, c.is_full.ensures.value) in
    let pushed : texts c.push.new.self.items ≡ texts items ++ c.in-Some.word.now ∷ [] = ap texts c.push.ensures.items ∙ map-append (λ w. w.now) items (c.in-Some.word ∷ []) in
    c.loop-rest.invariant ∙ ap (λ k. texts items ++ words_of k c.loop-rest.rest.now) left
    ∙ word_more n (texts items) c.loop-rest.rest.now c.in-Some.word.now c.in-Some.behind.now c.in-Some.ensures
    ∙ ap (λ front. front ++ words_of n c.in-Some.behind.now) (sym pushed)

pub returns-in_default : goal.returns-in_default
returns-in_default g c =
    let items = c.loop-rest.words.items in
    let n = g.row.N - suc (length items) in
    let left : g.row.N - length items ≡ suc n = grind (arith, nat_tests, c.loop-rest-test.true, c.is_full.ensures.fits, c.is_full.ensures.value) in
    sym (c.loop-rest.invariant ∙ ap (λ k. texts items ++ words_of k c.loop-rest.rest.now) left
    ∙ no_word_more n (texts items) c.loop-rest.rest.now c.in_default.ensures)
