use Rattle.std.proofs.Common.{◌≡◌, ◌∙◌, refl, ap, arith, codes, Some}
use Rattle.std.specs.Str.{bytes_eq}
use Rattle.text_words.specs.LineWords.{next_word}
use Rattle.ply_binary.specs.HeaderTexts.{is_format, is_binary, ascii_line, ascii_with, behind_word}
use Rattle.ply_binary.proofs.LineWords.{first_word, word_sizes, tested_equal}
use Rattle.ply_binary.proofs.lines.format_of.Goals as goal

pub returns-in-Some-binary_tail : goal.returns-in-Some-binary_tail
unfolding ascii_line
returns-in-Some-binary_tail c =
    let line = c.args.line.now in
    let f = c.in-Some.first.now in
    let t = c.in-Some.behind.now in
    let tail = c.in-Some-binary_tail.tail.now in
    let name = codes "format" in
    let found : next_word line ≡ Some (f, t) = c.in-Some.ensures in
    let words = first_word line f t found in
    let format : f ≡ name = tested_equal f c.as_slice.result.now c.if-ne.ensures ∙ c.as_slice.ensures in
    let given = c.in-Some-binary_tail.ensures f in (
      ap is_format words ∙ ap (λ f. bytes_eq f name) format ∙ refl,
      ap is_binary words ∙ given.0,
      ap (ascii_with line) (ap (λ r. behind_word (next_word (behind_word r))) found ∙ given.1),
      omega (arith, word_sizes line f t found, given.2),
    )

pub returns-in-None : goal.returns-in-None
returns-in-None c =
    let line = c.args.line.now in
    let f = c.in-Some.first.now in
    let t = c.in-Some.behind.now in
    let name = codes "format" in
    let words = first_word line f t c.in-Some.ensures in
    let format : f ≡ name = tested_equal f c.as_slice.result.now c.if-ne.ensures ∙ c.as_slice.ensures in
    (ap is_format words ∙ ap (λ f. bytes_eq f name) format ∙ refl, ap is_binary words ∙ c.in-None.ensures f)
