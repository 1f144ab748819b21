use Rattle.std.proofs.Common.{◌≡◌, ◌∙◌, ◌∷◌, ◌&&◌, refl, ap, arith, length, codes}
use Rattle.std.specs.Str.{bytes_eq}
use Rattle.ply_binary.specs.HeaderTexts.{is_binary, behind_word}
use Rattle.ply_binary.proofs.LineWords.{two_words, word_sizes, tested_equal}
use Rattle.ply_binary.proofs.lines.binary_tail.Goals as goal

pub returns-in-None : goal.returns-in-None
returns-in-None c = λ word.
    let text = c.args.text.now in
    let f = c.in_ok-format.format.now in
    let t = c.in_ok-format.tail.now in
    let v = c.in_ok-version.version.now in
    let words = two_words text f t v c.in_ok-version.behind.now c.in_ok-format.ensures c.in_ok-version.ensures c.in-None.ensures in
    let name = codes "binary_little_endian" in
    let number = codes "1.0" in
    let format : f ≡ name = tested_equal f c.as_slice.result.now c.if-ne.ensures ∙ c.as_slice.ensures in
    let version : v ≡ number = tested_equal v c.as_slice-2.result.now c.if-ne-2.ensures ∙ c.as_slice-2.ensures in
    let size : length f ≡ 20 = ap length format in (
      ap (λ ws. is_binary (word ∷ ws)) words ∙ ap (λ f. bytes_eq f name && bytes_eq v number) format ∙ ap (λ v. bytes_eq name name && bytes_eq v number) version ∙ refl,
      ap behind_word c.in_ok-format.ensures,
      omega (arith, word_sizes text f t c.in_ok-format.ensures, size),
    )
