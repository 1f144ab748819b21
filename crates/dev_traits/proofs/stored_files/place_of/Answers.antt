use Rattle.std.proofs.Common.{◌≡◌, refl, sym, ap, ◌∙◌, rules}
use Rattle.std.proofs.lemmas.Slice.Eq.{bytes_eq-Decides}
use Rattle.std.specs.String.{string_bytes}
use Rattle.dev_traits.proofs.StoredFiles.{found_here, found_later, found_none, placed}
use Rattle.dev_traits.proofs.stored_files.place_of.Goals as goal

pub returns-then-eq : goal.returns-then-eq
returns-then-eq c =
    let is : c.index-files-at.result ≡ c.index-files-at.result = refl in
    let bytes : c.as_str.result.now ≡ string_bytes c.index-files-at.result.name = c.as_str.ensures.value ∙ ap (λ file. string_bytes file.name) (sym c.index-files-at.is) in
    let same = rw bytes at (sym c.if-eq.ensures) in
    let found = c.loop-at.invariant ∙ found_here c.args.files.now c.loop-at.at c.index-files-at.result c.args.name.now (search rules) c.index-files-at.is same in
    placed c.args.files.now c.loop-at.at c.index-files-at.result c.args.name.now (search rules) c.index-files-at.is
    ((bytes_eq-Decides (string_bytes c.index-files-at.result.name) c.args.name.now).0 same) found

pub loop-at-preserved : goal.loop-at-preserved
loop-at-preserved c =
    let bytes : c.as_str.result.now ≡ string_bytes c.index-files-at.result.name = c.as_str.ensures.value ∙ ap (λ file. string_bytes file.name) (sym c.index-files-at.is) in
    c.loop-at.invariant
    ∙ found_later c.args.files.now c.loop-at.at c.index-files-at.result c.args.name.now (search rules) c.index-files-at.is (rw bytes at (sym c.if-eq.ensures))

pub returns : goal.returns
returns c = c.loop-at.invariant ∙ found_none c.args.files.now c.loop-at.at c.args.name.now (search rules)
