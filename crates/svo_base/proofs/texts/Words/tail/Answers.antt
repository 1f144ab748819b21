use Rattle.std.proofs.Common.{◌≡◌, ◌-◌, ℕ, List, length, take, map, drop, arith, sym, ap, ◌∙◌}
use Rattle.std.proofs.lemmas.List.{drop-map, length-drop, take_all}
use Rattle.std.specs.String.{string_bytes}
use Rattle.svo_base.proofs.texts.Words.tail.Goals as goal

rest_seen : {A : Type 0} (seen : A → List ℕ) (words items : List A) (texts : List (List ℕ)) (from : ℕ) → words ≡ items → map seen items ≡ texts
    → map seen (take (length words - from) (drop from words)) ≡ drop from texts
rest_seen seen words items texts from same view =
    ap (map seen) (take_all (length words - from) (drop from words) (omega (arith, length-drop from words)))
    ∙ sym (drop-map seen from words) ∙ ap (λ ws. drop from (map seen ws)) same ∙ ap (drop from) view

pub returns : goal.returns
returns c = rest_seen string_bytes c.deref.result.now c.self.inside.words.items c.args.self.now c.args.from c.deref.ensures.value c.self.view_is
