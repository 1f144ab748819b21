-- The header, the words and the trailer, one after another.
use Rattle.std.proofs.Common.{◌≡◌, ℕ, List, [], ◌∷◌, ◌++◌, Some, None, refl, sym, ap, subst, ◌∙◌, arith, rules, append_assoc, append-nil}
use Rattle.std.specs.Prelude.{Option}
use Rattle.std.specs.List.{flat_map}
use Rattle.std.specs.Int.{w64, to_le_bytes}
use Rattle.std.specs.Io.KnownBytes.{append_known}
use Rattle.std.proofs.lemmas.List.Concat.{flat_map-cons}
use Rattle.svo_base.specs.GridShape.{GridShape}
use Rattle.octree_specs.specs.OctreeFile.{header_of, trailer_of, frame_of}
use Rattle.node_file.specs.Waiting.{GrewByFront}
use Rattle.node_file.specs.Writing.{waiting}
use Rattle.node_file.proofs.Fronts.{append_twice, front_of_none, front_onward, front_within}
use Rattle.build_tests.proofs.node_file_tests.put_two.Goals as goal

four_parts : (a : Option (List ℕ)) (h x y t : List ℕ) → append_known (append_known (append_known (append_known a h) x) y) t ≡ append_known a (h ++ (x ++ y) ++ t)
four_parts None h x y t = refl
four_parts (Some l) h x y t = ap Some (simp append_assoc)

two_words : (grid : GridShape) (x y cells n : ℕ) (a b c d e : Option (List ℕ)) → b ≡ append_known a (header_of 2 grid) → c ≡ append_known b (to_le_bytes w64 x) → d ≡ append_known c (to_le_bytes w64 y)
    → e ≡ append_known d (trailer_of 2 n cells) → n ≡ 2 → e ≡ append_known a (frame_of 2 grid (x ∷ y ∷ []) cells)
unfolding frame_of
two_words grid x y cells n a b c d e p q r s two =
    let words : flat_map (to_le_bytes w64) (x ∷ y ∷ []) ≡ to_le_bytes w64 x ++ to_le_bytes w64 y =
    flat_map-cons (to_le_bytes w64) x (y ∷ []) ∙ ap (λ l. to_le_bytes w64 x ++ l) (flat_map-cons (to_le_bytes w64) y [] ∙ append-nil (to_le_bytes w64 y)) in
    s ∙ (ap (λ k. append_known d (trailer_of 2 k cells)) two
    ∙ (ap (λ o. append_known o (trailer_of 2 2 cells)) (r ∙ ap (λ o. append_known o (to_le_bytes w64 y)) (q ∙ ap (λ o. append_known o (to_le_bytes w64 x)) p))
    ∙ (four_parts a (header_of 2 grid) (to_le_bytes w64 x) (to_le_bytes w64 y) (trailer_of 2 2 cells)
    ∙ ap (λ l. append_known a (header_of 2 grid ++ l ++ trailer_of 2 2 cells)) (sym words))))

pub returns-clause-whole : goal.returns-clause-whole
returns-clause-whole g c =
    let whole : g.O.ByteSink.written c.finish.new.self.0 ≡ append_known (g.O.ByteSink.written c.args.sink.now) (frame_of 2 c.args.grid.now (c.args.words.0 ∷ c.args.words.1 ∷ []) c.args.cells) =
    two_words c.args.grid.now c.args.words.0 c.args.words.1 c.args.cells _ _ _ _ _ _ c.in_ok-writer.ensures.given c.in_ok-add.ensures.given c.in_ok-add-2.ensures.given
    c.in_ok-records.ensures.whole (omega (arith, c.in_ok-add-2.ensures.records, c.in_ok-add.ensures.records, c.in_ok-writer.ensures.records)) in
    search (rules, whole)

-- ---- what the sink holds at each call

-- before a call the sink holds `b` and `p` waits, and after it the sink holds `c`
module _ (grid : GridShape) (x y cells : ℕ) (a b c : Option (List ℕ)) (p : List ℕ) where
  whole : List ℕ
  whole = frame_of 2 grid (x ∷ y ∷ []) cells

  first : List ℕ
  first = header_of 2 grid

  second : List ℕ
  second = first ++ to_le_bytes w64 x

  third : List ℕ
  third = second ++ to_le_bytes w64 y

  parts : third ++ trailer_of 2 2 cells ≡ whole
  unfolding frame_of whole third second first
  parts =
      let words : flat_map (to_le_bytes w64) (x ∷ y ∷ []) ≡ to_le_bytes w64 x ++ to_le_bytes w64 y =
      flat_map-cons (to_le_bytes w64) x (y ∷ []) ∙ ap (λ l. to_le_bytes w64 x ++ l) (flat_map-cons (to_le_bytes w64) y [] ∙ append-nil (to_le_bytes w64 y)) in
      ap (λ l. l ++ trailer_of 2 2 cells) (append_assoc (header_of 2 grid) (to_le_bytes w64 x) (to_le_bytes w64 y)
      ∙ ap (λ l. header_of 2 grid ++ l) (sym words))

  after_one : b ≡ a → append_known b p ≡ append_known a (header_of 2 grid) → GrewByFront b c p → GrewByFront a c (frame_of 2 grid (x ∷ y ∷ []) cells)
  unfolding whole third second first
  after_one begun given grew =
      front_within a b c whole first (to_le_bytes w64 x ++ (to_le_bytes w64 y ++ trailer_of 2 2 cells)) p
      (sym (append_assoc first (to_le_bytes w64 x) (to_le_bytes w64 y ++ trailer_of 2 2 cells)) ∙ (sym (append_assoc second (to_le_bytes w64 y) (trailer_of 2 2 cells)) ∙ parts))
      (subst (λ o. GrewByFront a o whole) (sym begun) (front_of_none a whole)) given grew

  after_two : GrewByFront a b (frame_of 2 grid (x ∷ y ∷ []) cells) → append_known b p ≡ append_known a (header_of 2 grid ++ to_le_bytes w64 x) → GrewByFront b c p → GrewByFront a c (frame_of 2 grid (x ∷ y ∷ []) cells)
  unfolding whole third second first
  after_two before given grew =
      front_within a b c whole second (to_le_bytes w64 y ++ trailer_of 2 2 cells) p (sym (append_assoc second (to_le_bytes w64 y) (trailer_of 2 2 cells)) ∙ parts) before given grew

  after_all : (n : ℕ) → n ≡ 2 → GrewByFront a b (frame_of 2 grid (x ∷ y ∷ []) cells) → append_known b p ≡ append_known a (header_of 2 grid ++ to_le_bytes w64 x ++ to_le_bytes w64 y)
      → GrewByFront b c (p ++ trailer_of 2 n cells) → GrewByFront a c (frame_of 2 grid (x ∷ y ∷ []) cells)
  unfolding whole third second first
  after_all n two before given grew =
      front_onward a b c whole (p ++ trailer_of 2 n cells) before
      (sym (append_twice b p (trailer_of 2 n cells)) ∙ (ap (λ o. append_known o (trailer_of 2 n cells)) given ∙ (append_twice a third (trailer_of 2 n cells) ∙ ap (append_known a) (ap (λ k. third ++ trailer_of 2 k cells) two ∙ parts))))
      grew

given_more : (a b c : Option (List ℕ)) (p q h t : List ℕ) → append_known b p ≡ append_known a h → append_known c q ≡ append_known (append_known b p) t → append_known c q ≡ append_known a (h ++ t)
given_more a b c p q h t given added = added ∙ (ap (λ o. append_known o t) given ∙ append_twice a h t)

pub returns-in_err-add-clause-front : goal.returns-in_err-add-clause-front
returns-in_err-add-clause-front g c =
    let grid = c.args.grid.now in
    let x : ℕ = c.args.words.0 in
    let y : ℕ = c.args.words.1 in
    let a = g.O.ByteSink.written c.args.sink.now in
    let w = c.in_ok-writer.writer in
    let one = c.add.new.self in
    let first : GrewByFront a (g.O.ByteSink.written one.sink.now) (frame_of 2 grid (x ∷ y ∷ []) c.args.cells) =
    after_one grid x y c.args.cells a (g.O.ByteSink.written w.sink.now) (g.O.ByteSink.written one.sink.now) (waiting w) c.in_ok-writer.ensures.unwritten c.in_ok-writer.ensures.given c.add.ensures.front in
    (first.0, search (rules, first.1))

pub returns-in_err-add-2-clause-front : goal.returns-in_err-add-2-clause-front
returns-in_err-add-2-clause-front g c =
    let grid = c.args.grid.now in
    let x : ℕ = c.args.words.0 in
    let y : ℕ = c.args.words.1 in
    let a = g.O.ByteSink.written c.args.sink.now in
    let w = c.in_ok-writer.writer in
    let one = c.add.new.self in
    let first : GrewByFront a (g.O.ByteSink.written one.sink.now) (frame_of 2 grid (x ∷ y ∷ []) c.args.cells) =
    after_one grid x y c.args.cells a (g.O.ByteSink.written w.sink.now) (g.O.ByteSink.written one.sink.now) (waiting w) c.in_ok-writer.ensures.unwritten c.in_ok-writer.ensures.given c.add.ensures.front in
    let two = c.add-2.new.self in
    let given_one : append_known (g.O.ByteSink.written one.sink.now) (waiting one) ≡ append_known a (header_of 2 grid ++ to_le_bytes w64 x) =
    given_more a (g.O.ByteSink.written w.sink.now) (g.O.ByteSink.written one.sink.now) (waiting w) (waiting one) (header_of 2 grid) (to_le_bytes w64 x) c.in_ok-writer.ensures.given c.in_ok-add.ensures.given in
    let second : GrewByFront a (g.O.ByteSink.written two.sink.now) (frame_of 2 grid (x ∷ y ∷ []) c.args.cells) =
    after_two grid x y c.args.cells a (g.O.ByteSink.written one.sink.now) (g.O.ByteSink.written two.sink.now) (waiting one) first given_one c.add-2.ensures.front in
    (second.0, search (rules, second.1))

pub returns-in_err-records-clause-front : goal.returns-in_err-records-clause-front
returns-in_err-records-clause-front g c =
    let grid = c.args.grid.now in
    let x : ℕ = c.args.words.0 in
    let y : ℕ = c.args.words.1 in
    let a = g.O.ByteSink.written c.args.sink.now in
    let w = c.in_ok-writer.writer in
    let one = c.add.new.self in
    let first : GrewByFront a (g.O.ByteSink.written one.sink.now) (frame_of 2 grid (x ∷ y ∷ []) c.args.cells) =
    after_one grid x y c.args.cells a (g.O.ByteSink.written w.sink.now) (g.O.ByteSink.written one.sink.now) (waiting w) c.in_ok-writer.ensures.unwritten c.in_ok-writer.ensures.given c.add.ensures.front in
    let two = c.add-2.new.self in
    let given_one : append_known (g.O.ByteSink.written one.sink.now) (waiting one) ≡ append_known a (header_of 2 grid ++ to_le_bytes w64 x) =
    given_more a (g.O.ByteSink.written w.sink.now) (g.O.ByteSink.written one.sink.now) (waiting w) (waiting one) (header_of 2 grid) (to_le_bytes w64 x) c.in_ok-writer.ensures.given c.in_ok-add.ensures.given in
    let second : GrewByFront a (g.O.ByteSink.written two.sink.now) (frame_of 2 grid (x ∷ y ∷ []) c.args.cells) =
    after_two grid x y c.args.cells a (g.O.ByteSink.written one.sink.now) (g.O.ByteSink.written two.sink.now) (waiting one) first given_one c.add-2.ensures.front in
    let given_two : append_known (g.O.ByteSink.written two.sink.now) (waiting two) ≡ append_known a (header_of 2 grid ++ to_le_bytes w64 x ++ to_le_bytes w64 y) =
    given_more a (g.O.ByteSink.written one.sink.now) (g.O.ByteSink.written two.sink.now) (waiting one) (waiting two) (header_of 2 grid ++ to_le_bytes w64 x) (to_le_bytes w64 y) given_one c.in_ok-add-2.ensures.given in
    let third : GrewByFront a (g.O.ByteSink.written c.finish.new.self.0) (frame_of 2 grid (x ∷ y ∷ []) c.args.cells) =
    after_all grid x y c.args.cells a (g.O.ByteSink.written two.sink.now) (g.O.ByteSink.written c.finish.new.self.0) (waiting two) two.records (omega (arith, c.in_ok-add-2.ensures.records, c.in_ok-add.ensures.records, c.in_ok-writer.ensures.records)) second given_two c.finish.ensures.front in
    (third.0, search (rules, third.1))

pub returns-clause-front : goal.returns-clause-front
returns-clause-front g c =
    let grid = c.args.grid.now in
    let x : ℕ = c.args.words.0 in
    let y : ℕ = c.args.words.1 in
    let a = g.O.ByteSink.written c.args.sink.now in
    let w = c.in_ok-writer.writer in
    let one = c.add.new.self in
    let first : GrewByFront a (g.O.ByteSink.written one.sink.now) (frame_of 2 grid (x ∷ y ∷ []) c.args.cells) =
    after_one grid x y c.args.cells a (g.O.ByteSink.written w.sink.now) (g.O.ByteSink.written one.sink.now) (waiting w) c.in_ok-writer.ensures.unwritten c.in_ok-writer.ensures.given c.add.ensures.front in
    let two = c.add-2.new.self in
    let given_one : append_known (g.O.ByteSink.written one.sink.now) (waiting one) ≡ append_known a (header_of 2 grid ++ to_le_bytes w64 x) =
    given_more a (g.O.ByteSink.written w.sink.now) (g.O.ByteSink.written one.sink.now) (waiting w) (waiting one) (header_of 2 grid) (to_le_bytes w64 x) c.in_ok-writer.ensures.given c.in_ok-add.ensures.given in
    let second : GrewByFront a (g.O.ByteSink.written two.sink.now) (frame_of 2 grid (x ∷ y ∷ []) c.args.cells) =
    after_two grid x y c.args.cells a (g.O.ByteSink.written one.sink.now) (g.O.ByteSink.written two.sink.now) (waiting one) first given_one c.add-2.ensures.front in
    let given_two : append_known (g.O.ByteSink.written two.sink.now) (waiting two) ≡ append_known a (header_of 2 grid ++ to_le_bytes w64 x ++ to_le_bytes w64 y) =
    given_more a (g.O.ByteSink.written one.sink.now) (g.O.ByteSink.written two.sink.now) (waiting one) (waiting two) (header_of 2 grid ++ to_le_bytes w64 x) (to_le_bytes w64 y) given_one c.in_ok-add-2.ensures.given in
    let third : GrewByFront a (g.O.ByteSink.written c.finish.new.self.0) (frame_of 2 grid (x ∷ y ∷ []) c.args.cells) =
    after_all grid x y c.args.cells a (g.O.ByteSink.written two.sink.now) (g.O.ByteSink.written c.finish.new.self.0) (waiting two) two.records (omega (arith, c.in_ok-add-2.ensures.records, c.in_ok-add.ensures.records, c.in_ok-writer.ensures.records)) second given_two c.finish.ensures.front in
    (third.0, search (rules, third.1))
