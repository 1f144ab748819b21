use Rattle.std.proofs.Common.{◌<◌, length, arith, inl, inr, refl, sym, subst, ◌∙◌, Result, Err}
use Rattle.std.proofs.lemmas.Bool.Decides.{nat_tests}
use Rattle.svo_words.specs.Forms.{commands, build_form, cast_form, check_form, cells_form, has_form, why_form, slice_form, view_form, lift_form, make_form, sum_form, near_form, merge_form, coarse_form}
use Rattle.svo_words.specs.Reading.{IsRead}
use Rattle.svo_words.specs.declared.commands.Command.{Command}
use Rattle.svo_words.specs.declared.commands.WordFault.{WordFault}
use Rattle.svo_words.specs.declared.commands.WordFault.TheVariants.{Command as NoCommand}
use Rattle.svo_words.proofs.CommandTable.{arm, not_named}
use Rattle.svo_words.proofs.commands.read_words.Goals as goal

pub returns-in-build : goal.returns-in-build
unfolding commands
returns-in-build c =
    let some : 0 < length c.args.words.now = grind (arith, nat_tests) in
    arm build_form c.args.words.now _ c.read_build.result (inl refl) some (sym c.get.ensures ∙ c.in-build.is) c.tail.ensures c.read_build.ensures

pub returns-in-cast : goal.returns-in-cast
unfolding commands
returns-in-cast c =
    let some : 0 < length c.args.words.now = grind (arith, nat_tests) in
    arm cast_form c.args.words.now _ c.read_cast.result (inr (inl refl)) some (sym c.get.ensures ∙ c.in-cast.is) c.tail-in-cast.ensures c.read_cast.ensures

pub returns-in-check : goal.returns-in-check
unfolding commands
returns-in-check c =
    let some : 0 < length c.args.words.now = grind (arith, nat_tests) in
    arm check_form c.args.words.now _ c.read_check.result (inr (inr (inl refl))) some (sym c.get.ensures ∙ c.in-check.is) c.tail-in-check.ensures c.read_check.ensures

pub returns-in-cells : goal.returns-in-cells
unfolding commands
returns-in-cells c =
    let some : 0 < length c.args.words.now = grind (arith, nat_tests) in
    arm cells_form c.args.words.now _ c.read_cells.result (inr (inr (inr (inl refl)))) some (sym c.get.ensures ∙ c.in-cells.is) c.tail-in-cells.ensures c.read_cells.ensures

pub returns-in-has : goal.returns-in-has
unfolding commands
returns-in-has c =
    let some : 0 < length c.args.words.now = grind (arith, nat_tests) in
    arm has_form c.args.words.now _ c.read_has.result (inr (inr (inr (inr (inl refl))))) some (sym c.get.ensures ∙ c.in-has.is) c.tail-in-has.ensures c.read_has.ensures

pub returns-in-why : goal.returns-in-why
unfolding commands
returns-in-why c =
    let some : 0 < length c.args.words.now = grind (arith, nat_tests) in
    arm why_form c.args.words.now _ c.read_why.result (inr (inr (inr (inr (inr (inl refl)))))) some (sym c.get.ensures ∙ c.in-why.is) c.tail-in-why.ensures c.read_why.ensures

pub returns-in-slice : goal.returns-in-slice
unfolding commands
returns-in-slice c =
    let some : 0 < length c.args.words.now = grind (arith, nat_tests) in
    arm slice_form c.args.words.now _ c.read_slice.result (inr (inr (inr (inr (inr (inr (inl refl))))))) some (sym c.get.ensures ∙ c.in-slice.is) c.tail-in-slice.ensures c.read_slice.ensures

pub returns-in-view : goal.returns-in-view
unfolding commands
returns-in-view c =
    let some : 0 < length c.args.words.now = grind (arith, nat_tests) in
    arm view_form c.args.words.now _ c.read_view.result (inr (inr (inr (inr (inr (inr (inr (inl refl)))))))) some (sym c.get.ensures ∙ c.in-view.is) c.tail-in-view.ensures c.read_view.ensures

pub returns-in-lift : goal.returns-in-lift
unfolding commands
returns-in-lift c =
    let some : 0 < length c.args.words.now = grind (arith, nat_tests) in
    arm lift_form c.args.words.now _ c.read_lift.result (inr (inr (inr (inr (inr (inr (inr (inr (inl refl))))))))) some (sym c.get.ensures ∙ c.in-lift.is) c.tail-in-lift.ensures c.read_lift.ensures

pub returns-in-make : goal.returns-in-make
unfolding commands
returns-in-make c =
    let some : 0 < length c.args.words.now = grind (arith, nat_tests) in
    arm make_form c.args.words.now _ c.read_make.result (inr (inr (inr (inr (inr (inr (inr (inr (inr (inl refl)))))))))) some (sym c.get.ensures ∙ c.in-make.is) c.tail-in-make.ensures c.read_make.ensures

pub returns-in-sum : goal.returns-in-sum
unfolding commands
returns-in-sum c =
    let some : 0 < length c.args.words.now = grind (arith, nat_tests) in
    arm sum_form c.args.words.now _ c.read_sum.result (inr (inr (inr (inr (inr (inr (inr (inr (inr (inr (inl refl))))))))))) some (sym c.get.ensures ∙ c.in-sum.is) c.tail-in-sum.ensures c.read_sum.ensures

pub returns-in-near : goal.returns-in-near
unfolding commands
returns-in-near c =
    let some : 0 < length c.args.words.now = grind (arith, nat_tests) in
    arm near_form c.args.words.now _ c.read_near.result (inr (inr (inr (inr (inr (inr (inr (inr (inr (inr (inr (inl refl)))))))))))) some (sym c.get.ensures ∙ c.in-near.is) c.tail-in-near.ensures c.read_near.ensures

pub returns-in-merge : goal.returns-in-merge
unfolding commands
returns-in-merge c =
    let some : 0 < length c.args.words.now = grind (arith, nat_tests) in
    arm merge_form c.args.words.now _ c.read_merge.result (inr (inr (inr (inr (inr (inr (inr (inr (inr (inr (inr (inr (inl refl))))))))))))) some (sym c.get.ensures ∙ c.in-merge.is) c.tail-in-merge.ensures c.read_merge.ensures

pub returns-in-coarse : goal.returns-in-coarse
unfolding commands
returns-in-coarse c =
    let some : 0 < length c.args.words.now = grind (arith, nat_tests) in
    arm coarse_form c.args.words.now _ c.read_coarse.result (inr (inr (inr (inr (inr (inr (inr (inr (inr (inr (inr (inr (inr (inl refl)))))))))))))) some (sym c.get.ensures ∙ c.in-coarse.is) c.tail-in-coarse.ensures c.read_coarse.ensures

pub returns-in_default : goal.returns-in_default
unfolding commands
returns-in_default c =
    let some : 0 < length c.args.words.now = grind (arith, nat_tests) in
    let none = not_named c.args.words.now some (
      λ same. c.in_default.not-build (c.get.ensures ∙ same),
      (
        λ same. c.in_default.not-cast (c.get.ensures ∙ same),
        (
          λ same. c.in_default.not-check (c.get.ensures ∙ same),
          (
            λ same. c.in_default.not-cells (c.get.ensures ∙ same),
            (
              λ same. c.in_default.not-has (c.get.ensures ∙ same),
              (
                λ same. c.in_default.not-why (c.get.ensures ∙ same),
                (
                  λ same. c.in_default.not-slice (c.get.ensures ∙ same),
                  (
                    λ same. c.in_default.not-view (c.get.ensures ∙ same),
                    (
                      λ same. c.in_default.not-lift (c.get.ensures ∙ same),
                      (
                        λ same. c.in_default.not-make (c.get.ensures ∙ same),
                        (
                          λ same. c.in_default.not-sum (c.get.ensures ∙ same),
                          (
                            λ same. c.in_default.not-near (c.get.ensures ∙ same),
                            (λ same. c.in_default.not-merge (c.get.ensures ∙ same), (λ same. c.in_default.not-coarse (c.get.ensures ∙ same), tt)),
                          ),
                        ),
                      ),
                    ),
                  ),
                ),
              ),
            ),
          ),
        ),
      ),
    ) in
    let P : Result Command WordFault → Type 0 = λ wanted. IsRead wanted (Err NoCommand) in
    subst P (sym none) refl
