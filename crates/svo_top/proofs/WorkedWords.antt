-- Worked command lines.
use Rattle.std.proofs.Common.{◌≡◌, false, [], ◌∷◌, Ok, Err, pos, negsuc, Some, refl}
use Rattle.std.specs.Prelude.{codes}
use Rattle.svo_words.specs.Forms.{commands, form_of}
use Rattle.svo_words.specs.Build.{build_choices, build_numbers, build_from}
use Rattle.svo_words.specs.Settings.{is_counted, are_counted}
use Rattle.svo_words.specs.Steps.{step_of, settings_from, settings_in}
use Rattle.text_words.specs.Numbers.{number_of}
use Rattle.svo_words.specs.Numbers.{numbers_of}
use Rattle.svo_words.specs.Values.{number_in, number_or, numbers_in, text_or}
use Rattle.svo_words.specs.declared.commands.Command.TheVariants.{Build}
use Rattle.svo_words.specs.declared.commands.WordFault.TheVariants.{Command as NoCommand, Options, Value}

any_order : form_of (codes "build" ∷ codes "--cell=7" ∷ codes "--origin=-1,2,3" ∷ codes "--depth" ∷ codes "4" ∷ [])
    ≡ Ok (Build (record {
      depth = pos 4;
      memory = pos 268435456;
      decimals = pos 0;
      cut = false;
      scratch = codes "svo_scratch";
      fit = false;
      origin = Some (negsuc 0 ∷ pos 2 ∷ pos 3 ∷ []);
      cell = Some (pos 7);
    }))
unfolding form_of commands build_choices build_from settings_in settings_from step_of are_counted is_counted number_in number_or numbers_in number_of numbers_of build_numbers text_or
any_order = refl

no_command : form_of (codes "--help" ∷ []) ≡ Err NoCommand
unfolding form_of commands
no_command = refl

hyphen_alone : form_of (codes "build" ∷ codes "--cell=7" ∷ codes "--origin" ∷ codes "-1,2,3" ∷ codes "--depth" ∷ codes "4" ∷ []) ≡ Err Options
unfolding form_of commands build_choices settings_in settings_from step_of
hyphen_alone = refl

twice : form_of (codes "build" ∷ codes "--cell=7" ∷ codes "--origin=1,2,3" ∷ codes "--depth" ∷ codes "4" ∷ codes "--cell=7" ∷ []) ≡ Err Options
unfolding form_of commands build_choices settings_in settings_from step_of are_counted is_counted
twice = refl

two_numbers : form_of (codes "build" ∷ codes "--cell=7" ∷ codes "--origin=1,2" ∷ codes "--depth" ∷ codes "4" ∷ []) ≡ Err Value
unfolding form_of commands build_choices build_from settings_in settings_from step_of are_counted is_counted number_in number_or numbers_in number_of numbers_of build_numbers text_or
two_numbers = refl
