-- Worked command lines of the commands on node files, of pictures and of made meshes.
use Rattle.std.proofs.Common.{◌≡◌, [], ◌∷◌, Ok, Err, pos, negsuc, refl}
use Rattle.std.specs.Prelude.{codes}
use Rattle.svo_words.specs.Forms.{commands, form_of}
use Rattle.svo_words.specs.Nodes.{nodes_choices, has_choices, kept_choices, check_from, has_from, cells_from, cast_from}
use Rattle.svo_words.specs.Made.{make_choices, make_from, sum_choices, sum_numbers, sum_from}
use Rattle.svo_words.specs.Pictures.{slice_choices, slice_values, slice_from, view_choices, view_frame, view_sizes, view_from}
use Rattle.svo_words.specs.Kinds.{axis_of, kind_of}
use Rattle.svo_words.specs.Settings.{is_counted, are_counted}
use Rattle.svo_words.specs.Steps.{step_of, settings_from, settings_in}
use Rattle.text_words.specs.Numbers.{number_of}
use Rattle.svo_words.specs.Numbers.{numbers_of}
use Rattle.svo_words.specs.Values.{number_in, number_or, numbers_in, text_in, text_or, axis_in, kind_in}
use Rattle.svo_words.specs.declared.kinds.AxisWord.TheVariants.{Z}
use Rattle.svo_words.specs.declared.kinds.KindWord.TheVariants.{Pinhole}
use Rattle.svo_words.specs.declared.commands.Command.TheVariants.{Cast, Check, Cells, Has, Slice, View, Make, Sum}
use Rattle.svo_words.specs.declared.commands.WordFault.TheVariants.{Options, Value}

of_a_file : form_of (codes "check" ∷ codes "--nodes" ∷ codes "n" ∷ []) ≡ Ok (Check (record { nodes = codes "n" }))
unfolding form_of commands nodes_choices check_from settings_in settings_from step_of are_counted is_counted text_in
of_a_file = refl

kept_by_default : form_of (codes "cells" ∷ codes "--nodes=n" ∷ []) ≡ Ok (Cells (record { nodes = codes "n"; keep = pos 64 }))
unfolding form_of commands kept_choices cells_from settings_in settings_from step_of are_counted is_counted text_in number_or
kept_by_default = refl

keep_first : form_of (codes "cast" ∷ codes "--keep" ∷ codes "2" ∷ codes "--nodes=n" ∷ []) ≡ Ok (Cast (record { nodes = codes "n"; keep = pos 2 }))
unfolding form_of commands kept_choices cast_from settings_in settings_from step_of are_counted is_counted text_in number_or number_of
keep_first = refl

negative_code : form_of (codes "has" ∷ codes "--nodes" ∷ codes "n" ∷ codes "--code=-1" ∷ []) ≡ Ok (Has (record { nodes = codes "n"; code = negsuc 0 }))
unfolding form_of commands has_choices has_from settings_in settings_from step_of are_counted is_counted text_in number_in number_of
negative_code = refl

no_file : form_of (codes "lift" ∷ []) ≡ Err Options
unfolding form_of commands nodes_choices settings_in settings_from step_of are_counted is_counted
no_file = refl

hyphen_in_name : form_of (codes "check" ∷ codes "--nodes=-n" ∷ []) ≡ Err Value
unfolding form_of commands nodes_choices check_from settings_in settings_from step_of are_counted is_counted text_in
hyphen_in_name = refl

across_z : form_of (codes "slice" ∷ codes "--axis" ∷ codes "z" ∷ codes "--at=3" ∷ codes "--nodes=n" ∷ []) ≡ Ok (Slice (record { nodes = codes "n"; axis = Z; at = pos 3; keep = pos 64 }))
unfolding form_of commands slice_choices slice_values slice_from settings_in settings_from step_of are_counted is_counted text_in number_in number_or number_of axis_in axis_of
across_z = refl

capital_axis : form_of (codes "slice" ∷ codes "--axis=Z" ∷ codes "--at=3" ∷ codes "--nodes=n" ∷ []) ≡ Err Value
unfolding form_of commands slice_choices slice_values slice_from settings_in settings_from step_of are_counted is_counted text_in number_in number_or number_of axis_in axis_of
capital_axis = refl

from_one_point : form_of (codes "view" ∷ codes "--nodes=n" ∷ codes "--kind=pinhole" ∷ codes "--eye=0,0,-9" ∷ codes "--toward=0,0,8" ∷ codes "--right=1,0,0" ∷ codes "--up=0,1,0" ∷ codes "--width=4" ∷ codes "--height=3" ∷ codes "--far=20" ∷ [])
    ≡ Ok (View (record {
      nodes = codes "n";
      kind = Pinhole;
      eye = pos 0 ∷ pos 0 ∷ negsuc 8 ∷ [];
      toward = pos 0 ∷ pos 0 ∷ pos 8 ∷ [];
      right = pos 1 ∷ pos 0 ∷ pos 0 ∷ [];
      up = pos 0 ∷ pos 1 ∷ pos 0 ∷ [];
      width = pos 4;
      height = pos 3;
      far = pos 20;
      keep = pos 64;
    }))
unfolding form_of commands view_choices view_frame view_sizes view_from settings_in settings_from step_of are_counted is_counted text_in number_in number_or number_of numbers_in numbers_of kind_in kind_of
from_one_point = refl

side_first : form_of (codes "make" ∷ codes "--side" ∷ codes "2" ∷ codes "--number=7" ∷ []) ≡ Ok (Make (record { number = pos 7; side = pos 2 }))
unfolding form_of commands make_choices make_from settings_in settings_from step_of are_counted is_counted number_in number_of
side_first = refl

sum_by_default : form_of (codes "sum" ∷ codes "--number=7" ∷ codes "--side=2" ∷ codes "--depth=3" ∷ [])
    ≡ Ok (Sum (record { number = pos 7; side = pos 2; depth = pos 3; memory = pos 268435456; scratch = codes "svo_scratch" }))
unfolding form_of commands sum_choices sum_from sum_numbers make_from settings_in settings_from step_of are_counted is_counted number_in number_or number_of text_or
sum_by_default = refl
