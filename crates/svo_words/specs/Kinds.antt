-- Words that name an axis, a kind of view or a kind of merge.
use Rattle.std.specs.Prelude.{ℕ, if◌then◌else◌, List, Option, None, Some, codes}
use Rattle.std.specs.Str.{bytes_eq}
use Rattle.svo_words.specs.declared.kinds.AxisWord.{AxisWord}
use Rattle.svo_words.specs.declared.kinds.AxisWord.TheVariants.{X, Y, Z}
use Rattle.svo_words.specs.declared.kinds.KindWord.{KindWord}
use Rattle.svo_words.specs.declared.kinds.KindWord.TheVariants.{Parallel, Pinhole}
use Rattle.svo_words.specs.declared.kinds.MergeWord.{MergeWord}
use Rattle.svo_words.specs.declared.kinds.MergeWord.TheVariants.{Union, Both, Minus}

unfoldable pub axis_of : List ℕ → Option AxisWord
axis_of value =
    if bytes_eq value (codes "x") then Some X
    else (if bytes_eq value (codes "y") then Some Y
    else (if bytes_eq value (codes "z") then Some Z
    else None))

unfoldable pub kind_of : List ℕ → Option KindWord
kind_of value =
    if bytes_eq value (codes "parallel") then Some Parallel
    else (if bytes_eq value (codes "pinhole") then Some Pinhole
    else None)

unfoldable pub merge_of : List ℕ → Option MergeWord
merge_of value =
    if bytes_eq value (codes "union") then Some Union
    else (if bytes_eq value (codes "both") then Some Both
    else (if bytes_eq value (codes "minus") then Some Minus
    else None))
