-- The values of options as numbers, texts and words of a list.
use Rattle.std.specs.Prelude.{ℕ, Bool, if◌then◌else◌, List, ℤ, Option, None, Some, is_some}
use Rattle.svo_words.specs.Grammar.{is_separate}
use Rattle.svo_words.specs.Kinds.{axis_of, kind_of, merge_of}
use Rattle.svo_words.specs.Lookups.{Lookup}
use Rattle.text_words.specs.Numbers.{number_of, ◌>>=◌}
use Rattle.svo_words.specs.Numbers.{numbers_of}
use Rattle.svo_words.specs.declared.kinds.AxisWord.{AxisWord}
use Rattle.svo_words.specs.declared.kinds.KindWord.{KindWord}
use Rattle.svo_words.specs.declared.kinds.MergeWord.{MergeWord}

abbrev pub is_set : Lookup → List ℕ → Bool
is_set values name = is_some (values name)

unfoldable pub number_in : Lookup → List ℕ → Option ℤ
number_in values name = values name >>= number_of

abbrev pub number_if : ℤ → Option (List ℕ) → Option ℤ
number_if default None = Some default
number_if default (Some value) = number_of value

-- a number, or the default where the option does not stand
unfoldable pub number_or : ℤ → Lookup → List ℕ → Option ℤ
number_or default values name = number_if default (values name)

-- so many numbers with commas between them
unfoldable pub numbers_in : ℕ → Lookup → List ℕ → Option (List ℤ)
numbers_in count values name = values name >>= numbers_of count

-- a text is not empty and does not begin with `-`
abbrev pub text_of : List ℕ → Option (List ℕ)
text_of value = if is_separate value then Some value else None

unfoldable pub text_in : Lookup → List ℕ → Option (List ℕ)
text_in values name = values name >>= text_of

abbrev pub text_if : List ℕ → Option (List ℕ) → Option (List ℕ)
text_if default None = Some default
text_if default (Some value) = text_of value

-- a text, or the default where the option does not stand
unfoldable pub text_or : List ℕ → Lookup → List ℕ → Option (List ℕ)
text_or default values name = text_if default (values name)

unfoldable pub axis_in : Lookup → List ℕ → Option AxisWord
axis_in values name = values name >>= axis_of

unfoldable pub kind_in : Lookup → List ℕ → Option KindWord
kind_in values name = values name >>= kind_of

unfoldable pub merge_in : Lookup → List ℕ → Option MergeWord
merge_in values name = values name >>= merge_of
