-- The kinds of options that tables have.
use Rattle.std.specs.Prelude.{ℕ, true, false, List, None, Some}
use Rattle.svo_words.specs.Choices.{Choice}

abbrev pub flag : List ℕ → Choice
flag name = record { name = name; takes_value = false; is_required = false; unless = None }

abbrev pub optional : List ℕ → Choice
optional name = record { name = name; takes_value = true; is_required = false; unless = None }

abbrev pub required : List ℕ → Choice
required name = record { name = name; takes_value = true; is_required = true; unless = None }

-- required, but where another option stands in its place
abbrev pub required_unless : List ℕ → List ℕ → Choice
required_unless other name = record { name = name; takes_value = true; is_required = true; unless = Some other }
