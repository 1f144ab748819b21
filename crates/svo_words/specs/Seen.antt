-- The values that code holds, by the names of their options.
use Rattle.clap.specs.Matches.{first_value, found_of}
use Rattle.svo_words.specs.Lookups.{Lookup}
use Rattle.svo_words.specs.declared.values.Values.{Values}

abbrev pub values_of : Values → Lookup
values_of values = first_value (found_of values.matches)
