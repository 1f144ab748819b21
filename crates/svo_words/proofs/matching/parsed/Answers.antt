use Rattle.std.proofs.Common.{◌≡◌, true, map, ap, ◌∙◌}
use Rattle.std.proofs.lemmas.Result.{IfOk-weaker, IfErr-weaker}
use Rattle.std.specs.String.{string_bytes}
use Rattle.clap.specs.Matches.{found_of}
use Rattle.clap.specs.Simple.{App, app_of, is_simple, matches_of, HasMatchesOf}
use Rattle.clap.specs.Takes.{takes}
use Rattle.clap.specs.Values.{kind_of}
use Rattle.clap.specs.declared.error.kind.ErrorKind.TheVariants.{OutOfMemory}
use Rattle.clap.specs.declared.parser.matches.ArgMatches.{ArgMatches}
use Rattle.svo_words.proofs.Agreement.{all_found_in, only_memory}
use Rattle.svo_words.proofs.matching.parsed.Goals as goal

pub returns-clause-found : goal.returns-clause-found
returns-clause-found c =
    let words = map string_bytes c.args.words.now in
    let choices = c.args.choices.now in
    let same = c.requires.command in
    IfOk-weaker c.try_get_matches_from.result (HasMatchesOf (app_of c.args.command) words) _ (λ (m : ArgMatches) (has : HasMatchesOf (app_of c.args.command) words m).
    all_found_in choices words (found_of m) c.requires.form (λ simple.
    (has (ap is_simple same ∙ simple)).0 ∙ ap (λ (a : App). matches_of a words) same))
    c.try_get_matches_from.ensures.matches

pub returns-clause-memory : goal.returns-clause-memory
returns-clause-memory c =
    let words = map string_bytes c.args.words.now in
    let choices = c.args.choices.now in
    IfErr-weaker c.try_get_matches_from.result (λ e. takes (app_of c.args.command) words ≡ true → kind_of e ≡ OutOfMemory) _ (λ e h. h (ap (λ (a : App). takes a words) c.requires.command ∙ only_memory choices words c.requires.form))
    c.try_get_matches_from.ensures.passes
