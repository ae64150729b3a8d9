-- What clap says of a parse of the words of `verify`, and what the words ask for.
use Rattle.std.proofs.Common.{◌≡◌, ℕ, true, List, [], ◌∷◌, Option, Some, None, refl, ap, sym, ◌∙◌, codes}
use Rattle.std.specs.Option.{MatchOption}
use Rattle.clap.specs.Words.{App, HasMatchesOf, Row, first_of, first_value, found_of, rows_of, matches_of, fault_of, is_simple, is_simple_and_free}
use Rattle.clap.specs.declared.parser.matches.ArgMatches.{ArgMatches}
use Rattle.clap.proofs.OnLiterals.{clap_on_literals}
use Rattle.clap.proofs.WalkLemmas.{first_value-rows}
use Rattle.av_words.specs.Requests.{Reads, ReadsNothing, AskVerify, AskNoVerify, verify_command}
use Rattle.av_words.specs.Steps.Folders.{HasFolders, HasNoFolders}

-- the command is one whose parses clap's definitions describe
verify_simple : is_simple verify_command ≡ true
unfolding clap_on_literals
verify_simple = refl

verify_free : is_simple_and_free verify_command ≡ true
unfolding clap_on_literals
verify_free = refl

module _ (command : App) (words : List (List ℕ)) (m : ArgMatches) (is : command ≡ verify_command) (matches : HasMatchesOf command words m)
    (faultless : is_simple_and_free command ≡ true → fault_of command words ≡ []) where
  rows_are : rows_of (found_of m) ≡ matches_of verify_command words
  rows_are = (matches (ap is_simple is ∙ verify_simple)).0 ∙ ap (λ (a : App). matches_of a words) is

  value_is : (id : List ℕ) → first_value (found_of m) id ≡ first_of id (matches_of verify_command words)
  value_is id = first_value-rows (found_of m) id ∙ ap (λ (rows : List Row). first_of id rows) rows_are

  reads : (app lib : List ℕ) → HasFolders m app lib → Reads words app lib
  reads app lib has = record {
    faultless = ap (λ (a : App). fault_of a words) (sym is) ∙ faultless (ap is_simple_and_free is ∙ verify_free);
    app_is = sym (value_is (codes "app")) ∙ has.0;
    lib_is = sym (value_is (codes "lib")) ∙ has.1;
  }

  reads_nothing : HasNoFolders m → ReadsNothing words
  reads_nothing none app lib r = none app lib (value_is (codes "app") ∙ r.app_is, value_is (codes "lib") ∙ r.lib_is)

  -- what a parse holds is what clap reads
  pub as_read : {T : Type 0} (found : Option T) (app lib : T → List ℕ) → MatchOption found (HasNoFolders m) (λ f. HasFolders m (app f) (lib f))
      → MatchOption found (ReadsNothing words) (λ f. Reads words (app f) (lib f))
  as_read None app lib none = reads_nothing none
  as_read (Some f) app lib has = reads (app f) (lib f) has

-- what clap reads behind the command's word is what is asked for
pub as_asked : {T : Type 0} (words rest : List (List ℕ)) → words ≡ codes "verify" ∷ rest → (found : Option T) (app lib : T → List ℕ)
    → MatchOption found (ReadsNothing words) (λ f. Reads words (app f) (lib f)) → MatchOption found (AskNoVerify words) (λ f. AskVerify words (app f) (lib f))
as_asked words rest e None app lib none = λ a l asks. none a l asks.reads
as_asked words rest e (Some f) app lib has = record { rest = rest; command = e; reads = has }
