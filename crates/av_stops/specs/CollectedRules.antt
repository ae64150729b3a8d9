-- What collected classes are refused for (rules 21, 6 and 7), each rule at the least class name.
use Rattle.std.specs.Prelude.{◌≡◌, ℕ, List}
use Rattle.jv_types.specs.declared.rule.Rule.{Rule}
use Rattle.jv_types.specs.declared.rule.Rule.TheVariants as rules
use Rattle.av_collected.specs.Answers.{FailsForm, FailsThere, FailsApart}
use Rattle.av_collected.specs.Libraries.{LibraryFile}
use Rattle.av_collected.specs.Naming.{Application}

-- a collected class fails a rule on what was collected: that its file has its form (rule 21), then that it has a
-- file (rule 6), then that it names no class of the application (rule 7); and this is the least name at which it does
pub data FailsCollection (given : Application) (library : List LibraryFile) (rule : Rule) (name : List ℕ) : Type 0 where
  by_form : rule ≡ rules.LibraryForm → FailsForm given library name → FailsCollection given library rule name
  by_file : rule ≡ rules.MissingClass → FailsThere given library name → FailsCollection given library rule name
  by_names : rule ≡ rules.LibraryNamesApplication → FailsApart given library name → FailsCollection given library rule name
