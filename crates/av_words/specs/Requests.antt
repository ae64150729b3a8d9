-- What words ask for. The first word chooses the command.
use Rattle.std.specs.Prelude.{◌≡◌, ℕ, true, List, [], ◌∷◌, Some, codes}
use Rattle.clap.specs.Words.{App, Rule, new_app, new_rule, with_rule, matches_of, first_of, fault_of}
use Rattle.clap.specs.declared.builder.action.ArgAction.TheVariants.{Set}
use Rattle.av_words.specs.declared.request.Request.{Request}
use Rattle.av_words.specs.declared.request.Request.TheVariants.{Calls, Verify}

-- ---- calls ROOT NAME

-- the words are the command, a root and a class's name
abbrev pub AskCalls : List (List ℕ) → List ℕ → List ℕ → Type 0
AskCalls words root name = words ≡ codes "calls" ∷ root ∷ name ∷ []

abbrev pub AskNoCalls : List (List ℕ) → Type 0
AskNoCalls words = (root name : List ℕ) → ¬ AskCalls words root name

-- ---- verify --app DIR --lib DIR

-- an option that has to be there, once, with a folder
abbrev pub root_option : List ℕ → Rule
root_option id = record (new_rule id) { long = Some id; action = Some Set; required = true }

-- the command, as clap reads it
abbrev pub verify_command : App
verify_command = with_rule (with_rule (new_app (codes "verify")) (root_option (codes "app"))) (root_option (codes "lib"))

-- clap takes the words, of which it passes over the first, and reads these two folders
pub record Reads (words : List (List ℕ)) (app lib : List ℕ) : Type 0 where
  pub faultless : fault_of verify_command words ≡ []
  pub app_is : first_of (codes "app") (matches_of verify_command words) ≡ Some app
  pub lib_is : first_of (codes "lib") (matches_of verify_command words) ≡ Some lib

abbrev pub ReadsNothing : List (List ℕ) → Type 0
ReadsNothing words = (app lib : List ℕ) → ¬ Reads words app lib

-- the first word is the command, and clap reads these folders of an application and of a library
pub record AskVerify (words : List (List ℕ)) (app lib : List ℕ) : Type 0 where
  pub rest : List (List ℕ)
  pub command : words ≡ codes "verify" ∷ rest
  pub reads : Reads words app lib

abbrev pub AskNoVerify : List (List ℕ) → Type 0
AskNoVerify words = (app lib : List ℕ) → ¬ AskVerify words app lib

-- ---- either

-- the words ask for this
abbrev pub Asks : List (List ℕ) → Request → Type 0
Asks words (Calls root name) = AskCalls words root.now name.now
Asks words (Verify app lib) = AskVerify words app.now lib.now

-- the words are in no command's form
abbrev pub AskNothing : List (List ℕ) → Type 0
AskNothing words = AskNoCalls words × AskNoVerify words
