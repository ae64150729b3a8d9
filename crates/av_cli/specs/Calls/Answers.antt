-- The answers of the command that prints the calls of one class: their statuses and their lines on err.
use Rattle.std.specs.Prelude.{ℕ, List, [], ◌∷◌, ◌++◌, codes}
use Rattle.jv_bytes.specs.Shown.{shown_text}
use Rattle.av_outcome.specs.declared.status.Status.{Status}
use Rattle.av_outcome.specs.declared.status.Status.TheVariants.{Done, Refused, ReadFault, WriteFault, Limit, Memory}
use Rattle.av_cli.specs.declared.calls.answer.Answer.{Answer}
use Rattle.av_cli.specs.declared.calls.answer.Answer.TheVariants.{Printed, Unreadable, NoFile, TooLarge, NotClass, OutsideForm, NoMain, Unwritable, OutOfMemory}

-- the status of an answer
abbrev pub status_of : Answer → Status
status_of Printed = Done
status_of Unreadable = ReadFault
status_of NoFile = Refused
status_of TooLarge = Limit
status_of NotClass = Refused
status_of OutsideForm = Refused
status_of NoMain = Refused
status_of Unwritable = WriteFault
status_of OutOfMemory = Memory

-- the file of a class under its root
abbrev pub file_name : List ℕ → List ℕ
file_name name = name ++ codes ".class"

-- as many bytes as show whether a file is too long for a class file
unfoldable pub file_most : ℕ
file_most = 16777217

-- the words of the command, with a root and a class's name
abbrev pub request : List ℕ → List ℕ → List (List ℕ)
request root name = codes "calls" ∷ root ∷ name ∷ []

-- the line that err gets: nothing where all was printed, and else why it wasn't, with what it is about in shown form
abbrev pub error_line : List ℕ → Answer → List ℕ
error_line name Printed = []
error_line name Unreadable = codes "averroes: read fault " ++ shown_text (file_name name) ++ 10 ∷ []
error_line name NoFile = codes "averroes: refused 20 NoMain " ++ shown_text name ++ 10 ∷ []
error_line name TooLarge = codes "averroes: limit file-bytes 16777216" ++ 10 ∷ []
error_line name NotClass = codes "averroes: refused 1 NotClass " ++ shown_text (file_name name) ++ 10 ∷ []
error_line name OutsideForm = codes "averroes: refused 22 NotBuiltYet " ++ shown_text (file_name name) ++ 10 ∷ []
error_line name NoMain = codes "averroes: refused 20 NoMain " ++ shown_text name ++ 10 ∷ []
error_line name Unwritable = codes "averroes: write fault report" ++ 10 ∷ []
error_line name OutOfMemory = codes "averroes: memory" ++ 10 ∷ []
