-- How the command that prints the calls of one class ends: what each answer says of the words, the file
-- and the two sinks.
use Rattle.std.specs.Prelude.{◌≡◌, ◌⊎◌, ℕ, List, [], ◌∷◌, ◌++◌, Option, Some, None, IfSome, option_map}
use Rattle.jv_host.specs.declared.host.HostFile.{HostFile}
use Rattle.jv_host.specs.declared.host.HostCall.{HostCall}
use Rattle.jv_host.specs.declared.host.HostCall.TheVariants.{ReadFile}
use Rattle.jv_host.specs.Counts.{Rises}
use Rattle.jv_host.specs.Files.{bytes_of}
use Rattle.calls_form.specs.declared.object_class.ObjectClass.{ObjectClass}
use Rattle.calls_form.specs.ObjectForm.{IsObjectClass}
use Rattle.av_cli.specs.declared.calls.answer.Answer.{Answer}
use Rattle.av_cli.specs.declared.calls.answer.Answer.TheVariants.{Printed, Unreadable, NoFile, TooLarge, NotClass, OutsideForm, NoMain, Unwritable, OutOfMemory}
use Rattle.av_cli.specs.Calls.Promise.{IsCallGraph}
use Rattle.av_cli.specs.Calls.FileKinds.{IsTooLarge, IsClassFile, IsNoClass, IsOutsideForm, DeclaresMain, LacksMain}
use Rattle.av_outcome.specs.Handing.{SinkState, Takes, TakesFront, AreCountsKept}
use Rattle.av_cli.specs.Outside.{Outside, NothingPrinted}
use Rattle.av_cli.specs.Calls.Answers.{file_name, file_most, request}

-- where files are told, the class's file under the root has these bytes
abbrev pub HasFile : Outside → List ℕ → List ℕ → List ℕ → Type 0
HasFile o root name bytes = IfSome o.files (λ told. bytes_of told root (file_name name) ≡ Some bytes)

-- what an answer says of the bytes of the class's file, and of the printed output before and after
abbrev pub Prints : List ℕ → List ℕ → SinkState → SinkState → Answer → Type 0
-- the lines of the class were printed, and nothing else, and no print failed
Prints name bytes old new Printed = (text : List ℕ) × IsCallGraph name bytes text × Takes old new text × AreCountsKept old new
Prints name bytes old new TooLarge = IsTooLarge bytes × (new ≡ old)
Prints name bytes old new NotClass = IsNoClass bytes × (new ≡ old)
Prints name bytes old new OutsideForm = IsOutsideForm name bytes × (new ≡ old)
Prints name bytes old new NoMain = LacksMain name bytes × (new ≡ old)
-- the printed output failed behind a front of the lines
Prints name bytes old new Unwritable =
    (text : List ℕ) × IsCallGraph name bytes text × TakesFront old new text × Rises old.faults new.faults
-- nothing was printed, or a front of the lines
Prints name bytes old new OutOfMemory = (new ≡ old) ⊎ ((text : List ℕ) × IsCallGraph name bytes text × TakesFront old new text)
-- the other answers say nothing of bytes
Prints name bytes old new Unreadable = ⊥
Prints name bytes old new NoFile = ⊥

-- an answer about the bytes of the file
abbrev pub ConcludesBytes : Outside → List ℕ → List ℕ → Answer → Type 0
ConcludesBytes o root name answer =
    (bytes : List ℕ) × HasFile o root name bytes × Prints name bytes o.out_before o.out_after answer

-- what an answer says, where the words name a root and a class
abbrev pub Concludes : Outside → List ℕ → List ℕ → Answer → Type 0
Concludes o root name Printed = ConcludesBytes o root name Printed
Concludes o root name TooLarge = ConcludesBytes o root name TooLarge
Concludes o root name NotClass = ConcludesBytes o root name NotClass
Concludes o root name OutsideForm = ConcludesBytes o root name OutsideForm
Concludes o root name NoMain = ConcludesBytes o root name NoMain
Concludes o root name Unwritable = ConcludesBytes o root name Unwritable
-- memory may be wanting before the file is read, too
Concludes o root name OutOfMemory = NothingPrinted o ⊎ ConcludesBytes o root name OutOfMemory
-- the read of that file failed
Concludes o root name Unreadable =
    Rises o.reads_before o.reads_after × IfSome o.failed (λ call. call ≡ Some (ReadFile root (file_name name) file_most)) × NothingPrinted o
Concludes o root name NoFile = IfSome o.files (λ told. bytes_of told root (file_name name) ≡ None) × NothingPrinted o

-- the answer that words and told files determine, where nothing fails
abbrev pub IsDue : List (List ℕ) → List HostFile → Answer → Type 0
IsDue words told Printed =
    (root : List ℕ) × (name : List ℕ) × (bytes : List ℕ) × (class : ObjectClass) × (words ≡ request root name)
    × (bytes_of told root (file_name name) ≡ Some bytes) × IsClassFile bytes × IsObjectClass name bytes class × DeclaresMain class
IsDue words told NoFile = (root : List ℕ) × (name : List ℕ) × (words ≡ request root name) × (bytes_of told root (file_name name) ≡ None)
IsDue words told TooLarge =
    (root : List ℕ) × (name : List ℕ) × (bytes : List ℕ) × (words ≡ request root name)
    × (bytes_of told root (file_name name) ≡ Some bytes) × IsTooLarge bytes
IsDue words told NotClass =
    (root : List ℕ) × (name : List ℕ) × (bytes : List ℕ) × (words ≡ request root name)
    × (bytes_of told root (file_name name) ≡ Some bytes) × IsNoClass bytes
IsDue words told OutsideForm =
    (root : List ℕ) × (name : List ℕ) × (bytes : List ℕ) × (words ≡ request root name)
    × (bytes_of told root (file_name name) ≡ Some bytes) × IsOutsideForm name bytes
IsDue words told NoMain =
    (root : List ℕ) × (name : List ℕ) × (bytes : List ℕ) × (words ≡ request root name)
    × (bytes_of told root (file_name name) ≡ Some bytes) × LacksMain name bytes
IsDue words told Unreadable = ⊥
IsDue words told Unwritable = ⊥
IsDue words told OutOfMemory = ⊥

-- the calls of the host, where it tells them: at most the one read of the class's file
abbrev pub CallsOnlyRead : List (List ℕ) → Option (List HostCall) → Option (List HostCall) → Type 0
CallsOnlyRead words before after =
    (after ≡ before)
    ⊎ ((root : List ℕ) × (name : List ℕ) × (words ≡ request root name)
    × (after ≡ option_map (λ calls. calls ++ ReadFile root (file_name name) file_most ∷ []) before))
