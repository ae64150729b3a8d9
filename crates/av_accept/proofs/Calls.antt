-- The reads that acceptance makes are those that it needs.
use Rattle.std.proofs.Common.{◌≡◌, ℕ, List, Option, None, Some, Result, Ok, Err, IfErr, IfSome, subst, arith}
use Rattle.jv_class.specs.declared.class_file.ClassFile.{ClassFile}
use Rattle.jv_host.specs.declared.host.HostCall.{HostCall}
use Rattle.jv_host.specs.declared.host.HostFile.{HostFile}
use Rattle.av_collected.specs.Libraries.{LibraryFile}
use Rattle.av_collected.specs.Naming.{Application}
use Rattle.av_collected.specs.Rules.{ClassNamed, IsCollected}
use Rattle.av_program.specs.declared.accept_stop.AcceptStop.{AcceptStop}
use Rattle.av_program.specs.declared.accept_stop.AcceptStop.TheVariants.{Refused, Limit, ReadFault, Memory}
use Rattle.av_program.specs.declared.program.Program.{Program}
use Rattle.av_program.specs.Reads.{HostView, IsFileCall, of_files, of_class, most_read}
use Rattle.av_acceptor.specs.Accepting.{IsNeeded}
use Rattle.av_stops.specs.Applications.{IsApplication}
use Rattle.av_stops.specs.LibraryFolders.{IsLibraryIn}
use Rattle.av_load.specs.Answers.{InFolders, Reads}
use Rattle.av_load.proofs.Told.{reads_as, reads_may, reads_on, reads_stop, reads_then}
use Rattle.av_stages.specs.Stages.{IsClassCall, OrMemory}
use Rattle.av_accept.specs.Meanings.{Collects}

-- ---- calls

pub file_call : (told : Option (List HostFile)) (app lib : List ℕ) (call : HostCall) → IsFileCall told app lib call → IsNeeded Collects told app lib call
file_call told app lib call is = of_files is

collects : (told : Option (List HostFile)) (app lib : List ℕ) (classes : List ClassFile) (given : Application) (name : List ℕ) → InFolders told app lib (λ folders. IsApplication folders classes given)
    → IfSome told (λ files. (root : List ℕ) → (library : List LibraryFile) × IsLibraryIn (record { files = files; app = root; lib = lib }) library × IsCollected given library (ClassNamed name))
    → IfSome told (λ files. Collects files app lib name)
collects None app lib classes given name application is = tt
collects (Some files) app lib classes given name application is =
    let of = is app in
    record { classes = classes; given = given; library = of.0; is_read = record { application = application; library_is = of.1 }; collected = of.2 }

pub class_call : (told : Option (List HostFile)) (app lib : List ℕ) (classes : List ClassFile) (given : Application) → InFolders told app lib (λ folders. IsApplication folders classes given)
    → (call : HostCall) → IsClassCall told lib given call → IsNeeded Collects told app lib call
class_call told app lib classes given application call is =
    of_class is.name most_read is.is (omega arith) (collects told app lib classes given is.name application is.collected)

-- ---- reads

no_fault : (P : AcceptStop → Type 0) (stop : AcceptStop) → OrMemory P stop → (name : List ℕ) → stop ≡ ReadFault name → ⊥
no_fault P (Refused refusal) p name e = absurd cc
no_fault P (Limit quantity number) p name e = absurd cc
no_fault P (ReadFault file) p name e = p
no_fault P Memory p name e = absurd cc

memory_no_fault : (name : List ℕ) → Memory ≡ ReadFault name → ⊥
memory_no_fault name e = absurd cc

-- the files of the application alone were read
pub reads_files : (T : Type 0) (told : Option (List HostFile)) (app lib : List ℕ) (a b : HostView) (stop : AcceptStop) → Reads {T = T} (IsFileCall told app lib) a b (Err stop)
    → Reads {T = Program} (IsNeeded Collects told app lib) a b (Err stop)
reads_files T told app lib a b stop is =
    reads_as T Program (IsNeeded Collects told app lib) a b stop (reads_may (IsFileCall told app lib) (IsNeeded Collects told app lib) a b (Err stop) (file_call told app lib) is)

-- and memory was wanting then
pub reads_lacking : {T : Type 0} (told : Option (List HostFile)) (app lib : List ℕ) (a b : HostView) (x : T) → Reads (IsFileCall told app lib) a b (Ok x)
    → Reads {T = Program} (IsNeeded Collects told app lib) a b (Err Memory)
reads_lacking {T} told app lib a b x is =
    reads_stop T Program (IsNeeded Collects told app lib) a b x Memory memory_no_fault (reads_may (IsFileCall told app lib) (IsNeeded Collects told app lib) a b (Ok x) (file_call told app lib) is)

-- the files of the application, and then those of collected classes
pub reads_both : {T U : Type 0} (told : Option (List HostFile)) (app lib : List ℕ) (classes : List ClassFile) (given : Application) (a b c : HostView) (x : T) (r : Result U AcceptStop)
    → InFolders told app lib (λ folders. IsApplication folders classes given) → Reads (IsFileCall told app lib) a b (Ok x) → b.files ≡ told → Reads (IsClassCall b.files lib given) b c r
    → Reads (IsNeeded Collects told app lib) a c r
reads_both told app lib classes given a b c x r application first same second =
    reads_then (IsNeeded Collects told app lib) a b c x r
    (reads_may (IsFileCall told app lib) (IsNeeded Collects told app lib) a b (Ok x) (file_call told app lib) first)
    (reads_may (IsClassCall b.files lib given) (IsNeeded Collects told app lib) b c r
    (λ call is. class_call told app lib classes given application call (subst (λ (t : Option (List HostFile)). IsClassCall t lib given call) same is)) second)

pub reads_both_stop : {T : Type 0} (U : Type 0) (told : Option (List HostFile)) (app lib : List ℕ) (classes : List ClassFile) (given : Application) (a b c : HostView) (x : T) (stop : AcceptStop)
    → InFolders told app lib (λ folders. IsApplication folders classes given) → Reads (IsFileCall told app lib) a b (Ok x) → b.files ≡ told → Reads {T = U} (IsClassCall b.files lib given) b c (Err stop)
    → Reads {T = Program} (IsNeeded Collects told app lib) a c (Err stop)
reads_both_stop U told app lib classes given a b c x stop application first same second =
    reads_as U Program (IsNeeded Collects told app lib) a c stop (reads_both told app lib classes given a b c x (Err stop) application first same second)

-- what comes after all reads makes none, and tells of no fault of them
pub reads_no_more : {T : Type 0} (May : HostCall → Type 0) (P : AcceptStop → Type 0) (a b : HostView) (x : T) (r : Result Program AcceptStop) → IfErr r (OrMemory P) → Reads May a b (Ok x) → Reads May a b r
reads_no_more May P a b x (Ok program) e is = reads_on May a b x program is
reads_no_more {T} May P a b x (Err stop) e is = reads_stop T Program May a b x stop (no_fault P stop e) is
