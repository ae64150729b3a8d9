-- What is said of the bytes that were read holds of the whole file.
use Rattle.std.proofs.Common.{◌≡◌, ℕ, ◌≤◌, ◌⊎◌, ⊎_elim, inl, inr, List, length, take, Option, Some, None, refl, sym, subst, arith}
use Rattle.std.specs.Prelude.{IfSome, option_map}
use Rattle.std.proofs.lemmas.List.{length-take, take_all}
use Rattle.std.proofs.lemmas.Bool.{cases_lt}
use Rattle.jv_host.specs.declared.host.HostFile.{HostFile}
use Rattle.jv_host.specs.Files.{bytes_of}
use Rattle.calls_form.specs.ObjectForm.{file_limit}
use Rattle.av_cli.specs.declared.calls.answer.Answer.{Answer}
use Rattle.av_cli.specs.declared.calls.answer.Answer.TheVariants.{Printed, Unreadable, NoFile, TooLarge, NotClass, OutsideForm, NoMain, Unwritable, OutOfMemory}
use Rattle.av_outcome.specs.Handing.{SinkState}
use Rattle.av_cli.specs.Calls.Answers.{file_name, file_most}
use Rattle.av_cli.specs.Calls.FileKinds.{IsTooLarge}
use Rattle.av_cli.specs.Calls.Ending.{Prints, ConcludesBytes, Concludes}
use Rattle.av_cli.specs.Outside.{Outside}

-- a file that isn't too long is read whole
pub take-short : (bytes : List ℕ) → length bytes ≤ file_limit → take file_most bytes ≡ bytes
unfolding file_most
take-short bytes le = take_all 16777217 bytes (omega arith)

-- what is read shows whether the file is too long
pub take-whole : (bytes : List ℕ) → length (take file_most bytes) ≤ file_limit → take file_most bytes ≡ bytes
unfolding file_most
take-whole bytes le = take_all 16777217 bytes (omega (arith, length-take 16777217 bytes))

-- a file is too long where what is read of it is
too_large-whole : (bytes : List ℕ) → IsTooLarge (take file_most bytes) → IsTooLarge bytes
unfolding file_most
too_large-whole bytes large = omega (arith, length-take 16777217 bytes, large)

not_too_large : (bytes : List ℕ) → ¬ IsTooLarge bytes → length bytes ≤ file_limit
not_too_large bytes not = ⊎_elim (λ large. absurd (not large)) (λ le. le) (cases_lt file_limit (length bytes))

pub Prints-whole : (name bytes : List ℕ) (old new : SinkState) (answer : Answer) → Prints name (take file_most bytes) old new answer → Prints name bytes old new answer
Prints-whole name bytes old new Printed p =
    subst (λ (b : List ℕ). Prints name b old new Printed) (take-whole bytes p.1.is_class.short) p
Prints-whole name bytes old new TooLarge p = (too_large-whole bytes p.0, p.1)
Prints-whole name bytes old new NotClass p =
    subst (λ (b : List ℕ). Prints name b old new NotClass) (take-whole bytes (not_too_large (take file_most bytes) p.0.0)) p
Prints-whole name bytes old new OutsideForm p =
    subst (λ (b : List ℕ). Prints name b old new OutsideForm) (take-whole bytes (not_too_large (take file_most bytes) p.0.0)) p
Prints-whole name bytes old new NoMain p =
    subst (λ (b : List ℕ). Prints name b old new NoMain) (take-whole bytes p.0.1.1.short) p
Prints-whole name bytes old new Unwritable p =
    subst (λ (b : List ℕ). Prints name b old new Unwritable) (take-whole bytes p.1.is_class.short) p
Prints-whole name bytes old new OutOfMemory (inl same) = inl same
Prints-whole name bytes old new OutOfMemory (inr p) =
    subst (λ (b : List ℕ). Prints name b old new OutOfMemory) (take-whole bytes p.1.is_class.short) (inr p)
Prints-whole name bytes old new Unreadable p = absurd p
Prints-whole name bytes old new NoFile p = absurd p

-- what was read is the whole of the file that is told, or its front
has_bytes : (files : Option (List HostFile)) (root file read : List ℕ) → IfSome files (λ told. Some read ≡ option_map (take file_most) (bytes_of told root file))
    → (bytes : List ℕ) × IfSome files (λ told. bytes_of told root file ≡ Some bytes) × ((bytes ≡ read) ⊎ (take file_most bytes ≡ read))
has_bytes None root file read h = (read, tt, inl refl)
has_bytes (Some told) root file read h = found (bytes_of told root file) h
  where
    found : (o : Option (List ℕ)) → Some read ≡ option_map (take file_most) o → (bytes : List ℕ) × (o ≡ Some bytes) × ((bytes ≡ read) ⊎ (take file_most bytes ≡ read))
    found None e = absurd cc
    found (Some bytes) e = (bytes, refl, inr cc)

pub concludes_bytes : (o : Outside) (root name read : List ℕ) (answer : Answer) → IfSome o.files (λ told. Some read ≡ option_map (take file_most) (bytes_of told root (file_name name)))
    → Prints name read o.out_before o.out_after answer → ConcludesBytes o root name answer
concludes_bytes o root name read answer h p =
    let b = has_bytes o.files root (file_name name) read h in (
      b.0,
      b.1,
      elim b.2 [
        | inl e ↦ subst (λ (x : List ℕ). Prints name x o.out_before o.out_after answer) (sym e) p
        | inr e ↦ Prints-whole name b.0 o.out_before o.out_after answer (subst (λ (x : List ℕ). Prints name x o.out_before o.out_after answer) (sym e) p)
      ],
    )

from_bytes : (o : Outside) (root name : List ℕ) (answer : Answer) → ConcludesBytes o root name answer → Concludes o root name answer
from_bytes o root name Printed c = c
from_bytes o root name TooLarge c = c
from_bytes o root name NotClass c = c
from_bytes o root name OutsideForm c = c
from_bytes o root name NoMain c = c
from_bytes o root name Unwritable c = c
from_bytes o root name OutOfMemory c = inr c
from_bytes o root name Unreadable c = absurd c.2
from_bytes o root name NoFile c = absurd c.2

-- an answer about the bytes that were read is one about the file
pub concludes : (o : Outside) (root name read : List ℕ) (answer : Answer) → IfSome o.files (λ told. Some read ≡ option_map (take file_most) (bytes_of told root (file_name name)))
    → Prints name read o.out_before o.out_after answer → Concludes o root name answer
concludes o root name read answer h p = from_bytes o root name answer (concludes_bytes o root name read answer h p)
