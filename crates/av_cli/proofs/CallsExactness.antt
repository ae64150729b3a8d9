-- Where nothing fails, the words and the told files determine the answer.
use Rattle.std.proofs.Common.{◌≡◌, ℕ, ◌⊎◌, inl, inr, arith, List, Option, Some, None, refl, sym, subst, ◌∙◌}
use Rattle.std.specs.Prelude.{IfSome}
use Rattle.jv_host.specs.declared.host.HostFile.{HostFile}
use Rattle.jv_host.specs.Files.{bytes_of}
use Rattle.calls_form.specs.declared.object_class.ObjectClass.{ObjectClass}
use Rattle.calls_form.specs.ObjectForm.{IsObjectClass}
use Rattle.av_cli.specs.declared.calls.answer.Answer.{Answer}
use Rattle.av_cli.specs.declared.calls.answer.Answer.TheVariants.{Printed, Unreadable, NoFile, TooLarge, NotClass, OutsideForm, NoMain, Unwritable, OutOfMemory}
use Rattle.av_cli.specs.Calls.Answers.{file_name, request}
use Rattle.av_cli.specs.Calls.FileKinds.{IsTooLarge, IsClassFile, IsInForm, IsNoClass, IsOutsideForm, DeclaresMain, LacksMain}
use Rattle.av_cli.specs.Calls.Ending.{Concludes, IsDue}
use Rattle.av_cli.specs.Outside.{Outside, IsFaultless}

-- what an answer says of the bytes of the file
abbrev Judges : List ℕ → List ℕ → Answer → Type 0
Judges name bytes TooLarge = IsTooLarge bytes
Judges name bytes NotClass = IsNoClass bytes
Judges name bytes OutsideForm = IsOutsideForm name bytes
Judges name bytes NoMain = LacksMain name bytes
Judges name bytes Printed = (class : ObjectClass) × IsClassFile bytes × IsObjectClass name bytes class × DeclaresMain class
Judges name bytes Unreadable = ⊥
Judges name bytes NoFile = ⊥
Judges name bytes Unwritable = ⊥
Judges name bytes OutOfMemory = ⊥

-- bytes of the form are short
form_short : (name bytes : List ℕ) → IsInForm name bytes → ¬ IsTooLarge bytes
form_short name bytes form large = absurd (omega (arith, form.1.short, large))

-- no two answers say what they do of the same bytes
one_judgement : (name bytes : List ℕ) (a b : Answer) → Judges name bytes a → Judges name bytes b → a ≡ b
one_judgement name bytes TooLarge TooLarge p q = refl
one_judgement name bytes TooLarge NotClass p q = absurd (q.0 p)
one_judgement name bytes TooLarge OutsideForm p q = absurd (q.0 p)
one_judgement name bytes TooLarge NoMain p q = absurd (form_short name bytes q.1 p)
one_judgement name bytes TooLarge Printed p q = absurd (form_short name bytes (q.0, q.2) p)
one_judgement name bytes NotClass TooLarge p q = absurd (p.0 q)
one_judgement name bytes NotClass NotClass p q = refl
one_judgement name bytes NotClass OutsideForm p q = absurd (p.1 q.1)
one_judgement name bytes NotClass NoMain p q = absurd (p.1 q.0)
one_judgement name bytes NotClass Printed p q = absurd (p.1 q.1)
one_judgement name bytes OutsideForm TooLarge p q = absurd (p.0 q)
one_judgement name bytes OutsideForm NotClass p q = absurd (q.1 p.1)
one_judgement name bytes OutsideForm OutsideForm p q = refl
one_judgement name bytes OutsideForm NoMain p q = absurd (p.2 q.1)
one_judgement name bytes OutsideForm Printed p q = absurd (p.2 (q.0, q.2))
one_judgement name bytes NoMain TooLarge p q = absurd (form_short name bytes p.1 q)
one_judgement name bytes NoMain NotClass p q = absurd (q.1 p.0)
one_judgement name bytes NoMain OutsideForm p q = absurd (q.2 p.1)
one_judgement name bytes NoMain NoMain p q = refl
one_judgement name bytes NoMain Printed p q = absurd (p.2 q.0 q.2 q.3)
one_judgement name bytes Printed TooLarge p q = absurd (form_short name bytes (p.0, p.2) q)
one_judgement name bytes Printed NotClass p q = absurd (q.1 p.1)
one_judgement name bytes Printed OutsideForm p q = absurd (q.2 (p.0, p.2))
one_judgement name bytes Printed NoMain p q = absurd (q.2 p.0 p.2 p.3)
one_judgement name bytes Printed Printed p q = refl
one_judgement name bytes a Unreadable p q = absurd q
one_judgement name bytes a NoFile p q = absurd q
one_judgement name bytes a Unwritable p q = absurd q
one_judgement name bytes a OutOfMemory p q = absurd q
one_judgement name bytes Unreadable b p q = absurd p
one_judgement name bytes NoFile b p q = absurd p
one_judgement name bytes Unwritable b p q = absurd p
one_judgement name bytes OutOfMemory b p q = absurd p

-- what an answer says of the file, where there is one
abbrev OfContent : List ℕ → Option (List ℕ) → Answer → Type 0
OfContent name None answer = answer ≡ NoFile
OfContent name (Some bytes) answer = Judges name bytes answer

one_of_content : (name : List ℕ) (o : Option (List ℕ)) (a b : Answer) → OfContent name o a → OfContent name o b → a ≡ b
one_of_content name None a b p q = p ∙ sym q
one_of_content name (Some bytes) a b p q = one_judgement name bytes a b p q

-- what an answer says of told files
abbrev Verdict : List HostFile → List ℕ → List ℕ → Answer → Type 0
Verdict told root name answer = OfContent name (bytes_of told root (file_name name)) answer

of_bytes : (name bytes : List ℕ) (o : Option (List ℕ)) (answer : Answer) → o ≡ Some bytes → Judges name bytes answer → OfContent name o answer
of_bytes name bytes o answer e j = subst (λ (x : Option (List ℕ)). OfContent name x answer) (sym e) j

of_none : (name : List ℕ) (o : Option (List ℕ)) → o ≡ None → OfContent name o NoFile
of_none name o e = subst (λ (x : Option (List ℕ)). OfContent name x NoFile) (sym e) refl

-- a fact of the files, where they are told
told_fact : (files : Option (List HostFile)) (told : List HostFile) (P : List HostFile → Type 0) → files ≡ Some told → IfSome files P → P told
told_fact files told P e h = subst (λ (f : Option (List HostFile)). IfSome f P) e h

-- what is concluded where nothing fails
concluded : (o : Outside) (told : List HostFile) (root name : List ℕ) (answer : Answer) → o.files ≡ Some told → IsFaultless o → Concludes o root name answer
    → Verdict told root name answer ⊎ (answer ≡ OutOfMemory)
concluded o told root name Printed e f c =
    inl (of_bytes name c.0 _ Printed (told_fact o.files told (λ t. bytes_of t root (file_name name) ≡ Some c.0) e c.1) (c.2.1.class, c.2.1.class_file, c.2.1.is_class, c.2.1.main))
concluded o told root name TooLarge e f c =
    inl (of_bytes name c.0 _ TooLarge (told_fact o.files told (λ t. bytes_of t root (file_name name) ≡ Some c.0) e c.1) c.2.0)
concluded o told root name NotClass e f c =
    inl (of_bytes name c.0 _ NotClass (told_fact o.files told (λ t. bytes_of t root (file_name name) ≡ Some c.0) e c.1) c.2.0)
concluded o told root name OutsideForm e f c =
    inl (of_bytes name c.0 _ OutsideForm (told_fact o.files told (λ t. bytes_of t root (file_name name) ≡ Some c.0) e c.1) c.2.0)
concluded o told root name NoMain e f c =
    inl (of_bytes name c.0 _ NoMain (told_fact o.files told (λ t. bytes_of t root (file_name name) ≡ Some c.0) e c.1) c.2.0)
concluded o told root name Unwritable e f c = absurd (f.writes c.2.3)
concluded o told root name OutOfMemory e f c = inr refl
concluded o told root name Unreadable e f c = absurd (f.reads c.0)
concluded o told root name NoFile e f c = inl (of_none name _ (told_fact o.files told (λ t. bytes_of t root (file_name name) ≡ None) e c.0))

-- the words name one root and one class
same_root : (root name root' name' : List ℕ) → request root name ≡ request root' name' → root ≡ root'
same_root root name root' name' e = cc

same_name : (root name root' name' : List ℕ) → request root name ≡ request root' name' → name ≡ name'
same_name root name root' name' e = cc

at_words : (words : List (List ℕ)) (told : List HostFile) (root name root' name' : List ℕ) (due : Answer) → words ≡ request root name → words ≡ request root' name'
    → Verdict told root' name' due → Verdict told root name due
at_words words told root name root' name' due p q v =
    let e = sym q ∙ p in
    subst (λ (r : List ℕ). Verdict told r name due) (same_root root' name' root name e)
    (subst (λ (n : List ℕ). Verdict told root' n due) (same_name root' name' root name e) v)

due_verdict : (words : List (List ℕ)) (told : List HostFile) (root name : List ℕ) (due : Answer) → words ≡ request root name → IsDue words told due → Verdict told root name due
due_verdict words told root name Printed p d = at_words words told root name d.0 d.1 Printed p d.4 (of_bytes d.1 d.2 _ Printed d.5 (d.3, d.6, d.7, d.8))
due_verdict words told root name NoFile p d = at_words words told root name d.0 d.1 NoFile p d.2 (of_none d.1 _ d.3)
due_verdict words told root name TooLarge p d = at_words words told root name d.0 d.1 TooLarge p d.3 (of_bytes d.1 d.2 _ TooLarge d.4 d.5)
due_verdict words told root name NotClass p d = at_words words told root name d.0 d.1 NotClass p d.3 (of_bytes d.1 d.2 _ NotClass d.4 d.5)
due_verdict words told root name OutsideForm p d = at_words words told root name d.0 d.1 OutsideForm p d.3 (of_bytes d.1 d.2 _ OutsideForm d.4 d.5)
due_verdict words told root name NoMain p d = at_words words told root name d.0 d.1 NoMain p d.3 (of_bytes d.1 d.2 _ NoMain d.4 d.5)
due_verdict words told root name Unreadable p d = absurd d
due_verdict words told root name Unwritable p d = absurd d
due_verdict words told root name OutOfMemory p d = absurd d

-- an answer that was concluded is the one that is due
pub exact_request : (words : List (List ℕ)) (o : Outside) (root name : List ℕ) (answer : Answer) → words ≡ request root name → Concludes o root name answer
    → (told : List HostFile) → o.files ≡ Some told → (due : Answer) → IsDue words told due → IsFaultless o → (answer ≡ due) ⊎ (answer ≡ OutOfMemory)
exact_request words o root name answer p c told e due d f =
    elim (concluded o told root name answer e f c) [
      | inl v ↦ inl (one_of_content name _ answer due v (due_verdict words told root name due p d))
      | inr memory ↦ inr memory
    ]
