-- The text of a class is its layout and the rules.
use Rattle.std.proofs.Common.{◌≡◌, ℕ, Bool, true, false, List, [], ◌++◌, Some, None, Result, Err, sym, ap, subst, ◌∙◌}
use Rattle.std.specs.Prelude.{◌↔◌, IsTrue}
use Rattle.std.proofs.lemmas.List.{append-nil}
use Rattle.jv_read.specs.declared.fault.ReadFault.{ReadFault}
use Rattle.jv_read.specs.declared.fault.ReadFault.TheVariants.{Bad, Memory}
use Rattle.jv_read.specs.Reading.{Fails}
use Rattle.jv_read.proofs.Fronts.{some_is}
use Rattle.jv_class.specs.declared.class_file.ClassFile.{ClassFile}
use Rattle.jv_class.specs.ClassTexts.{class_text, KeepsRules, IsClass, ClassText}
use Rattle.jv_class.specs.Writing.{IsWritten}
use Rattle.jv_class.specs.Steps.LayoutReading.{layout_at}
use Rattle.jv_class.proofs.LayoutReading.{IsWholeClass, layout_takes, layout_again, fronts_agree}

whole : (c : ClassFile) (bytes : List ℕ) → ClassText c bytes → IsWholeClass c
whole c bytes h = record { parts = h.is_class.parts; few_items = h.few_items; few_parts = h.few_parts; short_parts = h.short_parts }

-- a class is read from its text
read_again : (bytes : List ℕ) (c : ClassFile) → ClassText c bytes → layout_at bytes ≡ Some c
read_again bytes c h = ap layout_at h.spelled ∙ layout_again c (whole c bytes h)

-- what is read and keeps the rules is a class
pub ruled : (bytes : List ℕ) (c : ClassFile) → layout_at bytes ≡ Some c → KeepsRules c → ClassText c bytes
ruled bytes c e rules =
    let t = layout_takes bytes c e in
    record { is_class = record { parts = t.0.parts; rules = rules }; few_items = t.0.few_items; few_parts = t.0.few_parts; short_parts = t.0.short_parts; spelled = t.1 }

-- a refusal with this fault
abbrev refusal : ReadFault → Result ClassFile ReadFault
refusal e = Err e

-- bytes of which nothing is read are the text of no class
pub no_layout : (bytes : List ℕ) → layout_at bytes ≡ None → (c : ClassFile) → ClassText c bytes → ⊥
no_layout bytes none c text = let both : None ≡ Some c = sym none ∙ read_again bytes c text in cc

-- what a reader of the layout was refused for
pub refused : (bytes : List ℕ) (e : ReadFault) → Fails e (layout_at bytes) → refusal e ≡ refusal Bad → (c : ClassFile) → ClassText c bytes → ⊥
refused bytes Bad none same = no_layout bytes none
refused bytes Memory none same = absurd cc

-- a test that failed, of what it tells
pub untrue : (P : Type 0) (test : Bool) → test ≡ false → IsTrue test ↔ P → P → ⊥
untrue P test failed tells h = let both : true ≡ false = sym (tells.1 h) ∙ failed in cc

-- no rules, so no class
pub unruled : (bytes : List ℕ) (c : ClassFile) → layout_at bytes ≡ Some c → (KeepsRules c → ⊥) → (d : ClassFile) → ClassText d bytes → ⊥
unruled bytes c e none d text =
    let same : d ≡ c = some_is d c (sym (read_again bytes d text) ∙ e) in
    none (subst KeepsRules same text.is_class.rules)

pub written : (c : ClassFile) (bytes : List ℕ) → IsClass c → IsWritten c bytes → ClassText c bytes
written c bytes is h = record { is_class = is; few_items = h.few_items; few_parts = h.few_parts; short_parts = h.short_parts; spelled = h.spelled }

pub one_class : (bytes : List ℕ) (c d : ClassFile) → ClassText c bytes → ClassText d bytes → c ≡ d
one_class bytes c d p q = some_is c d (sym (read_again bytes c p) ∙ read_again bytes d q)

pub no_more : (c d : ClassFile) (bytes more : List ℕ) → ClassText c bytes → ClassText d (bytes ++ more) → more ≡ []
no_more c d bytes more p q =
    (fronts_agree c d more [] (whole c bytes p) (whole d (bytes ++ more) q) (ap (λ (t : List ℕ). t ++ more) (sym p.spelled) ∙ q.spelled ∙ sym (append-nil (class_text d)))).1
