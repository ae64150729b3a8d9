-- What is kept of a text is right.
use Rattle.std.proofs.Common.{◌≡◌, ◌≤◌, ℕ, ◌-◌, ◌^◌, min, Bool, true, false, List, sym, ap, ◌∙◌, arith, leb}
use Rattle.std.specs.Prelude.{◌↔◌, IsTrue}
use Rattle.std.proofs.lemmas.Bool.{leb-true, le-leb}
use Rattle.jv_types.specs.NameForms.{is_class_name, is_part, is_method_name}
use Rattle.jv_types.specs.declared.desc.MethodDesc.{MethodDesc}
use Rattle.jv_desc.specs.Texts.{IsMethodText, words_of}
use Rattle.jv_desc.proofs.Agreement.{one_method}
use Rattle.jv_names.specs.Spellings.{IsCalledName, IsFieldDescriptor, IsTypeName, IsMethodDescriptor}
use Rattle.jv_class.specs.declared.kinds.Kind.{Kind}
use Rattle.jv_class.specs.declared.kinds.Kind.TheVariants.{TypeName, ClassName, FieldName, MethodName, CalledName, FieldDescriptor, StaticDescriptor, InstanceDescriptor}
use Rattle.jv_class.specs.declared.kinds.TextKinds.{TextKinds}
use Rattle.jv_class.specs.Steps.Kinds.{IsOfKind, says, AreKindsOf}

-- a text of a method is a descriptor exactly where its arguments are few enough
pub few_words : (text : List ℕ) (d : MethodDesc) (receiver : Bool) (words : ℕ) → IsMethodText text d → words ≡ min (words_of d receiver) (2 ^ 32 - 1) → IsTrue (leb words 255) ↔ IsMethodDescriptor receiver text
few_words text d receiver words spelled count = (
  λ few. let le : words ≤ 255 = leb-true words 255 few in record { method = d; spelled = spelled; words = omega (arith, count, le) },
  λ other. let same : words_of other.method receiver ≡ words_of d receiver = ap (λ (m : MethodDesc). words_of m receiver) (one_method text other.method d other.spelled spelled) in
      let le : words ≤ 255 = (let w = other.words in omega (arith, count, same, w)) in le-leb words 255 le,
)

-- a text of no method is no descriptor
pub no_words : (receiver : Bool) (text : List ℕ) → ((d : MethodDesc) → IsMethodText text d → ⊥) → IsTrue false ↔ IsMethodDescriptor receiver text
no_words receiver text none = (λ f. absurd cc, λ other. absurd (none other.method other.spelled))

-- each kind by itself
pub right_kinds : (text : List ℕ) (k : TextKinds) → IsTrue k.type_name ↔ IsTypeName text → k.class_name ≡ is_class_name text → k.field_name ≡ is_part text → k.method_name ≡ is_method_name text → IsTrue k.called_name ↔ IsCalledName text
    → IsTrue k.field_descriptor ↔ IsFieldDescriptor text → IsTrue k.static_descriptor ↔ IsMethodDescriptor false text → IsTrue k.instance_descriptor ↔ IsMethodDescriptor true text → AreKindsOf text k
right_kinds text k type class field method called descriptor plain instance = record { right = each }
  where
    each : (kind : Kind) → IsTrue (says k kind) ↔ IsOfKind kind text
    each TypeName = type
    each ClassName = (λ h. sym class ∙ h, λ h. class ∙ h)
    each FieldName = (λ h. sym field ∙ h, λ h. field ∙ h)
    each MethodName = (λ h. sym method ∙ h, λ h. method ∙ h)
    each CalledName = called
    each FieldDescriptor = descriptor
    each StaticDescriptor = plain
    each InstanceDescriptor = instance
