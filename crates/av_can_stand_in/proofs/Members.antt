-- The members of class files have the form that members of a class file must have.
use Rattle.std.proofs.Common.{◌≡◌, ◌==◌, ◌<◌, ◌≤◌, ◌^◌, ℕ, true, false, not, List, Option, None, Some, Contains, length, refl, sym, ◌∙◌, subst, eq-eqb}
use Rattle.std.specs.Prelude.{bit_and, option_and_then}
use Rattle.std.proofs.lemmas.Bool.{false≢true}
use Rattle.std.proofs.lemmas.Option.{none-some, same_Some}
use Rattle.jv_lists.proofs.Among.{of_each}
use Rattle.jv_lists.proofs.Tests.{both_true}
use Rattle.jv_types.specs.declared.desc.MethodDesc.{MethodDesc}
use Rattle.jv_types.specs.declared.shapes.FieldShape.{FieldShape}
use Rattle.jv_types.specs.declared.shapes.MethodShape.{MethodShape}
use Rattle.jv_desc.specs.Texts.{words_of}
use Rattle.jv_desc.proofs.Agreement.{one_method}
use Rattle.jv_pool.specs.declared.item.PoolItem.{PoolItem}
use Rattle.jv_pool.specs.declared.item.PoolItem.TheVariants.{Utf8}
use Rattle.jv_pool.specs.Lookups.{item_at, text_at, text_in}
use Rattle.jv_pool.specs.PoolText.{IsShort}
use Rattle.jv_names.specs.PoolNames.{HasText}
use Rattle.jv_names.specs.Spellings.{IsFieldName, IsMethodDescriptor, IsMethodName}
use Rattle.jv_class.specs.declared.class_file.ClassFile.{ClassFile}
use Rattle.jv_class.specs.declared.class_file.Member.{Member}
use Rattle.jv_class.specs.ClassTexts.{IsField, IsMethodMember, is_abstract, is_static}
use Rattle.jv_class.specs.Shapes.{IsFieldShape, IsMethodShape}
use Rattle.jv_insn.proofs.Keeping.{item_has}
use Rattle.jv_resolve.specs.Members.{IsAbstract, IsStatic}
use Rattle.av_stops.specs.Programs.{IsOfFile}
use Rattle.av_sketches.specs.Conditions.{HasFieldForm, HasFormedDesc, HasMethodForm}

-- ---- texts

-- a text has at most 65535 bytes
abbrev IsShortText : List ℕ → Type 0
IsShortText text = length text < 2 ^ 16

text_of_item : (item : PoolItem) (text : List ℕ) → IsShort item → text_in item ≡ Some text → IsShortText text
text_of_item (Utf8 bytes) text short e = subst IsShortText (same_Some bytes text e) short
text_of_item _ text short e = absurd (none-some text e)

text_of : (found : Option PoolItem) (text : List ℕ) → ((item : PoolItem) → found ≡ Some item → IsShort item) → option_and_then text_in found ≡ Some text → IsShortText text
text_of None text each e = absurd (none-some text e)
text_of (Some item) text each e = text_of_item item text (each item refl) e

short_text : (class : ClassFile) (index : ℕ) (text : List ℕ) → IsOfFile class → text_at class.pool index ≡ Some text → IsShortText text
short_text class index text file e =
    text_of (item_at class.pool index) text (λ item at. item_has IsShort class.pool index item file.1.short_parts.pool at) e

-- one index names one text
kind_of : (items : List PoolItem) (index : ℕ) (text : List ℕ) (Kind : List ℕ → Type 0) → HasText items index Kind → text_at items index ≡ Some text → Kind text
kind_of items index text Kind has e = subst Kind (same_Some has.text text (sym has.found ∙ e)) has.kind

-- ---- fields

pub field_form : (class : ClassFile) (member : Member) (field : FieldShape) → IsOfFile class → Contains class.fields member → IsFieldShape class.pool member field → HasFieldForm field
field_form class member field file here states =
    let own : IsField class.pool member = of_each (IsField class.pool) class.fields member file.1.is_class.rules.fields here in
    record {
      name = kind_of class.pool member.name field.name IsFieldName own.name states.name;
      short_name = short_text class member.name field.name file states.name;
      type = states.desc.kind.valid;
      short_desc = subst IsShortText states.desc.kind.spelled (short_text class member.desc states.desc.text file states.desc.found);
    }

-- ---- methods

flag_set : (access flags flag : ℕ) → flags ≡ access → bit_and flags flag ≡ flag → (bit_and access flag == flag) ≡ true
flag_set access flags flag same set = eq-eqb (bit_and access flag) flag (subst (λ (n : ℕ). bit_and n flag ≡ flag) same set)

not_both : (items : List PoolItem) (member : Member) (method : MethodShape) → IsMethodMember items member → IsMethodShape items member method → IsStatic method.flags → IsAbstract method.flags → ⊥
not_both items member method own states static abstract =
    let s : is_static member ≡ true = flag_set member.access method.flags.0 8 states.flags static in
    let a : is_abstract member ≡ true = flag_set member.access method.flags.0 1024 states.flags abstract in
    false≢true (sym own.flags ∙ both_true (is_static member) (is_abstract member) s a)

formed_desc : (items : List PoolItem) (member : Member) (method : MethodShape) → IsMethodMember items member → IsMethodShape items member method → HasFormedDesc method
formed_desc items member method own states =
    let spelled : IsMethodDescriptor (not (is_static member)) states.desc.text =
    kind_of items member.desc states.desc.text (IsMethodDescriptor (not (is_static member))) own.descriptor states.desc.found in
    let same : spelled.method ≡ method.desc = one_method states.desc.text spelled.method method.desc spelled.spelled states.desc.kind in
    let few : words_of method.desc (not (is_static member)) ≤ 255 = subst (λ (d : MethodDesc). words_of d (not (is_static member)) ≤ 255) same spelled.words in
    record {
      types = states.desc.kind.valid;
      few_words = subst (λ (access : ℕ). words_of method.desc (not (bit_and access 8 == 8)) ≤ 255) (sym states.flags) few;
    }

pub method_form : (class : ClassFile) (member : Member) (method : MethodShape) → IsOfFile class → Contains class.methods member → IsMethodShape class.pool member method → HasMethodForm method
method_form class member method file here states =
    let own : IsMethodMember class.pool member = of_each (IsMethodMember class.pool) class.methods member file.1.is_class.rules.methods here in
    record {
      name = kind_of class.pool member.name method.name IsMethodName own.name states.name;
      short_name = short_text class member.name method.name file states.name;
      formed = formed_desc class.pool member method own states;
      short_desc = subst IsShortText states.desc.kind.spelled (short_text class member.desc states.desc.text file states.desc.found);
      flags = λ static abstract. not_both class.pool member method own states static abstract;
    }
