-- Fields and methods, as they are put.
use Rattle.std.proofs.Common.{◌≡◌, ℕ, ◌≤◌, Bool, true, false, not, cond, ◌&&◌, List, [], ◌∷◌, length, Option, Some, None, refl, ap, ◌∙◌, arith}
use Rattle.std.specs.Prelude.{codes, ◌||◌, count_by, bit_and, IfSome}
use Rattle.std.specs.Option.{is_some}
use Rattle.std.specs.List.{AllByRecursion}
use Rattle.std.proofs.lemmas.Bool.{eqb-true}
use Rattle.jv_types.specs.declared.access.Access.{Access}
use Rattle.jv_types.specs.declared.shapes.FieldShape.{FieldShape}
use Rattle.jv_types.specs.declared.shapes.MethodShape.{MethodShape}
use Rattle.jv_desc.specs.Texts.{desc_text, method_text}
use Rattle.jv_pool.specs.declared.item.PoolItem.{PoolItem}
use Rattle.jv_pool.specs.Lookups.{text_at}
use Rattle.jv_attr.specs.declared.attr.Attr.{Attr}
use Rattle.jv_attr.specs.declared.attr.AttrBody.TheVariants as bodies
use Rattle.jv_attr.specs.declared.attr.CodeAttr.{CodeAttr}
use Rattle.jv_attr.specs.declared.owner.Owner.TheVariants as owner
use Rattle.jv_attr.specs.AttrText.{IsAttr, HasFew, IsShort}
use Rattle.jv_names.specs.Spellings.{IsFieldName, IsMethodName, IsFieldDescriptor, IsMethodDescriptor}
use Rattle.jv_read.specs.Reading.{◌>>=◌}
use Rattle.jv_read.proofs.Fronts.{bind_some, given_as, bytes_eq_itself}
use Rattle.jv_resolve.specs.Members.{IsStatic, IsAbstract}
use Rattle.jv_insn.specs.Entries.{Grows}
use Rattle.jv_class.specs.declared.class_file.Member.{Member}
use Rattle.jv_class.specs.ClassTexts.{has_flag, has_code, IsMember, IsField, IsMethodMember, IsFewMember}
use Rattle.av_asm.specs.Planning.{plan_of}
use Rattle.av_asm.specs.Finishing.{code_of}
use Rattle.av_standin_of.specs.Codes.{Code, built_of}
use Rattle.av_standin_of.specs.Templates.{words_in}
use Rattle.av_standin_of.specs.Classes.{MadeMethod}
use Rattle.av_standin_of.specs.Files.{put_text, put_field, put_code, put_method, some_method}
use Rattle.av_read_back.specs.Fileable.{FitsPool, IsFileableCode, IsFileableField, IsFileableMethod}
use Rattle.av_read_back.proofs.Pools.{IsFilePool, Grown, grown_not, grown_on, text_later, has_text_later}
use Rattle.av_read_back.proofs.Named.{text_put, field_descriptor, method_descriptor}
use Rattle.av_read_back.proofs.Each.{IsOnePut, ascii_fits}
use Rattle.av_read_back.proofs.Codes.{code_put}
use Rattle.av_read_back.proofs.Stays.{attrs_later}

-- ---- fields

-- what was put of a field
pub record IsFiledField (pool : List PoolItem) (field : FieldShape) (m : Member) : Type 0 where
  pub is : IsMember pool owner.Field 52 m
  pub kept : IsField pool m
  pub few : IsFewMember m
  pub short : AllByRecursion IsShort m.attrs
  pub name_at : text_at pool m.name ≡ Some field.name
  pub desc_at : text_at pool m.desc ≡ Some (desc_text field.desc)

pub field_put : (field : FieldShape) (old : List PoolItem) (made : Member × List PoolItem) → IsFilePool old → IsFileableField field → put_field field old ≡ Some made → IsOnePut IsFiledField old made.1 field made.0
field_put field old made g may e =
    let member : ℕ → ℕ → Member = λ name desc. record { access = field.flags.0; name = name; desc = desc; attrs = [] } in
    let a = bind_some (put_text field.name old) (λ name. put_text (desc_text field.desc) name.1 >>= λ desc. Some (member name.0 desc.0, desc.1)) made e in
    let b = bind_some (put_text (desc_text field.desc) a.0.1) (λ desc. Some (member a.0.0 desc.0, desc.1)) made a.2 in
    let p = text_put field.name old a.0 g (record { spelled = may.name_text; short = may.form.short_name }) a.1 in
    let q = text_put (desc_text field.desc) a.0.1 b.0 p.grown.good (record { spelled = may.desc_text; short = may.form.short_desc }) b.1 in
    let name_at : text_at b.0.1 a.0.0 ≡ Some field.name = text_later a.0.1 b.0.1 a.0.0 field.name q.grown.grows p.found in
    let m = member a.0.0 b.0.0 in
    let here : Member × List PoolItem = (m, b.0.1) in
    let filed : IsFiledField b.0.1 field m = record {
      is = record { access = may.flags; name = p.small; desc = q.small; attrs = tt };
      kept = record {
        name = record { text = field.name; found = name_at; kind = may.form.name };
        descriptor = record { text = desc_text field.desc; found = q.found; kind = field_descriptor field.desc may.form.type };
      };
      few = record { attrs = omega arith; each = tt };
      short = tt;
      name_at = name_at;
      desc_at = q.found;
    } in
    given_as (λ (w : Member × List PoolItem). IsOnePut IsFiledField old w.1 field w.0) here made b.2 (record { grown = grown_on old a.0.1 b.0.1 p.grown q.grown; is = filed })

pub field_later : (field : FieldShape) (m : Member) (old new : List PoolItem) → Grows old new → IsFiledField old field m → IsFiledField new field m
field_later field m old new grows h = record {
  is = record { access = h.is.access; name = h.is.name; desc = h.is.desc; attrs = attrs_later old new grows owner.Field 52 m.attrs h.is.attrs };
  kept = record { name = has_text_later old new m.name IsFieldName grows h.kept.name; descriptor = has_text_later old new m.desc IsFieldDescriptor grows h.kept.descriptor };
  few = h.few;
  short = h.short;
  name_at = text_later old new m.name field.name grows h.name_at;
  desc_at = text_later old new m.desc (desc_text field.desc) grows h.desc_at;
}

-- ---- the attribute of a code

abbrev code_name : List ℕ
code_name = codes "Code"

code_fits : FitsPool code_name
code_fits = ascii_fits code_name refl (omega arith)

-- what was put of a method's code
record AreFiledAttrs (pool : List PoolItem) (code : Option Code) (attrs : List (Attr CodeAttr)) : Type 0 where
  are : AllByRecursion (IsAttr pool owner.Method 52) attrs
  few : AllByRecursion HasFew attrs
  short : AllByRecursion IsShort attrs
  count : length attrs ≤ 1
  codes_are : count_by has_code attrs ≡ cond (is_some code) 1 0

attrs_put : (shape : MethodShape) (code : Option Code) (old : List PoolItem) (made : List (Attr CodeAttr) × List PoolItem) → IsFilePool old → words_in shape ≤ 255 → IfSome code (IsFileableCode shape) → put_code code old ≡ Some made
    → IsOnePut AreFiledAttrs old made.1 code made.0
attrs_put shape None old made g few may e =
    let here : List (Attr CodeAttr) × List PoolItem = ([], old) in
    given_as (λ (w : List (Attr CodeAttr) × List PoolItem). IsOnePut AreFiledAttrs old w.1 None w.0) here made e
    (record { grown = grown_not old g; is = record { are = tt; few = tt; short = tt; count = omega arith; codes_are = refl } })
attrs_put shape (Some code) old made g words may e =
    let plan = plan_of (built_of some_method code) in
    let attr : ℕ → CodeAttr → Attr CodeAttr = λ name c. record { name = name; body = bodies.Code c } in
    let a = bind_some (put_text (codes "Code") old) (λ name. code_of plan name.1 >>= λ c. Some (attr name.0 c.0 ∷ [], c.1)) made e in
    let b = bind_some (code_of plan a.0.1) (λ c. Some (attr a.0.0 c.0 ∷ [], c.1)) made a.2 in
    let p = text_put code_name old a.0 g code_fits a.1 in
    let q = code_put shape code a.0.1 b.0 p.grown.good words may b.1 in
    let here : List (Attr CodeAttr) × List PoolItem = (attr a.0.0 b.0.0 ∷ [], b.0.1) in
    let is : IsAttr b.0.1 owner.Method 52 (attr a.0.0 b.0.0) = record {
      name_fits = p.small;
      name = code_name;
      named = text_later a.0.1 b.0.1 a.0.0 code_name q.grown.grows p.found;
      body = (bytes_eq_itself code_name, q.filed.is);
    } in
    let short : IsShort (attr a.0.0 b.0.0) = record { code = q.filed.short; content = omega (arith, q.filed.size) } in
    given_as (λ (w : List (Attr CodeAttr) × List PoolItem). IsOnePut AreFiledAttrs old w.1 (Some code) w.0) here made b.2
    (record {
      grown = grown_on old a.0.1 b.0.1 p.grown q.grown;
      is = record { are = (is, tt); few = (q.filed.few, tt); short = (short, tt); count = omega arith; codes_are = refl };
    })

-- ---- methods

-- what was put of a method
pub record IsFiledMethod (pool : List PoolItem) (method : MadeMethod) (m : Member) : Type 0 where
  pub is : IsMember pool owner.Method 52 m
  pub kept : IsMethodMember pool m
  pub few : IsFewMember m
  pub short : AllByRecursion IsShort m.attrs
  pub name_at : text_at pool m.name ≡ Some method.shape.name
  pub desc_at : text_at pool m.desc ≡ Some (method_text method.shape.desc)

flags_apart : (flags : Access) → (IsStatic flags → ¬ IsAbstract flags) → (has_flag flags.0 8 && has_flag flags.0 0x400) ≡ false
flags_apart flags apart = by (has_flag flags.0 8) (has_flag flags.0 0x400) refl refl
  where
    by : (s a : Bool) → has_flag flags.0 8 ≡ s → has_flag flags.0 0x400 ≡ a → (s && a) ≡ false
    by false a e f = refl
    by true false e f = refl
    by true true e f = absurd (apart (eqb-true (bit_and flags.0 8) 8 e) (eqb-true (bit_and flags.0 0x400) 0x400 f))

counted : (some none : Bool) (count : ℕ) → count ≡ cond some 1 0 → some ≡ not none → count ≡ cond none 0 1
counted some true count e f = e ∙ ap (λ (b : Bool). cond b 1 0) f
counted some false count e f = e ∙ ap (λ (b : Bool). cond b 1 0) f

pub method_put : (method : MadeMethod) (old : List PoolItem) (made : Member × List PoolItem) → IsFilePool old → IsFileableMethod method → put_method method old ≡ Some made → IsOnePut IsFiledMethod old made.1 method made.0
method_put method old made g may e =
    let shape = method.shape in
    let flags = shape.flags.0 in
    let member : ℕ → ℕ → List (Attr CodeAttr) → Member = λ name desc attrs. record { access = flags; name = name; desc = desc; attrs = attrs } in
    let a = bind_some (put_text shape.name old) (λ name. put_text (method_text shape.desc) name.1 >>= λ desc. put_code method.code desc.1 >>= λ attrs. Some (member name.0 desc.0 attrs.0, attrs.1)) made e in
    let b = bind_some (put_text (method_text shape.desc) a.0.1) (λ desc. put_code method.code desc.1 >>= λ attrs. Some (member a.0.0 desc.0 attrs.0, attrs.1)) made a.2 in
    let c = bind_some (put_code method.code b.0.1) (λ attrs. Some (member a.0.0 b.0.0 attrs.0, attrs.1)) made b.2 in
    let words : words_in shape ≤ 255 = may.form.formed.few_words in
    let p = text_put shape.name old a.0 g (record { spelled = may.name_text; short = may.form.short_name }) a.1 in
    let q = text_put (method_text shape.desc) a.0.1 b.0 p.grown.good (record { spelled = may.desc_text; short = may.form.short_desc }) b.1 in
    let r = attrs_put shape method.code b.0.1 c.0 q.grown.good words may.code c.1 in
    let behind : Grown a.0.1 c.0.1 = grown_on a.0.1 b.0.1 c.0.1 q.grown r.grown in
    let name_at : text_at c.0.1 a.0.0 ≡ Some shape.name = text_later a.0.1 c.0.1 a.0.0 shape.name behind.grows p.found in
    let desc_at : text_at c.0.1 b.0.0 ≡ Some (method_text shape.desc) = text_later b.0.1 c.0.1 b.0.0 (method_text shape.desc) r.grown.grows q.found in
    let m = member a.0.0 b.0.0 c.0.0 in
    let here : Member × List PoolItem = (m, c.0.1) in
    let filed : IsFiledMethod c.0.1 method m = record {
      is = record { access = may.flags; name = p.small; desc = q.small; attrs = r.is.are };
      kept = record {
        name = record { text = shape.name; found = name_at; kind = may.form.name };
        descriptor = record { text = method_text shape.desc; found = desc_at; kind = method_descriptor (not (has_flag flags 8)) shape.desc may.form.formed.types words };
        flags = flags_apart shape.flags may.form.flags;
        code = counted (is_some method.code) (has_flag flags 0x100 || has_flag flags 0x400) (count_by has_code c.0.0) r.is.codes_are may.has_code;
      };
      few = record { attrs = omega (arith, r.is.count); each = r.is.few };
      short = r.is.short;
      name_at = name_at;
      desc_at = desc_at;
    } in
    given_as (λ (w : Member × List PoolItem). IsOnePut IsFiledMethod old w.1 method w.0) here made c.2 (record { grown = grown_on old a.0.1 c.0.1 p.grown behind; is = filed })

pub method_later : (method : MadeMethod) (m : Member) (old new : List PoolItem) → Grows old new → IsFiledMethod old method m → IsFiledMethod new method m
method_later method m old new grows h = record {
  is = record { access = h.is.access; name = h.is.name; desc = h.is.desc; attrs = attrs_later old new grows owner.Method 52 m.attrs h.is.attrs };
  kept = record {
    name = has_text_later old new m.name IsMethodName grows h.kept.name;
    descriptor = has_text_later old new m.desc (IsMethodDescriptor (not (has_flag m.access 8))) grows h.kept.descriptor;
    flags = h.kept.flags;
    code = h.kept.code;
  };
  few = h.few;
  short = h.short;
  name_at = text_later old new m.name method.shape.name grows h.name_at;
  desc_at = text_later old new m.desc (method_text method.shape.desc) grows h.desc_at;
}
