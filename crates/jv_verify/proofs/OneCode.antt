-- The one code of a method in a class file.
use Rattle.std.proofs.Common.{◌≡◌, ℕ, List, Some, sym, ap, ◌∙◌, subst}
use Rattle.std.specs.Prelude.{Contains, slice_get}
use Rattle.std.proofs.lemmas.Option.{slice_get-get_or}
use Rattle.jv_types.specs.declared.ids.MethodId.{MethodId}
use Rattle.jv_types.specs.declared.shapes.Shape.{Shape}
use Rattle.jv_types.specs.declared.shapes.MethodShape.{MethodShape}
use Rattle.jv_desc.specs.Texts.{method_text}
use Rattle.jv_attr.specs.declared.attr.CodeAttr.{CodeAttr}
use Rattle.jv_class.specs.declared.class_file.ClassFile.{ClassFile}
use Rattle.jv_class.specs.declared.class_file.Member.{Member}
use Rattle.jv_class.specs.ClassTexts.{AreDistinct}
use Rattle.jv_class.specs.MethodCodes.{code_in}
use Rattle.jv_resolve.specs.Members.{IsMethod}
use Rattle.jv_names.proofs.NamedOnce.{given_twice}
use Rattle.jv_verify.specs.Verified.{IsNamedSo, IsCodeOf}

-- members that are distinct and have one name and descriptor are one
one_member : (class : ClassFile) (name descriptor : List ℕ) (a b : Member) → AreDistinct class.pool class.methods → Contains class.methods a → Contains class.methods b
    → IsNamedSo class.pool name descriptor a → IsNamedSo class.pool name descriptor b → a ≡ b
one_member class name descriptor a b distinct (i, i_lt, i_is) (j, j_lt, j_is) named other =
    let at_i : slice_get class.methods i ≡ Some a = slice_get-get_or class.methods i a i_lt ∙ ap (λ (m : Member). Some m) i_is in
    let at_j : slice_get class.methods j ≡ Some b = slice_get-get_or class.methods j b j_lt ∙ ap (λ (m : Member). Some m) j_is in
    let same : i ≡ j = distinct i j a b at_i at_j (named.name_is ∙ sym other.name_is) (named.descriptor_is ∙ sym other.descriptor_is) in
    given_twice (slice_get class.methods j) a b (subst (λ (k : ℕ). slice_get class.methods k ≡ Some a) same at_i) at_j

one_method : (w : List Shape) (id : MethodId) (a b : MethodShape) → IsMethod w id a → IsMethod w id b → a ≡ b
one_method w id a b (s, at, is) (t, at', is') =
    let same : s ≡ t = given_twice (slice_get w id.class.number) s t at at' in
    given_twice (slice_get t.methods id.index) a b (subst (λ (x : Shape). slice_get x.methods id.index ≡ Some a) same is) is'

-- a code of the method is that of a member with its name and descriptor
pub code_is : (w : List Shape) (class : ClassFile) (id : MethodId) (shape : MethodShape) (member : Member) (code : CodeAttr) → AreDistinct class.pool class.methods → IsMethod w id shape
    → Contains class.methods member → IsNamedSo class.pool shape.name (method_text shape.desc) member → IsCodeOf w class id code → code_in member.attrs ≡ Some code
code_is w class id shape member code distinct is_method among named of =
    let same : of.shape ≡ shape = one_method w id of.shape shape of.is_method is_method in
    let named_so : IsNamedSo class.pool shape.name (method_text shape.desc) of.member = subst (λ (x : MethodShape). IsNamedSo class.pool x.name (method_text x.desc) of.member) same of.named in
    let one : of.member ≡ member = one_member class shape.name (method_text shape.desc) of.member member distinct of.among among named_so named in
    subst (λ (m : Member). code_in m.attrs ≡ Some code) one of.has

pub one_code : (w : List Shape) (class : ClassFile) (id : MethodId) (a b : CodeAttr) → AreDistinct class.pool class.methods → IsCodeOf w class id a → IsCodeOf w class id b → a ≡ b
one_code w class id a b distinct of other =
    given_twice (code_in of.member.attrs) a b of.has (code_is w class id of.shape of.member b distinct of.is_method of.among of.named other)
