-- What the verifier answers of a method of a class file (JVMS 4.10.1).
use Rattle.std.specs.Prelude.{◌≡◌, ◌<◌, ◌⊎◌, ℕ, List, [], length, Some, Contains}
use Rattle.jv_types.specs.declared.ids.MethodId.{MethodId}
use Rattle.jv_types.specs.declared.rule.Rule.{Rule}
use Rattle.jv_types.specs.declared.rule.Rule.TheVariants as rules
use Rattle.jv_types.specs.declared.shapes.Shape.{Shape}
use Rattle.jv_types.specs.declared.shapes.MethodShape.{MethodShape}
use Rattle.jv_types.specs.declared.body.Body.{Body}
use Rattle.jv_types.specs.declared.frames.Frame.{Frame}
use Rattle.jv_types.specs.declared.frames.FramedBody.{FramedBody}
use Rattle.jv_desc.specs.Texts.{method_text}
use Rattle.jv_pool.specs.Lookups.{text_at}
use Rattle.jv_pool.specs.declared.item.PoolItem.{PoolItem}
use Rattle.jv_attr.specs.declared.attr.CodeAttr.{CodeAttr}
use Rattle.jv_class.specs.declared.class_file.ClassFile.{ClassFile}
use Rattle.jv_class.specs.declared.class_file.Member.{Member}
use Rattle.jv_class.specs.MethodCodes.{code_in}
use Rattle.jv_resolve.specs.Members.{IsMethod}
use Rattle.jv_insn.specs.Decoding.{Decodes, IsLeastFailure}
use Rattle.jv_frames.specs.Maps.{AreFramesOf, FailsFirstAt}
use Rattle.jv_typing.specs.TypeSafe.{IsTypeSafe, FailsLeastAt}
use Rattle.jv_verify.specs.declared.no_body.NoBody.{NoBody}
use Rattle.jv_verify.specs.declared.no_body.NoBody.TheVariants as bodies
use Rattle.jv_verify.specs.declared.refusal.VerifyRefusal.{VerifyRefusal}
use Rattle.jv_verify.specs.declared.refusal.VerifyRefusal.TheVariants as refusal

-- a member of a class file has this name and descriptor (JVMS 4.6)
pub record IsNamedSo (items : List PoolItem) (name descriptor : List ℕ) (member : Member) : Type 0 where
  pub name_is : text_at items member.name ≡ Some name
  pub descriptor_is : text_at items member.desc ≡ Some descriptor

-- the class file declares a method with the name and the descriptor of this one, and with this code
pub record IsCodeOf (w : List Shape) (class : ClassFile) (id : MethodId) (code : CodeAttr) : Type 0 where
  pub shape : MethodShape
  pub is_method : IsMethod w id shape
  pub member : Member
  pub among : Contains class.methods member
  pub named : IsNamedSo class.pool shape.name (method_text shape.desc) member
  pub has : code_in member.attrs ≡ Some code

-- the method's code has at least one byte and decodes to this body (JVMS 4.7.3)
pub record HasBody (w : List Shape) (class : ClassFile) (id : MethodId) (body : Body) : Type 0 where
  pub code : CodeAttr
  pub is : IsCodeOf w class id code
  pub spelled : 0 < length code.code
  pub decodes : Decodes class.pool code.max_stack code.max_locals code.code code.handlers body

-- the code has at least one byte and decodes to this body
pub record DecodesTo (pool : List PoolItem) (code : CodeAttr) (body : Body) : Type 0 where
  pub spelled : 0 < length code.code
  pub decodes : Decodes pool code.max_stack code.max_locals code.code code.handlers body

-- Why a code has no body: it has no byte, or more than 65,535, or it isn't well formed, and this is the least
-- offset at which it fails.
abbrev pub HasNoBody : List PoolItem → CodeAttr → NoBody → Type 0
HasNoBody pool code bodies.NoCode = ⊥
HasNoBody pool code bodies.Length = (code.code ≡ []) ⊎ (65535 < length code.code)
HasNoBody pool code (bodies.At pc) = IsLeastFailure pool code.max_locals code.code code.handlers pc
HasNoBody pool code bodies.Memory = Unit {0}

-- why a method of a class file has none: the class file has no code for it, or that has none
abbrev pub IsWithoutBody : List Shape → ClassFile → MethodId → NoBody → Type 0
IsWithoutBody w class id bodies.NoCode = (code : CodeAttr) → IsCodeOf w class id code → ⊥
IsWithoutBody w class id bodies.Length = (code : CodeAttr) × IsCodeOf w class id code × HasNoBody class.pool code bodies.Length
IsWithoutBody w class id (bodies.At pc) = (code : CodeAttr) × IsCodeOf w class id code × HasNoBody class.pool code (bodies.At pc)
IsWithoutBody w class id bodies.Memory = Unit {0}

-- the method with this body, and its table of frames by the frames of its stack map
pub record IsVerified (w : List Shape) (class : ClassFile) (id : MethodId) (body : Body) (framed : FramedBody) : Type 0 where
  pub method : framed.method ≡ id
  pub same_body : framed.body ≡ body
  pub code : CodeAttr
  pub is : IsCodeOf w class id code
  pub maps : List (ℕ × Frame)
  pub are_maps : AreFramesOf w id class.pool code body maps
  pub table : IsTypeSafe w id body maps framed.frames

-- Why a method isn't verified: a frame of its stack map is none, and the first such one stands at this offset;
-- or no table types it, and this is the least offset at which it has none.
pub data IsUnverified (w : List Shape) (class : ClassFile) (id : MethodId) (body : Body) (rule : Rule) (pc : ℕ) : Type 0 where
  no_maps : (code : CodeAttr) → IsCodeOf w class id code → rule ≡ rules.StackMap → FailsFirstAt w id class.pool code body pc → IsUnverified w class id body rule pc
  no_table : (code : CodeAttr) (maps : List (ℕ × Frame)) → IsCodeOf w class id code → rule ≡ rules.TypeRule → AreFramesOf w id class.pool code body maps → FailsLeastAt w id body maps pc
      → IsUnverified w class id body rule pc

-- the answer names such a cause
abbrev pub IsCause : List Shape → ClassFile → MethodId → Body → VerifyRefusal → Type 0
IsCause w class id body (refusal.At rule pc) = IsUnverified w class id body rule pc
IsCause w class id body refusal.Memory = Unit {0}
