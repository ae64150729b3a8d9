-- The form of a class with fields and methods over ints, itself and java/lang/Object, as a relation
-- between the bytes of a file and the class that they are.
use Rattle.std.specs.Prelude.{◌≡◌, ◌≢◌, ℕ, ◌+◌, ◌^◌, ◌<◌, ◌≤◌, List, [], ◌∷◌, ◌++◌, length, Some, codes}
use Rattle.std.specs.List.{slice_get, AllZip, AllByRecursion}
use Rattle.calls_form.specs.declared.outline.Entry.{Entry}
use Rattle.calls_form.specs.declared.outline.RawField.{RawField}
use Rattle.calls_form.specs.declared.outline.RawMethod.{RawMethod}
use Rattle.calls_form.specs.declared.outline.Outline.{Outline}
use Rattle.calls_form.specs.declared.object_class.Instruction.{Instruction}
use Rattle.calls_form.specs.declared.object_class.Instruction.TheVariants.{PushWord, Load, Store}
use Rattle.calls_form.specs.declared.object_class.Placed.{Placed}
use Rattle.calls_form.specs.declared.object_class.Field as declared_field
use Rattle.calls_form.specs.declared.object_class.Method as declared_method
use Rattle.calls_form.specs.declared.object_class.ObjectClass.{ObjectClass}
use Rattle.calls_form.specs.declared.opcode.Format.{Format}
use Rattle.calls_form.specs.declared.opcode.Format.TheVariants.{Alone, Byte, Short, LoadAt, StoreAt, Named}
use Rattle.calls_form.specs.declared.target.Target.{Target}
use Rattle.calls_form.specs.declared.target.Target.TheVariants.{Field, Method, ObjectInit, This}
use Rattle.calls_form.specs.Layout.{u2, Code, code_text, IsCode}
use Rattle.calls_form.specs.Outlines.{IsUtf8At, IsClassAt, IsFieldrefAt, IsMethodrefAt, IsOutline}
use Rattle.calls_form.specs.Flags.{IsStatic, IsNative, IsAbstract}
use Rattle.calls_form.specs.Opcodes.{format_of, named}
use Rattle.calls_form.specs.Descriptors.{IsType, IsMethodDesc}
use Rattle.calls_form.specs.Kinds.{IsKindSafe}

-- a file has at most this many bytes
abbrev pub file_limit : ℕ
file_limit = 16777216

-- a name or descriptor that is used is printed as it is: each byte is visible ASCII and no percent sign
abbrev pub IsVisible : List ℕ → Type 0
IsVisible text = AllByRecursion (λ b. (0x21 ≤ b) × (b ≤ 0x7E) × (b ≢ 0x25)) text

abbrev pub object_name : List ℕ
object_name = codes "java/lang/Object"

-- the index of the pool names this: a member of the class at its place, the constructor of
-- java/lang/Object, or the class itself
abbrev pub IsTarget : List Entry → ObjectClass → ℕ → Target → Type 0
IsTarget pool class index (Field place) =
    (x : declared_field.Field) × (slice_get class.fields place ≡ Some x) × IsFieldrefAt pool index class.name x.name x.desc
IsTarget pool class index (Method place) =
    (m : declared_method.Method) × (slice_get class.methods place ≡ Some m) × IsMethodrefAt pool index class.name m.name m.desc
IsTarget pool class index ObjectInit = (class.name ≢ object_name) × IsMethodrefAt pool index object_name (codes "<init>") (codes "()V")
IsTarget pool class index This = IsClassAt pool index class.name

-- the bytes of an instruction by what follows its opcode (JVMS 6.5)
abbrev pub Spells : List Entry → ObjectClass → ℕ → Format → List ℕ → Instruction → Type 0
Spells pool class op (Alone i) bytes instruction = (bytes ≡ op ∷ []) × (instruction ≡ i)
Spells pool class op Byte bytes instruction = (value : ℕ) × (bytes ≡ op ∷ value ∷ []) × (instruction ≡ PushWord)
Spells pool class op Short bytes instruction = (value : ℕ) × (value < 2 ^ 16) × (bytes ≡ op ∷ u2 value) × (instruction ≡ PushWord)
Spells pool class op (LoadAt kind) bytes instruction = (local : ℕ) × (bytes ≡ op ∷ local ∷ []) × (instruction ≡ Load kind local)
Spells pool class op (StoreAt kind) bytes instruction = (local : ℕ) × (bytes ≡ op ∷ local ∷ []) × (instruction ≡ Store kind local)
Spells pool class op Named bytes instruction =
    (index : ℕ) × (target : Target) × (index < 2 ^ 16) × (bytes ≡ op ∷ u2 index) × IsTarget pool class index target × (named op target ≡ Some instruction)

-- the bytes of an instruction
abbrev pub IsInstruction : List Entry → ObjectClass → List ℕ → Instruction → Type 0
IsInstruction pool class bytes instruction =
    (op : ℕ) × (format : Format) × (format_of op ≡ Some format) × Spells pool class op format bytes instruction

-- the bytes from pc on are these instructions, one behind the other
abbrev pub AreInstructions : List Entry → ObjectClass → ℕ → List ℕ → List Placed → Type 0
AreInstructions pool class pc bytes [] = bytes ≡ []
AreInstructions pool class pc bytes (first ∷ others) =
    (front : List ℕ) × (rest : List ℕ) × (bytes ≡ front ++ rest) × (first.pc ≡ pc) × IsInstruction pool class front first.instruction
    × AreInstructions pool class (pc + length front) rest others

-- a field of the file is this field of the class
pub record IsFieldOf (pool : List Entry) (own : List ℕ) (raw : RawField) (x : declared_field.Field) : Type 0 where
  pub access : x.access ≡ raw.access
  pub name : IsUtf8At pool raw.name x.name
  pub desc : IsUtf8At pool raw.desc x.desc
  pub visible_name : IsVisible x.name
  pub visible_desc : IsVisible x.desc
  pub kind : IsType own x.kind x.desc

-- a method of the file is this method of the class: it has code and no handlers, isn't <clinit>, and a
-- constructor isn't static
pub record IsMethodOf (pool : List Entry) (class : ObjectClass) (raw : RawMethod) (m : declared_method.Method) : Type 0 where
  pub access : m.access ≡ raw.access
  pub name : IsUtf8At pool raw.name m.name
  pub desc : IsUtf8At pool raw.desc m.desc
  pub visible_name : IsVisible m.name
  pub visible_desc : IsVisible m.desc
  pub not_native : ¬ IsNative m.access
  pub not_abstract : ¬ IsAbstract m.access
  pub not_class_init : m.name ≢ codes "<clinit>"
  pub not_static_init : IsStatic m.access → m.name ≢ codes "<init>"
  pub types : IsMethodDesc class.name m.access m.desc m.arguments m.result
  pub code : Code
  pub is_code : IsCode code
  pub code_is : raw.code ≡ code_text code
  pub no_handlers : code.handler_count ≡ 0
  pub max_stack : m.max_stack ≡ code.max_stack
  pub max_locals : m.max_locals ≡ code.max_locals
  pub instructions : AreInstructions pool class 0 code.bytes m.code

-- what is kept of a file is the class of this name
pub record IsClassOf (name : List ℕ) (o : Outline) (class : ObjectClass) : Type 0 where
  pub low : 50 ≤ o.major
  pub high : o.major ≤ 52
  pub name_is : class.name ≡ name
  pub visible : IsVisible name
  pub this_is : IsClassAt o.pool o.this_class name
  pub super_is : IsClassAt o.pool o.super_class object_name
  pub few_fields : length o.fields < 2 ^ 16
  pub few_methods : length o.methods < 2 ^ 16
  pub fields : AllZip (IsFieldOf o.pool name) o.fields class.fields
  pub methods : AllZip (IsMethodOf o.pool class) o.methods class.methods
  pub safe : IsKindSafe class

-- the bytes are the class of this name
pub record IsObjectClass (name bytes : List ℕ) (class : ObjectClass) : Type 0 where
  pub short : length bytes ≤ file_limit
  pub outline : Outline
  pub is_outline : IsOutline bytes outline
  pub is_class : IsClassOf name outline class
