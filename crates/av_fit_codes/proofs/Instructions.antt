-- Single instructions that codes have fit a code wherever they stand.
use Rattle.std.proofs.Common.{◌≡◌, ℕ, ◌+◌, ◌<◌, ◌≤◌, ◌==◌, Bool, true, false, List, [], Option, Some, None, refl, sym, subst, arith}
use Rattle.std.specs.Prelude.{option_map}
use Rattle.jv_table.specs.CodeRows.{OpForm, opcode_rows}
use Rattle.jv_table.specs.declared.code_tables.Form.{Form}
use Rattle.jv_table.specs.declared.code_tables.Form.TheVariants as forms
use Rattle.jv_table.specs.declared.ops.TheConstants.{ACONST_NULL, ICONST_0, ICONST_1, LCONST_0, FCONST_0, DCONST_0, LDC, ALOAD, AALOAD, AASTORE, POP, POP2, DUP, IRETURN, LRETURN, FRETURN, DRETURN, ARETURN, RETURN, GETSTATIC, PUTSTATIC, GETFIELD, PUTFIELD, INVOKEVIRTUAL, INVOKESPECIAL, INVOKEINTERFACE, NEW, NEWARRAY, ANEWARRAY, ATHROW, CHECKCAST, IFNULL}
use Rattle.jv_types.specs.Bodies.{arg_targets}
use Rattle.jv_types.specs.declared.desc.PrimType.{PrimType}
use Rattle.jv_types.specs.declared.desc.PrimType.TheVariants as prims
use Rattle.jv_types.specs.declared.desc.MethodDesc.{MethodDesc}
use Rattle.jv_types.specs.declared.desc.RefType.{RefType}
use Rattle.jv_types.specs.declared.desc.RefType as refs
use Rattle.jv_types.specs.declared.instruction.Arg.{Arg}
use Rattle.jv_types.specs.declared.instruction.Arg.TheVariants as args
use Rattle.jv_types.specs.declared.references.FieldRef.{FieldRef}
use Rattle.jv_types.specs.declared.references.MethodRef.{MethodRef}
use Rattle.jv_types.specs.declared.shapes.FieldShape.{FieldShape}
use Rattle.jv_desc.specs.Texts.{IsRef, IsDesc, IsMethodDesc, words_of}
use Rattle.jv_names.specs.Spellings.{IsClassName}
use Rattle.jv_insn.specs.Effects.{op_row}
use Rattle.jv_insn.specs.Building.{FitsForm}
use Rattle.jv_insn.specs.Encoding.{is_left_out}
use Rattle.jv_insn.specs.Meanings.{has_local}
use Rattle.jv_resolve.specs.Members.{init_name}
use Rattle.av_conditions.specs.StandIn.{library_name, known_name, fresh_name, object_desc}
use Rattle.av_fitting.specs.Fitting.{IsFitInsn, IsFitBranch}
use Rattle.av_standin_of.specs.Names.{extra_desc}
use Rattle.av_standin_of.specs.Codes.{insn, plain, aload, get_known, put_known, get_fresh, put_fresh, checkcast, call_extra, zero_op, return_op, pop_op}
use Rattle.av_standin_of.specs.Items.{call_insn, field_insn}

-- ---- opcodes

-- an opcode has a row of this form
pub record HasForm (op : ℕ) (form : Form) : Type 0 where
  pub row : OpForm
  pub known : op_row op ≡ Some row
  pub is : row.form ≡ form

-- one with operands of this form, none of which is a local variable or the constant of an ldc
pub record IsOp (op : ℕ) (form : Form) : Type 0 where
  pub has : HasForm op form
  pub no_local : has_local op ≡ false
  pub no_constant : (op == LDC) ≡ false

has_form : (op : ℕ) (form : Form) → option_map (λ (row : OpForm). row.form) (op_row op) ≡ Some form → HasForm op form
has_form op form e = by (op_row op) refl e
  where
    by : (found : Option OpForm) → op_row op ≡ found → option_map (λ (row : OpForm). row.form) found ≡ Some form → HasForm op form
    by None is e = absurd cc
    by (Some row) is e = record { row = row; known = is; is = cc }

is_op : (op : ℕ) (form : Form) → option_map (λ (row : OpForm). row.form) (op_row op) ≡ Some form → has_local op ≡ false → (op == LDC) ≡ false → IsOp op form
is_op op form e no_local no_constant = record { has = has_form op form e; no_local = no_local; no_constant = no_constant }

aconst_null-op : IsOp ACONST_NULL forms.Nothing
unfolding opcode_rows
aconst_null-op = is_op ACONST_NULL forms.Nothing refl refl refl

iconst_0-op : IsOp ICONST_0 forms.Nothing
unfolding opcode_rows
iconst_0-op = is_op ICONST_0 forms.Nothing refl refl refl

iconst_1-op : IsOp ICONST_1 forms.Nothing
unfolding opcode_rows
iconst_1-op = is_op ICONST_1 forms.Nothing refl refl refl

lconst_0-op : IsOp LCONST_0 forms.Nothing
unfolding opcode_rows
lconst_0-op = is_op LCONST_0 forms.Nothing refl refl refl

fconst_0-op : IsOp FCONST_0 forms.Nothing
unfolding opcode_rows
fconst_0-op = is_op FCONST_0 forms.Nothing refl refl refl

dconst_0-op : IsOp DCONST_0 forms.Nothing
unfolding opcode_rows
dconst_0-op = is_op DCONST_0 forms.Nothing refl refl refl

aaload-op : IsOp AALOAD forms.Nothing
unfolding opcode_rows
aaload-op = is_op AALOAD forms.Nothing refl refl refl

aastore-op : IsOp AASTORE forms.Nothing
unfolding opcode_rows
aastore-op = is_op AASTORE forms.Nothing refl refl refl

pop-op : IsOp POP forms.Nothing
unfolding opcode_rows
pop-op = is_op POP forms.Nothing refl refl refl

pop2-op : IsOp POP2 forms.Nothing
unfolding opcode_rows
pop2-op = is_op POP2 forms.Nothing refl refl refl

dup-op : IsOp DUP forms.Nothing
unfolding opcode_rows
dup-op = is_op DUP forms.Nothing refl refl refl

ireturn-op : IsOp IRETURN forms.Nothing
unfolding opcode_rows
ireturn-op = is_op IRETURN forms.Nothing refl refl refl

lreturn-op : IsOp LRETURN forms.Nothing
unfolding opcode_rows
lreturn-op = is_op LRETURN forms.Nothing refl refl refl

freturn-op : IsOp FRETURN forms.Nothing
unfolding opcode_rows
freturn-op = is_op FRETURN forms.Nothing refl refl refl

dreturn-op : IsOp DRETURN forms.Nothing
unfolding opcode_rows
dreturn-op = is_op DRETURN forms.Nothing refl refl refl

areturn-op : IsOp ARETURN forms.Nothing
unfolding opcode_rows
areturn-op = is_op ARETURN forms.Nothing refl refl refl

return-op : IsOp RETURN forms.Nothing
unfolding opcode_rows
return-op = is_op RETURN forms.Nothing refl refl refl

athrow-op : IsOp ATHROW forms.Nothing
unfolding opcode_rows
athrow-op = is_op ATHROW forms.Nothing refl refl refl

getstatic-op : IsOp GETSTATIC forms.Field
unfolding opcode_rows
getstatic-op = is_op GETSTATIC forms.Field refl refl refl

putstatic-op : IsOp PUTSTATIC forms.Field
unfolding opcode_rows
putstatic-op = is_op PUTSTATIC forms.Field refl refl refl

getfield-op : IsOp GETFIELD forms.Field
unfolding opcode_rows
getfield-op = is_op GETFIELD forms.Field refl refl refl

putfield-op : IsOp PUTFIELD forms.Field
unfolding opcode_rows
putfield-op = is_op PUTFIELD forms.Field refl refl refl

invokevirtual-op : IsOp INVOKEVIRTUAL forms.Method
unfolding opcode_rows
invokevirtual-op = is_op INVOKEVIRTUAL forms.Method refl refl refl

invokespecial-op : IsOp INVOKESPECIAL forms.Method
unfolding opcode_rows
invokespecial-op = is_op INVOKESPECIAL forms.Method refl refl refl

invokeinterface-op : IsOp INVOKEINTERFACE forms.InterfaceMethod
unfolding opcode_rows
invokeinterface-op = is_op INVOKEINTERFACE forms.InterfaceMethod refl refl refl

new-op : IsOp NEW forms.Class
unfolding opcode_rows
new-op = is_op NEW forms.Class refl refl refl

newarray-op : IsOp NEWARRAY forms.NewPrim
unfolding opcode_rows
newarray-op = is_op NEWARRAY forms.NewPrim refl refl refl

anewarray-op : IsOp ANEWARRAY forms.Class
unfolding opcode_rows
anewarray-op = is_op ANEWARRAY forms.Class refl refl refl

checkcast-op : IsOp CHECKCAST forms.Class
unfolding opcode_rows
checkcast-op = is_op CHECKCAST forms.Class refl refl refl

ifnull-op : IsOp IFNULL forms.Jump2
unfolding opcode_rows
ifnull-op = is_op IFNULL forms.Jump2 refl refl refl

aload-form : HasForm ALOAD forms.Local
unfolding opcode_rows
aload-form = has_form ALOAD forms.Local refl

-- ---- instructions

fits : (words op : ℕ) (form : Form) (arg : Arg) → IsOp op form → FitsForm [] 0 op form arg → is_left_out arg ≡ false → arg_targets arg ≡ [] → IsFitInsn words (insn op arg)
fits words op form arg is operands whole stays = record {
  fits = record {
    row = is.has.row;
    known = is.has.known;
    operands = subst (λ (f : Form). FitsForm [] 0 op f arg) (sym is.has.is) operands;
    local = λ has. let other : has_local op ≡ false = is.no_local in absurd cc;
  };
  whole = whole;
  stays = stays;
  no_constant = is.no_constant;
}

plain_fits : (words op : ℕ) → IsOp op forms.Nothing → IsFitInsn words (plain op)
plain_fits words op is = fits words op forms.Nothing args.Nothing is refl refl refl

pub aconst_null_fits : (words : ℕ) → IsFitInsn words (plain ACONST_NULL)
aconst_null_fits words = plain_fits words ACONST_NULL aconst_null-op

pub iconst_0_fits : (words : ℕ) → IsFitInsn words (plain ICONST_0)
iconst_0_fits words = plain_fits words ICONST_0 iconst_0-op

pub iconst_1_fits : (words : ℕ) → IsFitInsn words (plain ICONST_1)
iconst_1_fits words = plain_fits words ICONST_1 iconst_1-op

pub aaload_fits : (words : ℕ) → IsFitInsn words (plain AALOAD)
aaload_fits words = plain_fits words AALOAD aaload-op

pub aastore_fits : (words : ℕ) → IsFitInsn words (plain AASTORE)
aastore_fits words = plain_fits words AASTORE aastore-op

pub dup_fits : (words : ℕ) → IsFitInsn words (plain DUP)
dup_fits words = plain_fits words DUP dup-op

pub return_fits : (words : ℕ) → IsFitInsn words (plain RETURN)
return_fits words = plain_fits words RETURN return-op

pub areturn_fits : (words : ℕ) → IsFitInsn words (plain ARETURN)
areturn_fits words = plain_fits words ARETURN areturn-op

pub athrow_fits : (words : ℕ) → IsFitInsn words (plain ATHROW)
athrow_fits words = plain_fits words ATHROW athrow-op

pub zero_fits : (words : ℕ) (prim : PrimType) → IsFitInsn words (plain (zero_op prim))
zero_fits words prims.Boolean = iconst_0_fits words
zero_fits words prims.Char = iconst_0_fits words
zero_fits words prims.Float = plain_fits words FCONST_0 fconst_0-op
zero_fits words prims.Double = plain_fits words DCONST_0 dconst_0-op
zero_fits words prims.Byte = iconst_0_fits words
zero_fits words prims.Short = iconst_0_fits words
zero_fits words prims.Int = iconst_0_fits words
zero_fits words prims.Long = plain_fits words LCONST_0 lconst_0-op

pub return_of_fits : (words : ℕ) (prim : PrimType) → IsFitInsn words (plain (return_op prim))
return_of_fits words prims.Boolean = plain_fits words IRETURN ireturn-op
return_of_fits words prims.Char = plain_fits words IRETURN ireturn-op
return_of_fits words prims.Float = plain_fits words FRETURN freturn-op
return_of_fits words prims.Double = plain_fits words DRETURN dreturn-op
return_of_fits words prims.Byte = plain_fits words IRETURN ireturn-op
return_of_fits words prims.Short = plain_fits words IRETURN ireturn-op
return_of_fits words prims.Int = plain_fits words IRETURN ireturn-op
return_of_fits words prims.Long = plain_fits words LRETURN lreturn-op

pub pop_fits : (words : ℕ) (prim : PrimType) → IsFitInsn words (plain (pop_op prim))
pop_fits words prims.Boolean = plain_fits words POP pop-op
pop_fits words prims.Char = plain_fits words POP pop-op
pop_fits words prims.Float = plain_fits words POP pop-op
pop_fits words prims.Double = plain_fits words POP2 pop2-op
pop_fits words prims.Byte = plain_fits words POP pop-op
pop_fits words prims.Short = plain_fits words POP pop-op
pop_fits words prims.Int = plain_fits words POP pop-op
pop_fits words prims.Long = plain_fits words POP2 pop2-op

-- a local variable whose number fits a byte
pub aload_fits : (words local : ℕ) → local < words → local < 256 → IsFitInsn words (aload local)
aload_fits words local within small = record {
  fits = record {
    row = aload-form.row;
    known = aload-form.known;
    operands = subst (λ (f : Form). FitsForm [] 0 ALOAD f (args.Local local)) (sym aload-form.is) (local, refl, small);
    local = λ has. within;
  };
  whole = refl;
  stays = refl;
  no_constant = refl;
}

-- ---- fields

field_fits : (words op : ℕ) (field : FieldRef) → IsOp op forms.Field → IsClassName field.class → IsDesc field.desc → IsFitInsn words (insn op (args.Field field))
field_fits words op field is named type = fits words op forms.Field (args.Field field) is (field, refl, named, type) refl refl

-- the two fields that hold what is known and what was only made
pub get_known_fits : (words : ℕ) → IsFitInsn words get_known
get_known_fits words = field_fits words GETSTATIC (record { class = library_name; name = known_name; desc = object_desc }) getstatic-op refl (record { dims = omega arith; named = refl })

pub put_known_fits : (words : ℕ) → IsFitInsn words put_known
put_known_fits words = field_fits words PUTSTATIC (record { class = library_name; name = known_name; desc = object_desc }) putstatic-op refl (record { dims = omega arith; named = refl })

pub get_fresh_fits : (words : ℕ) → IsFitInsn words get_fresh
get_fresh_fits words = field_fits words GETSTATIC (record { class = library_name; name = fresh_name; desc = object_desc }) getstatic-op refl (record { dims = omega arith; named = refl })

pub put_fresh_fits : (words : ℕ) → IsFitInsn words put_fresh
put_fresh_fits words = field_fits words PUTSTATIC (record { class = library_name; name = fresh_name; desc = object_desc }) putstatic-op refl (record { dims = omega arith; named = refl })

-- any other field
pub getstatic_fits : (words : ℕ) (class : List ℕ) (field : FieldShape) → IsClassName class → IsDesc field.desc → IsFitInsn words (field_insn GETSTATIC class field)
getstatic_fits words class field named type = field_fits words GETSTATIC (record { class = class; name = field.name; desc = field.desc }) getstatic-op named type

pub putstatic_fits : (words : ℕ) (class : List ℕ) (field : FieldShape) → IsClassName class → IsDesc field.desc → IsFitInsn words (field_insn PUTSTATIC class field)
putstatic_fits words class field named type = field_fits words PUTSTATIC (record { class = class; name = field.name; desc = field.desc }) putstatic-op named type

pub getfield_fits : (words : ℕ) (class : List ℕ) (field : FieldShape) → IsClassName class → IsDesc field.desc → IsFitInsn words (field_insn GETFIELD class field)
getfield_fits words class field named type = field_fits words GETFIELD (record { class = class; name = field.name; desc = field.desc }) getfield-op named type

pub putfield_fits : (words : ℕ) (class : List ℕ) (field : FieldShape) → IsClassName class → IsDesc field.desc → IsFitInsn words (field_insn PUTFIELD class field)
putfield_fits words class field named type = field_fits words PUTFIELD (record { class = class; name = field.name; desc = field.desc }) putfield-op named type

-- ---- classes

pub class_named : (name : List ℕ) → IsClassName name → IsRef 255 (refs.Class name)
class_named name named = record { dims = omega arith; named = named }

-- a cast to a type of at most 255 dimensions
pub checkcast_fits : (words : ℕ) (type : RefType) → IsRef 255 type → IsFitInsn words (checkcast type)
checkcast_fits words type formed = fits words CHECKCAST forms.Class (args.Class type) checkcast-op (type, refl, formed, ((λ is. absurd cc), (λ is. absurd cc))) refl refl

-- an object of a class
pub new_fits : (words : ℕ) (class : List ℕ) → IsClassName class → IsFitInsn words (insn NEW (args.Class (refs.Class class)))
new_fits words class named =
    fits words NEW forms.Class (args.Class (refs.Class class)) new-op (refs.Class class, refl, class_named class named, ((λ is. refl), (λ is. absurd cc))) refl refl

-- an array whose items have at most 254 dimensions
pub anewarray_fits : (words : ℕ) (type : RefType) → IsRef 254 type → IsFitInsn words (insn ANEWARRAY (args.Class type))
anewarray_fits words type formed =
    let few = formed.dims in
    let wider : IsRef 255 type = record { dims = omega arith; named = formed.named } in
    fits words ANEWARRAY forms.Class (args.Class type) anewarray-op (type, refl, wider, ((λ is. absurd cc), (λ is. few))) refl refl

-- an array of a primitive type
pub newarray_fits : (words : ℕ) (prim : PrimType) → IsFitInsn words (insn NEWARRAY (args.NewPrim prim))
newarray_fits words prim = fits words NEWARRAY forms.NewPrim (args.NewPrim prim) newarray-op (prim, refl) refl refl

-- ---- calls

extra_formed : IsMethodDesc extra_desc
extra_formed = record { params = (record { dims = omega arith; named = refl }, tt); result = tt }

-- the extra constructor of a class
pub call_extra_fits : (words : ℕ) (class : List ℕ) → IsClassName class → IsFitInsn words (call_extra class)
call_extra_fits words class named =
    let method : MethodRef = record { class = refs.Class class; name = init_name; desc = extra_desc; interface = false } in
    fits words INVOKESPECIAL forms.Method (args.Method method) invokespecial-op (method, refl, (class_named class named, extra_formed), (λ is. absurd cc)) refl refl

-- a method of a class or interface, whose arguments take few words
pub call_fits : (words : ℕ) (interface : Bool) (class name : List ℕ) (desc : MethodDesc) → IsClassName class → IsMethodDesc desc → words_of desc true ≤ 255 → IsFitInsn words (call_insn interface class name desc)
call_fits words false class name desc named formed few =
    let method : MethodRef = record { class = refs.Class class; name = name; desc = desc; interface = false } in
    fits words INVOKEVIRTUAL forms.Method (args.Method method) invokevirtual-op (method, refl, (class_named class named, formed), (λ is. refl)) refl refl
call_fits words true class name desc named formed few =
    let method : MethodRef = record { class = refs.Class class; name = name; desc = desc; interface = true } in
    fits words INVOKEINTERFACE forms.InterfaceMethod (args.Method method) invokeinterface-op (method, refl, (class_named class named, formed), refl, omega (arith, few)) refl refl

-- ---- the branch

-- a branch to a later instruction near it
pub ifnull_fits : (count number target : ℕ) → number < target → target < count → target ≤ number + 5000 → IsFitBranch count number IFNULL target
ifnull_fits count number target forward there near = record {
  row = ifnull-op.has.row;
  known = ifnull-op.has.known;
  is_short = ifnull-op.has.is;
  forward = forward;
  there = there;
  near = near;
  no_local = refl;
  no_constant = refl;
}
