-- The rows of the instruction tables, as the JVM specification states them.
use Rattle.std.specs.Prelude.{ℕ, map, List, [], ◌∷◌, ◌++◌}
use Rattle.std.specs.List.{range_with_len}
use Rattle.jv_table.specs.declared.code_tables.OpRow.{OpRow}
use Rattle.jv_table.specs.declared.code_tables.Cell.{Cell}
use Rattle.jv_table.specs.declared.code_tables.Cell.TheVariants.{Int, Float, Long, Double, Ref, Null}
use Rattle.jv_table.specs.declared.code_tables.Kind.{Kind}
use Rattle.jv_table.specs.declared.code_tables.Kind.TheVariants.{Word, Refs, Outside}
use Rattle.jv_table.specs.declared.code_tables.Form.{Form}
use Rattle.jv_table.specs.declared.code_tables.Form.TheVariants.{Nothing, Local, Small1, Small2, Inc, Load1, Load2, LoadTwo, Class, Field, Method, InterfaceMethod, Dynamic, NewPrim, Multi, Jump2, Jump4, TableSwitch, LookupSwitch, Wide}

-- what a row of the opcodes says: the layout of the operands, the cells that are taken and given, and the half
pub record OpForm : Type 0 where
  pub op : ℕ
  pub form : Form
  pub takes : List Cell
  pub gives : List Cell
  pub kind : Kind

-- a row of the opcodes, apart from where its cells lie in memory
abbrev pub op_form : OpRow → OpForm
op_form row = record { op = row.op; form = row.form; takes = row.takes.now; gives = row.gives.now; kind = row.kind }

-- the same for a row with its key
abbrev pub op_row_form : ℕ × OpRow → ℕ × OpForm
op_row_form row = (row.0, op_form row.1)

-- the rows of so many opcodes from a first one on, which have one layout and the same cells
abbrev pub ops : ℕ → ℕ → Form → List Cell → List Cell → Kind → List (ℕ × OpForm)
ops first count form takes gives kind =
    map (λ (op : ℕ). (op, record { op = op; form = form; takes = takes; gives = gives; kind = kind })) (range_with_len first count)

-- the opcodes (JVMS 6.5, and 7 for their numbers). Where the operands decide the cells, or words move
-- whatever they hold, no cells stand here.
unfoldable pub opcode_rows : List (ℕ × OpForm)
opcode_rows =
    -- nop
    ops 0 1 Nothing [] [] Word
    -- aconst_null
    ++ ops 1 1 Nothing [] (Null ∷ []) Refs
    -- iconst, lconst, fconst, dconst
    ++ ops 2 7 Nothing [] (Int ∷ []) Word
    ++ ops 9 2 Nothing [] (Long ∷ []) Word
    ++ ops 11 3 Nothing [] (Float ∷ []) Word
    ++ ops 14 2 Nothing [] (Double ∷ []) Word
    -- bipush, sipush
    ++ ops 16 1 Small1 [] (Int ∷ []) Word
    ++ ops 17 1 Small2 [] (Int ∷ []) Word
    -- ldc, ldc_w, ldc2_w
    ++ ops 18 1 Load1 [] [] Refs
    ++ ops 19 1 Load2 [] [] Refs
    ++ ops 20 1 LoadTwo [] [] Word
    -- iload, lload, fload, dload, aload
    ++ ops 21 1 Local [] (Int ∷ []) Word
    ++ ops 22 1 Local [] (Long ∷ []) Word
    ++ ops 23 1 Local [] (Float ∷ []) Word
    ++ ops 24 1 Local [] (Double ∷ []) Word
    ++ ops 25 1 Local [] (Ref ∷ []) Refs
    -- the same of the locals 0 to 3
    ++ ops 26 4 Nothing [] (Int ∷ []) Word
    ++ ops 30 4 Nothing [] (Long ∷ []) Word
    ++ ops 34 4 Nothing [] (Float ∷ []) Word
    ++ ops 38 4 Nothing [] (Double ∷ []) Word
    ++ ops 42 4 Nothing [] (Ref ∷ []) Refs
    -- iaload, laload, faload, daload, aaload, and baload, caload, saload
    ++ ops 46 1 Nothing (Ref ∷ Int ∷ []) (Int ∷ []) Refs
    ++ ops 47 1 Nothing (Ref ∷ Int ∷ []) (Long ∷ []) Refs
    ++ ops 48 1 Nothing (Ref ∷ Int ∷ []) (Float ∷ []) Refs
    ++ ops 49 1 Nothing (Ref ∷ Int ∷ []) (Double ∷ []) Refs
    ++ ops 50 1 Nothing (Ref ∷ Int ∷ []) (Ref ∷ []) Refs
    ++ ops 51 3 Nothing (Ref ∷ Int ∷ []) (Int ∷ []) Refs
    -- istore, lstore, fstore, dstore, astore
    ++ ops 54 1 Local (Int ∷ []) [] Word
    ++ ops 55 1 Local (Long ∷ []) [] Word
    ++ ops 56 1 Local (Float ∷ []) [] Word
    ++ ops 57 1 Local (Double ∷ []) [] Word
    ++ ops 58 1 Local (Ref ∷ []) [] Refs
    -- the same of the locals 0 to 3
    ++ ops 59 4 Nothing (Int ∷ []) [] Word
    ++ ops 63 4 Nothing (Long ∷ []) [] Word
    ++ ops 67 4 Nothing (Float ∷ []) [] Word
    ++ ops 71 4 Nothing (Double ∷ []) [] Word
    ++ ops 75 4 Nothing (Ref ∷ []) [] Refs
    -- iastore, lastore, fastore, dastore, aastore, and bastore, castore, sastore
    ++ ops 79 1 Nothing (Ref ∷ Int ∷ Int ∷ []) [] Refs
    ++ ops 80 1 Nothing (Ref ∷ Int ∷ Long ∷ []) [] Refs
    ++ ops 81 1 Nothing (Ref ∷ Int ∷ Float ∷ []) [] Refs
    ++ ops 82 1 Nothing (Ref ∷ Int ∷ Double ∷ []) [] Refs
    ++ ops 83 1 Nothing (Ref ∷ Int ∷ Ref ∷ []) [] Refs
    ++ ops 84 3 Nothing (Ref ∷ Int ∷ Int ∷ []) [] Refs
    -- pop, pop2, dup, dup_x1, dup_x2, dup2, dup2_x1, dup2_x2, swap
    ++ ops 87 9 Nothing [] [] Refs
    -- iadd, ladd, fadd, dadd
    ++ ops 96 1 Nothing (Int ∷ Int ∷ []) (Int ∷ []) Word
    ++ ops 97 1 Nothing (Long ∷ Long ∷ []) (Long ∷ []) Word
    ++ ops 98 1 Nothing (Float ∷ Float ∷ []) (Float ∷ []) Word
    ++ ops 99 1 Nothing (Double ∷ Double ∷ []) (Double ∷ []) Word
    -- isub, lsub, fsub, dsub
    ++ ops 100 1 Nothing (Int ∷ Int ∷ []) (Int ∷ []) Word
    ++ ops 101 1 Nothing (Long ∷ Long ∷ []) (Long ∷ []) Word
    ++ ops 102 1 Nothing (Float ∷ Float ∷ []) (Float ∷ []) Word
    ++ ops 103 1 Nothing (Double ∷ Double ∷ []) (Double ∷ []) Word
    -- imul, lmul, fmul, dmul
    ++ ops 104 1 Nothing (Int ∷ Int ∷ []) (Int ∷ []) Word
    ++ ops 105 1 Nothing (Long ∷ Long ∷ []) (Long ∷ []) Word
    ++ ops 106 1 Nothing (Float ∷ Float ∷ []) (Float ∷ []) Word
    ++ ops 107 1 Nothing (Double ∷ Double ∷ []) (Double ∷ []) Word
    -- idiv, ldiv, fdiv, ddiv
    ++ ops 108 1 Nothing (Int ∷ Int ∷ []) (Int ∷ []) Word
    ++ ops 109 1 Nothing (Long ∷ Long ∷ []) (Long ∷ []) Word
    ++ ops 110 1 Nothing (Float ∷ Float ∷ []) (Float ∷ []) Word
    ++ ops 111 1 Nothing (Double ∷ Double ∷ []) (Double ∷ []) Word
    -- irem, lrem, frem, drem
    ++ ops 112 1 Nothing (Int ∷ Int ∷ []) (Int ∷ []) Word
    ++ ops 113 1 Nothing (Long ∷ Long ∷ []) (Long ∷ []) Word
    ++ ops 114 1 Nothing (Float ∷ Float ∷ []) (Float ∷ []) Word
    ++ ops 115 1 Nothing (Double ∷ Double ∷ []) (Double ∷ []) Word
    -- ineg, lneg, fneg, dneg
    ++ ops 116 1 Nothing (Int ∷ []) (Int ∷ []) Word
    ++ ops 117 1 Nothing (Long ∷ []) (Long ∷ []) Word
    ++ ops 118 1 Nothing (Float ∷ []) (Float ∷ []) Word
    ++ ops 119 1 Nothing (Double ∷ []) (Double ∷ []) Word
    -- ishl, lshl, ishr, lshr, iushr, lushr
    ++ ops 120 1 Nothing (Int ∷ Int ∷ []) (Int ∷ []) Word
    ++ ops 121 1 Nothing (Long ∷ Int ∷ []) (Long ∷ []) Word
    ++ ops 122 1 Nothing (Int ∷ Int ∷ []) (Int ∷ []) Word
    ++ ops 123 1 Nothing (Long ∷ Int ∷ []) (Long ∷ []) Word
    ++ ops 124 1 Nothing (Int ∷ Int ∷ []) (Int ∷ []) Word
    ++ ops 125 1 Nothing (Long ∷ Int ∷ []) (Long ∷ []) Word
    -- iand, land, ior, lor, ixor, lxor
    ++ ops 126 1 Nothing (Int ∷ Int ∷ []) (Int ∷ []) Word
    ++ ops 127 1 Nothing (Long ∷ Long ∷ []) (Long ∷ []) Word
    ++ ops 128 1 Nothing (Int ∷ Int ∷ []) (Int ∷ []) Word
    ++ ops 129 1 Nothing (Long ∷ Long ∷ []) (Long ∷ []) Word
    ++ ops 130 1 Nothing (Int ∷ Int ∷ []) (Int ∷ []) Word
    ++ ops 131 1 Nothing (Long ∷ Long ∷ []) (Long ∷ []) Word
    -- iinc
    ++ ops 132 1 Inc [] [] Word
    -- i2l, i2f, i2d
    ++ ops 133 1 Nothing (Int ∷ []) (Long ∷ []) Word
    ++ ops 134 1 Nothing (Int ∷ []) (Float ∷ []) Word
    ++ ops 135 1 Nothing (Int ∷ []) (Double ∷ []) Word
    -- l2i, l2f, l2d
    ++ ops 136 1 Nothing (Long ∷ []) (Int ∷ []) Word
    ++ ops 137 1 Nothing (Long ∷ []) (Float ∷ []) Word
    ++ ops 138 1 Nothing (Long ∷ []) (Double ∷ []) Word
    -- f2i, f2l, f2d
    ++ ops 139 1 Nothing (Float ∷ []) (Int ∷ []) Word
    ++ ops 140 1 Nothing (Float ∷ []) (Long ∷ []) Word
    ++ ops 141 1 Nothing (Float ∷ []) (Double ∷ []) Word
    -- d2i, d2l, d2f
    ++ ops 142 1 Nothing (Double ∷ []) (Int ∷ []) Word
    ++ ops 143 1 Nothing (Double ∷ []) (Long ∷ []) Word
    ++ ops 144 1 Nothing (Double ∷ []) (Float ∷ []) Word
    -- i2b, i2c, i2s
    ++ ops 145 3 Nothing (Int ∷ []) (Int ∷ []) Word
    -- lcmp, fcmpl, fcmpg, dcmpl, dcmpg
    ++ ops 148 1 Nothing (Long ∷ Long ∷ []) (Int ∷ []) Word
    ++ ops 149 2 Nothing (Float ∷ Float ∷ []) (Int ∷ []) Word
    ++ ops 151 2 Nothing (Double ∷ Double ∷ []) (Int ∷ []) Word
    -- ifeq to ifle, if_icmpeq to if_icmple, if_acmpeq, if_acmpne
    ++ ops 153 6 Jump2 (Int ∷ []) [] Word
    ++ ops 159 6 Jump2 (Int ∷ Int ∷ []) [] Word
    ++ ops 165 2 Jump2 (Ref ∷ Ref ∷ []) [] Refs
    -- goto, jsr, ret
    ++ ops 167 1 Jump2 [] [] Word
    ++ ops 168 1 Jump2 [] [] Outside
    ++ ops 169 1 Local [] [] Outside
    -- tableswitch, lookupswitch
    ++ ops 170 1 TableSwitch (Int ∷ []) [] Word
    ++ ops 171 1 LookupSwitch (Int ∷ []) [] Word
    -- ireturn, lreturn, freturn, dreturn, areturn, return
    ++ ops 172 1 Nothing (Int ∷ []) [] Refs
    ++ ops 173 1 Nothing (Long ∷ []) [] Refs
    ++ ops 174 1 Nothing (Float ∷ []) [] Refs
    ++ ops 175 1 Nothing (Double ∷ []) [] Refs
    ++ ops 176 1 Nothing (Ref ∷ []) [] Refs
    ++ ops 177 1 Nothing [] [] Refs
    -- getstatic, putstatic, getfield, putfield
    ++ ops 178 4 Field [] [] Refs
    -- invokevirtual, invokespecial, invokestatic, invokeinterface, invokedynamic
    ++ ops 182 3 Method [] [] Refs
    ++ ops 185 1 InterfaceMethod [] [] Refs
    ++ ops 186 1 Dynamic [] [] Outside
    -- new, newarray, anewarray, arraylength
    ++ ops 187 1 Class [] (Ref ∷ []) Refs
    ++ ops 188 1 NewPrim (Int ∷ []) (Ref ∷ []) Refs
    ++ ops 189 1 Class (Int ∷ []) (Ref ∷ []) Refs
    ++ ops 190 1 Nothing (Ref ∷ []) (Int ∷ []) Refs
    -- athrow, checkcast, instanceof, monitorenter, monitorexit
    ++ ops 191 1 Nothing (Ref ∷ []) [] Refs
    ++ ops 192 1 Class (Ref ∷ []) (Ref ∷ []) Refs
    ++ ops 193 1 Class (Ref ∷ []) (Int ∷ []) Refs
    ++ ops 194 2 Nothing (Ref ∷ []) [] Refs
    -- wide, multianewarray, ifnull, ifnonnull, goto_w, jsr_w
    ++ ops 196 1 Wide [] [] Outside
    ++ ops 197 1 Multi [] [] Refs
    ++ ops 198 2 Jump2 (Ref ∷ []) [] Refs
    ++ ops 200 1 Jump4 [] [] Word
    ++ ops 201 1 Jump4 [] [] Outside

-- the codes of primitive types in newarray (JVMS table 6.5.newarray-A), each with its type's letter in
-- descriptors (JVMS table 4.3-A): boolean Z, char C, float F, double D, byte B, short S, int I, long J
abbrev pub newarray_rows : List (ℕ × ℕ)
newarray_rows = (4, 90) ∷ (5, 67) ∷ (6, 70) ∷ (7, 68) ∷ (8, 66) ∷ (9, 83) ∷ (10, 73) ∷ (11, 74) ∷ []
