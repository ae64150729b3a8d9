-- Items that make objects and arrays, and those of fields and elements: they lead nowhere.
use Rattle.std.proofs.Common.{◌≡◌, ℕ, zero, suc, ◌+◌, ◌*◌, ◌≤◌, Bool, true, false, List, [], ◌∷◌, ◌++◌, length, refl, sym, subst, length-append, arith}
use Rattle.std.specs.Prelude.{if◌then◌else◌, IsTrue}
use Rattle.std.specs.List.{AllByRecursion}
use Rattle.jv_table.specs.declared.ops.TheConstants.{ACONST_NULL, ICONST_0, ICONST_1, AALOAD, AASTORE, DUP, RETURN, GETSTATIC, PUTSTATIC, GETFIELD, PUTFIELD, NEW, NEWARRAY, ANEWARRAY}
use Rattle.jv_types.specs.declared.desc.PrimType.{PrimType}
use Rattle.jv_types.specs.declared.desc.RefType.{RefType}
use Rattle.jv_types.specs.declared.desc.RefType as refs
use Rattle.jv_types.specs.declared.frames.VType.{VType}
use Rattle.jv_types.specs.declared.frames.VType as types
use Rattle.jv_types.specs.declared.instruction.Arg.TheVariants as args
use Rattle.jv_types.specs.declared.shapes.FieldShape.{FieldShape}
use Rattle.jv_types.specs.declared.shapes.MethodShape.{MethodShape}
use Rattle.jv_desc.specs.Texts.{ref_dims, is_named, IsRef, IsDesc}
use Rattle.jv_desc.proofs.Layers.{ref_dims-Array, is_named-Array}
use Rattle.jv_names.specs.Spellings.{IsClassName}
use Rattle.jv_world.specs.Worlds.{object_name}
use Rattle.jv_frames.specs.Types.{ref_vtype}
use Rattle.av_standin_of.specs.Codes.{Row, insn, plain, get_known, put_known, checkcast, call_extra, object_vtype}
use Rattle.av_standin_of.specs.Items.{item, ends, make_item, make_arrays, arrays_item, one_less, prim_arrays_item, field_insn, static_rows, instance_rows, is_static_field, field_item, objects_type, elements_item}
use Rattle.av_standin_of.specs.Templates.{words_in}
use Rattle.av_sketches.specs.Conditions.{IsFinishable}
use Rattle.av_fit_codes.proofs.Instructions.{aconst_null_fits, iconst_0_fits, iconst_1_fits, aaload_fits, aastore_fits, dup_fits, return_fits, get_known_fits, put_known_fits, getstatic_fits, putstatic_fits, getfield_fits, putfield_fits, class_named, checkcast_fits, new_fits, anewarray_fits, newarray_fits, call_extra_fits}
use Rattle.av_fit_codes.proofs.Rows.{IsFitRow, fit_row, all_both, nowhere_finishable}

item_finishable : (shape : MethodShape) (rows : List Row) → words_in shape ≡ 0 → AllByRecursion (IsFitRow 0) rows → length rows ≤ 10000 → IsFinishable shape (item rows)
item_finishable shape rows none fit many = nowhere_finishable shape (item rows) (sym none) (omega arith) refl fit many

pub ends_fit : AllByRecursion (IsFitRow 0) ends
ends_fit = (fit_row 0 [] [] (plain RETURN) (return_fits 0) (omega arith), tt)

-- ---- objects

pub make_finishable : (shape : MethodShape) (class : List ℕ) → words_in shape ≡ 0 → IsClassName class → IsFinishable shape (make_item class)
make_finishable shape class none named =
    item_finishable shape (make_item class).rows none (
      fit_row 0 [] [] (insn NEW (args.Class (refs.Class class))) (new_fits 0 class named) (omega arith),
      (
        fit_row 0 [] (types.Uninit 0 ∷ []) (plain DUP) (dup_fits 0) (omega arith),
        (
          fit_row 0 [] (types.Uninit 0 ∷ types.Uninit 0 ∷ []) (plain ACONST_NULL) (aconst_null_fits 0) (omega arith),
          (
            fit_row 0 [] (types.Uninit 0 ∷ types.Uninit 0 ∷ types.Null ∷ []) (call_extra class) (call_extra_fits 0 class named) (omega arith),
            (
              fit_row 0 [] (types.Class class ∷ []) put_known (put_known_fits 0) (omega arith),
              ends_fit,
            ),
          ),
        ),
      ),
    )
    (omega arith)

-- ---- arrays

arrays_fit : (dims : ℕ) (type : RefType) → IsTrue (is_named type) → ref_dims type + dims ≤ 255 → AllByRecursion (IsFitRow 0) (make_arrays dims type)
arrays_fit zero type named few = tt
arrays_fit (suc dims) type named few =
    let formed : IsRef 254 type = record { dims = omega (arith, few); named = named } in
    let more : IsTrue (is_named (refs.Array type)) = subst IsTrue (sym (is_named-Array type)) named in (
      fit_row 0 [] [] (plain ICONST_1) (iconst_1_fits 0) (omega arith),
      (
        fit_row 0 [] (types.Integer ∷ []) (insn ANEWARRAY (args.Class type)) (anewarray_fits 0 type formed) (omega arith),
        (
          fit_row 0 [] (ref_vtype (refs.Array type) ∷ []) put_known (put_known_fits 0) (omega arith),
          arrays_fit dims (refs.Array type) more (omega (arith, few, ref_dims-Array type)),
        ),
      ),
    )

arrays_count : (dims : ℕ) (type : RefType) → length (make_arrays dims type) ≡ 3 * dims
arrays_count zero type = refl
arrays_count (suc dims) type = omega (arith, arrays_count dims (refs.Array type))

pub arrays_finishable : (shape : MethodShape) (dims : ℕ) (class : List ℕ) → words_in shape ≡ 0 → IsClassName class → dims ≤ 255 → IsFinishable shape (arrays_item dims class)
arrays_finishable shape dims class none named few =
    let arrays = make_arrays dims (refs.Class class) in
    item_finishable shape (arrays ++ ends) none (all_both (IsFitRow 0) arrays ends (arrays_fit dims (refs.Class class) named (omega arith)) ends_fit)
    (omega (arith, arrays_count dims (refs.Class class), length-append arrays ends))

few_left : (dims : ℕ) → dims ≤ 255 → one_less dims ≤ 254
few_left zero few = omega arith
few_left (suc dims) few = omega arith

pub prim_arrays_finishable : (shape : MethodShape) (dims : ℕ) (prim : PrimType) → words_in shape ≡ 0 → dims ≤ 255 → IsFinishable shape (prim_arrays_item dims prim)
prim_arrays_finishable shape dims prim none few =
    let left = few_left dims few in
    let arrays = make_arrays (one_less dims) (refs.PrimArray prim) in
    item_finishable shape (prim_arrays_item dims prim).rows none (
      fit_row 0 [] [] (plain ICONST_1) (iconst_1_fits 0) (omega arith),
      (
        fit_row 0 [] (types.Integer ∷ []) (insn NEWARRAY (args.NewPrim prim)) (newarray_fits 0 prim) (omega arith),
        (
          fit_row 0 [] (types.PrimArray prim ∷ []) put_known (put_known_fits 0) (omega arith),
          all_both (IsFitRow 0) arrays ends (arrays_fit (one_less dims) (refs.PrimArray prim) refl (omega (arith, left))) ends_fit,
        ),
      ),
    )
    (omega (arith, left, arrays_count (one_less dims) (refs.PrimArray prim), length-append arrays ends))

-- ---- fields

pub field_finishable : (shape : MethodShape) (class : List ℕ) (field : FieldShape) (type : RefType) → words_in shape ≡ 0 → IsClassName class → IsDesc field.desc → IsRef 255 type → IsFinishable shape (field_item class field type)
field_finishable shape class field type none named desc formed = by (is_static_field field)
  where
    by : (static : Bool) → IsFinishable shape (item (if static then static_rows class field type else instance_rows class field type))
    by true =
        item_finishable shape (static_rows class field type) none (
          fit_row 0 [] [] (field_insn GETSTATIC class field) (getstatic_fits 0 class field named desc) (omega arith),
          (
            fit_row 0 [] (ref_vtype type ∷ []) put_known (put_known_fits 0) (omega arith),
            (
              fit_row 0 [] [] get_known (get_known_fits 0) (omega arith),
              (
                fit_row 0 [] (object_vtype ∷ []) (checkcast type) (checkcast_fits 0 type formed) (omega arith),
                (
                  fit_row 0 [] (ref_vtype type ∷ []) (field_insn PUTSTATIC class field) (putstatic_fits 0 class field named desc) (omega arith),
                  ends_fit,
                ),
              ),
            ),
          ),
        )
        (omega arith)
    by false =
        item_finishable shape (instance_rows class field type) none (
          fit_row 0 [] [] get_known (get_known_fits 0) (omega arith),
          (
            fit_row 0 [] (object_vtype ∷ []) (checkcast (refs.Class class)) (checkcast_fits 0 (refs.Class class) (class_named class named)) (omega arith),
            (
              fit_row 0 [] (types.Class class ∷ []) (field_insn GETFIELD class field) (getfield_fits 0 class field named desc) (omega arith),
              (
                fit_row 0 [] (ref_vtype type ∷ []) put_known (put_known_fits 0) (omega arith),
                (
                  fit_row 0 [] [] get_known (get_known_fits 0) (omega arith),
                  (
                    fit_row 0 [] (object_vtype ∷ []) (checkcast (refs.Class class)) (checkcast_fits 0 (refs.Class class) (class_named class named)) (omega arith),
                    (
                      fit_row 0 [] (types.Class class ∷ []) get_known (get_known_fits 0) (omega arith),
                      (
                        fit_row 0 [] (types.Class class ∷ object_vtype ∷ []) (checkcast type) (checkcast_fits 0 type formed) (omega arith),
                        (
                          fit_row 0 [] (types.Class class ∷ ref_vtype type ∷ []) (field_insn PUTFIELD class field) (putfield_fits 0 class field named desc) (omega arith),
                          ends_fit,
                        ),
                      ),
                    ),
                  ),
                ),
              ),
            ),
          ),
        )
        (omega arith)

-- ---- elements

objects_formed : IsRef 255 objects_type
objects_formed = record { dims = omega (arith, ref_dims-Array (refs.Class object_name)); named = subst IsTrue (sym (is_named-Array (refs.Class object_name))) refl }

pub elements_finishable : (shape : MethodShape) → words_in shape ≡ 0 → IsFinishable shape elements_item
elements_finishable shape none =
    item_finishable shape elements_item.rows none (
      fit_row 0 [] [] get_known (get_known_fits 0) (omega arith),
      (
        fit_row 0 [] (object_vtype ∷ []) (checkcast objects_type) (checkcast_fits 0 objects_type objects_formed) (omega arith),
        (
          fit_row 0 [] (ref_vtype objects_type ∷ []) (plain ICONST_0) (iconst_0_fits 0) (omega arith),
          (
            fit_row 0 [] (ref_vtype objects_type ∷ types.Integer ∷ []) (plain AALOAD) (aaload_fits 0) (omega arith),
            (
              fit_row 0 [] (object_vtype ∷ []) put_known (put_known_fits 0) (omega arith),
              (
                fit_row 0 [] [] get_known (get_known_fits 0) (omega arith),
                (
                  fit_row 0 [] (object_vtype ∷ []) (checkcast objects_type) (checkcast_fits 0 objects_type objects_formed) (omega arith),
                  (
                    fit_row 0 [] (ref_vtype objects_type ∷ []) (plain ICONST_0) (iconst_0_fits 0) (omega arith),
                    (
                      fit_row 0 [] (ref_vtype objects_type ∷ types.Integer ∷ []) get_known (get_known_fits 0) (omega arith),
                      (
                        fit_row 0 [] (ref_vtype objects_type ∷ types.Integer ∷ object_vtype ∷ []) (plain AASTORE) (aastore_fits 0) (omega arith),
                        ends_fit,
                      ),
                    ),
                  ),
                ),
              ),
            ),
          ),
        ),
      ),
    )
    (omega arith)
