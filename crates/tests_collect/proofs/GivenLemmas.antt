-- What collection asks of an application, from its tests.
use Rattle.std.proofs.Common.{◌≡◌, ℕ, ◌+◌, ◌<◌, ◌≤◌, ◌&&◌, ◌^◌, Bool, true, false, cond, inl, inr, List, [], ◌∷◌, Some, find, All, Contains, length, refl, sym, subst, arith}
use Rattle.std.specs.List.{list_all, slice_get}
use Rattle.std.specs.Cmp.Lexicographic.{bytes_decides}
use Rattle.std.proofs.lemmas.List.Elements.{All-contains}
use Rattle.jv_types.specs.declared.desc.MethodDesc.{MethodDesc}
use Rattle.jv_types.specs.declared.desc.RefType.{RefType}
use Rattle.jv_types.specs.declared.instruction.Arg.{Arg}
use Rattle.jv_types.specs.declared.instruction.Arg.TheVariants as args
use Rattle.jv_types.specs.declared.instruction.Const.TheVariants as consts
use Rattle.jv_types.specs.declared.instruction.Insn.{Insn}
use Rattle.jv_types.specs.declared.shapes.MethodShape.{MethodShape}
use Rattle.jv_types.specs.declared.shapes.Shape.{Shape}
use Rattle.jv_desc.specs.Texts.{ref_dims}
use Rattle.jv_world.specs.Worlds.{AreNumbered}
use Rattle.av_collected.proofs.Lists.{in_head, in_tail}
use Rattle.av_collected.specs.declared.method_body.MethodBody.{MethodBody}
use Rattle.av_collected.specs.Conditions.{AreGiven, IsMethodBody}
use Rattle.av_collected.specs.Libraries.{IsBounded}
use Rattle.av_collected.specs.Naming.{ArgHasDims, TypeHasDims}
use Rattle.av_collected.specs.Types.{MentionsDims}
use Rattle.tests_collect.specs.Bounds.{has_small_field, has_small_method, has_small_parts}
use Rattle.tests_collect.specs.Given.{IsFitBody, is_class_named, is_class_text, is_of_application, is_small_arg, is_small_item, is_small_row}
use Rattle.tests_collect.proofs.BoundLemmas.{all_at, first_of, second_of, small_field, small_method, small_part, small_type}

-- ---- the dimensions of operands

small_item : (type : RefType) → is_small_item type ≡ true → ref_dims type ≤ 254
unfolding is_small_item
small_item type h = grind arith

same_small : (dims other : ℕ) → other ≤ 254 → dims ≡ other → dims ≤ 255
same_small dims other small is = omega arith

type_dims : (op of_type dims : ℕ) → of_type ≤ 254 → TypeHasDims op of_type dims → dims ≤ 255
type_dims op of_type dims small (inl is) = same_small dims of_type small is
type_dims op of_type dims small (inr made) = let is : dims ≡ of_type + 1 = made.1 in omega arith

small_mention : (desc : MethodDesc) (dims : ℕ) → has_small_parts desc ≡ true → MentionsDims desc dims → dims ≤ 255
small_mention desc dims h part = subst (λ (d : ℕ). d ≤ 255) (sym part.2) (small_part desc h part.0 part.1)

small_arg : (op : ℕ) (arg : Arg) (dims : ℕ) → is_small_arg arg ≡ true → ArgHasDims op arg dims → dims ≤ 255
small_arg op (args.Constant (consts.Class type)) dims h is = same_small dims (ref_dims type) (small_item type h) is
small_arg op (args.Class type) dims h is = type_dims op (ref_dims type) dims (small_item type h) is
small_arg op (args.Multi type made) dims h is = same_small dims (ref_dims type) (small_item type h) is
small_arg op (args.Field r) dims h is = subst (λ (d : ℕ). d ≤ 255) (sym is) (small_type r.desc h)
small_arg op (args.Method r) dims h (inl is) = same_small dims (ref_dims r.class) (small_item r.class (first_of (is_small_item r.class) (has_small_parts r.desc) h)) is
small_arg op (args.Method r) dims h (inr part) = small_mention r.desc dims (second_of (is_small_item r.class) (has_small_parts r.desc) h) part
small_arg op _ dims h is = absurd cc

-- ---- the class of a method

module _ (name : List ℕ) where
  found_by : (b : Bool) (first : Shape) (shapes : List Shape) (shape : Shape) → is_class_named name first ≡ b
      → (find (is_class_named name) shapes ≡ Some shape → Contains shapes shape × (shape.name ≡ name)) → cond b (Some first) (find (is_class_named name) shapes) ≡ Some shape
      → Contains (first ∷ shapes) shape × (shape.name ≡ name)
  found_by true first shapes shape passed others e =
      let is : first ≡ shape = cc in
      (subst (λ (s : Shape). Contains (first ∷ shapes) s) is (in_head first shapes), subst (λ (s : Shape). s.name ≡ name) is ((bytes_decides first.name name).0 passed))
  found_by false first shapes shape failed others e = let other = others e in (in_tail first shapes shape other.0, other.1)

  class_found : (shapes : List Shape) (shape : Shape) → find (is_class_named name) shapes ≡ Some shape → Contains shapes shape × (shape.name ≡ name)
  class_found [] shape e = absurd cc
  class_found (first ∷ shapes) shape e = found_by (is_class_named name first) first shapes shape refl (class_found shapes shape) e

pub method_of : (shapes : List Shape) (method : MethodBody) (shape : Shape) (declared : MethodShape) (methods : List MethodShape) (place : ℕ)
    → find (is_class_named method.class) shapes ≡ Some shape → methods ≡ shape.methods → place ≡ method.index → slice_get methods place ≡ Some declared
    → IsMethodBody shapes method
method_of shapes method shape declared methods place found are is there =
    let at = class_found method.class shapes shape found in (
      shape,
      declared,
      at.0,
      at.1,
      subst (λ (i : ℕ). slice_get shape.methods i ≡ Some declared) is (subst (λ (l : List MethodShape). slice_get l place ≡ Some declared) are there),
    )

-- ---- all that is asked

marked : (shape : Shape) → is_of_application shape ≡ true → shape.application ≡ true
unfolding is_of_application
marked shape h = first_of shape.application (list_all has_small_field shape.fields && list_all has_small_method shape.methods) h

small_members : (shape : Shape) → is_of_application shape ≡ true → (list_all has_small_field shape.fields && list_all has_small_method shape.methods) ≡ true
unfolding is_of_application
small_members shape h = second_of shape.application (list_all has_small_field shape.fields && list_all has_small_method shape.methods) h

bounded : (shape : Shape) → length shape.fields < 2 ^ 16 → length shape.methods < 2 ^ 16 → is_of_application shape ≡ true → IsBounded shape
bounded shape few_fields few_methods h =
    let small = small_members shape h in
    let fields = first_of (list_all has_small_field shape.fields) (list_all has_small_method shape.methods) small in
    let methods = second_of (list_all has_small_field shape.fields) (list_all has_small_method shape.methods) small in
    record {
      fields = few_fields;
      methods = few_methods;
      field_dims = λ field there. small_field field (all_at has_small_field shape.fields fields field there);
      method_dims = λ method dims there part.
          subst (λ (d : ℕ). d ≤ 255) (sym part.2) (small_method method (all_at has_small_method shape.methods methods method there) part.0 part.1);
    }

pub are_given : (shapes : List Shape) (maps : List (List ℕ)) (bodies : List MethodBody) → length shapes ≤ 20000 → AreNumbered shapes
    → list_all is_of_application shapes ≡ true → list_all is_class_text maps ≡ true → All (IsFitBody shapes) bodies
    → AreGiven (record { shapes = shapes; maps = maps; bodies = bodies })
are_given shapes maps bodies few numbered own names fit = record {
  few = few;
  distinct = numbered.distinct;
  marked = λ shape there. marked shape (all_at is_of_application shapes own shape there);
  bounded = λ shape there. bounded shape (numbered.fields shape there) (numbered.methods shape there) (all_at is_of_application shapes own shape there);
  bodies = λ method there. let it : IsFitBody shapes method = All-contains (IsFitBody shapes) bodies method fit there in it.of;
  dims = λ insn dims has of.
      let it : IsFitBody shapes has.0 = All-contains (IsFitBody shapes) bodies has.0 fit has.2 in
      let row : is_small_arg has.1.1.arg ≡ true = all_at is_small_row has.0.body.insns it.small has.1 has.3 in
      small_arg insn.op insn.arg dims (subst (λ (i : Insn). is_small_arg i.arg ≡ true) has.4 row) of;
  maps = λ text there. inl (all_at is_class_text maps names text there);
}
