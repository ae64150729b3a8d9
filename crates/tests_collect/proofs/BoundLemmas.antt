-- Bounds of what a library's class declares, from their tests.
use Rattle.std.proofs.Common.{◌≡◌, ℕ, ◌+◌, ◌≤◌, ◌&&◌, Bool, true, false, min, nat_le, inl, inr, List, [], ◌∷◌, Option, Some, Contains, length, refl, ap, sym, ◌∙◌, subst, arith}
use Rattle.std.specs.List.{list_all}
use Rattle.std.proofs.lemmas.Bool.Decides.{nat_tests}
use Rattle.jv_types.specs.declared.desc.Desc.{Desc}
use Rattle.jv_types.specs.declared.desc.MethodDesc.{MethodDesc}
use Rattle.jv_types.specs.declared.shapes.FieldShape.{FieldShape}
use Rattle.jv_types.specs.declared.shapes.MethodShape.{MethodShape}
use Rattle.jv_types.specs.declared.shapes.Shape.{Shape}
use Rattle.av_collected.proofs.Lists.{of_cons, in_none}
use Rattle.av_collected.specs.Libraries.{IsLibraryShape}
use Rattle.av_collected.specs.Types.{dims_of, IsPartOf}
use Rattle.tests_collect.specs.Bounds.{has_small_field, has_small_method, has_small_parts, is_small_result, is_small_type}

pub capped_more : (outer inner one more : ℕ) → outer ≡ inner + 1 → one ≡ min inner 65535 → more ≡ min (one + 1) 65535 → more ≡ min outer 65535
capped_more outer inner one more is capped added = omega arith

pub first_of : (a b : Bool) → (a && b) ≡ true → a ≡ true
first_of true b h = refl
first_of false b h = h

pub second_of : (a b : Bool) → (a && b) ≡ true → b ≡ true
second_of true b h = h
second_of false b h = absurd cc

pub all_at : {X : Type 0} (test : X → Bool) (xs : List X) → list_all test xs ≡ true → (x : X) → Contains xs x → test x ≡ true
all_at {X} test [] h x there = absurd (in_none x there)
all_at {X} test (y ∷ ys) h x there = elim (of_cons y ys x there) [
  | inl is ↦ subst (λ (z : X). test z ≡ true) is (first_of (test y) (list_all test ys) h)
  | inr behind ↦ all_at test ys (second_of (test y) (list_all test ys) h) x behind
]

pub small_type : (type : Desc) → is_small_type type ≡ true → dims_of type ≤ 255
unfolding is_small_type
small_type type h = grind arith

small_result : (result : Option Desc) (type : Desc) → is_small_result result ≡ true → result ≡ Some type → dims_of type ≤ 255
small_result result type h is = small_type type (subst (λ (o : Option Desc). is_small_result o ≡ true) is h)

pub small_part : (desc : MethodDesc) → has_small_parts desc ≡ true → (type : Desc) → IsPartOf desc type → dims_of type ≤ 255
unfolding has_small_parts
small_part desc h type (inl there) = small_type type (all_at is_small_type desc.params (first_of (list_all is_small_type desc.params) (is_small_result desc.result) h) type there)
small_part desc h type (inr is) = small_result desc.result type (second_of (list_all is_small_type desc.params) (is_small_result desc.result) h) is

pub small_field : (field : FieldShape) → has_small_field field ≡ true → dims_of field.desc ≤ 255
unfolding has_small_field
small_field field h = small_type field.desc h

pub small_method : (method : MethodShape) → has_small_method method ≡ true → (type : Desc) → IsPartOf method.desc type → dims_of type ≤ 255
unfolding has_small_method
small_method method h type part = small_part method.desc h type part

pub of_library : (shape : Shape) → shape.application ≡ false → length shape.fields ≤ 65535 → length shape.methods ≤ 65535
    → list_all has_small_field shape.fields ≡ true → list_all has_small_method shape.methods ≡ true → IsLibraryShape shape.name shape
of_library shape library few_fields few_methods fields methods = record {
  named = refl;
  of_library = library;
  bounded = record {
    fields = omega arith;
    methods = omega arith;
    field_dims = λ field there. small_field field (all_at has_small_field shape.fields fields field there);
    method_dims = λ method dims there part.
        subst (λ (d : ℕ). d ≤ 255) (sym part.2) (small_method method (all_at has_small_method shape.methods methods method there) part.0 part.1);
  };
}

pub ref_small : (desc : Desc) (dims capped : ℕ) → dims_of desc ≡ dims → capped ≡ min dims 65535 → nat_le capped 255 ≡ is_small_type desc
unfolding is_small_type
ref_small desc dims capped is cap = by (nat_le (dims_of desc) 255) refl
  where
    by : (b : Bool) → nat_le (dims_of desc) 255 ≡ b → nat_le capped 255 ≡ b
    by b h = grind (arith, nat_tests, is, cap, h)

pub small_both : (desc : MethodDesc) (types : List Desc) (each last : Bool) → types ≡ desc.params → each ≡ list_all is_small_type types → each ≡ true → last ≡ is_small_result desc.result
    → last ≡ has_small_parts desc
unfolding has_small_parts
small_both desc types each last are is passed ends =
    let all : list_all is_small_type desc.params ≡ true = subst (λ (l : List Desc). list_all is_small_type l ≡ true) are (sym is ∙ passed) in
    ends ∙ ap (λ (b : Bool). b && is_small_result desc.result) (sym all)
