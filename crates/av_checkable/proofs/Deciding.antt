-- That a class is one of the six as it has to be is stable: where it isn't the case that it isn't, it is.
use Rattle.std.proofs.Common.{◌≡◌, ℕ, ◌⊎◌, inl, inr, List, [], ◌∷◌, Option, None, Some, Contains, refl, sym, ap, subst, ⊎_elim, arith}
use Rattle.std.specs.Prelude.{bit_and}
use Rattle.std.proofs.lemmas.Bool.{cases_lt}
use Rattle.jv_types.specs.declared.desc.Desc.{Desc}
use Rattle.jv_types.specs.declared.desc.MethodDesc.{MethodDesc}
use Rattle.jv_types.specs.declared.shapes.MethodShape.{MethodShape}
use Rattle.jv_types.specs.declared.shapes.Shape.{Shape}
use Rattle.jv_resolve.specs.Members.{init_name, IsAbstract, IsPrivate, IsStatic}
use Rattle.av_conditions.specs.CoreClasses.{DeclaresPlain, IsAsCore, IsPlain, finalize_name, void_desc}
use Rattle.av_collected.proofs.Lists.{in_head, in_tail, of_cons, in_none, same_name}

abbrev Decided : Type 0 → Type 0
Decided P = P ⊎ (P → ⊥)

stable : {P : Type 0} → Decided P → ((P → ⊥) → ⊥) → P
stable (inl p) h = p
stable (inr n) h = absurd (h n)

same_number : (a b : ℕ) → Decided (a ≡ b)
same_number a b =
    elim (cases_lt a b) [
      | inl l ↦ inr (λ e. absurd (omega (arith, l, e)))
      | inr g ↦ elim (cases_lt b a) [
        | inl l ↦ inr (λ e. absurd (omega (arith, l, e)))
        | inr h ↦ inl (omega (arith, g, h))
      ]
    ]

refuted : {P : Type 0} → Decided P → Decided (P → ⊥)
refuted (inl p) = inr (λ n. n p)
refuted (inr n) = inl n

no_params : (params : List Desc) → Decided (params ≡ [])
no_params [] = inl refl
no_params (d ∷ params) = inr (λ e. absurd cc)

no_result : (result : Option Desc) → Decided (result ≡ None)
no_result None = inl refl
no_result (Some d) = inr (λ e. absurd cc)

is_void : (desc : MethodDesc) → Decided (desc ≡ void_desc)
is_void desc = by (no_params desc.params) (no_result desc.result)
  where
    by : Decided (desc.params ≡ []) → Decided (desc.result ≡ None) → Decided (desc ≡ void_desc)
    by (inl p) (inl r) = inl (λ i. record { params = p i; result = r i })
    by (inl p) (inr n) = inr (λ e. n (ap (λ (d : MethodDesc). d.result) e))
    by (inr n) other = inr (λ e. n (ap (λ (d : MethodDesc). d.params) e))

is_plain : (name : List ℕ) (method : MethodShape) → Decided (IsPlain name method)
is_plain name method =
    by (same_name method.name name) (is_void method.desc) (refuted (same_number (bit_and method.flags.0 8) 8))
    (refuted (same_number (bit_and method.flags.0 2) 2)) (refuted (same_number (bit_and method.flags.0 1024) 1024))
  where
    by : Decided (method.name ≡ name) → Decided (method.desc ≡ void_desc) → Decided (IsStatic method.flags → ⊥) → Decided (IsPrivate method.flags → ⊥)
        → Decided (IsAbstract method.flags → ⊥) → Decided (IsPlain name method)
    by (inl a) (inl b) (inl c) (inl d) (inl e) = inl (a, b, c, d, e)
    by (inr n) b c d e = inr (λ p. n p.0)
    by (inl a) (inr n) c d e = inr (λ p. n p.1)
    by (inl a) (inl b) (inr n) d e = inr (λ p. n p.2)
    by (inl a) (inl b) (inl c) (inr n) e = inr (λ p. n p.3)
    by (inl a) (inl b) (inl c) (inl d) (inr n) = inr (λ p. n p.4)

some_of : {X : Type 0} (P : X → Type 0) → ((x : X) → Decided (P x)) → (xs : List X) → Decided ((x : X) × Contains xs x × P x)
some_of P decide [] = inr (λ h. in_none h.0 h.1)
some_of {X} P decide (y ∷ xs) = by (decide y) (some_of P decide xs)
  where
    by : Decided (P y) → Decided ((x : X) × Contains xs x × P x) → Decided ((x : X) × Contains (y ∷ xs) x × P x)
    by (inl p) other = inl (y, in_head y xs, p)
    by (inr n) (inl h) = inl (h.0, in_tail y xs h.0 h.1, h.2)
    by (inr n) (inr none) = inr (λ h. ⊎_elim (λ same. n (subst P (sym same) h.2)) (λ later. none (h.0, later, h.2)) (of_cons y xs h.0 h.1))

declares : (shape : Shape) (name : List ℕ) → Decided (DeclaresPlain shape name)
declares shape name = some_of (IsPlain name) (is_plain name) shape.methods

pub as_core : (shape : Shape) → ((IsAsCore shape → ⊥) → ⊥) → IsAsCore shape
as_core shape h = record {
  interface = λ core. stable (same_number (bit_and shape.flags.0 512) 512) (λ n. h (λ is. n (is.interface core)));
  class = λ core is_interface. h (λ is. is.class core is_interface);
  methods = λ named. (
    stable (declares shape init_name) (λ n. h (λ is. n (is.methods named).0)),
    stable (declares shape finalize_name) (λ n. h (λ is. n (is.methods named).1)),
  );
}
