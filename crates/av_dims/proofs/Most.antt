-- The greatest number of a list, one element after another.
use Rattle.std.proofs.Common.{◌≡◌, ℕ, ◌+◌, ◌<◌, ◌≤◌, ◌⊎◌, inl, inr, List, [], ◌∷◌, ◌++◌, Option, None, Some, IfSome, IfNone, min, length, take, get_or, Contains, refl, sym, ap, ◌∙◌, subst, arith, ⊎_elim}
use Rattle.std.proofs.lemmas.List.{take_all, take_more}
use Rattle.std.proofs.lemmas.List.Elements.{Contains-append_left, Contains-push, Contains-push_cases}
use Rattle.jv_types.specs.declared.desc.Desc.{Desc}
use Rattle.jv_types.specs.declared.desc.MethodDesc.{MethodDesc}
use Rattle.jv_types.specs.declared.desc.RefType.{RefType, Array}
use Rattle.jv_desc.specs.Texts.{ref_dims}
use Rattle.jv_desc.proofs.Layers.{ref_dims-Array}
use Rattle.av_collected.specs.Types.{dims_of, MentionsDims}
use Rattle.jv_types.specs.declared.instruction.Arg.{Arg}
use Rattle.jv_types.specs.declared.instruction.Arg.TheVariants.{Method}
use Rattle.jv_types.specs.declared.references.MethodRef.{MethodRef}
use Rattle.jv_types.specs.declared.shapes.Shape.{Shape}
use Rattle.jv_types.specs.declared.instruction.Const.{Const}
use Rattle.av_collected.specs.Naming.{ArgHasDims, ConstHasDims}
use Rattle.jv_names.specs.Naming.{IsTypeText}
use Rattle.jv_names.proofs.NamedOnce.{one_type_text}
use Rattle.av_dims.specs.Greatest.{IsGreatest, OfSome, DescDims, FieldDims, MethodDims, ShapeDims, TextDims}

none_there : {X : Type 0} (x : X) → Contains [] x → ⊥
none_there x h = absurd (omega (arith, h.1))

pub greatest_none : (P : ℕ → Type 0) → ((dims : ℕ) → P dims → ⊥) → IsGreatest P 1
greatest_none P none = record { least = omega arith; above = λ other p. absurd (none other p); reached = inl refl }

-- the greatest of one number and 1
pub greatest_one : (P : ℕ → Type 0) (one dims : ℕ) → ((other : ℕ) → P other → other ≡ one) → P one → 1 ≤ dims → one ≤ dims → (dims ≡ 1) ⊎ (dims ≡ one) → IsGreatest P dims
greatest_one P one dims only here least above which = record {
  least = least;
  above = λ other p. let e = only other p in omega (arith, e, above);
  reached = ⊎_elim (λ is. inl is) (λ is. inr (subst P (sym is) here)) which;
}

pub greatest_both : (P Q R : ℕ → Type 0) (a b dims : ℕ) → ((other : ℕ) → R other → P other ⊎ Q other) → ((other : ℕ) → P other → R other) → ((other : ℕ) → Q other → R other)
    → IsGreatest P a → IsGreatest Q b → a ≤ dims → b ≤ dims → (dims ≡ a) ⊎ (dims ≡ b) → IsGreatest R dims
greatest_both P Q R a b dims parts left right p q la lb which = record {
  least = let l = p.least in omega (arith, l, la);
  above = λ other r. ⊎_elim (λ h. let l = p.above other h in omega (arith, l, la)) (λ h. let l = q.above other h in omega (arith, l, lb)) (parts other r);
  reached =
      ⊎_elim
      (λ (is : dims ≡ a). ⊎_elim (λ one. inl (is ∙ one)) (λ h. inr (subst R (sym is) (left a h))) p.reached)
      (λ (is : dims ≡ b). ⊎_elim (λ one. inl (is ∙ one)) (λ h. inr (subst R (sym is) (right b h))) q.reached)
      which;
}

-- with a single number beside
pub greatest_with : (P Q R : ℕ → Type 0) (a one dims : ℕ) → ((other : ℕ) → R other → P other ⊎ Q other) → ((other : ℕ) → P other → R other) → ((other : ℕ) → Q other → R other)
    → IsGreatest P a → ((other : ℕ) → Q other → other ≡ one) → Q one → a ≤ dims → one ≤ dims → (dims ≡ a) ⊎ (dims ≡ one) → IsGreatest R dims
greatest_with P Q R a one dims parts left right p only here la lb which = record {
  least = let l = p.least in omega (arith, l, la);
  above = λ other r. ⊎_elim (λ h. let l = p.above other h in omega (arith, l, la)) (λ h. let l = only other h in omega (arith, l, lb)) (parts other r);
  reached =
      ⊎_elim
      (λ (is : dims ≡ a). ⊎_elim (λ lone. inl (is ∙ lone)) (λ h. inr (subst R (sym is) (left a h))) p.reached)
      (λ (is : dims ≡ one). inr (subst R (sym is) (right one here)))
      which;
}

module _ {X : Type 0} (P : X → ℕ → Type 0) where
  pub each_none : (xs : List X) → IsGreatest (OfSome P (take 0 xs)) 1
  each_none xs = greatest_none (OfSome P (take 0 xs)) (λ dims h. none_there h.0 h.1)

  parts : (xs : List X) (k : ℕ) (x : X) → k < length xs → x ≡ get_or xs k x → take (k + 1) xs ≡ take k xs ++ x ∷ []
  parts xs k x within is = take_more xs k x within ∙ ap (λ (z : X). take k xs ++ z ∷ []) (sym is)

  split : (xs : List X) (k : ℕ) (x : X) → k < length xs → x ≡ get_or xs k x → (other : ℕ) → OfSome P (take (k + 1) xs) other → OfSome P (take k xs) other ⊎ P x other
  split xs k x within is other h =
      ⊎_elim (λ old. inl (h.0, old, h.2)) (λ (same : x ≡ h.0). inr (subst (λ (z : X). P z other) (sym same) h.2))
      (Contains-push_cases (take k xs) x h.0 (subst (λ (l : List X). Contains l h.0) (parts xs k x within is) h.1))

  earlier : (xs : List X) (k : ℕ) (x : X) → k < length xs → x ≡ get_or xs k x → (other : ℕ) → OfSome P (take k xs) other → OfSome P (take (k + 1) xs) other
  earlier xs k x within is other h =
      (h.0, subst (λ (l : List X). Contains l h.0) (sym (parts xs k x within is)) (Contains-append_left (take k xs) (x ∷ []) h.0 h.1), h.2)

  latest : (xs : List X) (k : ℕ) (x : X) → k < length xs → x ≡ get_or xs k x → (other : ℕ) → P x other → OfSome P (take (k + 1) xs) other
  latest xs k x within is other p =
      (x, subst (λ (l : List X). Contains l x) (sym (parts xs k x within is)) (Contains-push (take k xs) x), p)

  pub each_more : (xs : List X) (k : ℕ) (x : X) (a b dims : ℕ) → k < length xs → x ≡ get_or xs k x → IsGreatest (OfSome P (take k xs)) a → IsGreatest (P x) b
      → a ≤ dims → b ≤ dims → (dims ≡ a) ⊎ (dims ≡ b) → IsGreatest (OfSome P (take (k + 1) xs)) dims
  each_more xs k x a b dims within is before now la lb which =
      greatest_both (OfSome P (take k xs)) (P x) (OfSome P (take (k + 1) xs)) a b dims (split xs k x within is) (earlier xs k x within is) (latest xs k x within is) before now la lb which

  pub one_more : (xs : List X) (k : ℕ) (x : X) (a one dims : ℕ) → k < length xs → x ≡ get_or xs k x → IsGreatest (OfSome P (take k xs)) a → ((other : ℕ) → P x other → other ≡ one) → P x one
      → a ≤ dims → one ≤ dims → (dims ≡ a) ⊎ (dims ≡ one) → IsGreatest (OfSome P (take (k + 1) xs)) dims
  one_more xs k x a one dims within is before only here la lb which =
      greatest_with (OfSome P (take k xs)) (P x) (OfSome P (take (k + 1) xs)) a one dims (split xs k x within is) (earlier xs k x within is) (latest xs k x within is) before only here la lb which

  pub each_all : (xs : List X) (n dims : ℕ) → length xs ≤ n → IsGreatest (OfSome P (take n xs)) dims → IsGreatest (OfSome P xs) dims
  each_all xs n dims past h = subst (λ (l : List X). IsGreatest (OfSome P l) dims) (take_all n xs past) h

  -- an element of the list
  pub small_at : (xs : List X) (k : ℕ) (x : X) → k < length xs → x ≡ get_or xs k x → ((dims : ℕ) → OfSome P xs dims → dims ≤ 255) → (dims : ℕ) → P x dims → dims ≤ 255
  small_at xs k x within is small dims p = small dims (x, (k, within, sym is), p)

-- ---- types

pub dims_of_array : (of item got : RefType) → of ≡ Array item → got ≡ item → ref_dims of ≡ ref_dims got + 1
dims_of_array of item got e f = ap ref_dims e ∙ ref_dims-Array item ∙ ap (λ (t : RefType). ref_dims t + 1) (sym f)

pub of_params : (desc : MethodDesc) (dims : ℕ) → OfSome DescDims desc.params dims → MentionsDims desc dims
of_params desc dims h = (h.0, inl h.1, h.2)

pub of_result : (desc : MethodDesc) (of : Desc) → desc.result ≡ Some of → (dims : ℕ) → dims ≡ dims_of of → MentionsDims desc dims
of_result desc of is dims e = (of, inr is, e)

some_is : {X : Type 0} (x y : X) → Some x ≡ Some y → x ≡ y
some_is x y e = cc

pub parts_of : (desc : MethodDesc) (of : Desc) → desc.result ≡ Some of → (dims : ℕ) → MentionsDims desc dims → OfSome DescDims desc.params dims ⊎ (dims ≡ dims_of of)
parts_of desc of is dims (type, inl param, e) = inl (type, param, e)
parts_of desc of is dims (type, inr result, e) = inr (e ∙ ap dims_of (some_is type of (sym result ∙ is)))

pub no_result : (desc : MethodDesc) (dims params : ℕ) → desc.result ≡ None → IsGreatest (OfSome DescDims desc.params) params → IsGreatest (MentionsDims desc) params
no_result desc dims params none g = record {
  least = g.least;
  above = λ other h. by other h;
  reached = ⊎_elim (λ one. inl one) (λ h. inr (of_params desc params h)) g.reached;
}
  where
    by : (other : ℕ) → MentionsDims desc other → other ≤ params
    by other (type, inl param, e) = g.above other (type, param, e)
    by other (type, inr result, e) = let clash : None ≡ Some type = sym none ∙ result in absurd cc

pub capped_more : (outer inner one more : ℕ) → outer ≡ inner + 1 → one ≡ min inner 255 → more ≡ min (one + 1) 255 → more ≡ min outer 255
capped_more outer inner one more is capped added = omega arith

-- ---- texts

pub text_none : (text bytes : List ℕ) (o : Option RefType) → bytes ≡ text → o ≡ None → IfNone o ((of : RefType) → IsTypeText bytes of → ⊥) → IsGreatest (TextDims text) 1
text_none text bytes o same is none =
    let no : (of : RefType) → IsTypeText bytes of → ⊥ = subst (λ (x : Option RefType). IfNone x ((of : RefType) → IsTypeText bytes of → ⊥)) is none in
    greatest_none (TextDims text) (λ dims h. no h.0 (subst (λ (t : List ℕ). IsTypeText t h.0) (sym same) h.1))

pub text_is : (text bytes : List ℕ) (o : Option RefType) (of : RefType) → bytes ≡ text → o ≡ Some of → IfSome o (IsTypeText bytes) → IsTypeText text of
text_is text bytes o of same is some = subst (λ (t : List ℕ). IsTypeText t of) same (subst (λ (x : Option RefType). IfSome x (IsTypeText bytes)) is some)

pub text_small : (text : List ℕ) (of : RefType) → IsTypeText text of → ((dims : ℕ) → TextDims text dims → dims ≤ 255) → ref_dims of ≤ 255
text_small text of is small = small (ref_dims of) (of, is, refl)

pub text_some : (text : List ℕ) (of : RefType) (one dims : ℕ) → IsTypeText text of → one ≡ ref_dims of → 1 ≤ dims → one ≤ dims → (dims ≡ 1) ⊎ (dims ≡ one) → IsGreatest (TextDims text) dims
text_some text of one dims is e least above which =
    greatest_one (TextDims text) one dims (λ other h. h.2 ∙ ap ref_dims (one_type_text text h.0 of h.1 is) ∙ sym e) (of, is, e) least above which

-- ---- the two lists of a class

pub in_parts : {X : Type 0} (P : X → ℕ → Type 0) (xs ys : List X) (Q : ℕ → Type 0) → xs ≡ ys → ((dims : ℕ) → OfSome P ys dims → Q dims) → (dims : ℕ) → OfSome P xs dims → Q dims
in_parts {X} P xs ys Q e h dims o = h dims (subst (λ (l : List X). OfSome P l dims) e o)

pub greatest_at : {X : Type 0} (P : X → ℕ → Type 0) (xs ys : List X) (dims : ℕ) → xs ≡ ys → IsGreatest (OfSome P xs) dims → IsGreatest (OfSome P ys) dims
greatest_at {X} P xs ys dims e g = subst (λ (l : List X). IsGreatest (OfSome P l) dims) e g

pub in_shape : (shape : Shape) (a b dims : ℕ) → IsGreatest (OfSome FieldDims shape.fields) a → IsGreatest (OfSome MethodDims shape.methods) b → a ≤ dims → b ≤ dims → (dims ≡ a) ⊎ (dims ≡ b) → IsGreatest (ShapeDims shape) dims
in_shape shape a b dims f m la lb which =
    greatest_both (OfSome FieldDims shape.fields) (OfSome MethodDims shape.methods) (ShapeDims shape) a b dims (λ other h. h) (λ other h. inl h) (λ other h. inr h) f m la lb which

-- ---- operands

pub small_arg : (op : ℕ) (arg other : Arg) → arg ≡ other → ((dims : ℕ) → ArgHasDims op arg dims → dims ≤ 255) → (dims : ℕ) → ArgHasDims op other dims → dims ≤ 255
small_arg op arg other is small = subst (λ (a : Arg). (dims : ℕ) → ArgHasDims op a dims → dims ≤ 255) is small

pub small_const : (constant other : Const) → constant ≡ other → ((dims : ℕ) → ConstHasDims constant dims → dims ≤ 255) → (dims : ℕ) → ConstHasDims other dims → dims ≤ 255
small_const constant other is small = subst (λ (k : Const). (dims : ℕ) → ConstHasDims k dims → dims ≤ 255) is small

pub greatest_arg : (op : ℕ) (arg other : Arg) (most : ℕ) → arg ≡ other → IsGreatest (ArgHasDims op other) most → IsGreatest (ArgHasDims op arg) most
greatest_arg op arg other most is g = subst (λ (a : Arg). IsGreatest (ArgHasDims op a) most) (sym is) g

pub in_reference : (op : ℕ) (r : MethodRef) (class method dims : ℕ) → class ≡ ref_dims r.class → IsGreatest (MentionsDims r.desc) method → class ≤ dims → method ≤ dims → (dims ≡ class) ⊎ (dims ≡ method)
    → IsGreatest (ArgHasDims op (Method r)) dims
in_reference op r class method dims is g la lb which =
    greatest_with (MentionsDims r.desc) (λ other. other ≡ ref_dims r.class) (ArgHasDims op (Method r)) method class dims
    (λ other h. ⊎_elim (λ e. inr e) (λ m. inl m) h) (λ other m. inr m) (λ other e. inl e) g (λ other e. e ∙ sym is) is lb la (⊎_elim (λ e. inr e) (λ e. inl e) which)

pub in_method : (desc : MethodDesc) (of : Desc) (params one dims : ℕ) → desc.result ≡ Some of → IsGreatest (OfSome DescDims desc.params) params → one ≡ dims_of of → params ≤ dims → one ≤ dims → (dims ≡ params) ⊎ (dims ≡ one)
    → IsGreatest (MentionsDims desc) dims
in_method desc of params one dims is g e la lb which =
    greatest_with (OfSome DescDims desc.params) (λ other. other ≡ dims_of of) (MentionsDims desc) params one dims
    (parts_of desc of is) (of_params desc) (of_result desc of is) g (λ other h. h ∙ sym e) e la lb which
