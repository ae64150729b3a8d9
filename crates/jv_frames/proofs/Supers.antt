-- What is above Object and above an interface: interfaces and Object.
use Rattle.std.proofs.Common.{◌≡◌, ℕ, zero, suc, ◌+◌, ◌⊎◌, ◌<◌, ◌≤◌, List, Some, None, Option, Contains, slice_get, refl, sym, ap, ◌∙◌, subst, inl, inr, arith}
use Rattle.std.proofs.lemmas.Option.{same_Some}
use Rattle.std.specs.Prelude.{MatchOption}
use Rattle.jv_lists.proofs.Places.{among_at}
use Rattle.jv_types.specs.declared.shapes.Shape.{Shape}
use Rattle.jv_world.specs.Worlds.{object_name, IsNamed, IsInterface, IsFinal, HasSuperclass, HasSuper, IsWorld, Sub, same, link}
use Rattle.jv_world.specs.Instances.{IsSubNamed, IsInterfaceNamed}
use Rattle.jv_frames.specs.Assignable.{IsClassAssignable}

pub Sub-trans : (w : List Shape) (b c d : ℕ) → Sub w b c → Sub w c d → Sub w b d
Sub-trans w b c d (same _ _ is) rest = subst (λ (x : ℕ). Sub w x d) (sym is) rest
Sub-trans w b c d (link _ m _ first more) rest = link b m d first (Sub-trans w m c d more rest)

-- ranks fall upward
Sub-rank : (w : List Shape) (world : IsWorld w) (b d : ℕ) → Sub w b d → world.rank d ≤ world.rank b
Sub-rank w world b d (same _ _ is) = subst (λ (x : ℕ). world.rank x ≤ world.rank b) is (omega arith)
Sub-rank w world b d (link _ m _ first more) =
    let falls : world.rank m < world.rank b = world.falls b m first in
    let rest : world.rank d ≤ world.rank m = Sub-rank w world m d more in
    omega arith

-- the superclass of a class, where there is one
pub data Parent (shape : Shape) : Type 0 where
  has_none : shape.parent ≡ None → Parent shape
  has_one : (name : List ℕ) → shape.parent ≡ Some name → Parent shape

parent_of : (shape : Shape) → Parent shape
parent_of shape = by shape.parent refl
  where
    by : (p : Option (List ℕ)) → shape.parent ≡ p → Parent shape
    by None e = has_none e
    by (Some name) e = has_one name e

-- Object is above a class of a rank below n, put as what can't fail
abbrev LiesBelow : (w : List Shape) → IsWorld w → ℕ → Type 0
LiesBelow w world n =
    (c : ℕ) (shape : Shape) → world.rank c < n → slice_get w c ≡ Some shape → ((o : ℕ) → IsNamed w o object_name → Sub w c o → ⊥) → ⊥

LiesBelow-by : (w : List Shape) (world : IsWorld w) (n c : ℕ) (shape : Shape) → LiesBelow w world n → world.rank c < n + 1 → slice_get w c ≡ Some shape
    → ((o : ℕ) → IsNamed w o object_name → Sub w c o → ⊥) → Parent shape → ⊥
LiesBelow-by w world n c shape lower below at none (has_none e) =
    let right = (world.right_supers shape (among_at w c shape at)).superclass in
    let P : Option (List ℕ) → Type 0 =
    λ p. MatchOption p (shape.name ≡ object_name) (λ name. (other : Shape) → Contains w other → other.name ≡ name → (IsInterface other → ⊥) × (IsFinal other → ⊥)) in
    none c (shape, at, subst P e right) (same c c refl)
LiesBelow-by w world n c shape lower below at none (has_one name e) =
    world.none_absent name
    (record {
      shape = shape;
      here = among_at w c shape at;
      names = inl e;
      nowhere = λ d named.
          let up : HasSuper w c d = inl (shape, name, at, e, named) in
          let falls : world.rank d < world.rank c = world.falls c d up in
          lower d named.0 (omega arith) named.1 (λ o is_object sub. none o is_object (link c d o up sub));
    })

Object_above : (w : List Shape) (world : IsWorld w) (n : ℕ) → LiesBelow w world n
Object_above w world zero c shape below at none = absurd (omega arith)
Object_above w world (suc n) c shape below at none = LiesBelow-by w world n c shape (Object_above w world n) (omega arith) at none (parent_of shape)

-- Object has no superclass
Object_is_top : (w : List Shape) (world : IsWorld w) (c d : ℕ) → IsNamed w c object_name → HasSuperclass w c d → ⊥
Object_is_top w world c d named super =
    let below = super.4 in
    let falls : world.rank d < world.rank c = world.falls c d (inl super) in
    Object_above w world (world.rank d + 1) d below.0 (omega arith) below.1
    (λ o is_object sub.
    let one : o ≡ c = world.numbered.distinct o c object_name is_object named in
    let rises : world.rank o ≤ world.rank d = Sub-rank w world d o sub in
    let is : world.rank o ≡ world.rank c = ap world.rank one in
    omega arith)

-- Object or an interface
abbrev IsTop : List Shape → ℕ → Type 0
IsTop w d = IsNamed w d object_name ⊎ ((shape : Shape) × (slice_get w d ≡ Some shape) × IsInterface shape)

IsTop-link : (w : List Shape) → IsWorld w → (c m : ℕ) → HasSuper w c m → IsTop w c → IsTop w m
IsTop-link w world c m (inl super) (inl named) = absurd (Object_is_top w world c m named super)
IsTop-link w world c m (inl super) (inr interface) =
    let own : interface.0 ≡ super.0 = same_Some interface.0 super.0 (sym interface.1 ∙ super.2) in
    let right = world.right_supers super.0 (among_at w c super.0 super.2) in
    let parent : super.0.parent ≡ Some object_name = right.of_interface (subst IsInterface own interface.2) in
    let name : super.1 ≡ object_name = same_Some super.1 object_name (sym super.3 ∙ parent) in
    inl (subst (IsNamed w m) name super.4)
IsTop-link w world c m (inr super) top =
    let right = world.right_supers super.0 (among_at w c super.0 super.2) in
    let named = super.4 in
    inr
    (named.0, named.1, right.superinterfaces named.0 (among_at w m named.0 named.1) (subst (λ (x : List ℕ). Contains super.0.interfaces x) (sym named.2) super.3))

IsTop-sub : (w : List Shape) → IsWorld w → (c d : ℕ) → Sub w c d → IsTop w c → IsTop w d
IsTop-sub w world c d (same _ _ is) top = subst (IsTop w) is top
IsTop-sub w world c d (link _ m _ first more) top = IsTop-sub w world m d more (IsTop-link w world c m first top)

IsTop-named : (w : List Shape) (d : ℕ) (name : List ℕ) → IsNamed w d name → IsTop w d → (name ≡ object_name) ⊎ IsInterfaceNamed w name
IsTop-named w d name named (inl is_object) =
    let own : named.0 ≡ is_object.0 = same_Some named.0 is_object.0 (sym named.1 ∙ is_object.1) in
    inl (sym named.2 ∙ ap (λ (s : Shape). s.name) own ∙ is_object.2)
IsTop-named w d name named (inr interface) =
    let own : named.0 ≡ interface.0 = same_Some named.0 interface.0 (sym named.1 ∙ interface.1) in
    inr (d, interface.0, interface.1, ap (λ (s : Shape). s.name) (sym own) ∙ named.2, interface.2)

-- classes and interfaces are assignable by way of others
pub classes_compose : (w : List Shape) → IsWorld w → (n o p : List ℕ) → IsClassAssignable w n o → IsClassAssignable w o p → IsClassAssignable w n p
classes_compose w world n o p first (inr top) = inr top
classes_compose w world n o p first (inl (inl e)) = subst (λ (x : List ℕ). IsClassAssignable w n x) e first
classes_compose w world n o p (inl (inl e)) (inl (inr links)) = inl (subst (λ (x : List ℕ). IsSubNamed w x p) (sym e) (inr links))
classes_compose w world n o p (inl (inr lower)) (inl (inr upper)) =
    let mid : lower.1 ≡ upper.0 = world.numbered.distinct lower.1 upper.0 o lower.3 upper.2 in
    inl (inr (lower.0, upper.1, lower.2, upper.3, Sub-trans w lower.0 lower.1 upper.1 lower.4 (subst (λ (x : ℕ). Sub w x upper.1) (sym mid) upper.4)))
classes_compose w world n o p (inr (inl e)) (inl (inr upper)) =
    inr (IsTop-named w upper.1 p upper.3 (IsTop-sub w world upper.0 upper.1 upper.4 (inl (subst (IsNamed w upper.0) e upper.2))))
classes_compose w world n o p (inr (inr interface)) (inl (inr upper)) =
    let mid : interface.0 ≡ upper.0 = world.numbered.distinct interface.0 upper.0 o (interface.1, interface.2, interface.3) upper.2 in
    let at : slice_get w upper.0 ≡ Some interface.1 = subst (λ (x : ℕ). slice_get w x ≡ Some interface.1) mid interface.2 in
    inr (IsTop-named w upper.1 p upper.3 (IsTop-sub w world upper.0 upper.1 upper.4 (inr (interface.1, at, interface.4))))
