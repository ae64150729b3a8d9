-- Laws of the links of a world.
use Rattle.std.proofs.Common.{◌≡◌, ℕ, zero, suc, ◌<◌, ◌≤◌, List, Some, length, subst, sym, ◌∙◌, ap, arith, ◌⊎◌, inl, inr, refl}
use Rattle.std.specs.Prelude.{IsTrue, ◌↔◌, not, true, nat_eq}
use Rattle.std.proofs.Common.{eq-eqb}
use Rattle.std.proofs.lemmas.Bool.{ne_eqb}
use Rattle.std.specs.List.{slice_get}
use Rattle.std.proofs.lemmas.Option.{slice_get_within}
use Rattle.jv_types.specs.declared.shapes.Shape.{Shape}
use Rattle.jv_world.specs.Worlds.{Climbs, IsNamed, HasSuperclass, HasSuper, Sub, same, link, ProperSub, IsWorld}

-- one class has one shape
pub one_shape : (w : List Shape) (c : ℕ) (s t : Shape) → slice_get w c ≡ Some s → slice_get w c ≡ Some t → s ≡ t
one_shape w c s t p q = let e : Some s ≡ Some t = sym p ∙ q in cc

pub named_here : (w : List Shape) (c : ℕ) (name : List ℕ) → IsNamed w c name → c < length w
named_here w c name named = slice_get_within w c named.0 named.1

-- a class has one superclass
pub one_superclass : (w : List Shape) (c d e : ℕ) → IsWorld w → HasSuperclass w c d → HasSuperclass w c e → d ≡ e
one_superclass w c d e world p q =
    let shapes : p.0 ≡ q.0 = one_shape w c p.0 q.0 p.2 q.2 in
    let names : Some p.1 ≡ Some q.1 = sym p.3 ∙ ap (λ (s : Shape). s.parent) shapes ∙ q.3 in
    let name_is : p.1 ≡ q.1 = cc in
    world.numbered.distinct d e q.1 (subst (λ (n : List ℕ). IsNamed w d n) name_is p.4) q.4

pub super_here : (w : List Shape) (c d : ℕ) → HasSuper w c d → d < length w
super_here w c d (inl p) = named_here w d p.1 p.4
super_here w c d (inr p) = named_here w d p.1 p.4

pub sub_here : (w : List Shape) (c d : ℕ) → c < length w → Sub w c d → d < length w
sub_here w c d here (same x y e) = subst (λ (n : ℕ). n < length w) e here
sub_here w c d here (link x y z step rest) = sub_here w y z (super_here w x y step) rest

pub proper_here : (w : List Shape) (c d : ℕ) → ProperSub w c d → d < length w
proper_here w c d p = sub_here w p.0 d (super_here w c p.0 p.1) p.2

pub sub_trans : (w : List Shape) (a b c : ℕ) → Sub w a b → Sub w b c → Sub w a c
sub_trans w a b c (same x y e) h = subst (λ (n : ℕ). Sub w n c) (sym e) h
sub_trans w a b c (link x y z step rest) h = link x y c step (sub_trans w y z c rest h)

pub sub_itself : (w : List Shape) (c : ℕ) → Sub w c c
sub_itself w c = same c c refl

pub sub_from_proper : (w : List Shape) (c d : ℕ) → ProperSub w c d → Sub w c d
sub_from_proper w c d p = link c p.0 d p.1 p.2

pub sub_from_super : (w : List Shape) (c d : ℕ) → HasSuper w c d → Sub w c d
sub_from_super w c d step = link c d d step (sub_itself w d)

-- a subtype is the class itself or a proper one
pub sub_cases : (w : List Shape) (c d : ℕ) → Sub w c d → (c ≡ d) ⊎ ProperSub w c d
sub_cases w c d (same x y e) = inl e
sub_cases w c d (link x y z step rest) = inr (y, step, rest)

-- ranks never rise along links, and fall along proper ones
pub sub_rank : (w : List Shape) (world : IsWorld w) (c d : ℕ) → Sub w c d → world.rank d ≤ world.rank c
sub_rank w world c d (same x y e) = let k = ap world.rank e in omega arith
sub_rank w world c d (link x y z step rest) =
    let a = sub_rank w world y z rest in
    let b = world.falls x y step in
    omega arith

pub proper_rank : (w : List Shape) (world : IsWorld w) (c d : ℕ) → ProperSub w c d → world.rank d < world.rank c
proper_rank w world c d p =
    let a = sub_rank w world p.0 d p.2 in
    let b = world.falls c p.0 p.1 in
    omega arith

pub not_below_itself : (w : List Shape) → IsWorld w → (c d : ℕ) → ProperSub w c d → c ≡ d → ⊥
not_below_itself w world c d p e =
    let a = proper_rank w world c d p in
    let b = ap world.rank e in
    omega arith

-- ---- climbing

pub climbs_more : (w : List Shape) (n : ℕ) (c d e : ℕ) → Climbs w n c d → HasSuperclass w d e → Climbs w (suc n) c e
climbs_more w zero c d e p step = (e, subst (λ (x : ℕ). HasSuperclass w x e) (sym p) step, refl)
climbs_more w (suc n) c d e p step = (p.0, p.1, climbs_more w n p.0 d e p.2 step)

pub one_climb : (w : List Shape) → IsWorld w → (n c d e : ℕ) → Climbs w n c d → Climbs w n c e → d ≡ e
one_climb w world zero c d e p q = sym p ∙ q
one_climb w world (suc n) c d e p q =
    one_climb w world n q.0 d e (subst (λ (x : ℕ). Climbs w n x d) (one_superclass w c p.0 q.0 world p.1 q.1) p.2) q.2

-- past the last class there is none
pub climbs_past : (w : List Shape) → IsWorld w → (m n c d e : ℕ) → Climbs w m c d → Climbs w n c e → m < n → (x : ℕ) × HasSuperclass w d x
climbs_past w world zero zero c d e p q lt = absurd (omega arith)
climbs_past w world zero (suc n) c d e p q lt = (q.0, subst (λ (y : ℕ). HasSuperclass w y q.0) p q.1)
climbs_past w world (suc m) zero c d e p q lt = absurd (omega arith)
climbs_past w world (suc m) (suc n) c d e p q lt =
    let lower : m < n = omega arith in
    climbs_past w world m n p.0 d e p.2 (subst (λ (x : ℕ). Climbs w n x e) (one_superclass w c q.0 p.0 world q.1 p.1) q.2) lower

-- a subtype that is another class is a proper one
pub below_exactly : (w : List Shape) (c d : ℕ) → IsWorld w → Sub w c d → IsTrue (not (nat_eq c d)) ↔ ProperSub w c d
below_exactly w c d world s = (
  λ t. elim (sub_cases w c d s) [
    | inl e ↦ absurd (let y : nat_eq c d ≡ true = eq-eqb c d e in let f : not true ≡ true = ap not (sym y) ∙ t in cc)
    | inr p ↦ p
  ],
  λ p. ap not (ne_eqb c d (not_below_itself w world c d p)),
)
