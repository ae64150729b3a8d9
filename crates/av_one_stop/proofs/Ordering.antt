-- The methods of class files stop once, or all of them pass and are one list.
use Rattle.std.proofs.Common.{◌≡◌, ℕ, suc, ◌<◌, ◌⊎◌, inl, inr, List, [], ◌∷◌, Some, Contains, slice_get, refl, sym, ap, ◌∙◌, subst, arith}
use Rattle.std.proofs.lemmas.Bool.{cases_lt}
use Rattle.std.proofs.lemmas.Option.{same_Some, slice_get-get_or}
use Rattle.jv_types.specs.declared.frames.FramedBody.{FramedBody}
use Rattle.jv_types.specs.declared.ids.MethodId.{MethodId}
use Rattle.jv_types.specs.declared.refusal.RulePlace.{RulePlace}
use Rattle.jv_types.specs.declared.refusal.RulePlace.TheVariants as places
use Rattle.jv_types.specs.declared.rule.Rule.{Rule}
use Rattle.jv_types.specs.declared.shapes.Shape.{Shape}
use Rattle.jv_class.specs.declared.class_file.ClassFile.{ClassFile}
use Rattle.jv_class.specs.declared.class_file.Member.{Member}
use Rattle.jv_resolve.proofs.MembersLemmas.{method_is}
use Rattle.jv_resolve.proofs.PlacesLemmas.{among_from_get}
use Rattle.av_stops.specs.MethodRules.{AreAccepted, ComesBefore, FailsMethod, IsAccepted, IsMember, IsPlaceOf, PassesMethod, StopsAtMethod}
use Rattle.av_stops.specs.Programs.{IsOfFile}
use Rattle.av_one_application.proofs.Orders.{Rises, same_rising}

-- the laws on one method
pub record Laws : Type 0 where
  pub failure : (w : List Shape) (class : ClassFile) (id : MethodId) (member : Member) (rule another : Rule) (pc other : ℕ) → IsOfFile class → Contains class.methods member
      → FailsMethod w class id member rule pc → FailsMethod w class id member another other → (rule ≡ another) × (pc ≡ other)
  pub apart : (w : List Shape) (class : ClassFile) (id : MethodId) (member : Member) (rule : Rule) (pc : ℕ) → IsOfFile class → Contains class.methods member
      → FailsMethod w class id member rule pc → PassesMethod w class id member → ⊥
  pub framed : (w : List Shape) (class : ClassFile) (id : MethodId) (member : Member) (framed other : FramedBody) → IsOfFile class
      → IsAccepted w class id member framed → IsAccepted w class id member other → framed ≡ other

abbrev pub AreOfFiles : List ClassFile → Type 0
AreOfFiles classes = (class : ClassFile) → Contains classes class → IsOfFile class

-- ---- the order of methods

never_both : (a b : MethodId) → ComesBefore a b → ComesBefore b a → ⊥
never_both a b (inl p) (inl q) = absurd (omega (arith, p, q))
never_both a b (inl p) (inr q) = let e = q.0 in absurd (omega (arith, p, e))
never_both a b (inr p) (inl q) = let e = p.0 in absurd (omega (arith, q, e))
never_both a b (inr p) (inr q) = let l = p.1 in let g = q.1 in absurd (omega (arith, l, g))

in_class : (a b : MethodId) → a.class.number ≡ b.class.number → (a ≡ b) ⊎ (ComesBefore a b ⊎ ComesBefore b a)
in_class a b same =
    elim (cases_lt a.index b.index) [
      | inl l ↦ inr (inl (inr (same, l)))
      | inr g ↦ elim (cases_lt b.index a.index) [
        | inl l ↦ inr (inr (inr (sym same, l)))
        | inr h ↦ inl (method_is a b same (omega (arith, g, h)))
      ]
    ]

compared : (a b : MethodId) → (a ≡ b) ⊎ (ComesBefore a b ⊎ ComesBefore b a)
compared a b =
    elim (cases_lt a.class.number b.class.number) [
      | inl l ↦ inr (inl (inl l))
      | inr g ↦ elim (cases_lt b.class.number a.class.number) [
        | inl l ↦ inr (inr (inl l))
        | inr h ↦ in_class a b (omega (arith, g, h))
      ]
    ]

-- ---- members and places

same_class : (classes : List ClassFile) (id : MethodId) (class other : ClassFile) (member another : Member) → IsMember classes id class member → IsMember classes id other another → class ≡ other
same_class classes id class other member another p q = same_Some class other (sym p.of_class ∙ q.of_class)

same_member : (classes : List ClassFile) (id : MethodId) (class : ClassFile) (member another : Member) → IsMember classes id class member → IsMember classes id class another → member ≡ another
same_member classes id class member another p q = same_Some member another (sym p.at_place ∙ q.at_place)

same_place : (class : ClassFile) (member : Member) (pc : ℕ) (place other : RulePlace) → IsPlaceOf class member pc place → IsPlaceOf class member pc other → place ≡ other
same_place class member pc place other p q =
    let of_class : p.class_name ≡ q.class_name = same_Some p.class_name q.class_name (sym p.named ∙ q.named) in
    let name : p.name ≡ q.name = same_Some p.name q.name (sym p.called ∙ q.called) in
    let desc : p.desc ≡ q.desc = same_Some p.desc q.desc (sym p.described ∙ q.described) in
    let same : places.Method p.class_name p.name p.desc pc ≡ places.Method q.class_name q.name q.desc pc = λ i. places.Method (of_class i) (name i) (desc i) pc in
    p.is ∙ same ∙ sym q.is

rises_in_order : {X : Type 0} (R : X → X → Type 0) (xs : List X) → ((i j : ℕ) (x y : X) → i < j → slice_get xs i ≡ Some x → slice_get xs j ≡ Some y → R x y) → Rises R xs
rises_in_order R [] order = tt
rises_in_order {X} R (x ∷ xs) order = (
  λ y h. order 0 (suc h.0) x y (omega arith) refl (slice_get-get_or xs h.0 y h.1 ∙ ap (λ (z : X). Some z) h.2),
  rises_in_order R xs (λ i j y z lt p q. order (suc i) (suc j) y z (omega (arith, lt)) p q),
)

module _ (laws : Laws) (w : List Shape) (classes : List ClassFile) (files : AreOfFiles classes) where
  file_at : (id : MethodId) (class : ClassFile) (member : Member) → IsMember classes id class member → IsOfFile class
  file_at id class member p = files class (among_from_get classes id.class.number class p.of_class)

  member_at : (id : MethodId) (class : ClassFile) (member : Member) → IsMember classes id class member → Contains class.methods member
  member_at id class member p = among_from_get class.methods id.index member p.at_place

  never : (id : MethodId) (class : ClassFile) (member : Member) (rule : Rule) (pc : ℕ) → IsMember classes id class member → FailsMethod w class id member rule pc → PassesMethod w class id member → ⊥
  never id class member rule pc p fails passes = laws.apart w class id member rule pc (file_at id class member p) (member_at id class member p) fails passes

  -- two stops at one method
  one_here : (id : MethodId) (class : ClassFile) (member : Member) (rule another : Rule) (pc next : ℕ) (place other : RulePlace)
      → IsMember classes id class member → FailsMethod w class id member rule pc → FailsMethod w class id member another next
      → IsPlaceOf class member pc place → IsPlaceOf class member next other → (rule ≡ another) × (place ≡ other)
  one_here id class member rule another pc next place other is fails cause p q =
      let same = laws.failure w class id member rule another pc next (file_at id class member is) (member_at id class member is) fails cause in
      (same.0, same_place class member next place other (subst (λ (n : ℕ). IsPlaceOf class member n place) same.1 p) q)

  one_member : (id : MethodId) (class more : ClassFile) (member another : Member) (first second : Rule) (pc next : ℕ) (place other : RulePlace)
      → class ≡ more → member ≡ another → IsMember classes id class member → FailsMethod w class id member first pc → FailsMethod w more id another second next
      → IsPlaceOf class member pc place → IsPlaceOf more another next other → (first ≡ second) × (place ≡ other)
  one_member id class more member another first second pc next place other same alike is fails cause p q =
      one_here id more another first second pc next place other
      (subst (λ (c : ClassFile). IsMember classes id c another) same (subst (λ (m : Member). IsMember classes id class m) alike is))
      (subst (λ (c : ClassFile). FailsMethod w c id another first pc) same (subst (λ (m : Member). FailsMethod w class id m first pc) alike fails))
      cause
      (subst (λ (c : ClassFile). IsPlaceOf c another pc place) same (subst (λ (m : Member). IsPlaceOf class m pc place) alike p))
      q

  one_method : (rule another : Rule) (place other : RulePlace) (p : StopsAtMethod w classes rule place) (q : StopsAtMethod w classes another other) → p.id ≡ q.id → (rule ≡ another) × (place ≡ other)
  one_method rule another place other p q same =
      let is : IsMember classes q.id p.class p.member = subst (λ (m : MethodId). IsMember classes m p.class p.member) same p.is_member in
      let fails : FailsMethod w p.class q.id p.member rule p.pc = subst (λ (m : MethodId). FailsMethod w p.class m p.member rule p.pc) same p.fails in
      let class : p.class ≡ q.class = same_class classes q.id p.class q.class p.member q.member is q.is_member in
      let moved : IsMember classes q.id q.class p.member = subst (λ (c : ClassFile). IsMember classes q.id c p.member) class is in
      let member : p.member ≡ q.member = same_member classes q.id q.class p.member q.member moved q.is_member in
      one_member q.id p.class q.class p.member q.member rule another p.pc q.pc place other class member is fails q.fails p.at_place q.at_place

  pub one_stop : (rule another : Rule) (place other : RulePlace) → StopsAtMethod w classes rule place → StopsAtMethod w classes another other → (rule ≡ another) × (place ≡ other)
  one_stop rule another place other p q =
      elim (compared p.id q.id) [
        | inl same ↦ one_method rule another place other p q same
        | inr (inl first) ↦ absurd (never p.id p.class p.member rule p.pc p.is_member p.fails (q.before p.id p.class p.member first p.is_member))
        | inr (inr later) ↦ absurd (never q.id q.class q.member another q.pc q.is_member q.fails (p.before q.id q.class q.member later q.is_member))
      ]

  pub none_stops : (rule : Rule) (place : RulePlace) (methods : List FramedBody) → StopsAtMethod w classes rule place → AreAccepted w classes methods → ⊥
  none_stops rule place methods p q = never p.id p.class p.member rule p.pc p.is_member p.fails (q.passes p.id p.class p.member p.is_member)

  -- a method of the one list is one of the other
  inside : (methods others : List FramedBody) → AreAccepted w classes methods → AreAccepted w classes others → (framed : FramedBody) → Contains methods framed → Contains others framed
  inside methods others p q framed h =
      let own = p.each framed h in
      let there = q.all framed.method own.0 own.1 own.3.code own.2 own.3.decoded.has in
      let its = q.each there.0 there.1 in
      let is : IsMember classes framed.method its.0 its.1 = subst (λ (m : MethodId). IsMember classes m its.0 its.1) there.2 its.2 in
      let accepted : IsAccepted w its.0 framed.method its.1 there.0 = subst (λ (m : MethodId). IsAccepted w its.0 m its.1 there.0) there.2 its.3 in
      let class : its.0 ≡ own.0 = same_class classes framed.method its.0 own.0 its.1 own.1 is own.2 in
      let moved : IsMember classes framed.method own.0 its.1 = subst (λ (c : ClassFile). IsMember classes framed.method c its.1) class is in
      let member : its.1 ≡ own.1 = same_member classes framed.method own.0 its.1 own.1 moved own.2 in
      let here : IsAccepted w own.0 framed.method own.1 there.0 =
      subst (λ (m : Member). IsAccepted w own.0 framed.method m there.0) member (subst (λ (c : ClassFile). IsAccepted w c framed.method its.1 there.0) class accepted) in
      let same : there.0 ≡ framed = laws.framed w own.0 framed.method own.1 there.0 framed (file_at framed.method own.0 own.1 own.2) here own.3 in
      subst (λ (f : FramedBody). Contains others f) same there.1

  pub one_list : (methods others : List FramedBody) → AreAccepted w classes methods → AreAccepted w classes others → methods ≡ others
  one_list methods others p q =
      same_rising (λ (a b : FramedBody). ComesBefore a.method b.method) (λ a b. never_both a.method b.method) methods others
      (rises_in_order (λ (a b : FramedBody). ComesBefore a.method b.method) methods p.in_order)
      (rises_in_order (λ (a b : FramedBody). ComesBefore a.method b.method) others q.in_order)
      (inside methods others p q) (inside others methods q p)
