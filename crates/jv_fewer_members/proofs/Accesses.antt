-- Access in the whole world and in the part.
use Rattle.std.proofs.Common.{◌≢◌, ℕ, ◌⊎◌, List, sym, subst, inl, inr}
use Rattle.std.specs.Prelude.{◌↔◌}
use Rattle.jv_types.specs.declared.access.Access.{Access}
use Rattle.jv_types.specs.declared.desc.RefType.{RefType}
use Rattle.jv_types.specs.declared.ids.FieldId.{FieldId}
use Rattle.jv_types.specs.declared.ids.MethodId.{MethodId}
use Rattle.jv_types.specs.declared.references.FieldRef.{FieldRef}
use Rattle.jv_types.specs.declared.references.MethodRef.{MethodRef}
use Rattle.jv_types.specs.declared.shapes.Shape.{Shape}
use Rattle.jv_world.specs.Worlds.{IsSubclass}
use Rattle.jv_resolve.specs.declared.refusal.ResolveRefusal.{ResolveRefusal}
use Rattle.jv_resolve.specs.declared.refusal.ResolveRefusal.TheVariants.{WrongKind, NotFound, NoAccess, Memory}
use Rattle.jv_resolve.specs.Access.{HasAccess, IsFieldAccessible, IsInLine, IsMethodAccessible, IsProtectedAccess, NamesInLine}
use Rattle.jv_resolve.specs.Members.{HasField, HasMethod}
use Rattle.jv_resolve.specs.Refusals.{HasFieldCause, HasInterfaceMethodCause, HasMethodCause}
use Rattle.jv_resolve.proofs.MembersLemmas.{declared_here}
use Rattle.jv_resolve.proofs.MethodLemmas.{class_declares, interface_declares}
use Rattle.jv_two_worlds.specs.Agreeing.{Agree}
use Rattle.jv_two_worlds.specs.SameClasses.{HaveSameAccess}
use Rattle.jv_fewer_members.specs.Keeping.{class_init_name, KeepsAlike, KeepsField, KeepsInterfaceMethod, KeepsMembers, KeepsMethod}
use Rattle.jv_fewer_members.specs.Parts.{HasFewerMembers, Places, whole_field, whole_method}
use Rattle.jv_fewer_members.proofs.Heads.{SameHeads, heads_into, heads_back, named, one_package, subclass}
use Rattle.jv_fewer_members.proofs.KeptMembers.{field_part, field_whole, method_part, method_whole}
use Rattle.jv_fewer_members.proofs.Resolves.{field_agrees, field_cause_agrees}
use Rattle.jv_fewer_members.proofs.ResolvesMethods.{interface_agrees, interface_cause_agrees, method_agrees, method_cause_agrees}

other_way : {A B : Type 0} → A ↔ B → B ↔ A
other_way f = (f.1, f.0)

same_other_way : (flags other : Access) → HaveSameAccess flags other → HaveSameAccess other flags
same_other_way flags other same = record { public = other_way same.public; protected = other_way same.protected; private = other_way same.private; static = other_way same.static }

module _ {w v : List Shape} (heads : SameHeads w v) where
  in_line : (c : ℕ) (name : List ℕ) → IsInLine w c name → IsInLine v c name
  in_line c name p = (p.0, named heads p.0 name p.1, pick p.2)
    where
      pick : IsSubclass w c p.0 ⊎ IsSubclass w p.0 c → IsSubclass v c p.0 ⊎ IsSubclass v p.0 c
      pick (inl q) = inl (subclass heads c p.0 q)
      pick (inr q) = inr (subclass heads p.0 c q)

  names_in_line : (c : ℕ) (type : RefType) → NamesInLine w c type → NamesInLine v c type
  names_in_line c type p = (p.0, p.1, in_line c p.0 p.2)

  protected_access : {L M : Type 0} → (L → M) → (from c : ℕ) (flags other : Access) → HaveSameAccess flags other → IsProtectedAccess w from L c flags → IsProtectedAccess v from M c other
  protected_access line from c flags other same (inl p) = inl (one_package heads from c p)
  protected_access line from c flags other same (inr (p, inl q)) = inr (subclass heads from c p, inl (same.static.0 q))
  protected_access line from c flags other same (inr (p, inr q)) = inr (subclass heads from c p, inr (line q))

  has_access : {L M : Type 0} → (L → M) → (from c : ℕ) (flags other : Access) → HaveSameAccess flags other → HasAccess w from L c flags → HasAccess v from M c other
  has_access line from c flags other same (inl p) = inl (same.public.0 p)
  has_access line from c flags other same (inr (inl p)) = inr (inl (same.protected.0 p.0, protected_access line from c flags other same p.1))
  has_access line from c flags other same (inr (inr (inl p))) =
      inr (inr (inl (((λ q. p.0.0 (same.public.1 q)), (λ q. p.0.1 (same.protected.1 q)), λ q. p.0.2 (same.private.1 q)), one_package heads from c p.1)))
  has_access line from c flags other same (inr (inr (inr p))) = inr (inr (inr (same.private.0 p.0, p.1)))

module _ {w v : List Shape} {at : Places} (fewer : HasFewerMembers w v at) where
  pub field_access : (from : ℕ) (r : FieldRef) (g : FieldId) → HasField v g → IsFieldAccessible w from r (whole_field at g) ↔ IsFieldAccessible v from r g
  field_access from r g has = (
    λ p.
        let x = field_part fewer g p.0 has p.1 in
        (x.0, x.1, has_access (heads_into fewer) (in_line (heads_into fewer) from r.class) from g.class.number p.0.flags x.0.flags x.2.access p.2),
    λ q.
        let y = field_whole fewer g q.0 q.1 in
        (y.0, y.1, has_access (heads_back fewer) (in_line (heads_back fewer) from r.class) from g.class.number q.0.flags y.0.flags (same_other_way y.0.flags q.0.flags y.2.access) q.2),
  )

  pub method_access : (from : ℕ) (r : MethodRef) (n : MethodId) → HasMethod v n → IsMethodAccessible w from r (whole_method at n) ↔ IsMethodAccessible v from r n
  method_access from r n has = (into, back)
    where
      into : IsMethodAccessible w from r (whole_method at n) → IsMethodAccessible v from r n
      into (inl p) = inl p
      into (inr p) =
          let x = method_part fewer n p.0 has p.1 in
          inr (x.0, x.1, has_access (heads_into fewer) (names_in_line (heads_into fewer) from r.class) from n.class.number p.0.flags x.0.flags x.2.access p.2)

      back : IsMethodAccessible v from r n → IsMethodAccessible w from r (whole_method at n)
      back (inl q) = inl q
      back (inr q) =
          let y = method_whole fewer n q.0 q.1 in
          inr (y.0, y.1, has_access (heads_back fewer) (names_in_line (heads_back fewer) from r.class) from n.class.number q.0.flags y.0.flags (same_other_way y.0.flags q.0.flags y.2.access) q.2)

  -- what is found in both, and accessible in both or in neither
  refused : {X : Type 0} {whole : X → X} {Q P B A : X → Type 0} → Agree whole Q P → ((n : X) → Q n → A (whole n) ↔ B n) → ((m : X) × P m × (A m → ⊥)) ↔ ((n : X) × Q n × (B n → ⊥))
  refused {X} {whole} {Q} {P} {B} {A} agree same = (
    λ p. let r = agree.back p.0 p.1 in (r.0, r.2, λ b. p.2 (subst A (sym r.1) ((same r.0 r.2).1 b))),
    λ q. (whole q.0, agree.into q.0 q.1, λ a. q.2 ((same q.0 q.1).0 a)),
  )

  pub field_refused : KeepsAlike w v at → (from : ℕ) (r : FieldRef) (why : ResolveRefusal) → KeepsField w v at r → HasFieldCause w from r why ↔ HasFieldCause v from r why
  field_refused alike from r WrongKind kept = field_cause_agrees fewer alike r WrongKind kept
  field_refused alike from r NotFound kept = field_cause_agrees fewer alike r NotFound kept
  field_refused alike from r NoAccess kept =
      refused (field_agrees fewer alike r kept) (λ g q. field_access from r g (q.declared.shape, (q.declared.class, q.declared.of_class, q.declared.at_place)))
  field_refused alike from r Memory kept = (λ p. p, λ p. p)

  pub method_refused : KeepsMembers w v at → (from : ℕ) (r : MethodRef) (why : ResolveRefusal) → KeepsMethod w v at r → r.name ≢ class_init_name → HasMethodCause w from r why ↔ HasMethodCause v from r why
  method_refused keeps from r WrongKind kept init = method_cause_agrees fewer keeps r WrongKind kept init
  method_refused keeps from r NotFound kept init = method_cause_agrees fewer keeps r NotFound kept init
  method_refused keeps from r NoAccess kept init =
      refused (method_agrees fewer keeps r kept init) (λ n q. method_access from r n (declared_here v r.name r.desc n (class_declares v q.start r.name r.desc n q.found)))
  method_refused keeps from r Memory kept init = (λ p. p, λ p. p)

  pub interface_refused : KeepsMembers w v at → (from : ℕ) (r : MethodRef) (why : ResolveRefusal) → KeepsInterfaceMethod w v at r → r.name ≢ class_init_name
      → HasInterfaceMethodCause w from r why ↔ HasInterfaceMethodCause v from r why
  interface_refused keeps from r WrongKind kept init = interface_cause_agrees fewer keeps r WrongKind kept init
  interface_refused keeps from r NotFound kept init = interface_cause_agrees fewer keeps r NotFound kept init
  interface_refused keeps from r NoAccess kept init =
      refused (interface_agrees fewer keeps r kept init) (λ n q. method_access from r n (declared_here v r.name r.desc n (interface_declares v q.start r.name r.desc n q.found)))
  interface_refused keeps from r Memory kept init = (λ p. p, λ p. p)
