-- Resolution in the whole world and in the part.
use Rattle.std.proofs.Common.{◌≡◌, ℕ, List, refl, sym, ap, subst}
use Rattle.std.specs.Prelude.{◌↔◌}
use Rattle.jv_types.specs.declared.desc.Desc.{Desc}
use Rattle.jv_types.specs.declared.ids.FieldId.{FieldId}
use Rattle.jv_types.specs.declared.references.FieldRef.{FieldRef}
use Rattle.jv_types.specs.declared.shapes.Shape.{Shape}
use Rattle.jv_resolve.specs.declared.refusal.ResolveRefusal.{ResolveRefusal}
use Rattle.jv_resolve.specs.declared.refusal.ResolveRefusal.TheVariants.{WrongKind, NotFound, NoAccess, Memory}
use Rattle.jv_resolve.specs.DepthFirst.{IsFirst}
use Rattle.jv_resolve.specs.Members.{DeclaresField}
use Rattle.jv_resolve.specs.Refusals.{IsFieldUnresolved}
use Rattle.jv_resolve.specs.Resolving.{DeclaresFieldIn, ResolvesField}
use Rattle.jv_resolve.proofs.AboveLemmas.{first_holds}
use Rattle.jv_two_worlds.specs.Agreeing.{Agree}
use Rattle.jv_fewer_members.specs.Keeping.{KeepsAlike, KeepsField}
use Rattle.jv_fewer_members.specs.Parts.{HasFewerMembers, IsFieldKept, Places, whole_field}
use Rattle.jv_fewer_members.proofs.FirstWays.{first_into, first_back}
use Rattle.jv_fewer_members.proofs.Heads.{heads_into, heads_back, named}
use Rattle.jv_fewer_members.proofs.KeptMembers.{declares_field_into, declares_field_back}

-- nothing is found in the whole where nothing is found in the part
pub none_agree : {X : Type 0} {whole : X → X} {P Q : X → Type 0} → Agree whole Q P → ((x : X) → P x → ⊥) ↔ ((y : X) → Q y → ⊥)
none_agree {whole} f = (λ none y q. none (whole y) (f.into y q), λ none x p. let r = f.back x p in none r.0 r.2)

module _ {w v : List Shape} {at : Places} (fewer : HasFewerMembers w v at) (alike : KeepsAlike w v at) where
  -- ---- fields

  declaring_into : (name : List ℕ) (desc : Desc) (c : ℕ) → DeclaresFieldIn v name desc c → DeclaresFieldIn w name desc c
  declaring_into name desc c q = (whole_field at q.0, declares_field_into fewer alike name desc q.0 q.1, q.2)

  -- the field that a class declares is kept, so the class declares it in the part
  declaring_back : (name : List ℕ) (desc : Desc) (f : FieldId) → DeclaresField w name desc f → IsFieldKept v at f → DeclaresFieldIn v name desc f.class.number
  declaring_back name desc f p kept =
      let r = declares_field_back fewer name desc f kept p in
      (r.0, r.2, ap (λ (x : FieldId). x.class.number) (sym r.1))

  field_into : (r : FieldRef) → KeepsField w v at r → (g : FieldId) → ResolvesField v r g → ResolvesField w r (whole_field at g)
  field_into r keeps g q =
      let named_back = named (heads_back fewer) q.named r.class q.name in record {
        named = q.named;
        name = named_back;
        declared = declares_field_into fewer alike r.name r.desc g q.declared;
        first =
            first_back fewer.world (heads_into fewer) (heads_back fewer) (declaring_into r.name r.desc) q.named g.class.number
            (λ e first.
            let f = first_holds w (DeclaresFieldIn w r.name r.desc) q.named e first in
            let here : IsFirst w (DeclaresFieldIn w r.name r.desc) q.named f.0.class.number = subst (IsFirst w (DeclaresFieldIn w r.name r.desc) q.named) (sym f.2) first in
            subst (DeclaresFieldIn v r.name r.desc) f.2
            (declaring_back r.name r.desc f.0 f.1 (keeps f.0 (record { named = q.named; name = named_back; declared = f.1; first = here }))))
            q.first;
      }

  field_back : (r : FieldRef) → KeepsField w v at r → (f : FieldId) → ResolvesField w r f → (g : FieldId) × (f ≡ whole_field at g) × ResolvesField v r g
  field_back r keeps f p =
      let g = declares_field_back fewer r.name r.desc f (keeps f p) p.declared in
      let class : f.class.number ≡ g.0.class.number = ap (λ (x : FieldId). x.class.number) g.1 in
      let here : IsFirst w (DeclaresFieldIn w r.name r.desc) p.named g.0.class.number = subst (IsFirst w (DeclaresFieldIn w r.name r.desc) p.named) class p.first in (
        g.0,
        g.1,
        record {
          named = p.named;
          name = named (heads_into fewer) p.named r.class p.name;
          declared = g.2;
          first = first_into (heads_into fewer) (heads_back fewer) (declaring_into r.name r.desc) p.named g.0.class.number here (g.0, g.2, refl);
        },
      )

  pub field_agrees : (r : FieldRef) → KeepsField w v at r → Agree (whole_field at) (ResolvesField v r) (ResolvesField w r)
  field_agrees r keeps = record { into = λ g q. field_into r keeps g q; back = λ f p. field_back r keeps f p }

  pub field_cause_agrees : (r : FieldRef) (why : ResolveRefusal) → KeepsField w v at r → IsFieldUnresolved w r why ↔ IsFieldUnresolved v r why
  field_cause_agrees r WrongKind keeps = (λ p. p, λ p. p)
  field_cause_agrees r NotFound keeps = none_agree (field_agrees r keeps)
  field_cause_agrees r NoAccess keeps = (λ p. p, λ p. p)
  field_cause_agrees r Memory keeps = (λ p. p, λ p. p)
