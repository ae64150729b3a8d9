-- Fields that are read are spelled so, and what is spelled so is read.
use Rattle.std.proofs.Common.{◌≡◌, ℕ, zero, suc, ◌^◌, ◌<◌, List, [], ◌∷◌, ◌++◌, length, Some, refl, sym, ap, subst, ◌∙◌, append_assoc, arith}
use Rattle.std.specs.List.{flat_map, AllZip, AllByRecursion}
use Rattle.std.proofs.lemmas.List.Concat.{flat_map-cons}
use Rattle.calls_form.specs.declared.outline.RawField.{RawField}
use Rattle.calls_form.specs.Layout.{u2, attributes_text, Member, member_text, IsMember}
use Rattle.calls_form.specs.Outlines.{IsRawField}
use Rattle.calls_form.specs.Reading.{◌>>=◌, u2_at}
use Rattle.calls_form.specs.LayoutReading.{pair_at, passed_at, field_at, fields_at, counted_fields_at}
use Rattle.calls_form.proofs.LayoutFields.{IsBytes, bind_some, given_as, Takes, Takes-none, Takes-then, u2_takes, u2_again}
use Rattle.calls_form.proofs.LayoutItems.{bind_is, pair_takes, pair_again}
use Rattle.calls_form.proofs.LayoutAttributes.{passed_takes, passed_again}
use Rattle.calls_form.proofs.LayoutMembers.{member_of, members_text}

-- a field as it is kept, by its parts
abbrev raw_of : ℕ → ℕ → ℕ → RawField
raw_of access name desc = record { access = record { 0 = access }; name = name; desc = desc }

-- ---- one field

-- a field stands at the front, and this is kept of it
record TakesField (bytes : List ℕ) (x : RawField × List ℕ) : Type 0 where
  member : Member
  is_member : IsMember member
  taken : Takes bytes (member_text member) x.1
  raw : IsRawField member x.0

-- a field that is read is spelled so
field_takes : (bytes : List ℕ) (x : RawField × List ℕ) → IsBytes bytes → field_at bytes ≡ Some x → TakesField bytes x
unfolding field_at
field_takes bytes x fits e =
    let a = bind_some (u2_at bytes) (λ access. pair_at access.1 >>= λ names. passed_at names.2 >>= λ rest. Some (raw_of access.0 names.0 names.1, rest)) x e in
    let b = bind_some (pair_at a.0.1) (λ names. passed_at names.2 >>= λ rest. Some (raw_of a.0.0 names.0 names.1, rest)) x a.2 in
    let c = bind_some (passed_at b.0.2) (λ rest. Some (raw_of a.0.0 b.0.0 b.0.1, rest)) x b.2 in
    let s = u2_takes bytes a.0 fits a.1 in
    let t = pair_takes a.0.1 b.0 s.0.rest_fits b.1 in
    let u = passed_takes b.0.2 c.0 t.0.rest_fits c.1 in
    let head = Takes-then bytes (u2 a.0.0) a.0.1 (u2 b.0.0 ++ u2 b.0.1) b.0.2 s.0 t.0 in
    let both = Takes-then bytes (u2 a.0.0 ++ (u2 b.0.0 ++ u2 b.0.1)) b.0.2 (attributes_text u.attributes) c.0 head u.taken in
    let made : RawField × List ℕ = (raw_of a.0.0 b.0.0 b.0.1, c.0) in
    given_as (λ (y : RawField × List ℕ). TakesField bytes y) made x c.2
    (record {
      member = member_of a.0.0 b.0.0 b.0.1 u.attributes;
      is_member = record { access = s.1; name = t.1; desc = t.2; attributes = u.are_attributes };
      taken = both;
      raw = record { access = refl; name = refl; desc = refl };
    })

-- what is kept of a field is known by its parts
raw_is : (raw : RawField) (access name desc : ℕ) → raw.access.0 ≡ access → raw.name ≡ name → raw.desc ≡ desc → raw_of access name desc ≡ raw
raw_is raw access name desc p q r =
    ap (λ (n : ℕ). raw_of n name desc) (sym p) ∙ ap (λ (n : ℕ). raw_of raw.access.0 n desc) (sym q) ∙ ap (λ (n : ℕ). raw_of raw.access.0 raw.name n) (sym r)

-- a field is read again, whatever follows
field_again : (m : Member) (raw : RawField) (rest : List ℕ) → IsMember m → IsRawField m raw → field_at (member_text m ++ rest) ≡ Some (raw, rest)
unfolding field_at
field_again m raw rest h kept =
    bind_is (u2_at (u2 m.access ++ ((u2 m.name ++ u2 m.desc) ++ (attributes_text m.attributes ++ rest)))) (λ access. pair_at access.1 >>= λ names. passed_at names.2 >>= λ rest. Some (raw_of access.0 names.0 names.1, rest)) (m.access, (u2 m.name ++ u2 m.desc) ++ (attributes_text m.attributes ++ rest)) (u2_again m.access ((u2 m.name ++ u2 m.desc) ++ (attributes_text m.attributes ++ rest)) h.access)
    ∙ bind_is (pair_at ((u2 m.name ++ u2 m.desc) ++ (attributes_text m.attributes ++ rest))) (λ names. passed_at names.2 >>= λ tail. Some (raw_of m.access names.0 names.1, tail)) (m.name, m.desc, attributes_text m.attributes ++ rest) (pair_again m.name m.desc (attributes_text m.attributes ++ rest) h.name h.desc)
    ∙ bind_is (passed_at (attributes_text m.attributes ++ rest)) (λ tail. Some (raw_of m.access m.name m.desc, tail)) rest (passed_again m.attributes rest h.attributes)
    ∙ ap (λ (r : RawField). Some (r, rest)) (raw_is raw m.access m.name m.desc kept.access kept.name kept.desc)

-- ---- as many fields

-- as many fields stand at the front, and this is kept of them
record TakesFields (n : ℕ) (bytes : List ℕ) (x : List RawField × List ℕ) : Type 0 where
  members : List Member
  are_members : AllByRecursion IsMember members
  count_is : length members ≡ n
  taken : Takes bytes (flat_map member_text members) x.1
  raws : AllZip (IsRawField) members x.0

-- fields that are read are spelled so
fields_take : (n : ℕ) (bytes : List ℕ) (x : List RawField × List ℕ) → IsBytes bytes → fields_at n bytes ≡ Some x → TakesFields n bytes x
unfolding fields_at
fields_take zero bytes x fits e =
    given_as (λ (y : List RawField × List ℕ). TakesFields 0 bytes y) ([], bytes) x e (record { members = []; are_members = tt; count_is = refl; taken = Takes-none bytes fits; raws = tt })
fields_take (suc n) bytes x fits e =
    let a = bind_some (field_at bytes) (λ first. fields_at n first.1 >>= λ others. Some (first.0 ∷ others.0, others.1)) x e in
    let b = bind_some (fields_at n a.0.1) (λ others. Some (a.0.0 ∷ others.0, others.1)) x a.2 in
    let t = field_takes bytes a.0 fits a.1 in
    let r = fields_take n a.0.1 b.0 t.taken.rest_fits b.1 in
    let both = Takes-then bytes (member_text t.member) a.0.1 (flat_map member_text r.members) b.0.1 t.taken r.taken in
    let made : List RawField × List ℕ = (a.0.0 ∷ b.0.0, b.0.1) in
    given_as (λ (y : List RawField × List ℕ). TakesFields (suc n) bytes y) made x b.2
    (record { members = t.member ∷ r.members; are_members = (t.is_member, r.are_members); count_is = ap suc r.count_is; taken = rw flat_map-cons both; raws = (t.raw, r.raws) })

-- fields are read again, whatever follows
fields_again : (members : List Member) (raws : List RawField) (rest : List ℕ) → AllByRecursion IsMember members → AllZip (IsRawField) members raws
    → fields_at (length members) (flat_map member_text members ++ rest) ≡ Some (raws, rest)
unfolding fields_at
fields_again [] [] rest h kept = refl
fields_again [] (raw ∷ raws) rest h kept = absurd kept
fields_again (m ∷ members) [] rest h kept = absurd kept
fields_again (m ∷ members) (raw ∷ raws) rest h kept =
    let after : List ℕ = flat_map member_text members ++ rest in
    let regrouped : flat_map member_text (m ∷ members) ++ rest ≡ member_text m ++ after = ap (λ (x : List ℕ). x ++ rest) (flat_map-cons member_text m members) ∙ append_assoc (member_text m) (flat_map member_text members) rest in
    ap (fields_at (suc (length members))) regrouped
    ∙ bind_is (field_at (member_text m ++ after)) (λ first. fields_at (length members) first.1 >>= λ others. Some (first.0 ∷ others.0, others.1)) (raw, after) (field_again m raw after h.0 kept.0)
    ∙ bind_is (fields_at (length members) after) (λ others. Some (raw ∷ others.0, others.1)) (raws, rest) (fields_again members raws rest h.1 kept.1)

-- ---- a count and as many fields

-- a count and as many fields stand at the front, and this is kept of them
pub record TakesCountedFields (bytes : List ℕ) (x : List RawField × List ℕ) : Type 0 where
  pub members : List Member
  pub are_members : AllByRecursion IsMember members
  pub count : length members < 2 ^ 16
  pub taken : Takes bytes (members_text members) x.1
  pub raws : AllZip (IsRawField) members x.0

-- a count of fields that is read is spelled so
pub counted_fields_take : (bytes : List ℕ) (x : List RawField × List ℕ) → IsBytes bytes → counted_fields_at bytes ≡ Some x → TakesCountedFields bytes x
unfolding counted_fields_at
counted_fields_take bytes x fits e =
    let a = bind_some (u2_at bytes) (λ count. fields_at count.0 count.1) x e in
    let t = u2_takes bytes a.0 fits a.1 in
    let r = fields_take a.0.0 a.0.1 x t.0.rest_fits a.2 in
    let both = Takes-then bytes (u2 a.0.0) a.0.1 (flat_map member_text r.members) x.1 t.0 r.taken in
    record {
      members = r.members;
      are_members = r.are_members;
      count = omega (arith, t.1, r.count_is);
      taken = subst (λ (k : ℕ). Takes bytes (u2 k ++ flat_map member_text r.members) x.1) (sym r.count_is) both;
      raws = r.raws;
    }

-- a count of fields is read again, whatever follows
pub counted_fields_again : (members : List Member) (raws : List RawField) (rest : List ℕ) → AllByRecursion IsMember members → length members < 2 ^ 16 → AllZip (IsRawField) members raws
    → counted_fields_at (members_text members ++ rest) ≡ Some (raws, rest)
unfolding counted_fields_at
counted_fields_again members raws rest h lt kept =
    bind_is (u2_at (u2 (length members) ++ (flat_map member_text members ++ rest))) (λ count. fields_at count.0 count.1) (length members, flat_map member_text members ++ rest) (u2_again (length members) (flat_map member_text members ++ rest) lt)
    ∙ fields_again members raws rest h kept
