-- Methods that are read are spelled so, and what is spelled so is read.
use Rattle.std.proofs.Common.{◌≡◌, ℕ, zero, suc, ◌^◌, ◌<◌, List, [], ◌∷◌, ◌++◌, length, Some, refl, sym, ap, subst, ◌∙◌, append_assoc, arith}
use Rattle.std.specs.List.{flat_map, AllZip, AllByRecursion}
use Rattle.std.proofs.lemmas.List.Concat.{flat_map-cons}
use Rattle.calls_form.specs.declared.outline.Entry.{Entry}
use Rattle.calls_form.specs.declared.outline.RawMethod.{RawMethod}
use Rattle.calls_form.specs.Layout.{u2, Attribute, attributes_text, Member, member_text, IsMember}
use Rattle.calls_form.specs.Outlines.{IsRawMethod}
use Rattle.calls_form.specs.Reading.{◌>>=◌, u2_at}
use Rattle.calls_form.specs.LayoutReading.{pair_at, one_code_at, method_at, methods_at, counted_methods_at}
use Rattle.calls_form.proofs.LayoutFields.{IsBytes, bind_some, given_as, Takes, Takes-none, Takes-then, u2_takes, u2_again}
use Rattle.calls_form.proofs.LayoutItems.{bind_is, pair_takes, pair_again}
use Rattle.calls_form.proofs.LayoutAttributes.{one_code_takes, one_code_again}

-- a method as it is kept, by its parts
abbrev raw_of : ℕ → ℕ → ℕ → List ℕ → RawMethod
raw_of access name desc code = record { access = record { 0 = access }; name = name; desc = desc; code = code }

-- a member of the file, by its parts
abbrev pub member_of : ℕ → ℕ → ℕ → List Attribute → Member
member_of access name desc attributes = record { access = access; name = name; desc = desc; attributes = attributes }

-- a count, and as many members
abbrev pub members_text : List Member → List ℕ
members_text members = u2 (length members) ++ flat_map member_text members

-- ---- one method

-- a method stands at the front, and this is kept of it
record TakesMember (pool : List Entry) (bytes : List ℕ) (x : RawMethod × List ℕ) : Type 0 where
  member : Member
  is_member : IsMember member
  taken : Takes bytes (member_text member) x.1
  raw : IsRawMethod pool member x.0

-- a method that is read is spelled so
method_takes : (pool : List Entry) (bytes : List ℕ) (x : RawMethod × List ℕ) → IsBytes bytes → method_at pool bytes ≡ Some x → TakesMember pool bytes x
unfolding method_at
method_takes pool bytes x fits e =
    let a = bind_some (u2_at bytes) (λ access. pair_at access.1 >>= λ names. one_code_at pool names.2 >>= λ code. Some (raw_of access.0 names.0 names.1 code.0, code.1)) x e in
    let b = bind_some (pair_at a.0.1) (λ names. one_code_at pool names.2 >>= λ code. Some (raw_of a.0.0 names.0 names.1 code.0, code.1)) x a.2 in
    let c = bind_some (one_code_at pool b.0.2) (λ code. Some (raw_of a.0.0 b.0.0 b.0.1 code.0, code.1)) x b.2 in
    let s = u2_takes bytes a.0 fits a.1 in
    let t = pair_takes a.0.1 b.0 s.0.rest_fits b.1 in
    let u = one_code_takes pool b.0.2 c.0 t.0.rest_fits c.1 in
    let head = Takes-then bytes (u2 a.0.0) a.0.1 (u2 b.0.0 ++ u2 b.0.1) b.0.2 s.0 t.0 in
    let both = Takes-then bytes (u2 a.0.0 ++ (u2 b.0.0 ++ u2 b.0.1)) b.0.2 (attributes_text u.attributes) c.0.1 head u.taken in
    let made : RawMethod × List ℕ = (raw_of a.0.0 b.0.0 b.0.1 c.0.0, c.0.1) in
    given_as (λ (y : RawMethod × List ℕ). TakesMember pool bytes y) made x c.2
    (record {
      member = member_of a.0.0 b.0.0 b.0.1 u.attributes;
      is_member = record { access = s.1; name = t.1; desc = t.2; attributes = u.are_attributes };
      taken = both;
      raw = record { access = refl; name = refl; desc = refl; code = u.code };
    })

-- what is kept of a method is known by its parts
raw_is : (raw : RawMethod) (access name desc : ℕ) → raw.access.0 ≡ access → raw.name ≡ name → raw.desc ≡ desc → raw_of access name desc raw.code ≡ raw
raw_is raw access name desc p q r =
    ap (λ (n : ℕ). raw_of n name desc raw.code) (sym p) ∙ ap (λ (n : ℕ). raw_of raw.access.0 n desc raw.code) (sym q) ∙ ap (λ (n : ℕ). raw_of raw.access.0 raw.name n raw.code) (sym r)

-- a method is read again, whatever follows
method_again : (pool : List Entry) (m : Member) (raw : RawMethod) (rest : List ℕ) → IsMember m → IsRawMethod pool m raw → method_at pool (member_text m ++ rest) ≡ Some (raw, rest)
unfolding method_at
method_again pool m raw rest h kept =
    bind_is (u2_at (u2 m.access ++ ((u2 m.name ++ u2 m.desc) ++ (attributes_text m.attributes ++ rest)))) (λ access. pair_at access.1 >>= λ names. one_code_at pool names.2 >>= λ code. Some (raw_of access.0 names.0 names.1 code.0, code.1)) (m.access, (u2 m.name ++ u2 m.desc) ++ (attributes_text m.attributes ++ rest)) (u2_again m.access ((u2 m.name ++ u2 m.desc) ++ (attributes_text m.attributes ++ rest)) h.access)
    ∙ bind_is (pair_at ((u2 m.name ++ u2 m.desc) ++ (attributes_text m.attributes ++ rest))) (λ names. one_code_at pool names.2 >>= λ code. Some (raw_of m.access names.0 names.1 code.0, code.1)) (m.name, m.desc, attributes_text m.attributes ++ rest) (pair_again m.name m.desc (attributes_text m.attributes ++ rest) h.name h.desc)
    ∙ bind_is (one_code_at pool (attributes_text m.attributes ++ rest)) (λ code. Some (raw_of m.access m.name m.desc code.0, code.1)) (raw.code, rest) (one_code_again pool m.attributes raw.code rest h.attributes kept.code)
    ∙ ap (λ (r : RawMethod). Some (r, rest)) (raw_is raw m.access m.name m.desc kept.access kept.name kept.desc)

-- ---- as many methods

-- as many methods stand at the front, and this is kept of them
record TakesMembers (pool : List Entry) (n : ℕ) (bytes : List ℕ) (x : List RawMethod × List ℕ) : Type 0 where
  members : List Member
  are_members : AllByRecursion IsMember members
  count_is : length members ≡ n
  taken : Takes bytes (flat_map member_text members) x.1
  raws : AllZip (IsRawMethod pool) members x.0

-- methods that are read are spelled so
methods_take : (pool : List Entry) (n : ℕ) (bytes : List ℕ) (x : List RawMethod × List ℕ) → IsBytes bytes → methods_at pool n bytes ≡ Some x → TakesMembers pool n bytes x
unfolding methods_at
methods_take pool zero bytes x fits e =
    given_as (λ (y : List RawMethod × List ℕ). TakesMembers pool 0 bytes y) ([], bytes) x e (record { members = []; are_members = tt; count_is = refl; taken = Takes-none bytes fits; raws = tt })
methods_take pool (suc n) bytes x fits e =
    let a = bind_some (method_at pool bytes) (λ first. methods_at pool n first.1 >>= λ others. Some (first.0 ∷ others.0, others.1)) x e in
    let b = bind_some (methods_at pool n a.0.1) (λ others. Some (a.0.0 ∷ others.0, others.1)) x a.2 in
    let t = method_takes pool bytes a.0 fits a.1 in
    let r = methods_take pool n a.0.1 b.0 t.taken.rest_fits b.1 in
    let both = Takes-then bytes (member_text t.member) a.0.1 (flat_map member_text r.members) b.0.1 t.taken r.taken in
    let made : List RawMethod × List ℕ = (a.0.0 ∷ b.0.0, b.0.1) in
    given_as (λ (y : List RawMethod × List ℕ). TakesMembers pool (suc n) bytes y) made x b.2
    (record { members = t.member ∷ r.members; are_members = (t.is_member, r.are_members); count_is = ap suc r.count_is; taken = rw flat_map-cons both; raws = (t.raw, r.raws) })

-- methods are read again, whatever follows
methods_again : (pool : List Entry) (members : List Member) (raws : List RawMethod) (rest : List ℕ) → AllByRecursion IsMember members → AllZip (IsRawMethod pool) members raws
    → methods_at pool (length members) (flat_map member_text members ++ rest) ≡ Some (raws, rest)
unfolding methods_at
methods_again pool [] [] rest h kept = refl
methods_again pool [] (raw ∷ raws) rest h kept = absurd kept
methods_again pool (m ∷ members) [] rest h kept = absurd kept
methods_again pool (m ∷ members) (raw ∷ raws) rest h kept =
    let after : List ℕ = flat_map member_text members ++ rest in
    let regrouped : flat_map member_text (m ∷ members) ++ rest ≡ member_text m ++ after = ap (λ (x : List ℕ). x ++ rest) (flat_map-cons member_text m members) ∙ append_assoc (member_text m) (flat_map member_text members) rest in
    ap (methods_at pool (suc (length members))) regrouped
    ∙ bind_is (method_at pool (member_text m ++ after)) (λ first. methods_at pool (length members) first.1 >>= λ others. Some (first.0 ∷ others.0, others.1)) (raw, after) (method_again pool m raw after h.0 kept.0)
    ∙ bind_is (methods_at pool (length members) after) (λ others. Some (raw ∷ others.0, others.1)) (raws, rest) (methods_again pool members raws rest h.1 kept.1)

-- ---- a count and as many methods

-- a count and as many methods stand at the front, and this is kept of them
pub record TakesMethods (pool : List Entry) (bytes : List ℕ) (x : List RawMethod × List ℕ) : Type 0 where
  pub members : List Member
  pub are_members : AllByRecursion IsMember members
  pub count : length members < 2 ^ 16
  pub taken : Takes bytes (members_text members) x.1
  pub raws : AllZip (IsRawMethod pool) members x.0

-- a count of methods that is read is spelled so
pub counted_methods_take : (pool : List Entry) (bytes : List ℕ) (x : List RawMethod × List ℕ) → IsBytes bytes → counted_methods_at pool bytes ≡ Some x → TakesMethods pool bytes x
unfolding counted_methods_at
counted_methods_take pool bytes x fits e =
    let a = bind_some (u2_at bytes) (λ count. methods_at pool count.0 count.1) x e in
    let t = u2_takes bytes a.0 fits a.1 in
    let r = methods_take pool a.0.0 a.0.1 x t.0.rest_fits a.2 in
    let both = Takes-then bytes (u2 a.0.0) a.0.1 (flat_map member_text r.members) x.1 t.0 r.taken in
    record {
      members = r.members;
      are_members = r.are_members;
      count = omega (arith, t.1, r.count_is);
      taken = subst (λ (k : ℕ). Takes bytes (u2 k ++ flat_map member_text r.members) x.1) (sym r.count_is) both;
      raws = r.raws;
    }

-- a count of methods is read again, whatever follows
pub counted_methods_again : (pool : List Entry) (members : List Member) (raws : List RawMethod) (rest : List ℕ) → AllByRecursion IsMember members → length members < 2 ^ 16 → AllZip (IsRawMethod pool) members raws
    → counted_methods_at pool (members_text members ++ rest) ≡ Some (raws, rest)
unfolding counted_methods_at
counted_methods_again pool members raws rest h lt kept =
    bind_is (u2_at (u2 (length members) ++ (flat_map member_text members ++ rest))) (λ count. methods_at pool count.0 count.1) (length members, flat_map member_text members ++ rest) (u2_again (length members) (flat_map member_text members ++ rest) lt)
    ∙ methods_again pool members raws rest h kept
