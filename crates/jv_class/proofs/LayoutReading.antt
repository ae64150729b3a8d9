-- What is read of a class file is spelled so, and what is spelled so is read.
use Rattle.std.proofs.Common.{◌≡◌, ℕ, ◌+◌, ◌^◌, ◌<◌, eqb, cond, List, [], ◌∷◌, ◌++◌, length, Option, Some, None, refl, sym, ap, ◌∙◌, append_assoc, arith}
use Rattle.std.specs.List.{AllByRecursion}
use Rattle.std.proofs.lemmas.Bool.{eqb-true}
use Rattle.std.proofs.lemmas.List.{append-nil, nil_from_length}
use Rattle.jv_lists.proofs.Among.{all_from}
use Rattle.jv_read.specs.Reading.{◌>>=◌, number_at}
use Rattle.jv_read.proofs.Fronts.{bind_some, past_true, given_as, some_is, joined, number_takes, number_again}
use Rattle.jv_read.proofs.Many.{counted_take, counted_again}
use Rattle.jv_pool.specs.declared.item.PoolItem.{PoolItem}
use Rattle.jv_pool.specs.PoolText.{u2, u4, pool_text, IsPool, IsShort as IsShortItem}
use Rattle.jv_pool.specs.Steps.PoolReading.{pool_at}
use Rattle.jv_pool.proofs.PoolLaws.{pool_takes, pool_again}
use Rattle.jv_attr.specs.declared.attr.Attr.{Attr}
use Rattle.jv_attr.specs.declared.attr.CodeAttr.{CodeAttr}
use Rattle.jv_attr.specs.declared.owner.Owner as owners
use Rattle.jv_attr.specs.declared.owner.Owner.TheVariants as owner
use Rattle.jv_attr.specs.AttrText.{attr_text, IsAttr, HasFew, IsShort}
use Rattle.jv_attr.specs.Steps.AttrReading.{attr_at}
use Rattle.jv_attr.proofs.AttrLaws.{attr_takes, attr_again}
use Rattle.jv_class.specs.declared.class_file.Member.{Member}
use Rattle.jv_class.specs.declared.class_file.ClassFile.{ClassFile}
use Rattle.jv_class.specs.declared.layout.Opening.{Opening}
use Rattle.jv_class.specs.declared.layout.Declarations.{Declarations}
use Rattle.jv_class.specs.ClassTexts.{IsU2, counted_text, member_text, class_text, IsMember, IsFewMember, HasParts, HasFewItems, HasFewParts, HasShortParts}
use Rattle.jv_class.specs.Steps.PartWriting.{IsShortMember}
use Rattle.jv_class.specs.Steps.LayoutReading.{attrs_at, member_at, members_at, indices_at, magic_at, opening_at, declarations_at, joined as joined_class, class_at, layout_at}

-- what gives no value gives nothing
pub nothing_read : {A : Type 0} (o : Option A) → ((x : A) → o ≡ Some x → ⊥) → o ≡ None
nothing_read (Some x) none = absurd (none x refl)
nothing_read None none = refl

-- four parts, and what follows them
append_four : (a b c d rest : List ℕ) → (a ++ (b ++ (c ++ d))) ++ rest ≡ a ++ (b ++ (c ++ (d ++ rest)))
append_four a b c d rest = simp append_assoc

-- ---- attributes

-- an attribute with counts and lengths that fit
abbrev IsWholeAttr : List PoolItem → owners.Owner → ℕ → Attr CodeAttr → Type 0
IsWholeAttr items o major a = IsAttr items o major a × HasFew a × IsShort a

-- attributes that are few enough
abbrev AreWholeAttrs : List PoolItem → owners.Owner → ℕ → List (Attr CodeAttr) → Type 0
AreWholeAttrs items o major attrs = AllByRecursion (IsWholeAttr items o major) attrs × (length attrs < 2 ^ 16)

whole_attr_takes : (items : List PoolItem) (o : owners.Owner) (major : ℕ) (bytes : List ℕ) (x : Attr CodeAttr × List ℕ) → attr_at items o major bytes ≡ Some x → IsWholeAttr items o major x.0 × (bytes ≡ attr_text x.0 ++ x.1)
whole_attr_takes items o major bytes x e =
    let t = attr_takes items o major bytes x e in
    ((t.is_text.is_attr, t.is_text.few, t.is_text.short), t.parts ∙ ap (λ (f : List ℕ). f ++ x.1) t.is_text.spelled)

attrs_take : (items : List PoolItem) (o : owners.Owner) (major : ℕ) (bytes : List ℕ) (x : List (Attr CodeAttr) × List ℕ) → attrs_at items o major bytes ≡ Some x → AreWholeAttrs items o major x.0 × (bytes ≡ counted_text attr_text x.0 ++ x.1)
attrs_take items o major bytes x e =
    let t = counted_take (attr_at items o major) attr_text (IsWholeAttr items o major) (whole_attr_takes items o major) bytes x e in
    ((t.0, t.1), t.2)

attrs_again : (items : List PoolItem) (o : owners.Owner) (major : ℕ) (attrs : List (Attr CodeAttr)) (rest : List ℕ) → AreWholeAttrs items o major attrs → attrs_at items o major (counted_text attr_text attrs ++ rest) ≡ Some (attrs, rest)
attrs_again items o major attrs rest h =
    counted_again (attr_at items o major) attr_text (IsWholeAttr items o major) (λ a more w. attr_again items o major a more w.0 w.1 w.2) attrs rest h.0 h.1

-- ---- a member

-- a member whose attributes are few and short enough
record IsWholeMember (items : List PoolItem) (o : owners.Owner) (major : ℕ) (m : Member) : Type 0 where
  access : IsU2 m.access
  name : IsU2 m.name
  desc : IsU2 m.desc
  attrs : AreWholeAttrs items o major m.attrs

member_takes : (items : List PoolItem) (o : owners.Owner) (major : ℕ) (bytes : List ℕ) (x : Member × List ℕ) → member_at items o major bytes ≡ Some x → IsWholeMember items o major x.0 × (bytes ≡ member_text x.0 ++ x.1)
unfolding member_at
member_takes items o major bytes x e =
    let a = bind_some (number_at 2 bytes) _ x e in
    let b = bind_some (number_at 2 a.0.1) _ x a.2 in
    let c = bind_some (number_at 2 b.0.1) _ x b.2 in
    let d = bind_some (attrs_at items o major c.0.1) _ x c.2 in
    let p = number_takes 2 bytes a.0 a.1 in
    let q = number_takes 2 a.0.1 b.0 b.1 in
    let r = number_takes 2 b.0.1 c.0 c.1 in
    let s = attrs_take items o major c.0.1 d.0 d.1 in
    let made : Member × List ℕ = (record { access = a.0.0; name = b.0.0; desc = c.0.0; attrs = d.0.0 }, d.0.1) in
    let three = joined b.0.1 (u2 c.0.0) (counted_text attr_text d.0.0) c.0.1 d.0.1 r.0 s.1 in
    let two = joined a.0.1 (u2 b.0.0) (u2 c.0.0 ++ counted_text attr_text d.0.0) b.0.1 d.0.1 q.0 three in
    let whole = joined bytes (u2 a.0.0) (u2 b.0.0 ++ (u2 c.0.0 ++ counted_text attr_text d.0.0)) a.0.1 d.0.1 p.0 two in
    given_as (λ (y : Member × List ℕ). IsWholeMember items o major y.0 × (bytes ≡ member_text y.0 ++ y.1)) made x d.2
    (record { access = p.1; name = q.1; desc = r.1; attrs = s.0 }, whole)

member_again : (items : List PoolItem) (o : owners.Owner) (major : ℕ) (m : Member) (rest : List ℕ) → IsWholeMember items o major m → member_at items o major (member_text m ++ rest) ≡ Some (m, rest)
unfolding member_at
member_again items o major m rest h =
    let four = counted_text attr_text m.attrs ++ rest in
    let three = u2 m.desc ++ four in
    let two = u2 m.name ++ three in
    let flat : member_text m ++ rest ≡ u2 m.access ++ two = append_four (u2 m.access) (u2 m.name) (u2 m.desc) (counted_text attr_text m.attrs) rest in
    let a = number_again 2 m.access two h.access in
    let b = number_again 2 m.name three h.name in
    let c = number_again 2 m.desc four h.desc in
    let d = attrs_again items o major m.attrs rest h.attrs in
    rw (flat, a, b, c, d) refl

-- members that are few enough
abbrev AreWholeMembers : List PoolItem → owners.Owner → ℕ → List Member → Type 0
AreWholeMembers items o major members = AllByRecursion (IsWholeMember items o major) members × (length members < 2 ^ 16)

members_take : (items : List PoolItem) (o : owners.Owner) (major : ℕ) (bytes : List ℕ) (x : List Member × List ℕ) → members_at items o major bytes ≡ Some x → AreWholeMembers items o major x.0 × (bytes ≡ counted_text member_text x.0 ++ x.1)
members_take items o major bytes x e =
    let t = counted_take (member_at items o major) member_text (IsWholeMember items o major) (member_takes items o major) bytes x e in
    ((t.0, t.1), t.2)

members_again : (items : List PoolItem) (o : owners.Owner) (major : ℕ) (members : List Member) (rest : List ℕ) → AreWholeMembers items o major members → members_at items o major (counted_text member_text members ++ rest) ≡ Some (members, rest)
members_again items o major members rest h =
    counted_again (member_at items o major) member_text (IsWholeMember items o major) (member_again items o major) members rest h.0 h.1

-- ---- indices

index_takes : (bytes : List ℕ) (x : ℕ × List ℕ) → number_at 2 bytes ≡ Some x → IsU2 x.0 × (bytes ≡ u2 x.0 ++ x.1)
index_takes bytes x e = let t = number_takes 2 bytes x e in (t.1, t.0)

indices_take : (bytes : List ℕ) (x : List ℕ × List ℕ) → indices_at bytes ≡ Some x → AllByRecursion IsU2 x.0 × (length x.0 < 2 ^ 16) × (bytes ≡ counted_text u2 x.0 ++ x.1)
indices_take bytes x e = counted_take (number_at 2) u2 IsU2 index_takes bytes x e

indices_again : (indices rest : List ℕ) → AllByRecursion IsU2 indices → length indices < 2 ^ 16 → indices_at (counted_text u2 indices ++ rest) ≡ Some (indices, rest)
indices_again indices rest each few = counted_again (number_at 2) u2 IsU2 (λ i more h. number_again 2 i more h) indices rest each few

-- ---- the magic number, the versions and the pool

abbrev opening_text : Opening → List ℕ
opening_text o = u4 0xCAFEBABE ++ (u2 o.minor ++ (u2 o.major ++ pool_text o.pool))

record IsOpening (o : Opening) : Type 0 where
  minor : IsU2 o.minor
  major : IsU2 o.major
  pool : IsPool o.pool
  count : 1 + length o.pool < 2 ^ 16
  short : AllByRecursion IsShortItem o.pool

magic_takes : (bytes : List ℕ) (x : ℕ × List ℕ) → magic_at bytes ≡ Some x → bytes ≡ u4 0xCAFEBABE ++ x.1
unfolding magic_at
magic_takes bytes x e =
    let a = bind_some (number_at 4 bytes) _ x e in
    let g = past_true (eqb a.0.0 0xCAFEBABE) (Some a.0) x a.2 in
    let t = number_takes 4 bytes a.0 a.1 in
    given_as (λ (y : ℕ × List ℕ). bytes ≡ u4 0xCAFEBABE ++ y.1) a.0 x g.1
    (t.0 ∙ ap (λ (n : ℕ). u4 n ++ a.0.1) (eqb-true a.0.0 0xCAFEBABE g.0))

magic_again : (rest : List ℕ) → magic_at (u4 0xCAFEBABE ++ rest) ≡ Some (0xCAFEBABE, rest)
unfolding magic_at
magic_again rest =
    let a = number_again 4 0xCAFEBABE rest (omega arith) in
    rw a refl

opening_takes : (bytes : List ℕ) (x : Opening × List ℕ) → opening_at bytes ≡ Some x → IsOpening x.0 × (bytes ≡ opening_text x.0 ++ x.1)
unfolding opening_at
opening_takes bytes x e =
    let a = bind_some (magic_at bytes) _ x e in
    let b = bind_some (number_at 2 a.0.1) _ x a.2 in
    let c = bind_some (number_at 2 b.0.1) _ x b.2 in
    let d = bind_some (pool_at c.0.1) _ x c.2 in
    let p = magic_takes bytes a.0 a.1 in
    let q = number_takes 2 a.0.1 b.0 b.1 in
    let r = number_takes 2 b.0.1 c.0 c.1 in
    let s = pool_takes c.0.1 d.0 d.1 in
    let made : Opening × List ℕ = (record { minor = b.0.0; major = c.0.0; pool = d.0.0 }, d.0.1) in
    let pool : c.0.1 ≡ pool_text d.0.0 ++ d.0.1 = s.parts ∙ ap (λ (f : List ℕ). f ++ d.0.1) s.is_text.spelled in
    let three = joined b.0.1 (u2 c.0.0) (pool_text d.0.0) c.0.1 d.0.1 r.0 pool in
    let two = joined a.0.1 (u2 b.0.0) (u2 c.0.0 ++ pool_text d.0.0) b.0.1 d.0.1 q.0 three in
    let whole = joined bytes (u4 0xCAFEBABE) (u2 b.0.0 ++ (u2 c.0.0 ++ pool_text d.0.0)) a.0.1 d.0.1 p two in
    given_as (λ (y : Opening × List ℕ). IsOpening y.0 × (bytes ≡ opening_text y.0 ++ y.1)) made x d.2
    (record { minor = q.1; major = r.1; pool = s.is_text.is_pool; count = s.is_text.count; short = s.is_text.short }, whole)

opening_again : (o : Opening) (rest : List ℕ) → IsOpening o → opening_at (opening_text o ++ rest) ≡ Some (o, rest)
unfolding opening_at
opening_again o rest h =
    let four = pool_text o.pool ++ rest in
    let three = u2 o.major ++ four in
    let two = u2 o.minor ++ three in
    let flat : opening_text o ++ rest ≡ u4 0xCAFEBABE ++ two = append_four (u4 0xCAFEBABE) (u2 o.minor) (u2 o.major) (pool_text o.pool) rest in
    let a = magic_again two in
    let b = number_again 2 o.minor three h.minor in
    let c = number_again 2 o.major four h.major in
    let d = pool_again o.pool rest h.pool h.count h.short in
    rw (flat, a, b, c, d) refl

-- ---- what stands behind the pool

abbrev declarations_text : Declarations → List ℕ
declarations_text d =
    u2 d.access ++ (u2 d.this_class ++ (u2 d.super_class
    ++ (counted_text u2 d.interfaces ++ (counted_text member_text d.fields ++ (counted_text member_text d.methods ++ counted_text attr_text d.attrs)))))

record AreDeclarations (items : List PoolItem) (major : ℕ) (d : Declarations) : Type 0 where
  access : IsU2 d.access
  this_class : IsU2 d.this_class
  super_class : IsU2 d.super_class
  interfaces : AllByRecursion IsU2 d.interfaces × (length d.interfaces < 2 ^ 16)
  fields : AreWholeMembers items owner.Field major d.fields
  methods : AreWholeMembers items owner.Method major d.methods
  attrs : AreWholeAttrs items owner.Class major d.attrs

declarations_take : (items : List PoolItem) (major : ℕ) (bytes : List ℕ) (x : Declarations × List ℕ) → declarations_at items major bytes ≡ Some x → AreDeclarations items major x.0 × (bytes ≡ declarations_text x.0 ++ x.1)
unfolding declarations_at
declarations_take items major bytes x e =
    let a = bind_some (number_at 2 bytes) _ x e in
    let b = bind_some (number_at 2 a.0.1) _ x a.2 in
    let c = bind_some (number_at 2 b.0.1) _ x b.2 in
    let d = bind_some (indices_at c.0.1) _ x c.2 in
    let f = bind_some (members_at items owner.Field major d.0.1) _ x d.2 in
    let g = bind_some (members_at items owner.Method major f.0.1) _ x f.2 in
    let h = bind_some (attrs_at items owner.Class major g.0.1) _ x g.2 in
    let p = number_takes 2 bytes a.0 a.1 in
    let q = number_takes 2 a.0.1 b.0 b.1 in
    let r = number_takes 2 b.0.1 c.0 c.1 in
    let s = indices_take c.0.1 d.0 d.1 in
    let t = members_take items owner.Field major d.0.1 f.0 f.1 in
    let u = members_take items owner.Method major f.0.1 g.0 g.1 in
    let v = attrs_take items owner.Class major g.0.1 h.0 h.1 in
    let made : Declarations × List ℕ = (record { access = a.0.0; this_class = b.0.0; super_class = c.0.0; interfaces = d.0.0; fields = f.0.0; methods = g.0.0; attrs = h.0.0 }, h.0.1) in
    let seven = counted_text attr_text h.0.0 in
    let six = counted_text member_text g.0.0 ++ seven in
    let five = counted_text member_text f.0.0 ++ six in
    let four = counted_text u2 d.0.0 ++ five in
    let at_six = joined f.0.1 (counted_text member_text g.0.0) seven g.0.1 h.0.1 u.1 v.1 in
    let at_five = joined d.0.1 (counted_text member_text f.0.0) six f.0.1 h.0.1 t.1 at_six in
    let at_four = joined c.0.1 (counted_text u2 d.0.0) five d.0.1 h.0.1 s.2 at_five in
    let at_three = joined b.0.1 (u2 c.0.0) four c.0.1 h.0.1 r.0 at_four in
    let at_two = joined a.0.1 (u2 b.0.0) (u2 c.0.0 ++ four) b.0.1 h.0.1 q.0 at_three in
    let whole = joined bytes (u2 a.0.0) (u2 b.0.0 ++ (u2 c.0.0 ++ four)) a.0.1 h.0.1 p.0 at_two in
    given_as (λ (y : Declarations × List ℕ). AreDeclarations items major y.0 × (bytes ≡ declarations_text y.0 ++ y.1)) made x h.2
    (record { access = p.1; this_class = q.1; super_class = r.1; interfaces = (s.0, s.1); fields = t.0; methods = u.0; attrs = v.0 }, whole)

declarations_again : (items : List PoolItem) (major : ℕ) (d : Declarations) (rest : List ℕ) → AreDeclarations items major d → declarations_at items major (declarations_text d ++ rest) ≡ Some (d, rest)
unfolding declarations_at
declarations_again items major d rest h =
    let seven = counted_text attr_text d.attrs ++ rest in
    let six = counted_text member_text d.methods ++ seven in
    let five = counted_text member_text d.fields ++ six in
    let four = counted_text u2 d.interfaces ++ five in
    let three = u2 d.super_class ++ four in
    let two = u2 d.this_class ++ three in
    let behind : (counted_text u2 d.interfaces ++ (counted_text member_text d.fields ++ (counted_text member_text d.methods ++ counted_text attr_text d.attrs))) ++ rest ≡ four =
    append_four (counted_text u2 d.interfaces) (counted_text member_text d.fields) (counted_text member_text d.methods) (counted_text attr_text d.attrs) rest in
    let flat : declarations_text d ++ rest ≡ u2 d.access ++ two =
    append_four (u2 d.access) (u2 d.this_class) (u2 d.super_class) (counted_text u2 d.interfaces ++ (counted_text member_text d.fields ++ (counted_text member_text d.methods ++ counted_text attr_text d.attrs))) rest
    ∙ ap (λ (t : List ℕ). u2 d.access ++ (u2 d.this_class ++ (u2 d.super_class ++ t))) behind in
    let a = number_again 2 d.access two h.access in
    let b = number_again 2 d.this_class three h.this_class in
    let c = number_again 2 d.super_class four h.super_class in
    let i = indices_again d.interfaces five h.interfaces.0 h.interfaces.1 in
    let f = members_again items owner.Field major d.fields six h.fields in
    let m = members_again items owner.Method major d.methods seven h.methods in
    let l = attrs_again items owner.Class major d.attrs rest h.attrs in
    rw (flat, a, b, c, i, f, m, l) refl

-- ---- a class

-- a class with its counts and lengths, apart from the rules
pub record IsWholeClass (c : ClassFile) : Type 0 where
  pub parts : HasParts c
  pub few_items : HasFewItems c
  pub few_parts : HasFewParts c
  pub short_parts : HasShortParts c

-- what holds of each item one by one and together
each_whole : {A : Type 0} (P Q R : A → Type 0) (xs : List A) → AllByRecursion P xs → AllByRecursion Q xs → AllByRecursion R xs → AllByRecursion (λ x. P x × Q x × R x) xs
each_whole P Q R [] p q r = tt
each_whole P Q R (x ∷ xs) p q r = ((p.0, q.0, r.0), each_whole P Q R xs p.1 q.1 r.1)

whole_members : (items : List PoolItem) (o : owners.Owner) (major : ℕ) (members : List Member) → AllByRecursion (IsMember items o major) members → AllByRecursion IsFewMember members → AllByRecursion IsShortMember members
    → AllByRecursion (IsWholeMember items o major) members
whole_members items o major members p q r =
    all_from (λ m. IsMember items o major m × IsFewMember m × IsShortMember m) (IsWholeMember items o major)
    (λ m h. record { access = h.0.access; name = h.0.name; desc = h.0.desc; attrs = (each_whole (IsAttr items o major) HasFew IsShort m.attrs h.0.attrs h.1.each h.2, h.1.attrs) }) members (each_whole (IsMember items o major) IsFewMember IsShortMember members p q r)

-- what a whole member is by its parts
module _ (items : List PoolItem) (o : owners.Owner) (major : ℕ) where
  attrs_are : (attrs : List (Attr CodeAttr)) → AllByRecursion (IsWholeAttr items o major) attrs → AllByRecursion (IsAttr items o major) attrs
  attrs_are attrs h = all_from (IsWholeAttr items o major) (IsAttr items o major) (λ a w. w.0) attrs h

  attrs_few : (attrs : List (Attr CodeAttr)) → AllByRecursion (IsWholeAttr items o major) attrs → AllByRecursion HasFew attrs
  attrs_few attrs h = all_from (IsWholeAttr items o major) HasFew (λ a w. w.1) attrs h

  attrs_short : (attrs : List (Attr CodeAttr)) → AllByRecursion (IsWholeAttr items o major) attrs → AllByRecursion IsShort attrs
  attrs_short attrs h = all_from (IsWholeAttr items o major) IsShort (λ a w. w.2) attrs h

  members_are : (members : List Member) → AllByRecursion (IsWholeMember items o major) members → AllByRecursion (IsMember items o major) members
  members_are members h = all_from (IsWholeMember items o major) (IsMember items o major) (λ m w. record { access = w.access; name = w.name; desc = w.desc; attrs = attrs_are m.attrs w.attrs.0 }) members h

  members_few : (members : List Member) → AllByRecursion (IsWholeMember items o major) members → AllByRecursion IsFewMember members
  members_few members h = all_from (IsWholeMember items o major) IsFewMember (λ m w. record { attrs = w.attrs.1; each = attrs_few m.attrs w.attrs.0 }) members h

  members_short : (members : List Member) → AllByRecursion (IsWholeMember items o major) members → AllByRecursion IsShortMember members
  members_short members h = all_from (IsWholeMember items o major) IsShortMember (λ m w. attrs_short m.attrs w.attrs.0) members h

-- an opening and declarations are a class
whole_class : (o : Opening) (d : Declarations) → IsOpening o → AreDeclarations o.pool o.major d → IsWholeClass (joined_class o d)
whole_class o d p q = record {
  parts = record {
    numbers = record { minor = p.minor; major = p.major; access = q.access; this_class = q.this_class; super_class = q.super_class; interfaces = q.interfaces.0 };
    pool = p.pool;
    fields = members_are o.pool owner.Field o.major d.fields q.fields.0;
    methods = members_are o.pool owner.Method o.major d.methods q.methods.0;
    attrs = attrs_are o.pool owner.Class o.major d.attrs q.attrs.0;
  };
  few_items = p.count;
  few_parts = record {
    interfaces = q.interfaces.1;
    fields = q.fields.1;
    methods = q.methods.1;
    attrs = q.attrs.1;
    each_field = members_few o.pool owner.Field o.major d.fields q.fields.0;
    each_method = members_few o.pool owner.Method o.major d.methods q.methods.0;
    each_attr = attrs_few o.pool owner.Class o.major d.attrs q.attrs.0;
  };
  short_parts = record {
    pool = p.short;
    fields = members_short o.pool owner.Field o.major d.fields q.fields.0;
    methods = members_short o.pool owner.Method o.major d.methods q.methods.0;
    attrs = attrs_short o.pool owner.Class o.major d.attrs q.attrs.0;
  };
}

-- and a class is an opening and declarations
abbrev opening_of : ClassFile → Opening
opening_of c = record { minor = c.minor; major = c.major; pool = c.pool }

abbrev declared_by : ClassFile → Declarations
declared_by c = record { access = c.access; this_class = c.this_class; super_class = c.super_class; interfaces = c.interfaces; fields = c.fields; methods = c.methods; attrs = c.attrs }

is_opening : (c : ClassFile) → IsWholeClass c → IsOpening (opening_of c)
is_opening c h = record { minor = h.parts.numbers.minor; major = h.parts.numbers.major; pool = h.parts.pool; count = h.few_items; short = h.short_parts.pool }

are_declarations : (c : ClassFile) → IsWholeClass c → AreDeclarations c.pool c.major (declared_by c)
are_declarations c h = record {
  access = h.parts.numbers.access;
  this_class = h.parts.numbers.this_class;
  super_class = h.parts.numbers.super_class;
  interfaces = (h.parts.numbers.interfaces, h.few_parts.interfaces);
  fields = (whole_members c.pool owner.Field c.major c.fields h.parts.fields h.few_parts.each_field h.short_parts.fields, h.few_parts.fields);
  methods = (whole_members c.pool owner.Method c.major c.methods h.parts.methods h.few_parts.each_method h.short_parts.methods, h.few_parts.methods);
  attrs = (each_whole (IsAttr c.pool owner.Class c.major) HasFew IsShort c.attrs h.parts.attrs h.few_parts.each_attr h.short_parts.attrs, h.few_parts.attrs);
}

-- its text is that of the two
text_in_two : (c : ClassFile) → class_text c ≡ opening_text (opening_of c) ++ declarations_text (declared_by c)
text_in_two c = sym (append_four (u4 0xCAFEBABE) (u2 c.minor) (u2 c.major) (pool_text c.pool) (declarations_text (declared_by c)))

class_takes : (bytes : List ℕ) (x : ClassFile × List ℕ) → class_at bytes ≡ Some x → IsWholeClass x.0 × (bytes ≡ class_text x.0 ++ x.1)
unfolding class_at
class_takes bytes x e =
    let a = bind_some (opening_at bytes) _ x e in
    let b = bind_some (declarations_at a.0.0.pool a.0.0.major a.0.1) _ x a.2 in
    let p = opening_takes bytes a.0 a.1 in
    let q = declarations_take a.0.0.pool a.0.0.major a.0.1 b.0 b.1 in
    let made : ClassFile × List ℕ = (joined_class a.0.0 b.0.0, b.0.1) in
    let whole : bytes ≡ class_text made.0 ++ b.0.1 = joined bytes (opening_text a.0.0) (declarations_text b.0.0) a.0.1 b.0.1 p.1 q.1 ∙ ap (λ (t : List ℕ). t ++ b.0.1) (sym (text_in_two made.0)) in
    given_as (λ (y : ClassFile × List ℕ). IsWholeClass y.0 × (bytes ≡ class_text y.0 ++ y.1)) made x b.2 (whole_class a.0.0 b.0.0 p.0 q.0, whole)

class_again : (c : ClassFile) (rest : List ℕ) → IsWholeClass c → class_at (class_text c ++ rest) ≡ Some (c, rest)
unfolding class_at
class_again c rest h =
    let flat : class_text c ++ rest ≡ opening_text (opening_of c) ++ (declarations_text (declared_by c) ++ rest) =
    ap (λ (t : List ℕ). t ++ rest) (text_in_two c) ∙ append_assoc (opening_text (opening_of c)) (declarations_text (declared_by c)) rest in
    let a = opening_again (opening_of c) (declarations_text (declared_by c) ++ rest) (is_opening c h) in
    let b = declarations_again c.pool c.major (declared_by c) rest (are_declarations c h) in
    rw (flat, a, b) refl

-- all of the bytes of a class
pub layout_takes : (bytes : List ℕ) (c : ClassFile) → layout_at bytes ≡ Some c → IsWholeClass c × (bytes ≡ class_text c)
unfolding layout_at
layout_takes bytes c e =
    let a = bind_some (class_at bytes) _ c e in
    let g = past_true (eqb (length a.0.1) 0) (Some a.0.0) c a.2 in
    let t = class_takes bytes a.0 a.1 in
    let all : bytes ≡ class_text a.0.0 = t.1 ∙ ap (λ (r : List ℕ). class_text a.0.0 ++ r) (nil_from_length a.0.1 (eqb-true (length a.0.1) 0 g.0)) ∙ append-nil (class_text a.0.0) in
    given_as (λ (k : ClassFile). IsWholeClass k × (bytes ≡ class_text k)) a.0.0 c g.1 (t.0, all)

pub layout_again : (c : ClassFile) → IsWholeClass c → layout_at (class_text c) ≡ Some c
unfolding layout_at
layout_again c h =
    let flat : class_text c ≡ class_text c ++ [] = sym (append-nil (class_text c)) in
    let a = class_again c [] h in
    ap (λ (t : List ℕ). class_at t >>= λ x. cond (eqb (length x.1) 0) (some_class x.0) None) flat ∙ rw a refl
  where
    some_class : ClassFile → Option ClassFile
    some_class k = Some k

-- a text of a class begins no other one's
pub fronts_agree : (c d : ClassFile) (x y : List ℕ) → IsWholeClass c → IsWholeClass d → class_text c ++ x ≡ class_text d ++ y → (c ≡ d) × (x ≡ y)
fronts_agree c d x y p q e =
    let first : ClassFile × List ℕ = (c, x) in
    let second : ClassFile × List ℕ = (d, y) in
    let same : first ≡ second = some_is first second (sym (class_again c x p) ∙ ap class_at e ∙ class_again d y q) in
    (ap (λ (z : ClassFile × List ℕ). z.0) same, ap (λ (z : ClassFile × List ℕ). z.1) same)
