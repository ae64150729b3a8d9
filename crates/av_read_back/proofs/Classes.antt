-- The file of a class that may be filed.
use Rattle.std.proofs.Common.{◌≡◌, ℕ, ◌<◌, ◌⊎◌, List, [], ◌∷◌, length, Option, Some, None, refl, sym, ap, subst, ◌∙◌, inl, inr, arith}
use Rattle.std.specs.Prelude.{IfSome, slice_get}
use Rattle.std.specs.List.{AllByRecursion, AllZip}
use Rattle.std.proofs.lemmas.Slice.Zip.{AllZip-long}
use Rattle.jv_lists.proofs.Zips.{zip_back}
use Rattle.jv_types.specs.declared.shapes.FieldShape.{FieldShape}
use Rattle.jv_desc.specs.Texts.{desc_text, method_text}
use Rattle.jv_pool.specs.declared.item.PoolItem.{PoolItem}
use Rattle.jv_pool.specs.Lookups.{text_at}
use Rattle.jv_attr.specs.declared.owner.Owner.TheVariants as owner
use Rattle.jv_attr.specs.AttrText.{IsShort}
use Rattle.jv_names.specs.PoolNames.{HasClassName}
use Rattle.jv_read.specs.Reading.{◌>>=◌}
use Rattle.jv_read.proofs.Fronts.{bind_some, given_as, some_is}
use Rattle.jv_insn.specs.Entries.{put_class, Grows}
use Rattle.jv_class.specs.declared.class_file.Member.{Member}
use Rattle.jv_class.specs.declared.class_file.ClassFile.{ClassFile}
use Rattle.jv_class.specs.ClassTexts.{class_text, IsU2, IsMember, IsField, IsMethodMember, AreDistinct, IsClass, IsFewMember, ClassText}
use Rattle.av_asm.specs.Mapping.{put_each}
use Rattle.av_standin_of.specs.Classes.{MadeMethod, MadeClass}
use Rattle.av_standin_of.specs.Files.{put_parent, put_field, put_method, class_file}
use Rattle.av_read_back.specs.Fileable.{IsFiledName, IsFileableField, IsFileableMethod, IsFileable}
use Rattle.av_read_back.proofs.Pools.{IsFilePool, empty_pool, grown_not, grows_on, has_class_later}
use Rattle.av_read_back.proofs.Named.{class_put}
use Rattle.av_read_back.proofs.Each.{zip_second, IsOnePut, AreEachPut, each_put}
use Rattle.av_read_back.proofs.Plans.{each_of}
use Rattle.av_read_back.proofs.Members.{IsFiledField, field_put, field_later, IsFiledMethod, method_put, method_later}

-- ---- classes that are named

-- the index names a class of this name
record IsFiledClass (pool : List PoolItem) (name : List ℕ) (i : ℕ) : Type 0 where
  is : HasClassName pool i
  small : i < 65536

name_put : (name : List ℕ) (old : List PoolItem) (made : ℕ × List PoolItem) → IsFilePool old → IsFiledName name → put_class name old ≡ Some made → IsOnePut IsFiledClass old made.1 name made.0
name_put name old made g may e =
    let p = class_put name old made g may.fits (inl may.name) e in
    record { grown = p.grown; is = record { is = record { text = name; found = p.found; kind = may.name }; small = p.small } }

name_later : (name : List ℕ) (i : ℕ) (old new : List PoolItem) → Grows old new → IsFiledClass old name i → IsFiledClass new name i
name_later name i old new grows h = record { is = has_class_later old new i grows h.is; small = h.small }

-- the superclass, or none
record IsFiledParent (pool : List PoolItem) (parent : Option (List ℕ)) (i : ℕ) : Type 0 where
  is : (i ≡ 0) ⊎ HasClassName pool i
  small : i < 65536

parent_put : (parent : Option (List ℕ)) (old : List PoolItem) (made : ℕ × List PoolItem) → IsFilePool old → IfSome parent IsFiledName → put_parent parent old ≡ Some made → IsOnePut IsFiledParent old made.1 parent made.0
parent_put None old made g may e =
    let here : ℕ × List PoolItem = (0, old) in
    given_as (λ (w : ℕ × List PoolItem). IsOnePut IsFiledParent old w.1 None w.0) here made e (record { grown = grown_not old g; is = record { is = inl refl; small = omega arith } })
parent_put (Some name) old made g may e =
    let p = name_put name old made g may e in
    record { grown = p.grown; is = record { is = inr p.is.is; small = p.is.small } }

parent_later : (old new : List PoolItem) (i : ℕ) → Grows old new → (i ≡ 0) ⊎ HasClassName old i → (i ≡ 0) ⊎ HasClassName new i
parent_later old new i grows (inl e) = inl e
parent_later old new i grows (inr h) = inr (has_class_later old new i grows h)

-- ---- members are distinct

pair_of : List ℕ → List ℕ → List ℕ × List ℕ
pair_of a b = (a, b)

same_pair : (a b c d : List ℕ) → a ≡ c → b ≡ d → pair_of a b ≡ pair_of c d
same_pair a b c d e f = ap (λ (x : List ℕ). pair_of x b) e ∙ ap (pair_of c) f

distinct : {X : Type 0} (R : X → Member → Type 0) (name desc : X → List ℕ) (pool : List PoolItem) (xs : List X) (members : List Member)
    → ((x : X) (m : Member) → R x m → text_at pool m.name ≡ Some (name x)) → ((x : X) (m : Member) → R x m → text_at pool m.desc ≡ Some (desc x))
    → ((i j : ℕ) (a b : X) → slice_get xs i ≡ Some a → slice_get xs j ≡ Some b → name a ≡ name b → desc a ≡ desc b → i ≡ j)
    → AllZip R xs members → AreDistinct pool members
distinct R name desc pool xs members name_at desc_at apart zipped i j a b at_i at_j names_same descs_same =
    let x = zip_back R xs members zipped i a at_i in
    let y = zip_back R xs members zipped j b at_j in
    apart i j x.0 y.0 x.1 y.1
    (some_is (name x.0) (name y.0) (sym (name_at x.0 a x.2) ∙ names_same ∙ name_at y.0 b y.2))
    (some_is (desc x.0) (desc y.0) (sym (desc_at x.0 a x.2) ∙ descs_same ∙ desc_at y.0 b y.2))

-- ---- a file

-- what the parts of a file are
record IsFiled (made : MadeClass) (file : ClassFile) : Type 0 where
  pool : IsFilePool file.pool
  minor : file.minor ≡ 0
  major : file.major ≡ 52
  access : file.access ≡ made.flags.0
  this_class : IsFiledClass file.pool made.name file.this_class
  super_class : IsFiledParent file.pool made.parent file.super_class
  interfaces : AllZip (IsFiledClass file.pool) made.interfaces file.interfaces
  fields : AllZip (IsFiledField file.pool) made.fields file.fields
  methods : AllZip (IsFiledMethod file.pool) made.methods file.methods
  attrs : file.attrs ≡ []

zip_later : {X Y : Type 0} (Q : List PoolItem → X → Y → Type 0) (old new : List PoolItem) → ((x : X) (y : Y) → Q old x y → Q new x y) → (xs : List X) (ys : List Y) → AllZip (Q old) xs ys → AllZip (Q new) xs ys
zip_later Q old new f [] [] h = tt
zip_later Q old new f [] (y ∷ ys) h = absurd h
zip_later Q old new f (x ∷ xs) [] h = absurd h
zip_later Q old new f (x ∷ xs) (y ∷ ys) h = (f x y h.0, zip_later Q old new f xs ys h.1)

abbrev file_of : MadeClass → ℕ → ℕ → List ℕ → List Member → List Member → List PoolItem → ClassFile
file_of made this super interfaces fields methods pool = record {
  minor = 0;
  major = 52;
  pool = pool;
  access = made.flags.0;
  this_class = this;
  super_class = super;
  interfaces = interfaces;
  fields = fields;
  methods = methods;
  attrs = [];
}

-- the parts, each put behind the one before
parts_of : (made : MadeClass) (this super : ℕ) (interfaces : List ℕ) (fields methods : List Member) (one two three four pool : List PoolItem)
    → IsOnePut IsFiledClass [] one made.name this → IsOnePut IsFiledParent one two made.parent super → AreEachPut IsFiledClass two three made.interfaces interfaces → AreEachPut IsFiledField three four made.fields fields
    → AreEachPut IsFiledMethod four pool made.methods methods → IsFiled made (file_of made this super interfaces fields methods pool)
parts_of made this super interfaces fields methods one two three four pool h1 h2 h3 h4 h5 =
    let from_four : Grows four pool = h5.grown.grows in
    let from_three : Grows three pool = grows_on three four pool h4.grown.grows from_four in
    let from_two : Grows two pool = grows_on two three pool h3.grown.grows from_three in
    let from_one : Grows one pool = grows_on one two pool h2.grown.grows from_two in
    record {
      pool = h5.grown.good;
      minor = refl;
      major = refl;
      access = refl;
      this_class = name_later made.name this one pool from_one h1.is;
      super_class = record { is = parent_later two pool super from_two h2.is.is; small = h2.is.small };
      interfaces = zip_later IsFiledClass three pool (λ name i h. name_later name i three pool from_three h) made.interfaces interfaces h3.are;
      fields = zip_later IsFiledField four pool (λ field m h. field_later field m four pool from_four h) made.fields fields h4.are;
      methods = h5.are;
      attrs = refl;
    }

filed : (made : MadeClass) (file : ClassFile) → IsFileable made → class_file made ≡ Some file → IsFiled made file
filed made file may e =
    let a = bind_some (put_class made.name [])
    (λ this. put_parent made.parent this.1 >>= λ super. put_each put_class made.interfaces super.1 >>= λ interfaces. put_each put_field made.fields interfaces.1 >>= λ fields. put_each put_method made.methods fields.1 >>= λ methods.
    Some (file_of made this.0 super.0 interfaces.0 fields.0 methods.0 methods.1)) file e in
    let b = bind_some (put_parent made.parent a.0.1)
    (λ super. put_each put_class made.interfaces super.1 >>= λ interfaces. put_each put_field made.fields interfaces.1 >>= λ fields. put_each put_method made.methods fields.1 >>= λ methods.
    Some (file_of made a.0.0 super.0 interfaces.0 fields.0 methods.0 methods.1)) file a.2 in
    let c = bind_some (put_each put_class made.interfaces b.0.1)
    (λ interfaces. put_each put_field made.fields interfaces.1 >>= λ fields. put_each put_method made.methods fields.1 >>= λ methods. Some (file_of made a.0.0 b.0.0 interfaces.0 fields.0 methods.0 methods.1)) file b.2 in
    let d = bind_some (put_each put_field made.fields c.0.1) (λ fields. put_each put_method made.methods fields.1 >>= λ methods. Some (file_of made a.0.0 b.0.0 c.0.0 fields.0 methods.0 methods.1)) file c.2 in
    let f = bind_some (put_each put_method made.methods d.0.1) (λ methods. Some (file_of made a.0.0 b.0.0 c.0.0 d.0.0 methods.0 methods.1)) file d.2 in
    let this = name_put made.name [] a.0 empty_pool may.name a.1 in
    let super = parent_put made.parent a.0.1 b.0 this.grown.good may.super b.1 in
    let interfaces = each_put put_class IsFiledName IsFiledClass name_put name_later made.interfaces b.0.1 c.0 super.grown.good (each_of IsFiledName made.interfaces may.interfaces) c.1 in
    let fields = each_put put_field IsFileableField IsFiledField field_put field_later made.fields c.0.1 d.0 interfaces.grown.good (each_of IsFileableField made.fields may.fields) d.1 in
    let methods = each_put put_method IsFileableMethod IsFiledMethod method_put method_later made.methods d.0.1 f.0 fields.grown.good (each_of IsFileableMethod made.methods may.methods) f.1 in
    given_as (IsFiled made) (file_of made a.0.0 b.0.0 c.0.0 d.0.0 f.0.0 f.0.1) file f.2
    (parts_of made a.0.0 b.0.0 c.0.0 d.0.0 f.0.0 a.0.1 b.0.1 c.0.1 d.0.1 f.0.1 this super interfaces fields methods)

-- ---- it is a class

is_class_of : (made : MadeClass) (file : ClassFile) → IsFileable made → IsFiled made file → IsClass file
is_class_of made file may f =
    let pool = file.pool in
    let fields : AllByRecursion (IsMember pool owner.Field 52) file.fields = zip_second (IsFiledField pool) (IsMember pool owner.Field 52) (λ x m h. h.is) made.fields file.fields f.fields in
    let methods : AllByRecursion (IsMember pool owner.Method 52) file.methods = zip_second (IsFiledMethod pool) (IsMember pool owner.Method 52) (λ x m h. h.is) made.methods file.methods f.methods in
    record {
      parts = record {
        numbers = record {
          minor = omega (arith, f.minor);
          major = omega (arith, f.major);
          access = omega (arith, f.access, may.flags);
          this_class = f.this_class.small;
          super_class = f.super_class.small;
          interfaces = zip_second (IsFiledClass pool) IsU2 (λ x i h. h.small) made.interfaces file.interfaces f.interfaces;
        };
        pool = f.pool.is_pool;
        fields = subst (λ (major : ℕ). AllByRecursion (IsMember pool owner.Field major) file.fields) (sym f.major) fields;
        methods = subst (λ (major : ℕ). AllByRecursion (IsMember pool owner.Method major) file.methods) (sym f.major) methods;
        attrs = subst (AllByRecursion _) (sym f.attrs) tt;
      };
      rules = record {
        named = f.pool.named;
        this_class = f.this_class.is;
        super_class = f.super_class.is;
        interfaces = zip_second (IsFiledClass pool) (HasClassName pool) (λ x i h. h.is) made.interfaces file.interfaces f.interfaces;
        fields = zip_second (IsFiledField pool) (IsField pool) (λ x m h. h.kept) made.fields file.fields f.fields;
        methods = zip_second (IsFiledMethod pool) (IsMethodMember pool) (λ x m h. h.kept) made.methods file.methods f.methods;
        distinct_fields = distinct (IsFiledField pool) (λ (x : FieldShape). x.name) (λ (x : FieldShape). desc_text x.desc) pool made.fields file.fields (λ x m h. h.name_at) (λ x m h. h.desc_at)
            (λ i j a b at_i at_j n d. may.distinct_fields i j a b at_i at_j (ap (λ (k : List ℕ). (k, desc_text a.desc)) n ∙ ap (λ (k : List ℕ). (b.name, k)) d)) f.fields;
        distinct_methods = distinct (IsFiledMethod pool) (λ (x : MadeMethod). x.shape.name) (λ (x : MadeMethod). method_text x.shape.desc) pool made.methods file.methods (λ x m h. h.name_at) (λ x m h. h.desc_at)
            (λ i j a b at_i at_j n d. may.distinct_methods i j a b at_i at_j (ap (λ (k : List ℕ). (k, method_text a.shape.desc)) n ∙ ap (λ (k : List ℕ). (b.shape.name, k)) d)) f.methods;
      };
    }

pub is_class : (made : MadeClass) (file : ClassFile) → IsFileable made → class_file made ≡ Some file → IsClass file
is_class made file may e = is_class_of made file may (filed made file may e)

-- ---- and has a text

pub is_text : (made : MadeClass) (file : ClassFile) → IsFileable made → class_file made ≡ Some file → ClassText file (class_text file)
is_text made file may e =
    let f = filed made file may e in
    let pool = file.pool in
    let interfaces : length file.interfaces ≡ length made.interfaces = AllZip-long (IsFiledClass pool) made.interfaces file.interfaces f.interfaces in
    let fields : length file.fields ≡ length made.fields = AllZip-long (IsFiledField pool) made.fields file.fields f.fields in
    let methods : length file.methods ≡ length made.methods = AllZip-long (IsFiledMethod pool) made.methods file.methods f.methods in
    record {
      is_class = is_class_of made file may f;
      few_items = omega (arith, f.pool.few);
      few_parts = record {
        interfaces = omega (arith, interfaces, may.few_interfaces);
        fields = omega (arith, fields, may.few_fields);
        methods = omega (arith, methods, may.few_methods);
        attrs = omega (arith, ap length f.attrs);
        each_field = zip_second (IsFiledField pool) IsFewMember (λ x m h. h.few) made.fields file.fields f.fields;
        each_method = zip_second (IsFiledMethod pool) IsFewMember (λ x m h. h.few) made.methods file.methods f.methods;
        each_attr = subst (AllByRecursion _) (sym f.attrs) tt;
      };
      short_parts = record {
        pool = f.pool.short;
        fields = zip_second (IsFiledField pool) (λ (m : Member). AllByRecursion IsShort m.attrs) (λ x m h. h.short) made.fields file.fields f.fields;
        methods = zip_second (IsFiledMethod pool) (λ (m : Member). AllByRecursion IsShort m.attrs) (λ x m h. h.short) made.methods file.methods f.methods;
        attrs = subst (AllByRecursion _) (sym f.attrs) tt;
      };
      spelled = refl;
    }
