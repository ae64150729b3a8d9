-- A file that is read is one that has an outline, and this is its outline; what has an outline is read.
use Rattle.std.proofs.Common.{◌≡◌, ℕ, ◌+◌, ◌^◌, ◌<◌, cond, eqb, List, [], ◌∷◌, ◌++◌, length, Option, Some, None, Result, Ok, Err, refl, sym, ap, subst, ◌∙◌, append_assoc, arith}
use Rattle.std.specs.Prelude.{IfOk}
use Rattle.std.specs.List.{flat_map, AllZip}
use Rattle.std.proofs.lemmas.Bool.{eqb-true}
use Rattle.std.proofs.lemmas.List.{append-nil, nil_from_length}
use Rattle.calls_form.specs.declared.outline.Entry.{Entry}
use Rattle.calls_form.specs.declared.outline.Entry.TheVariants as entry
use Rattle.calls_form.specs.declared.outline.RawField.{RawField}
use Rattle.calls_form.specs.declared.outline.RawMethod.{RawMethod}
use Rattle.calls_form.specs.declared.outline.Outline.{Outline}
use Rattle.calls_form.specs.declared.read_error.ReadError.{ReadError}
use Rattle.calls_form.specs.declared.read_error.ReadError.TheVariants as errors
use Rattle.calls_form.specs.Layout.{u2, u4, item_text, index_count, attributes_text, member_text, File, file_text, IsFile}
use Rattle.calls_form.specs.Outlines.{entries_of, IsRawMethod, IsOutlineOf, IsOutline}
use Rattle.calls_form.specs.Reading.{◌>>=◌, Gives, u2_at, u4_at}
use Rattle.calls_form.specs.LayoutReading.{pair_at, pool_at, counted_fields_at, counted_methods_at, passed_at, header_at, names_at, outline_at}
use Rattle.calls_form.proofs.LayoutFields.{IsBytes, bind_some, given_as, past_true, some_is, Takes, Takes-then, u2_takes, u2_again, u4_takes, u4_again}
use Rattle.calls_form.proofs.LayoutItems.{bind_is, pair_takes, pair_again}
use Rattle.calls_form.proofs.LayoutPool.{pool_takes, pool_again}
use Rattle.calls_form.proofs.LayoutAttributes.{passed_takes, passed_again}
use Rattle.calls_form.proofs.LayoutRawFields.{counted_fields_take, counted_fields_again}
use Rattle.calls_form.proofs.LayoutMembers.{members_text, counted_methods_take, counted_methods_again}

-- ---- the head of the file

-- the magic number and the versions
abbrev header_text : ℕ → ℕ → List ℕ
header_text minor major = 0xCA ∷ 0xFE ∷ 0xBA ∷ 0xBE ∷ u2 minor ++ u2 major

-- they stand at the front
record TakesHeader (bytes : List ℕ) (x : ℕ × List ℕ) : Type 0 where
  minor : ℕ
  minor_fits : minor < 2 ^ 16
  major_fits : x.0 < 2 ^ 16
  taken : Takes bytes (header_text minor x.0) x.1

-- a head that is read is spelled so
header_takes : (bytes : List ℕ) (x : ℕ × List ℕ) → IsBytes bytes → header_at bytes ≡ Some x → TakesHeader bytes x
unfolding header_at
header_takes bytes x fits e =
    let a = bind_some (u4_at bytes) (λ magic. cond (eqb magic.0 0xCAFEBABE) (pair_at magic.1) None >>= λ versions. Some (versions.1, versions.2)) x e in
    let b = bind_some (cond (eqb a.0.0 0xCAFEBABE) (pair_at a.0.1) None) (λ versions. Some (versions.1, versions.2)) x a.2 in
    let g = past_true (eqb a.0.0 0xCAFEBABE) (pair_at a.0.1) b.0 b.1 in
    let s = u4_takes bytes a.0 fits a.1 in
    let t = pair_takes a.0.1 b.0 s.0.rest_fits g.1 in
    let both : Takes bytes (u4 a.0.0 ++ (u2 b.0.0 ++ u2 b.0.1)) b.0.2 = Takes-then bytes (u4 a.0.0) a.0.1 (u2 b.0.0 ++ u2 b.0.1) b.0.2 s.0 t.0 in
    let whole : Takes bytes (header_text b.0.0 b.0.1) b.0.2 = subst (λ (m : ℕ). Takes bytes (u4 m ++ (u2 b.0.0 ++ u2 b.0.1)) b.0.2) (eqb-true a.0.0 0xCAFEBABE g.0) both in
    let made : ℕ × List ℕ = (b.0.1, b.0.2) in
    given_as (λ (y : ℕ × List ℕ). TakesHeader bytes y) made x b.2 (record { minor = b.0.0; minor_fits = t.1; major_fits = t.2; taken = whole })

-- a head is read again, whatever follows
header_again : (minor major : ℕ) (rest : List ℕ) → minor < 2 ^ 16 → major < 2 ^ 16 → header_at (header_text minor major ++ rest) ≡ Some (major, rest)
unfolding header_at
header_again minor major rest lt lt' =
    let after : List ℕ = (u2 minor ++ u2 major) ++ rest in
    bind_is (u4_at (u4 0xCAFEBABE ++ after)) (λ magic. cond (eqb magic.0 0xCAFEBABE) (pair_at magic.1) None >>= λ versions. Some (versions.1, versions.2)) (0xCAFEBABE, after) (u4_again 0xCAFEBABE after (omega arith))
    ∙ bind_is (pair_at ((u2 minor ++ u2 major) ++ rest)) (λ versions. Some (versions.1, versions.2)) (minor, major, rest) (pair_again minor major rest lt lt')

-- access flags, the two classes and no interfaces
abbrev names_text : ℕ → ℕ → ℕ → List ℕ
names_text access this super = u2 access ++ u2 this ++ u2 super ++ u2 0

-- they stand at the front
record TakesNames (bytes : List ℕ) (x : ℕ × ℕ × List ℕ) : Type 0 where
  access : ℕ
  access_fits : access < 2 ^ 16
  this_fits : x.0 < 2 ^ 16
  super_fits : x.1 < 2 ^ 16
  taken : Takes bytes (names_text access x.0 x.1) x.2

-- what is read between the pool and the methods is spelled so
names_take : (bytes : List ℕ) (x : ℕ × ℕ × List ℕ) → IsBytes bytes → names_at bytes ≡ Some x → TakesNames bytes x
unfolding names_at
names_take bytes x fits e =
    let a = bind_some (u2_at bytes) (λ access. pair_at access.1 >>= λ names. u2_at names.2 >>= λ count. cond (eqb count.0 0) (Some (names.0, names.1, count.1)) None) x e in
    let b = bind_some (pair_at a.0.1) (λ names. u2_at names.2 >>= λ count. cond (eqb count.0 0) (Some (names.0, names.1, count.1)) None) x a.2 in
    let c = bind_some (u2_at b.0.2) (λ count. cond (eqb count.0 0) (Some (b.0.0, b.0.1, count.1)) None) x b.2 in
    let made : ℕ × ℕ × List ℕ = (b.0.0, b.0.1, c.0.1) in
    let g = past_true (eqb c.0.0 0) (Some made) x c.2 in
    let s = u2_takes bytes a.0 fits a.1 in
    let t = pair_takes a.0.1 b.0 s.0.rest_fits b.1 in
    let u = u2_takes b.0.2 c.0 t.0.rest_fits c.1 in
    let head = Takes-then bytes (u2 a.0.0) a.0.1 (u2 b.0.0 ++ u2 b.0.1) b.0.2 s.0 t.0 in
    let both : Takes bytes ((u2 a.0.0 ++ (u2 b.0.0 ++ u2 b.0.1)) ++ u2 c.0.0) c.0.1 = Takes-then bytes (u2 a.0.0 ++ (u2 b.0.0 ++ u2 b.0.1)) b.0.2 (u2 c.0.0) c.0.1 head u.0 in
    let no_interfaces : Takes bytes (names_text a.0.0 b.0.0 b.0.1) c.0.1 = subst (λ (k : ℕ). Takes bytes ((u2 a.0.0 ++ (u2 b.0.0 ++ u2 b.0.1)) ++ u2 k) c.0.1) (eqb-true c.0.0 0 g.0) both in
    given_as (λ (y : ℕ × ℕ × List ℕ). TakesNames bytes y) made x g.1 (record { access = a.0.0; access_fits = s.1; this_fits = t.1; super_fits = t.2; taken = no_interfaces })

-- what stands between the pool and the methods is read again, whatever follows
names_again : (access this super : ℕ) (rest : List ℕ) → access < 2 ^ 16 → this < 2 ^ 16 → super < 2 ^ 16 → names_at (names_text access this super ++ rest) ≡ Some (this, super, rest)
unfolding names_at
names_again access this super rest lt lt' lt'' =
    let count_text : List ℕ = u2 0 ++ rest in
    let after : List ℕ = (u2 this ++ u2 super) ++ count_text in
    bind_is (u2_at (u2 access ++ after)) (λ a. pair_at a.1 >>= λ names. u2_at names.2 >>= λ count. cond (eqb count.0 0) (Some (names.0, names.1, count.1)) None) (access, after) (u2_again access after lt)
    ∙ bind_is (pair_at after) (λ names. u2_at names.2 >>= λ count. cond (eqb count.0 0) (Some (names.0, names.1, count.1)) None) (this, super, count_text) (pair_again this super count_text lt' lt'')
    ∙ bind_is (u2_at count_text) (λ count. cond (eqb count.0 0) (Some (this, super, count.1)) None) (0, rest) (u2_again 0 rest (omega arith))

-- ---- the file

-- the parts of a file's text, one by one or by the readers that take them
file_regroup : (head count items a b c d field_count fields method_count methods attributes : List ℕ) → head ++ count ++ items ++ a ++ b ++ c ++ d ++ field_count ++ fields ++ method_count ++ methods ++ attributes
    ≡ ((((head ++ (count ++ items)) ++ (a ++ b ++ c ++ d)) ++ (field_count ++ fields)) ++ (method_count ++ methods)) ++ attributes
file_regroup head count items a b c d field_count fields method_count methods attributes = simp append_assoc

-- an outline by its parts
abbrev outline_of : ℕ → List Entry → ℕ → ℕ → List RawField → List RawMethod → Outline
outline_of major pool this super fields methods = record { major = major; pool = pool; this_class = this; super_class = super; fields = fields; methods = methods }

-- nothing may be left
abbrev ended : Outline → List ℕ → Option Outline
ended o rest = cond (eqb (length rest) 0) (Some o) None

-- what is read behind the methods
abbrev after_methods : ℕ → List Entry → ℕ → ℕ → List RawField → List RawMethod × List ℕ → Option Outline
after_methods major pool this super fields methods = passed_at methods.1 >>= λ rest. ended (outline_of major pool this super fields methods.0) rest

-- what is read behind the fields
abbrev after_fields : ℕ → List Entry → ℕ → ℕ → List RawField × List ℕ → Option Outline
after_fields major pool this super fields = counted_methods_at pool fields.1 >>= λ methods. after_methods major pool this super fields.0 methods

-- what is read behind the two classes
abbrev after_names : ℕ → List Entry → ℕ × ℕ × List ℕ → Option Outline
after_names major pool names = counted_fields_at names.2 >>= λ fields. after_fields major pool names.0 names.1 fields

-- what is read behind the pool
abbrev after_pool : ℕ → List Entry × List ℕ → Option Outline
after_pool major pool = names_at pool.1 >>= λ names. after_names major pool.0 names

-- what is read behind the head
abbrev after_header : ℕ × List ℕ → Option Outline
after_header header = pool_at header.1 >>= λ pool. after_pool header.0 pool

-- what is read is the outline of the bytes
pub outline_takes : (bytes : List ℕ) (o : Outline) → IsBytes bytes → outline_at bytes ≡ Some o → IsOutline bytes o
unfolding outline_at
outline_takes bytes o fits e =
    let a = bind_some (header_at bytes) (λ x. after_header x) o e in
    let b = bind_some (pool_at a.0.1) (λ x. after_pool a.0.0 x) o a.2 in
    let c = bind_some (names_at b.0.1) (λ x. after_names a.0.0 b.0.0 x) o b.2 in
    let k = bind_some (counted_fields_at c.0.2) (λ x. after_fields a.0.0 b.0.0 c.0.0 c.0.1 x) o c.2 in
    let d = bind_some (counted_methods_at b.0.0 k.0.1) (λ x. after_methods a.0.0 b.0.0 c.0.0 c.0.1 k.0.0 x) o k.2 in
    let made : Outline = outline_of a.0.0 b.0.0 c.0.0 c.0.1 k.0.0 d.0.0 in
    let f = bind_some (passed_at d.0.1) (λ rest. ended made rest) o d.2 in
    let g = past_true (eqb (length f.0) 0) (Some made) o f.2 in
    let header = header_takes bytes a.0 fits a.1 in
    let pool = pool_takes a.0.1 b.0 header.taken.rest_fits b.1 in
    let names = names_take b.0.1 c.0 pool.taken.rest_fits c.1 in
    let fields = counted_fields_take c.0.2 k.0 names.taken.rest_fits k.1 in
    let methods = counted_methods_take b.0.0 k.0.1 d.0 fields.taken.rest_fits d.1 in
    let passed = passed_takes d.0.1 f.0 methods.taken.rest_fits f.1 in
    let file : File = record { minor = header.minor; major = a.0.0; items = pool.items; access = names.access; this_class = c.0.0; super_class = c.0.1; fields = fields.members; methods = methods.members; attributes = passed.attributes } in
    let is_file : IsFile file = record { minor = header.minor_fits; major = header.major_fits; count = pool.count; items = pool.are_items; access = names.access_fits; this_class = names.this_fits; super_class = names.super_fits; field_count = fields.count; fields = fields.are_members; method_count = methods.count; methods = methods.are_members; attributes = passed.are_attributes } in
    let head : List ℕ = header_text header.minor a.0.0 in
    let pool_text : List ℕ = u2 (1 + index_count pool.items) ++ flat_map item_text pool.items in
    let middle : List ℕ = names_text names.access c.0.0 c.0.1 in
    let two = Takes-then bytes head a.0.1 pool_text b.0.1 header.taken pool.taken in
    let three = Takes-then bytes (head ++ pool_text) b.0.1 middle c.0.2 two names.taken in
    let mid = Takes-then bytes ((head ++ pool_text) ++ middle) c.0.2 (members_text fields.members) k.0.1 three fields.taken in
    let four = Takes-then bytes (((head ++ pool_text) ++ middle) ++ members_text fields.members) k.0.1 (members_text methods.members) d.0.1 mid methods.taken in
    let five = Takes-then bytes ((((head ++ pool_text) ++ middle) ++ members_text fields.members) ++ members_text methods.members) d.0.1 (attributes_text passed.attributes) f.0 four passed.taken in
    let all : List ℕ = ((((head ++ pool_text) ++ middle) ++ members_text fields.members) ++ members_text methods.members) ++ attributes_text passed.attributes in
    let nothing : f.0 ≡ [] = nil_from_length f.0 (eqb-true (length f.0) 0 g.0) in
    let text_is : bytes ≡ file_text file =
    five.parts ∙ ap (λ (r : List ℕ). all ++ r) nothing ∙ append-nil all
    ∙ sym (file_regroup head (u2 (1 + index_count pool.items)) (flat_map item_text pool.items) (u2 names.access) (u2 c.0.0) (u2 c.0.1) (u2 0) (u2 (length fields.members)) (flat_map member_text fields.members) (u2 (length methods.members)) (flat_map member_text methods.members) (attributes_text passed.attributes)) in
    let outline : IsOutlineOf file made = record { major = refl; pool = pool.entries_are; this_class = refl; super_class = refl; fields = fields.raws; methods = methods.raws } in
    given_as (λ (p : Outline). IsOutline bytes p) made o g.1 (file, is_file, text_is, outline)

-- an outline is known by what it is the outline of
outline_is : (f : File) (o : Outline) → IsOutlineOf f o → outline_of f.major (entry.Unused ∷ entries_of f.items) f.this_class f.super_class o.fields o.methods ≡ o
outline_is f o h =
    ap (λ (n : ℕ). outline_of n (entry.Unused ∷ entries_of f.items) f.this_class f.super_class o.fields o.methods) (sym h.major)
    ∙ ap (λ (pool : List Entry). outline_of o.major pool f.this_class f.super_class o.fields o.methods) (sym h.pool)
    ∙ ap (λ (n : ℕ). outline_of o.major o.pool n f.super_class o.fields o.methods) (sym h.this_class)
    ∙ ap (λ (n : ℕ). outline_of o.major o.pool o.this_class n o.fields o.methods) (sym h.super_class)

-- a file is read as its outline
file_again : (f : File) (o : Outline) → IsFile f → IsOutlineOf f o → outline_at (file_text f) ≡ Some o
unfolding outline_at
file_again f o h kept =
    let pool : List Entry = entry.Unused ∷ entries_of f.items in
    let raws : AllZip (IsRawMethod pool) f.methods o.methods = subst (λ (p : List Entry). AllZip (IsRawMethod p) f.methods o.methods) kept.pool kept.methods in
    let head : List ℕ = header_text f.minor f.major in
    let count : List ℕ = u2 (1 + index_count f.items) in
    let items : List ℕ = flat_map item_text f.items in
    let middle : List ℕ = names_text f.access f.this_class f.super_class in
    let fields : List ℕ = members_text f.fields in
    let methods : List ℕ = members_text f.methods in
    let last : List ℕ = attributes_text f.attributes in
    let after_all : List ℕ = last ++ [] in
    let after_each : List ℕ = methods ++ after_all in
    let after_middle : List ℕ = fields ++ after_each in
    let after_items : List ℕ = middle ++ after_middle in
    let after_head : List ℕ = (count ++ items) ++ after_items in
    let regrouped : file_text f ≡ head ++ after_head =
    file_regroup head count items (u2 f.access) (u2 f.this_class) (u2 f.super_class) (u2 0) (u2 (length f.fields)) (flat_map member_text f.fields) (u2 (length f.methods)) (flat_map member_text f.methods) last
    ∙ sym (append-nil (((((head ++ (count ++ items)) ++ middle) ++ fields) ++ methods) ++ last))
    ∙ append_assoc ((((head ++ (count ++ items)) ++ middle) ++ fields) ++ methods) last []
    ∙ append_assoc (((head ++ (count ++ items)) ++ middle) ++ fields) methods after_all
    ∙ append_assoc ((head ++ (count ++ items)) ++ middle) fields after_each
    ∙ append_assoc (head ++ (count ++ items)) middle after_middle
    ∙ append_assoc head (count ++ items) after_items in
    ap outline_at regrouped
    ∙ bind_is (header_at (head ++ after_head)) (λ x. after_header x) (f.major, after_head) (header_again f.minor f.major after_head h.minor h.major)
    ∙ bind_is (pool_at after_head) (λ x. after_pool f.major x) (pool, after_items) (pool_again f.items after_items h.items h.count)
    ∙ bind_is (names_at after_items) (λ x. after_names f.major pool x) (f.this_class, f.super_class, after_middle) (names_again f.access f.this_class f.super_class after_middle h.access h.this_class h.super_class)
    ∙ bind_is (counted_fields_at after_middle) (λ x. after_fields f.major pool f.this_class f.super_class x) (o.fields, after_each) (counted_fields_again f.fields o.fields after_each h.fields h.field_count kept.fields)
    ∙ bind_is (counted_methods_at pool after_each) (λ x. after_methods f.major pool f.this_class f.super_class o.fields x) (o.methods, after_all) (counted_methods_again pool f.methods o.methods after_all h.methods h.method_count raws)
    ∙ bind_is (passed_at after_all) (λ rest. ended (outline_of f.major pool f.this_class f.super_class o.fields o.methods) rest) [] (passed_again f.attributes [] h.attributes)
    ∙ ap (λ (p : Outline). Some p) (outline_is f o kept)

-- bytes that have an outline are read, and it is this one
pub outline_again : (bytes : List ℕ) (o : Outline) → IsOutline bytes o → outline_at bytes ≡ Some o
outline_again bytes o h = ap outline_at h.2 ∙ file_again h.0 o h.1 h.3

-- no bytes have two outlines
pub one_outline_lem : (bytes : List ℕ) (o p : Outline) → IsOutline bytes o → IsOutline bytes p → o ≡ p
one_outline_lem bytes o p h k = some_is o p (sym (outline_again bytes o h) ∙ outline_again bytes p k)

-- what a reader that gives this answers is an outline of the bytes
pub is_found : (bytes : List ℕ) (r : Result Outline ReadError) → IsBytes bytes → Gives (λ x. x) r (outline_at bytes) → IfOk r (IsOutline bytes)
is_found bytes (Ok o) fits given = outline_takes bytes o fits given
is_found bytes (Err e) fits given = tt

-- where such a reader answers Malformed there is no outline
pub is_malformed : (bytes : List ℕ) (r : Result Outline ReadError) → Gives (λ x. x) r (outline_at bytes) → r ≡ Err errors.Malformed → (o : Outline) → IsOutline bytes o → ⊥
is_malformed bytes (Ok o) given e p h = absurd cc
is_malformed bytes (Err errors.Memory) given e p h = absurd cc
is_malformed bytes (Err errors.Malformed) given e p h = let both : None ≡ Some p = sym given ∙ outline_again bytes p h in absurd cc
