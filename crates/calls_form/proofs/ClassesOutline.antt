-- What is read of an outline is its class, and the class of an outline is read.
use Rattle.std.proofs.Common.{◌≡◌, ℕ, suc, ◌^◌, ◌<◌, ◌≤◌, true, false, leb, ltb, ◌&&◌, List, [], ◌∷◌, map, length, Option, Some, None, refl, sym, ap, subst, ◌∙◌, All, arith, Decides}
use Rattle.std.specs.List.{AllZip, AllByRecursion}
use Rattle.std.proofs.lemmas.Bool.{false≢true, ltb-true, lt-ltb}
use Rattle.std.proofs.lemmas.Bool.Decides.{Decides-and}
use Rattle.std.proofs.lemmas.Option.{none-some}
use Rattle.std.proofs.lemmas.List.{length-map}
use Rattle.std.proofs.lemmas.List.Elements.{recursion_from_All}
use Rattle.std.proofs.lemmas.Slice.Eq.{bytes_eq-Decides}
use Rattle.calls_form.specs.declared.outline.Entry.{Entry}
use Rattle.calls_form.specs.declared.outline.RawField.{RawField}
use Rattle.calls_form.specs.declared.outline.RawMethod.{RawMethod}
use Rattle.calls_form.specs.declared.outline.Outline.{Outline}
use Rattle.calls_form.specs.declared.class_of_heads.Head.{Head}
use Rattle.calls_form.specs.declared.object_class.Field.{Field}
use Rattle.calls_form.specs.declared.object_class.Method.{Method}
use Rattle.calls_form.specs.declared.object_class.ObjectClass.{ObjectClass}
use Rattle.calls_form.specs.declared.target.Target.{Target}
use Rattle.calls_form.specs.Outlines.{IsClassAt}
use Rattle.calls_form.specs.ObjectForm.{object_name, IsVisible, IsFieldOf, IsMethodOf, IsClassOf}
use Rattle.calls_form.specs.Reading.{◌>>=◌}
use Rattle.calls_form.specs.Classes.{IsBytes, class_at}
use Rattle.calls_form.specs.ClassesBodies.{target_in}
use Rattle.calls_form.specs.ClassesHeads.{is_visible, each, field_at, Heading, heading_of, headings_of, heading_at, headings_at, method_at}
use Rattle.calls_form.specs.ClassesPlaces.{Texts, AreApart, target_of}
use Rattle.calls_form.specs.ClassesClass.{is_text, is_class_named, is_framed, field_texts, heading_texts, method_texts, Agrees, IsReadAs, HasWalks}
use Rattle.calls_form.proofs.ClassesInstructions.{KnowsTargets}
use Rattle.calls_form.proofs.ClassesPool.{class_takes, class_again, bytes_eq_itself}
use Rattle.calls_form.proofs.ClassesKinds.{Decides-leb, Decides-visible}
use Rattle.calls_form.proofs.ClassesTargets.{fields_apart, fields_differ, methods_apart, methods_differ, targets_known}
use Rattle.calls_form.proofs.ClassesMethods.{field_takes, field_again, heading_takes, method_takes, heading_for, heading_for_again, method_again, method_same}
use Rattle.calls_form.proofs.LayoutFields.{bind_some, some_is}

-- ---- what stands around the members

text_is : (pool : List Entry) (i : ℕ) (name : List ℕ) (o : Option (List ℕ)) → class_at pool i ≡ o → is_text name o ≡ true → IsClassAt pool i name
text_is pool i name None found e = absurd cc
text_is pool i name (Some text) found e = subst (IsClassAt pool i) ((bytes_eq-Decides text name).0 e) (class_takes pool i text found)

Decides-named : (pool : List Entry) (i : ℕ) (name : List ℕ) → Decides (is_class_named pool i name) (IsClassAt pool i name)
Decides-named pool i name = (λ e. text_is pool i name (class_at pool i) refl e, λ h. ap (is_text name) (class_again pool i name h) ∙ bytes_eq_itself name)

Decides-ltb : (a b : ℕ) → Decides (ltb a b) (a < b)
Decides-ltb a b = (λ e. ltb-true a b e, λ h. lt-ltb a b h)

-- the version, the name, the superclass and the numbers of members are right
abbrev pub IsFramed : List ℕ → Outline → Type 0
IsFramed name o = (((50 ≤ o.major) × (o.major ≤ 52)) × ((length o.fields < 65536) × (length o.methods < 65536)))
    × (IsVisible name × (IsClassAt o.pool o.this_class name × IsClassAt o.pool o.super_class object_name))

pub Decides-framed : (name : List ℕ) (o : Outline) → Decides (is_framed name o) (IsFramed name o)
Decides-framed name o =
    let this = is_class_named o.pool o.this_class name in
    let super_class = is_class_named o.pool o.super_class object_name in
    let low = leb 50 o.major in
    let high = leb o.major 52 in
    let fields = ltb (length o.fields) 65536 in
    let methods = ltb (length o.methods) 65536 in
    Decides-and ((low && high) && (fields && methods)) (is_visible name && (this && super_class))
    (Decides-and (low && high) (fields && methods) (Decides-and low high (Decides-leb 50 o.major) (Decides-leb o.major 52)) (Decides-and fields methods (Decides-ltb (length o.fields) 65536) (Decides-ltb (length o.methods) 65536)))
    (Decides-and (is_visible name) (this && super_class) (Decides-visible name) (Decides-and this super_class (Decides-named o.pool o.this_class name) (Decides-named o.pool o.super_class object_name)))

-- ---- each element with its value

pub each_takes : {A B : Type 0} (f : A → Option B) (xs : List A) (ys : List B) → each f xs ≡ Some ys → AllZip (λ x y. f x ≡ Some y) xs ys
unfolding each
each_takes {A} {B} f [] ys e = subst (AllZip (λ (x : A) (y : B). f x ≡ Some y) []) (some_is [] ys e) tt
each_takes {A} {B} f (x ∷ xs) ys e =
    let a = bind_some (f x) (λ y. each f xs >>= λ rest. Some (y ∷ rest)) ys e in
    let b = bind_some (each f xs) (λ rest. Some (a.0 ∷ rest)) ys a.2 in
    subst (AllZip (λ (x : A) (y : B). f x ≡ Some y) (x ∷ xs)) (some_is (a.0 ∷ b.0) ys b.2) (a.1, each_takes f xs b.0 b.1)

pub each_map : {A B C : Type 0} (g : A → B) (f : B → Option C) (xs : List A) → each (λ x. f (g x)) xs ≡ each f (map g xs)
unfolding each
each_map g f [] = refl
each_map {A} {B} {C} g f (x ∷ xs) = ap (λ (o : Option (List C)). f (g x) >>= λ y. o >>= λ ys. Some (y ∷ ys)) (each_map g f xs)

pub zip_length : {A B : Type 0} (R : A → B → Type 0) (xs : List A) (ys : List B) → AllZip R xs ys → length ys ≡ length xs
zip_length R [] [] z = refl
zip_length R [] (y ∷ ys) z = absurd z
zip_length R (x ∷ xs) [] z = absurd z
zip_length R (x ∷ xs) (y ∷ ys) z = ap suc (zip_length R xs ys z.1)

pub each_length : {A B : Type 0} (f : A → Option B) (xs : List A) (ys : List B) → each f xs ≡ Some ys → length ys ≡ length xs
each_length f xs ys e = zip_length (λ x y. f x ≡ Some y) xs ys (each_takes f xs ys e)

-- ---- the fields

fields_take : (pool : List Entry) (own : List ℕ) (raws : List RawField) (fields : List Field) → AllZip (λ raw x. field_at pool own raw ≡ Some x) raws fields → AllZip (IsFieldOf pool own) raws fields
fields_take pool own [] [] z = tt
fields_take pool own [] (x ∷ fields) z = absurd z
fields_take pool own (raw ∷ raws) [] z = absurd z
fields_take pool own (raw ∷ raws) (x ∷ fields) z = (field_takes pool own raw x z.0, fields_take pool own raws fields z.1)

fields_again : (pool : List Entry) (own : List ℕ) (raws : List RawField) (fields : List Field) → AllZip (IsFieldOf pool own) raws fields → each (field_at pool own) raws ≡ Some fields
unfolding each
fields_again pool own [] [] z = refl
fields_again pool own [] (x ∷ fields) z = absurd z
fields_again pool own (raw ∷ raws) [] z = absurd z
fields_again pool own (raw ∷ raws) (x ∷ fields) z = rw (field_again pool own raw x z.0, fields_again pool own raws fields z.1) refl

-- ---- the methods

-- methods that are read keep their texts
texts_same : (own : List ℕ) (target : ℕ → Option Target) (hs : List Heading) (ms : List Method) → AllZip (λ h m. method_at own target h ≡ Some m) hs ms → map heading_texts hs ≡ map method_texts ms
texts_same own target [] [] z = refl
texts_same own target [] (m ∷ ms) z = absurd z
texts_same own target (h ∷ hs) [] z = absurd z
texts_same own target (h ∷ hs) (m ∷ ms) z =
    let s = method_same own target h m z.0 in
    let first : heading_texts h ≡ method_texts m =
    ap (λ (n : List ℕ). let t : Texts = record { name = n; desc = h.desc } in t) s.0 ∙ ap (λ (d : List ℕ). let t : Texts = record { name = m.name; desc = d } in t) s.1 in
    ap (λ (t : Texts). t ∷ map heading_texts hs) first ∙ ap (λ (ts : List Texts). method_texts m ∷ ts) (texts_same own target hs ms z.1)

methods_take : (pool : List Entry) (class : ObjectClass) (target : ℕ → Option Target) → KnowsTargets pool class target → (raws : List RawMethod) (hs : List Heading) (ms : List Method)
    → AllZip (λ raw h. heading_at pool raw ≡ Some h) raws hs → AllZip (λ h m. method_at class.name target h ≡ Some m) hs ms → AllByRecursion (λ h. IsBytes h.code) hs
    → AllZip (IsMethodOf pool class) raws ms
methods_take pool class target knows [] [] [] y z fits = tt
methods_take pool class target knows [] [] (m ∷ ms) y z fits = absurd z
methods_take pool class target knows [] (h ∷ hs) ms y z fits = absurd y
methods_take pool class target knows (raw ∷ raws) [] ms y z fits = absurd y
methods_take pool class target knows (raw ∷ raws) (h ∷ hs) [] y z fits = absurd z
methods_take pool class target knows (raw ∷ raws) (h ∷ hs) (m ∷ ms) y z fits =
    (method_takes pool class target knows raw h m (heading_takes pool raw h y.0) fits.0 z.0, methods_take pool class target knows raws hs ms y.1 z.1 fits.1)

-- the texts of the methods of a class
unfoldable pub headings_for : List RawMethod → List Method → List Heading
headings_for [] ms = []
headings_for (raw ∷ raws) [] = []
headings_for (raw ∷ raws) (m ∷ ms) = heading_for raw m ∷ headings_for raws ms

headings_again : (pool : List Entry) (class : ObjectClass) (raws : List RawMethod) (ms : List Method) → AllZip (IsMethodOf pool class) raws ms → headings_at pool raws ≡ Some (headings_for raws ms)
unfolding each headings_for
headings_again pool class [] [] z = refl
headings_again pool class [] (m ∷ ms) z = absurd z
headings_again pool class (raw ∷ raws) [] z = absurd z
headings_again pool class (raw ∷ raws) (m ∷ ms) z = rw (heading_for_again pool class raw m z.0, headings_again pool class raws ms z.1) refl

headings_same : (pool : List Entry) (class : ObjectClass) (raws : List RawMethod) (ms : List Method) → AllZip (IsMethodOf pool class) raws ms → map heading_texts (headings_for raws ms) ≡ map method_texts ms
unfolding headings_for
headings_same pool class [] [] z = refl
headings_same pool class [] (m ∷ ms) z = absurd z
headings_same pool class (raw ∷ raws) [] z = absurd z
headings_same pool class (raw ∷ raws) (m ∷ ms) z = ap (λ (ts : List Texts). method_texts m ∷ ts) (headings_same pool class raws ms z.1)

methods_again : (pool : List Entry) (class : ObjectClass) (target : ℕ → Option Target) → KnowsTargets pool class target → (raws : List RawMethod) (ms : List Method) → AllZip (IsMethodOf pool class) raws ms
    → each (method_at class.name target) (headings_for raws ms) ≡ Some ms
unfolding each headings_for
methods_again pool class target knows [] [] z = refl
methods_again pool class target knows [] (m ∷ ms) z = absurd z
methods_again pool class target knows (raw ∷ raws) [] z = absurd z
methods_again pool class target knows (raw ∷ raws) (m ∷ ms) z = rw (method_again pool class target knows raw m z.0, methods_again pool class target knows raws ms z.1) refl

-- ---- the class

-- what is read, framed and walked is the class
pub class_read : (name : List ℕ) (o : Outline) (class : ObjectClass) → is_framed name o ≡ true → IsReadAs name o class → HasWalks class → IsClassOf name o class
class_read name o class framed h walks =
    let frame = (Decides-framed name o).0 framed in
    let of_heads = each_takes (heading_at o.pool) o.methods h.heads h.headings in
    let own = λ (n : List ℕ). each (method_at n h.target) h.heads ≡ Some class.methods in
    let of_methods = each_takes (method_at class.name h.target) h.heads class.methods (subst own (sym h.name_is) h.methods) in
    let same = texts_same class.name h.target h.heads class.methods of_methods in
    let differ_fields = fields_differ class.fields h.fields_apart in
    let differ_methods = methods_differ class.methods (subst AreApart same h.methods_apart) in
    let agrees = subst (λ (n : List ℕ). Agrees o.pool n (map field_texts class.fields) (map method_texts class.methods) h.target) (sym h.name_is)
    (subst (λ (ts : List Texts). Agrees o.pool name (map field_texts class.fields) ts h.target) same h.agrees) in
    let known = targets_known o.pool class h.target differ_fields differ_methods agrees in
    record {
      low = frame.0.0.0;
      high = frame.0.0.1;
      name_is = h.name_is;
      visible = frame.1.0;
      this_is = frame.1.1.0;
      super_is = frame.1.1.1;
      few_fields = frame.0.1.0;
      few_methods = frame.0.1.1;
      fields = fields_take o.pool name o.fields class.fields (each_takes (field_at o.pool name) o.fields class.fields h.fields);
      methods = methods_take o.pool class h.target known o.methods h.heads class.methods of_heads of_methods h.bytes;
      safe = record { fields = differ_fields; methods = differ_methods; walks = walks };
    }

-- how the class of an outline is read
pub record IsFoundBy (name : List ℕ) (o : Outline) (class : ObjectClass) : Type 0 where
  pub framed : is_framed name o ≡ true
  pub fields : each (field_at o.pool name) o.fields ≡ Some class.fields
  pub heads : List Heading
  pub headings : headings_at o.pool o.methods ≡ Some heads
  pub fields_are_apart : AreApart (map field_texts class.fields)
  pub methods_are_apart : AreApart (map heading_texts heads)
  pub methods : (target : ℕ → Option Target) → Agrees o.pool name (map field_texts class.fields) (map heading_texts heads) target → each (method_at name target) heads ≡ Some class.methods

pub class_is_read : (name : List ℕ) (o : Outline) (class : ObjectClass) → IsClassOf name o class → IsFoundBy name o class
class_is_read name o class h =
    let hs = headings_for o.methods class.methods in
    let same = headings_same o.pool class o.methods class.methods h.methods in
    let apart_methods = subst AreApart (sym same) (methods_apart class.methods h.safe.methods) in
    record {
      framed = (Decides-framed name o).1 (((h.low, h.high), (h.few_fields, h.few_methods)), (h.visible, (h.this_is, h.super_is)));
      fields = fields_again o.pool name o.fields class.fields h.fields;
      heads = hs;
      headings = headings_again o.pool class o.methods class.methods h.methods;
      fields_are_apart = fields_apart class.fields h.safe.fields;
      methods_are_apart = apart_methods;
      methods = λ target agrees.
          let on_texts = subst (λ (ts : List Texts). Agrees o.pool name (map field_texts class.fields) ts target) same agrees in
          let on_class = subst (λ (n : List ℕ). Agrees o.pool n (map field_texts class.fields) (map method_texts class.methods) target) (sym h.name_is) on_texts in
          let known = targets_known o.pool class target h.safe.fields h.safe.methods on_class in
          subst (λ (n : List ℕ). each (method_at n target) hs ≡ Some class.methods) h.name_is (methods_again o.pool class target known o.methods class.methods h.methods);
    }

class_is : (c d : ObjectClass) → c.name ≡ d.name → c.fields ≡ d.fields → c.methods ≡ d.methods → c ≡ d
class_is c d e f g =
    ap (λ (n : List ℕ). let x : ObjectClass = record { name = n; fields = c.fields; methods = c.methods } in x) e
    ∙ ap (λ (xs : List Field). let x : ObjectClass = record { name = d.name; fields = xs; methods = c.methods } in x) f
    ∙ ap (λ (ms : List Method). let x : ObjectClass = record { name = d.name; fields = d.fields; methods = ms } in x) g

-- an outline is no two classes
pub one_class : (name : List ℕ) (o : Outline) (c d : ObjectClass) → IsClassOf name o c → IsClassOf name o d → c ≡ d
one_class name o c d h k =
    let a = class_is_read name o c h in
    let b = class_is_read name o d k in
    let fields : c.fields ≡ d.fields = some_is c.fields d.fields (sym a.fields ∙ b.fields) in
    let heads : a.heads ≡ b.heads = some_is a.heads b.heads (sym a.headings ∙ b.headings) in
    let target = target_of o.pool name (map field_texts c.fields) (map heading_texts a.heads) in
    let first = a.methods target (λ i lt. refl) in
    let second = b.methods target (λ i lt. ap (λ (xs : List Field). target_of o.pool name (map field_texts xs) (map heading_texts a.heads) i) fields ∙ ap (λ (hs : List Heading). target_of o.pool name (map field_texts d.fields) (map heading_texts hs) i) heads) in
    let methods : Some c.methods ≡ Some d.methods = sym first ∙ ap (each (method_at name target)) heads ∙ second in
    class_is c d (h.name_is ∙ sym k.name_is) fields (some_is c.methods d.methods methods)

-- ---- where there is no class

pub unframed : (name : List ℕ) (o : Outline) (c : ObjectClass) → is_framed name o ≡ false → IsClassOf name o c → ⊥
unframed name o c failed h = absurd (false≢true (sym failed ∙ (class_is_read name o c h).framed))

pub no_fields : (name : List ℕ) (o : Outline) (c : ObjectClass) → each (field_at o.pool name) o.fields ≡ None → IsClassOf name o c → ⊥
no_fields name o c none h = let r = class_is_read name o c h in absurd (none-some c.fields (sym none ∙ r.fields))

pub unnamed : (name : List ℕ) (o : Outline) (c : ObjectClass) → headings_at o.pool o.methods ≡ None → IsClassOf name o c → ⊥
unnamed name o c none h = let r = class_is_read name o c h in absurd (none-some r.heads (sym none ∙ r.headings))

-- the members of a class that is read are apart
pub fields_apart_in : (name : List ℕ) (o : Outline) (c : ObjectClass) (fields : List Field) → each (field_at o.pool name) o.fields ≡ Some fields → IsClassOf name o c → AreApart (map field_texts fields)
fields_apart_in name o c fields read h = let r = class_is_read name o c h in subst (λ (xs : List Field). AreApart (map field_texts xs)) (some_is c.fields fields (sym r.fields ∙ read)) r.fields_are_apart

pub methods_apart_in : (name : List ℕ) (o : Outline) (c : ObjectClass) (hs : List Heading) → headings_at o.pool o.methods ≡ Some hs → IsClassOf name o c → AreApart (map heading_texts hs)
methods_apart_in name o c hs headings h = let r = class_is_read name o c h in subst (λ (xs : List Heading). AreApart (map heading_texts xs)) (some_is r.heads hs (sym r.headings ∙ headings)) r.methods_are_apart

-- where the methods aren't read, there is no class
pub unread : (name : List ℕ) (o : Outline) (c : ObjectClass) (fields : List Field) (hs : List Heading) (target : ℕ → Option Target) → each (field_at o.pool name) o.fields ≡ Some fields → headings_at o.pool o.methods ≡ Some hs
    → Agrees o.pool name (map field_texts fields) (map heading_texts hs) target → each (method_at name target) hs ≡ None → IsClassOf name o c → ⊥
unread name o c fields hs target read headings agrees none h =
    let r = class_is_read name o c h in
    let same_fields : fields ≡ c.fields = some_is fields c.fields (sym read ∙ r.fields) in
    let same_heads : hs ≡ r.heads = some_is hs r.heads (sym headings ∙ r.headings) in
    let on_fields = subst (λ (xs : List Field). Agrees o.pool name (map field_texts xs) (map heading_texts hs) target) same_fields agrees in
    let on_heads = subst (λ (xs : List Heading). Agrees o.pool name (map field_texts c.fields) (map heading_texts xs) target) same_heads on_fields in
    absurd (none-some c.methods (sym none ∙ ap (each (method_at name target)) same_heads ∙ r.methods target on_heads))

-- a class that is read is the one that the outline has
pub read_is : (name : List ℕ) (o : Outline) (read c : ObjectClass) → IsReadAs name o read → IsClassOf name o c → read ≡ c
read_is name o read c h k =
    let r = class_is_read name o c k in
    let fields : read.fields ≡ c.fields = some_is read.fields c.fields (sym h.fields ∙ r.fields) in
    let heads : h.heads ≡ r.heads = some_is h.heads r.heads (sym h.headings ∙ r.headings) in
    let on_fields = subst (λ (xs : List Field). Agrees o.pool name (map field_texts xs) (map heading_texts h.heads) h.target) fields h.agrees in
    let on_heads = subst (λ (xs : List Heading). Agrees o.pool name (map field_texts c.fields) (map heading_texts xs) h.target) heads on_fields in
    let methods : Some read.methods ≡ Some c.methods = sym h.methods ∙ ap (each (method_at name h.target)) heads ∙ r.methods h.target on_heads in
    class_is read c (h.name_is ∙ sym k.name_is) fields (some_is read.methods c.methods methods)

pub unwalked : (name : List ℕ) (o : Outline) (read c : ObjectClass) → IsReadAs name o read → (HasWalks read → ⊥) → IsClassOf name o c → ⊥
unwalked name o read c h none k = none (subst HasWalks (sym (read_is name o read c h k)) k.safe.walks)

-- ---- what the reader knows, where it lies elsewhere in memory

pub at_fields : (pool own : List Entry) (name : List ℕ) (raws mine : List RawField) (o : Option (List Field)) → pool ≡ own → raws ≡ mine → each (field_at pool name) raws ≡ o → each (field_at own name) mine ≡ o
at_fields pool own name raws mine o e f read = ap (each (field_at own name)) (sym f) ∙ ap (λ (p : List Entry). each (field_at p name) raws) (sym e) ∙ read

pub at_heads : (pool own : List Entry) (raws mine : List RawMethod) (o : Option (List Heading)) → pool ≡ own → raws ≡ mine → headings_at pool raws ≡ o → headings_at own mine ≡ o
at_heads pool own raws mine o e f read = ap (headings_at own) (sym f) ∙ ap (λ (p : List Entry). headings_at p raws) (sym e) ∙ read

pub table_of : (pool own : List Entry) (name : List ℕ) (fs fields : List Field) (hs heads : List Head) (target : ℕ → Option Target) → pool ≡ own → fs ≡ fields → hs ≡ heads
    → Agrees pool name (map field_texts fs) (map heading_texts (headings_of hs)) target → Agrees own name (map field_texts fields) (map heading_texts (headings_of heads)) target
table_of pool own name fs fields hs heads target e f g agrees =
    let first = subst (λ (p : List Entry). Agrees p name (map field_texts fs) (map heading_texts (headings_of hs)) target) e agrees in
    let second = subst (λ (xs : List Field). Agrees own name (map field_texts xs) (map heading_texts (headings_of hs)) target) f first in
    subst (λ (xs : List Head). Agrees own name (map field_texts fields) (map heading_texts (headings_of xs)) target) g second

pub methods_of : (name : List ℕ) (hs heads : List Head) (table items : List (Option Target)) (o : Option (List Method)) → hs ≡ heads → table ≡ items
    → each (λ (h : Head). method_at name (target_in table) (heading_of h)) hs ≡ o → each (method_at name (target_in items)) (headings_of heads) ≡ o
methods_of name hs heads table items o e f read =
    let first = subst (λ (xs : List Head). each (λ (h : Head). method_at name (target_in table) (heading_of h)) xs ≡ o) e read in
    let second = subst (λ (t : List (Option Target)). each (λ (h : Head). method_at name (target_in t) (heading_of h)) heads ≡ o) f first in
    sym (each_map heading_of (method_at name (target_in items)) heads) ∙ second

heads_fit : (heads : List Head) → AllByRecursion (λ h. IsBytes h.code.now) heads → AllByRecursion (λ h. IsBytes h.code) (headings_of heads)
heads_fit [] fits = tt
heads_fit (h ∷ heads) fits = (fits.0, heads_fit heads fits.1)

-- what the reader found
pub members_found : (name : List ℕ) (o : Outline) (class : ObjectClass) (fields : List Field) (heads : List Head) (target : ℕ → Option Target) → class.name ≡ name → class.fields ≡ fields
    → each (field_at o.pool name) o.fields ≡ Some fields → headings_at o.pool o.methods ≡ Some (headings_of heads)
    → Agrees o.pool name (map field_texts fields) (map heading_texts (headings_of heads)) target → AreApart (map field_texts fields) → AreApart (map heading_texts (headings_of heads))
    → each (method_at name target) (headings_of heads) ≡ Some class.methods → All (λ (h : Head). IsBytes h.code.now) heads → IsReadAs name o class
members_found name o class fields heads target name_is fields_are read headings agrees apart_fields apart_methods methods fits =
    let back = sym fields_are in
    record {
      name_is = name_is;
      fields = read ∙ ap (λ (xs : List Field). Some xs) back;
      heads = headings_of heads;
      headings = headings;
      fields_apart = subst (λ (xs : List Field). AreApart (map field_texts xs)) back apart_fields;
      methods_apart = apart_methods;
      target = target;
      agrees = subst (λ (xs : List Field). Agrees o.pool name (map field_texts xs) (map heading_texts (headings_of heads)) target) back agrees;
      methods = methods;
      bytes = heads_fit heads (recursion_from_All (λ (h : Head). IsBytes h.code.now) heads fits);
    }

-- members are as many as the file has
pub few_fields_of : (pool : List Entry) (name : List ℕ) (raws mine : List RawField) (fields fs : List Field) → raws ≡ mine → each (field_at pool name) raws ≡ Some fields → fs ≡ fields → length mine < 2 ^ 16 → length fs < 65536
few_fields_of pool name raws mine fields fs e read f few =
    let one = ap length e in
    let two = each_length (field_at pool name) raws fields read in
    let three = ap length f in
    omega (arith, one, two, three, few)

pub few_heads_of : (pool : List Entry) (raws mine : List RawMethod) (heads hs : List Head) → raws ≡ mine → headings_at pool raws ≡ Some (headings_of heads) → hs ≡ heads → length mine < 2 ^ 16 → length hs < 65536
few_heads_of pool raws mine heads hs e read f few =
    let one = ap length e in
    let two = each_length (heading_at pool) raws (headings_of heads) read in
    let three = ap length f in
    let four = length-map heads heading_of in
    omega (arith, one, two, three, four, few)
