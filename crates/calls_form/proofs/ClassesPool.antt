-- What the indices of a pool name, as functions and as relations.
use Rattle.std.proofs.Common.{◌≡◌, ℕ, true, List, Some, refl, ap, subst, ◌∙◌}
use Rattle.std.specs.List.{slice_get}
use Rattle.std.specs.Str.{bytes_eq}
use Rattle.std.proofs.lemmas.Slice.Eq.{bytes_eq-Decides}
use Rattle.calls_form.specs.declared.outline.Entry.{Entry}
use Rattle.calls_form.specs.declared.outline.Entry.TheVariants.{Utf8, Class, Fieldref, Methodref, NameAndType, Unused}
use Rattle.calls_form.specs.Outlines.{IsUtf8At, IsClassAt, IsFieldrefAt, IsMethodrefAt}
use Rattle.calls_form.specs.Reading.{◌>>=◌}
use Rattle.calls_form.specs.Classes.{text_of, class_name_of, pair_of, text_at, class_at, pair_at, member_at, Named}
use Rattle.calls_form.proofs.LayoutFields.{bind_some, some_is}

text_entry : (e : Entry) (t : List ℕ) → text_of e ≡ Some t → e ≡ Utf8 t
text_entry (Utf8 text) t e = ap Utf8 (some_is text t e)
text_entry (Class name) t e = absurd cc
text_entry (Fieldref class pair) t e = absurd cc
text_entry (Methodref class pair) t e = absurd cc
text_entry (NameAndType name desc) t e = absurd cc
text_entry Unused t e = absurd cc

class_entry : (e : Entry) (n : ℕ) → class_name_of e ≡ Some n → e ≡ Class n
class_entry (Utf8 text) n e = absurd cc
class_entry (Class name) n e = ap Class (some_is name n e)
class_entry (Fieldref class pair) n e = absurd cc
class_entry (Methodref class pair) n e = absurd cc
class_entry (NameAndType name desc) n e = absurd cc
class_entry Unused n e = absurd cc

pair_entry : (e : Entry) (x : ℕ × ℕ) → pair_of e ≡ Some x → e ≡ NameAndType x.0 x.1
pair_entry (Utf8 text) x e = absurd cc
pair_entry (Class name) x e = absurd cc
pair_entry (Fieldref class pair) x e = absurd cc
pair_entry (Methodref class pair) x e = absurd cc
pair_entry (NameAndType name desc) x e = ap (λ (y : ℕ × ℕ). NameAndType y.0 y.1) (some_is (name, desc) x e)
pair_entry Unused x e = absurd cc

-- ---- a text

pub text_takes : (pool : List Entry) (i : ℕ) (t : List ℕ) → text_at pool i ≡ Some t → IsUtf8At pool i t
unfolding text_at
text_takes pool i t e = let a = bind_some (slice_get pool i) text_of t e in a.1 ∙ ap (λ (x : Entry). Some x) (text_entry a.0 t a.2)

pub text_again : (pool : List Entry) (i : ℕ) (t : List ℕ) → IsUtf8At pool i t → text_at pool i ≡ Some t
unfolding text_at
text_again pool i t h = rw h refl

-- ---- a class

pub class_takes : (pool : List Entry) (i : ℕ) (t : List ℕ) → class_at pool i ≡ Some t → IsClassAt pool i t
unfolding class_at
class_takes pool i t e =
    let a = bind_some (slice_get pool i >>= class_name_of) (text_at pool) t e in
    let b = bind_some (slice_get pool i) class_name_of a.0 a.1 in
    (a.0, b.1 ∙ ap (λ (x : Entry). Some x) (class_entry b.0 a.0 b.2), text_takes pool a.0 t a.2)

pub class_again : (pool : List Entry) (i : ℕ) (t : List ℕ) → IsClassAt pool i t → class_at pool i ≡ Some t
unfolding class_at
class_again pool i t h = rw (h.1, text_again pool h.0 t h.2) refl

-- ---- a member

-- the indices name this member
pub record IsMemberAt (pool : List Entry) (class_index pair_index : ℕ) (n : Named) : Type 0 where
  pub name_at : ℕ
  pub desc_at : ℕ
  pub pair : slice_get pool pair_index ≡ Some (NameAndType name_at desc_at)
  pub class_is : IsClassAt pool class_index n.class
  pub name_is : IsUtf8At pool name_at n.name
  pub desc_is : IsUtf8At pool desc_at n.desc

pub member_takes : (pool : List Entry) (class_index pair_index : ℕ) (n : Named) → member_at pool class_index pair_index ≡ Some n → IsMemberAt pool class_index pair_index n
unfolding member_at pair_at
member_takes pool class_index pair_index n e =
    let c = bind_some (class_at pool class_index) (λ class. pair_at pool pair_index >>= λ pair. let x : Named = record { class = class; name = pair.0; desc = pair.1 } in Some x) n e in
    let d = bind_some (pair_at pool pair_index) (λ pair. let x : Named = record { class = c.0; name = pair.0; desc = pair.1 } in Some x) n c.2 in
    let f = bind_some (slice_get pool pair_index >>= pair_of) (λ pair. text_at pool pair.0 >>= λ name. text_at pool pair.1 >>= λ desc. let x : List ℕ × List ℕ = (name, desc) in Some x) d.0 d.1 in
    let g = bind_some (slice_get pool pair_index) pair_of f.0 f.1 in
    let h = bind_some (text_at pool f.0.0) (λ name. text_at pool f.0.1 >>= λ desc. let x : List ℕ × List ℕ = (name, desc) in Some x) d.0 f.2 in
    let k = bind_some (text_at pool f.0.1) (λ desc. let x : List ℕ × List ℕ = (h.0, desc) in Some x) d.0 h.2 in
    let made : Named = record { class = c.0; name = h.0; desc = k.0 } in
    let texts : (h.0, k.0) ≡ d.0 = some_is (h.0, k.0) d.0 k.2 in
    let is : made ≡ n = ap (λ (p : List ℕ × List ℕ). let x : Named = record { class = c.0; name = p.0; desc = p.1 } in x) texts ∙ some_is (record { class = c.0; name = d.0.0; desc = d.0.1 }) n d.2 in
    let whole : IsMemberAt pool class_index pair_index made = record {
      name_at = f.0.0;
      desc_at = f.0.1;
      pair = g.1 ∙ ap (λ (x : Entry). Some x) (pair_entry g.0 f.0 g.2);
      class_is = class_takes pool class_index c.0 c.1;
      name_is = text_takes pool f.0.0 h.0 h.1;
      desc_is = text_takes pool f.0.1 k.0 k.1;
    } in
    subst (IsMemberAt pool class_index pair_index) is whole

pub member_again : (pool : List Entry) (class_index pair_index : ℕ) (n : Named) → IsMemberAt pool class_index pair_index n → member_at pool class_index pair_index ≡ Some n
unfolding member_at pair_at
member_again pool class_index pair_index n h =
    rw (class_again pool class_index n.class h.class_is, h.pair, text_again pool h.name_at n.name h.name_is, text_again pool h.desc_at n.desc h.desc_is) refl

-- ---- a field or a method by its entry

pub fieldref_takes : (pool : List Entry) (i class_index pair_index : ℕ) (n : Named) → slice_get pool i ≡ Some (Fieldref class_index pair_index) → IsMemberAt pool class_index pair_index n → IsFieldrefAt pool i n.class n.name n.desc
fieldref_takes pool i class_index pair_index n e h = record { class_at = class_index; pair_at = pair_index; name_at = h.name_at; desc_at = h.desc_at; item = e; pair = h.pair; class_is = h.class_is; name_is = h.name_is; desc_is = h.desc_is }

pub methodref_takes : (pool : List Entry) (i class_index pair_index : ℕ) (n : Named) → slice_get pool i ≡ Some (Methodref class_index pair_index) → IsMemberAt pool class_index pair_index n → IsMethodrefAt pool i n.class n.name n.desc
methodref_takes pool i class_index pair_index n e h = record { class_at = class_index; pair_at = pair_index; name_at = h.name_at; desc_at = h.desc_at; item = e; pair = h.pair; class_is = h.class_is; name_is = h.name_is; desc_is = h.desc_is }

pub fieldref_member : (pool : List Entry) (i : ℕ) (n : Named) → (h : IsFieldrefAt pool i n.class n.name n.desc) → IsMemberAt pool h.class_at h.pair_at n
fieldref_member pool i n h = record { name_at = h.name_at; desc_at = h.desc_at; pair = h.pair; class_is = h.class_is; name_is = h.name_is; desc_is = h.desc_is }

pub methodref_member : (pool : List Entry) (i : ℕ) (n : Named) → (h : IsMethodrefAt pool i n.class n.name n.desc) → IsMemberAt pool h.class_at h.pair_at n
methodref_member pool i n h = record { name_at = h.name_at; desc_at = h.desc_at; pair = h.pair; class_is = h.class_is; name_is = h.name_is; desc_is = h.desc_is }

pub bytes_eq_itself : (text : List ℕ) → bytes_eq text text ≡ true
bytes_eq_itself text = (bytes_eq-Decides text text).1 refl
