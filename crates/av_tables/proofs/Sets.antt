-- Sets that grow by what is put into them, and shrink by what is taken out.
use Rattle.std.proofs.Common.{◌≡◌, ℕ, ◌+◌, ◌<◌, ◌≤◌, ◌↔◌, ◌⊎◌, inl, inr, Bool, true, false, cond, Result, Ok, Err, IfOk, List, [], ◌∷◌, ◌++◌, length, take, get_or, Contains, Equal, refl, sym, ap, ◌∙◌, subst, ⊎_elim, arith}
use Rattle.std.proofs.lemmas.List.{take_all, take_more}
use Rattle.std.proofs.lemmas.List.Elements.{Contains-append_left, Contains-push, Contains-push_cases}
use Rattle.std.proofs.lemmas.Map.Views.{btree_set_contains_iff}
use Rattle.std.specs.BTreeMap.{is_at}
use Rattle.std.specs.BTreeSet.{BTreeSet, contains, UpdatesBy}
use Rattle.std.specs.Cmp.{IsTotalOrder, tied_itself, Equal-is}
use Rattle.std.specs.Cmp.Lexicographic.{slice_cmp}
use Rattle.std.specs.Ordering.{is_eq, nat_cmp}
use Rattle.std.specs.declared.cmp.Ordering.{Ordering}
use Rattle.jv_fix.specs.Order.{IsSet, TellsApart}
use Rattle.jv_fix.specs.Seen.{Puts}
use Rattle.jv_types.specs.declared.shapes.Shape.{Shape}
use Rattle.jv_types.specs.declared.shapes.MethodShape.{MethodShape}
use Rattle.av_collected.specs.Libraries.{LibraryFile, IsLibrary, IsOfLibrary}
use Rattle.av_tables.specs.Mentions.{AreLibraryNames, IsMentioned}
use Rattle.av_named.proofs.Appending.{none_there}
use Rattle.av_tables.specs.Steps.{AreSmall, Gains, GainsFile, HaveSignatures}
use Rattle.av_tables.specs.Tables.{signature_of}
use Rattle.av_tables.specs.declared.signature.Signature.{Signature}

-- the elements of a list so far, and one more
pub more_are : {X : Type 0} (xs : List X) (k : ℕ) (x : X) → k < length xs → x ≡ get_or xs k x → take (k + 1) xs ≡ take k xs ++ x ∷ []
more_are {X} xs k x within is = take_more xs k x within ∙ ap (λ (z : X). take k xs ++ z ∷ []) (sym is)

pub more_cases : {X : Type 0} (xs : List X) (k : ℕ) (x y : X) → k < length xs → x ≡ get_or xs k x → Contains (take (k + 1) xs) y → Contains (take k xs) y ⊎ (x ≡ y)
more_cases {X} xs k x y within is h = Contains-push_cases (take k xs) x y (subst (λ (l : List X). Contains l y) (more_are xs k x within is) h)

pub more_old : {X : Type 0} (xs : List X) (k : ℕ) (x y : X) → k < length xs → x ≡ get_or xs k x → Contains (take k xs) y → Contains (take (k + 1) xs) y
more_old {X} xs k x y within is h = subst (λ (l : List X). Contains l y) (sym (more_are xs k x within is)) (Contains-append_left (take k xs) (x ∷ []) y h)

pub more_new : {X : Type 0} (xs : List X) (k : ℕ) (x : X) → k < length xs → x ≡ get_or xs k x → Contains (take (k + 1) xs) x
more_new {X} xs k x within is = subst (λ (l : List X). Contains l x) (sym (more_are xs k x within is)) (Contains-push (take k xs) x)

module _ {X : Type 0} where
  pub set_none : (keys xs : List X) → keys ≡ [] → (y : X) → Contains keys y ↔ Contains (take 0 xs) y
  set_none keys xs e y = (λ h. absurd (none_there y (subst (λ (l : List X). Contains l y) e h)), λ h. absurd (none_there y h))

  pub set_more : (xs : List X) (k : ℕ) (x : X) (old new : List X) (added : Bool) → k < length xs → x ≡ get_or xs k x → Puts old x added new
      → ((y : X) → Contains old y ↔ Contains (take k xs) y) → (y : X) → Contains new y ↔ Contains (take (k + 1) xs) y
  set_more xs k x old new added within is puts before y = (
    λ h. ⊎_elim (λ was. more_old xs k x y within is ((before y).0 was)) (λ e. subst (λ (z : X). Contains (take (k + 1) xs) z) (sym e) (more_new xs k x within is)) (puts.adds y h),
    λ h. ⊎_elim (λ was. puts.keeps y ((before y).1 was)) (λ e. subst (λ (z : X). Contains new z) e puts.holds) (more_cases xs k x y within is h),
  )

  pub set_all : (xs : List X) (k : ℕ) (keys : List X) → length xs ≤ k → ((y : X) → Contains keys y ↔ Contains (take k xs) y) → (y : X) → Contains keys y ↔ Contains xs y
  set_all xs k keys past before y = subst (λ (l : List X). Contains keys y ↔ Contains l y) (take_all k xs past) (before y)

-- ---- what is taken out

ruled_out : (b c : Bool) → cond b false c ≡ true → (b ≡ false) × (c ≡ true)
ruled_out true c e = let clash : false ≡ true = e in absurd cc
ruled_out false c e = (refl, e)

stays : (b c : Bool) → b ≡ false → c ≡ true → cond b false c ≡ true
stays true c e f = let clash : true ≡ false = e in absurd cc
stays false c e f = f

tells : (b : Bool) → (b ≡ true → ⊥) → b ≡ false
tells true h = absurd (h refl)
tells false h = refl

module _ {X : Type 0} {cmp : X → X → Ordering} (total : IsTotalOrder cmp) (exact : TellsApart cmp) where
  pub taken_out : (old new : BTreeSet X) (x : X) → ((q : X) → contains cmp new q ≡ cond (is_at (cmp x) q) false (contains cmp old q))
      → (y : X) → Contains new.keys y ↔ (Contains old.keys y × (x ≡ y → ⊥))
  taken_out old new x updates y =
      let there = λ (set : BTreeSet X). btree_set_contains_iff total exact set y in (
        λ h. (let parts = ruled_out (is_eq (cmp x y)) (contains cmp old y) (sym (updates y) ∙ (there new).1 h) in (
          (there old).0 parts.1,
          λ (e : x ≡ y).
              let tied : is_eq (cmp x y) ≡ true = ap is_eq (subst (λ (z : X). cmp x z ≡ Equal) e (tied_itself total x)) in
              let clash : true ≡ false = sym tied ∙ parts.0 in
              absurd cc,
        )),
        λ (h, apart). (there new).0 (updates y ∙ stays (is_eq (cmp x y)) (contains cmp old y) (tells (is_eq (cmp x y)) (λ same. apart (exact x y ((Equal-is (cmp x y)).0 same)))) ((there old).1 h)),
      )

-- names without those of classes
pub left_none : (app : List Shape) (keys : List (List ℕ)) (name : List ℕ) → Contains keys name ↔ (Contains keys name × IsOfLibrary (take 0 app) name)
left_none app keys name = (λ h. (h, λ shape none. absurd (none_there shape none)), λ h. h.0)

pub left_more : (app : List Shape) (k : ℕ) (x : Shape) (first old new : List (List ℕ)) → k < length app → x ≡ get_or app k x
    → ((name : List ℕ) → Contains new name ↔ (Contains old name × (x.name ≡ name → ⊥)))
    → ((name : List ℕ) → Contains old name ↔ (Contains first name × IsOfLibrary (take k app) name))
    → (name : List ℕ) → Contains new name ↔ (Contains first name × IsOfLibrary (take (k + 1) app) name)
left_more app k x first old new within is step before name = (
  λ h. (let now = (step name).0 h in let was = (before name).0 now.0 in
      (was.0, λ shape has same. ⊎_elim (λ more. was.1 shape more same) (λ e. now.1 (ap (λ (s : Shape). s.name) e ∙ same)) (more_cases app k x shape within is has))),
  λ (h, free). (step name).1 ((before name).1 (h, λ shape has same. free shape (more_old app k x shape within is has) same), λ same. free x (more_new app k x within is) same),
)

pub left_all : (app : List Shape) (k : ℕ) (first keys : List (List ℕ)) → length app ≤ k → ((name : List ℕ) → Contains keys name ↔ (Contains first name × IsOfLibrary (take k app) name))
    → (name : List ℕ) → Contains keys name ↔ (Contains first name × IsOfLibrary app name)
left_all app k first keys past before name = subst (λ (l : List Shape). Contains keys name ↔ (Contains first name × IsOfLibrary l name)) (take_all k app past) (before name)

-- ---- signatures

pub gains_none : (methods : List MethodShape) (old : List Signature) → Gains (take 0 methods) old old
gains_none methods old = record { kept = λ each h. h; has = λ method h. absurd (none_there method h) }

pub gains_more : (methods : List MethodShape) (k : ℕ) (method : MethodShape) (first old new : List Signature) (added : Bool) → k < length methods → method ≡ get_or methods k method
    → Gains (take k methods) first old → Puts old (signature_of method) added new → Gains (take (k + 1) methods) first new
gains_more methods k method first old new added within is before puts = record {
  kept = λ each h. puts.keeps each (before.kept each h);
  has = λ other h.
      ⊎_elim (λ was. puts.keeps (signature_of other) (before.has other was)) (λ e. subst (λ (m : MethodShape). Contains new (signature_of m)) e puts.holds) (more_cases methods k method other within is h);
}

pub gains_all : (methods : List MethodShape) (k : ℕ) (old new : List Signature) → length methods ≤ k → Gains (take k methods) old new → Gains methods old new
gains_all methods k old new past h = subst (λ (l : List MethodShape). Gains l old new) (take_all k methods past) h

pub have_none : (files : List LibraryFile) (keys : List Signature) → HaveSignatures (take 0 files) keys
have_none files keys = λ file shape method h. absurd (none_there file h)

pub have_more : (files : List LibraryFile) (k : ℕ) (file : LibraryFile) (old new : List Signature) → k < length files → file ≡ get_or files k file
    → HaveSignatures (take k files) old → GainsFile file old new → HaveSignatures (take (k + 1) files) new
have_more files k file old new within is before gains = λ other shape method h shaped has.
    ⊎_elim (λ was. gains.kept (signature_of method) (before other shape method was shaped has)) (λ e. gains.has shape method (ap (λ (f : LibraryFile). f.shape) e ∙ shaped) has) (more_cases files k file other within is h)

pub have_all : (files : List LibraryFile) (k : ℕ) (keys : List Signature) → length files ≤ k → HaveSignatures (take k files) keys → HaveSignatures files keys
have_all files k keys past h = subst (λ (l : List LibraryFile). HaveSignatures l keys) (take_all k files past) h

-- ---- the names of a library

pub ok_both : {X E : Type 0} (r : Result X E) (P Q R : X → Type 0) → ((x : X) → P x → Q x → R x) → IfOk r P → IfOk r Q → IfOk r R
ok_both (Ok x) P Q R by p q = by x p q
ok_both (Err e) P Q R by p q = tt

pub library_are : (app : List Shape) (named : List (List ℕ)) (files : List LibraryFile) (mentioned kept keys rows : List (List ℕ))
    → ((name : List ℕ) → Contains mentioned name ↔ IsMentioned named files name) → ((name : List ℕ) → Contains kept name ↔ Contains mentioned name)
    → ((name : List ℕ) → Contains keys name ↔ (Contains kept name × IsOfLibrary app name)) → rows ≡ keys → IsSet (slice_cmp nat_cmp) rows → AreLibraryNames app named files rows
library_are app named files mentioned kept keys rows first second third same set = record {
  set = set;
  exact = λ name. (
    λ h. (let last = (third name).0 (subst (λ (l : List (List ℕ)). Contains l name) same h) in ((first name).0 ((second name).0 last.0), last.1)),
    λ (m, free). subst (λ (l : List (List ℕ)). Contains l name) (sym same) ((third name).1 ((second name).1 ((first name).1 m), free)),
  );
}

pub all_small : (files : List LibraryFile) → IsLibrary files → AreSmall files
all_small files library file shape has is = let b = (library.shapes file shape has is).bounded in (b.methods, b.fields)
