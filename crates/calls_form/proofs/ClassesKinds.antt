-- The tests of texts and flags, and what they mean.
use Rattle.std.proofs.Common.{◌≡◌, ◌≢◌, ℕ, ◌≤◌, Bool, true, false, eqb, leb, not, ◌&&◌, List, [], ◌∷◌, refl, arith, Decides, codes, bit_and}
use Rattle.std.specs.Str.{bytes_eq}
use Rattle.std.proofs.lemmas.Bool.Decides.{nat_tests, Decides-and, Decides-eqb, Decides-not, Decides-like}
use Rattle.std.proofs.lemmas.Slice.Eq.{bytes_eq-Decides}
use Rattle.jv_types.specs.declared.access.Access.{Access}
use Rattle.calls_form.specs.Flags.{IsStatic, IsPrivate, IsNative, IsAbstract}
use Rattle.calls_form.specs.ObjectForm.{IsVisible}
use Rattle.calls_form.specs.ClassesTypes.{has_static}
use Rattle.calls_form.specs.ClassesHeads.{is_visible_byte, is_visible, is_allowed}

pub Decides-leb : (a b : ℕ) → Decides (leb a b) (a ≤ b)
Decides-leb a b = (λ e. grind (arith, nat_tests), λ h. grind (arith, nat_tests))

pub both_true : (a b : Bool) → (a && b) ≡ true → (a ≡ true) × (b ≡ true)
both_true true b e = (refl, e)
both_true false b e = absurd cc

pub tested : (a : Bool) → Decides a (a ≡ true)
tested a = (λ e. e, λ e. e)

pub two_true : (a b : Bool) → a ≡ true → b ≡ true → (a && b) ≡ true
two_true a b e f = (Decides-and a b (tested a) (tested b)).1 (e, f)

pub three_true : (a b c : Bool) → a ≡ true → b ≡ true → c ≡ true → ((a && b) && c) ≡ true
three_true a b c e f g = two_true (a && b) c (two_true a b e f) g

pub not_true : (a : Bool) → (a ≡ true → ⊥) → a ≡ false
not_true true h = absurd (h refl)
not_true false h = refl

-- ---- visible texts

Decides-visible_byte : (b : ℕ) → Decides (is_visible_byte b) ((0x21 ≤ b) × (b ≤ 0x7E) × (b ≢ 0x25))
Decides-visible_byte b =
    Decides-like (is_visible_byte b) (λ h. (h.0, h.1.0, h.1.1)) (λ h. (h.0, (h.1, h.2)))
    (Decides-and (leb 0x21 b) (leb b 0x7E && not (eqb b 0x25)) (Decides-leb 0x21 b) (Decides-and (leb b 0x7E) (not (eqb b 0x25)) (Decides-leb b 0x7E) (Decides-not (eqb b 0x25) (Decides-eqb b 0x25))))

pub Decides-visible : (text : List ℕ) → Decides (is_visible text) (IsVisible text)
Decides-visible [] = (λ _. tt, λ _. refl)
Decides-visible (b ∷ text) = Decides-and (is_visible_byte b) (is_visible text) (Decides-visible_byte b) (Decides-visible text)

-- ---- flags

pub Decides-static : (access : Access) → Decides (has_static access) (IsStatic access)
Decides-static access = Decides-eqb (bit_and access.0 8) 8

pub Decides-private : (access : Access) → Decides (eqb (bit_and access.0 2) 2) (IsPrivate access)
Decides-private access = Decides-eqb (bit_and access.0 2) 2

-- a method that has code, and isn't <clinit> or a static <init>
abbrev pub IsAllowed : Access → List ℕ → Type 0
IsAllowed access name = ((¬ IsNative access) × (¬ IsAbstract access)) × ((name ≢ codes "<clinit>") × (¬ (IsStatic access × (name ≡ codes "<init>"))))

pub Decides-allowed : (access : Access) (name : List ℕ) → Decides (is_allowed access name) (IsAllowed access name)
Decides-allowed access name =
    let native = eqb (bit_and access.0 0x100) 0x100 in
    let abstract_flag = eqb (bit_and access.0 0x400) 0x400 in
    let class_init = bytes_eq name (codes "<clinit>") in
    let init = bytes_eq name (codes "<init>") in
    Decides-and (not native && not abstract_flag) (not class_init && not (has_static access && init))
    (Decides-and (not native) (not abstract_flag) (Decides-not native (Decides-eqb (bit_and access.0 0x100) 0x100)) (Decides-not abstract_flag (Decides-eqb (bit_and access.0 0x400) 0x400)))
    (Decides-and (not class_init) (not (has_static access && init)) (Decides-not class_init (bytes_eq-Decides name (codes "<clinit>")))
    (Decides-not (has_static access && init) (Decides-and (has_static access) init (Decides-static access) (bytes_eq-Decides name (codes "<init>")))))
