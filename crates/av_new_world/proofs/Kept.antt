-- What the stand-in of a class keeps of it.
use Rattle.std.proofs.Common.{◌≡◌, ℕ, Bool, true, false, List, sym, ap, ◌∙◌, refl}
use Rattle.std.specs.Prelude.{bit_and, bit_or, if◌then◌else◌}
use Rattle.std.proofs.lemmas.Nat.{and_assoc, and_or_apart}
use Rattle.jv_types.specs.declared.shapes.Shape.{Shape}
use Rattle.jv_world.specs.Worlds.{IsInterface, IsFinal, NamesSuper}
use Rattle.av_standin_of.specs.Classes.{is_interface, kept_flags, access, masked}
use Rattle.av_standin_of.specs.Worlds.{in_place, kept_class}

-- what holds of a class and of the same in place holds of the kept one
pub kept_by : (P : Shape → Type 0) (class : Shape) → (class.application ≡ true → P class) → (class.application ≡ false → P (in_place class)) → P (kept_class class)
kept_by P class own placed = by class.application refl
  where
    by : (b : Bool) → class.application ≡ b → P (if b then class else in_place class)
    by true is = own is
    by false is = placed is

pub name_stays : (class : Shape) → (kept_class class).name ≡ class.name
name_stays class = kept_by (λ (s : Shape). s.name ≡ class.name) class (λ is. refl) (λ is. refl)

pub parent_stays : (class : Shape) → (kept_class class).parent ≡ class.parent
parent_stays class = kept_by (λ (s : Shape). s.parent ≡ class.parent) class (λ is. refl) (λ is. refl)

pub interfaces_stay : (class : Shape) → (kept_class class).interfaces ≡ class.interfaces
interfaces_stay class = kept_by (λ (s : Shape). s.interfaces ≡ class.interfaces) class (λ is. refl) (λ is. refl)

pub supers_stay : (class : Shape) (name : List ℕ) → NamesSuper (kept_class class) name → NamesSuper class name
supers_stay class name h = kept_by (λ (s : Shape). NamesSuper s name → NamesSuper class name) class (λ is it. it) (λ is it. it) h

-- a flag that the mask has, but for SUPER
flag_stays : (class : Shape) (flag : ℕ) → bit_and 0x0611 flag ≡ flag → bit_and 0x0020 flag ≡ 0 → bit_and (kept_flags class).0 flag ≡ bit_and class.flags.0 flag
flag_stays class flag masks apart = by (is_interface class)
  where
    of_mask : bit_and (bit_and class.flags.0 0x0611) flag ≡ bit_and class.flags.0 flag
    of_mask = and_assoc flag class.flags.0 0x0611 ∙ ap (bit_and class.flags.0) masks

    by : (b : Bool) → bit_and (if b then masked class.flags 0x0611 else access (bit_or (bit_and class.flags.0 0x0611) 0x0020)).0 flag ≡ bit_and class.flags.0 flag
    by true = of_mask
    by false = and_or_apart flag (bit_and class.flags.0 0x0611) 0x0020 apart ∙ of_mask

pub interface_was : (class : Shape) → IsInterface (kept_class class) → IsInterface class
interface_was class h = kept_by (λ (s : Shape). IsInterface s → IsInterface class) class (λ is it. it) (λ is it. sym (flag_stays class 512 refl refl) ∙ it) h

pub interface_stays : (class : Shape) → IsInterface class → IsInterface (kept_class class)
interface_stays class h = kept_by IsInterface class (λ is. h) (λ is. flag_stays class 512 refl refl ∙ h)

pub final_was : (class : Shape) → IsFinal (kept_class class) → IsFinal class
final_was class h = kept_by (λ (s : Shape). IsFinal s → IsFinal class) class (λ is it. it) (λ is it. sym (flag_stays class 16 refl refl) ∙ it) h
