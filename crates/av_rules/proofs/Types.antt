-- A label has one type at most.
use Rattle.std.proofs.Common.{◌≡◌, ℕ, List, Some, Contains, slice_get, bit_and, sym, ap, ◌∙◌, subst, ⊎_elim, arith}
use Rattle.std.proofs.lemmas.Option.{same_Some}
use Rattle.jv_types.specs.Bodies.{at_offset}
use Rattle.jv_types.specs.declared.desc.RefType.{RefType}
use Rattle.jv_types.specs.declared.desc.RefType as types
use Rattle.jv_types.specs.declared.frames.FramedBody.{FramedBody}
use Rattle.jv_types.specs.declared.ids.ClassId.{ClassId}
use Rattle.jv_types.specs.declared.ids.MethodId.{MethodId}
use Rattle.jv_types.specs.declared.instruction.Arg.{Arg}
use Rattle.jv_types.specs.declared.instruction.Arg.TheVariants as args
use Rattle.jv_types.specs.declared.instruction.Insn.{Insn}
use Rattle.jv_types.specs.declared.label.Label.{Label}
use Rattle.jv_types.specs.declared.label.Label.TheVariants.{Site, Lib}
use Rattle.jv_types.specs.declared.label.LibBase.{LibBase}
use Rattle.jv_types.specs.declared.label.LibBase.TheVariants as bases
use Rattle.jv_types.specs.declared.shapes.Shape.{Shape}
use Rattle.jv_world.specs.Worlds.{AreNumbered, IsNamed}
use Rattle.jv_resolve.proofs.PlacesLemmas.{read_at}
use Rattle.av_conditions.specs.StandIn.{any_name}
use Rattle.av_rules.specs.declared.flat_type.FlatType.{FlatType}
use Rattle.av_rules.specs.Labels.{IsInner, IsLibType, IsMadeClass, IsSiteType, IsTypeOf, Makes, MakesBy, MakesOf}
use Rattle.av_rules.specs.Program.{Program}
use Rattle.av_rules.specs.StandInClasses.{IsAnyClassOf, IsFinalClass}
use Rattle.av_rules.proofs.Flats.{flat_one}

abbrev class_at : ℕ → ClassId
class_at n = record { number = n }

abbrev flat_at : LibBase → ℕ → FlatType
flat_at base dims = record { base = base; dims = dims }

-- a class has one class of any object
pub any_one : (w : List Shape) (c a b : ℕ) → AreNumbered w → IsAnyClassOf w c a → IsAnyClassOf w c b → a ≡ b
any_one w c a b numbered x y =
    let same : x.0 ≡ y.0 = same_Some x.0 y.0 (sym x.1.place ∙ y.1.place) in
    let P : Shape → Type 0 = λ s. IsNamed w a (any_name s.name) in
    numbered.distinct a b (any_name y.0.name) (subst P same x.2) y.2

-- and such a class is not final
pub any_no_final : (w : List Shape) (c a : ℕ) (class : Shape) → IsAnyClassOf w c a → IsFinalClass w c class → ⊥
any_no_final w c a class x y =
    let same : class ≡ x.0 = same_Some class x.0 (sym y.place ∙ x.1.place) in
    x.1.extendable (subst (λ (s : Shape). bit_and s.flags.0 16 ≡ 16) same y.final)

pub made_class_one : (w : List Shape) (c a b : ClassId) → AreNumbered w → IsMadeClass w c a → IsMadeClass w c b → a ≡ b
made_class_one w c a b numbered x y =
    ⊎_elim
    (λ (left : IsAnyClassOf w c.number a.number).
    ⊎_elim
    (λ (right : IsAnyClassOf w c.number b.number). ap class_at (any_one w c.number a.number b.number numbered left right))
    (λ (right : (class : Shape) × IsFinalClass w c.number class × (b ≡ c)). absurd (any_no_final w c.number a.number right.0 left right.1))
    y)
    (λ (left : (class : Shape) × IsFinalClass w c.number class × (a ≡ c)).
    ⊎_elim
    (λ (right : IsAnyClassOf w c.number b.number). absurd (any_no_final w c.number b.number left.0 right left.1))
    (λ (right : (class : Shape) × IsFinalClass w c.number class × (b ≡ c)). left.2 ∙ sym right.2)
    y)
    x

pub lib_type_one : (w : List Shape) (base : LibBase) (dims : ℕ) (a b : FlatType) → AreNumbered w → IsLibType w base dims a → IsLibType w base dims b → a ≡ b
lib_type_one w (bases.Class c) dims a b numbered x y =
    let same : x.0 ≡ y.0 = made_class_one w c x.0 y.0 numbered x.1 y.1 in
    x.2 ∙ ap (λ (own : ClassId). flat_at (bases.Class own) dims) same ∙ sym y.2
lib_type_one w (bases.Prim prim) dims a b numbered x y = x.1 ∙ sym y.1

-- two numbers that one number isn't both
apart : (op : ℕ) → op ≡ 187 → op ≡ 189 → ⊥
apart op a b = absurd (omega (arith, a, b))

made_of_one : (w : List Shape) (op : ℕ) (type : RefType) (a b : FlatType) → AreNumbered w → MakesOf w op type a → MakesOf w op type b → a ≡ b
made_of_one w op type a b numbered x y =
    ⊎_elim
    (λ left. ⊎_elim (λ right. flat_one w numbered type a b left.1 right.1) (λ right. absurd (apart op left.0 right.0)) y)
    (λ left. ⊎_elim (λ right. absurd (apart op right.0 left.0)) (λ right. flat_one w numbered (types.Array type) a b left.1 right.1) y)
    x

inner_one : (w : List Shape) (type : RefType) (depth : ℕ) (a b : FlatType) → AreNumbered w → IsInner w type depth a → IsInner w type depth b → a ≡ b
inner_one w type depth a b numbered x y =
    let same : x.0 ≡ y.0 = flat_one w numbered type x.0 y.0 x.1 y.1 in
    let base : a.base ≡ b.base = x.2 ∙ ap (λ (f : FlatType). f.base) same ∙ sym y.2 in
    let whole : x.0.dims ≡ y.0.dims = ap (λ (f : FlatType). f.dims) same in
    let dims : a.dims ≡ b.dims = omega (arith, whole, x.3, y.3) in
    ap (λ (l : LibBase). flat_at l a.dims) base ∙ ap (λ (d : ℕ). flat_at b.base d) dims

pub makes_one : (w : List Shape) (op : ℕ) (arg : Arg) (depth : ℕ) (a b : FlatType) → AreNumbered w → MakesBy w op arg depth a → MakesBy w op arg depth b → a ≡ b
makes_one w op (args.Class type) depth a b numbered x y = made_of_one w op type a b numbered x.1 y.1
makes_one w op (args.NewPrim prim) depth a b numbered x y = x.2 ∙ sym y.2
makes_one w op (args.Multi type count) depth a b numbered x y = inner_one w type depth a b numbered x.2 y.2
makes_one w op _ depth a b numbered x y = absurd x

-- ---- labels

-- the bodies of different methods are different
abbrev pub AreDistinct : List FramedBody → Type 0
AreDistinct methods =
    (i j : ℕ) (a b : FramedBody) → slice_get methods i ≡ Some a → slice_get methods j ≡ Some b → a.method ≡ b.method → i ≡ j

pub body_one : (methods : List FramedBody) (a b : FramedBody) → AreDistinct methods → Contains methods a → Contains methods b → a.method ≡ b.method → a ≡ b
body_one methods a b distinct x y same =
    let first : slice_get methods x.0 ≡ Some a = read_at methods x.0 a x.1 (sym x.2) in
    let second : slice_get methods y.0 ≡ Some b = read_at methods y.0 b y.1 (sym y.2) in
    let place : x.0 ≡ y.0 = distinct x.0 y.0 a b first second same in
    same_Some a b (sym first ∙ ap (slice_get methods) place ∙ second)

pub site_type_one : (p : Program) (m : MethodId) (pc depth : ℕ) (a b : FlatType) → AreNumbered p.world → AreDistinct p.methods
    → IsSiteType p m pc depth a → IsSiteType p m pc depth b → a ≡ b
site_type_one p m pc depth a b numbered distinct x y =
    let body : x.framed ≡ y.framed = body_one p.methods x.framed y.framed distinct x.given y.given (x.of_method ∙ sym y.of_method) in
    let insn : x.insn ≡ y.insn = same_Some x.insn y.insn (sym x.stands ∙ ap (λ (f : FramedBody). at_offset pc f.body.insns) body ∙ y.stands) in
    let P : Insn → Type 0 = λ i. Makes p.world i depth a in
    makes_one p.world y.insn.op y.insn.arg depth a b numbered (subst P insn x.makes) y.makes

pub type_one : (p : Program) (label : Label) (a b : FlatType) → AreNumbered p.world → AreDistinct p.methods → IsTypeOf p label a → IsTypeOf p label b → a ≡ b
type_one p (Site m pc depth) a b numbered distinct x y = site_type_one p m pc depth a b numbered distinct x y
type_one p (Lib base dims) a b numbered distinct x y = lib_type_one p.world base dims a b numbered x y
