-- What is collected from nothing, over numbered classes.
use Rattle.std.specs.Prelude.{◌≡◌, ℕ, ◌⊎◌, true, false, List}
use Rattle.jv_types.specs.declared.ids.FieldId.{FieldId}
use Rattle.jv_types.specs.declared.ids.MethodId.{MethodId}
use Rattle.jv_types.specs.declared.instruction.Arg.{Arg}
use Rattle.jv_types.specs.declared.instruction.Arg.TheVariants as args
use Rattle.jv_types.specs.declared.instruction.Insn.{Insn}
use Rattle.jv_types.specs.declared.references.FieldRef.{FieldRef}
use Rattle.jv_types.specs.declared.references.MethodRef.{MethodRef}
use Rattle.jv_types.specs.declared.shapes.MethodShape.{MethodShape}
use Rattle.jv_types.specs.declared.shapes.Shape.{Shape}
use Rattle.jv_world.specs.Worlds.{IsNamed, NamesSuper, object_name}
use Rattle.jv_resolve.specs.Members.{init_name}
use Rattle.jv_resolve.specs.Resolving.{ResolvesField}
use Rattle.av_conditions.specs.CoreClasses.{finalize_name, void_desc}
use Rattle.av_conditions.specs.Members.{ResolvesCall}
use Rattle.av_collected.specs.declared.method_body.MethodBody.{MethodBody}
use Rattle.av_named.specs.Appending.{OfEach}
use Rattle.av_tables.specs.Tables.{Known, NameAt, DeclaresMethod}
use Rattle.av_forcing.specs.declared.fact.RoundFact.{RoundFact}
use Rattle.av_forcing.specs.declared.fact.RoundFact.TheVariants.{Field, Method}
use Rattle.av_forcing.specs.Forcing.{Numbered}

-- the library field, or method, to which a reference resolves
abbrev pub FieldFound : List Shape → Known → FieldRef → RoundFact → Type 0
FieldFound w k r fact =
    (f : FieldId) × (name : List ℕ) × (c : ℕ) × ResolvesField w r f × IsNamed w f.class.number name × NameAt k c name × (Field c f.index ≡ fact)

abbrev pub MethodFound : List Shape → Known → MethodRef → RoundFact → Type 0
MethodFound w k r fact =
    (m : MethodId) × (name : List ℕ) × (c : ℕ) × ResolvesCall w r m × IsNamed w m.class.number name × NameAt k c name × (Method c m.index ≡ fact)

abbrev pub ArgFinds : List Shape → Known → Arg → RoundFact → Type 0
ArgFinds w k (args.Field r) fact = FieldFound w k r fact
ArgFinds w k (args.Method r) fact = MethodFound w k r fact
ArgFinds w k _ fact = ⊥

-- so does that of an instruction, or one in a code
abbrev pub RowFinds : List Shape → Known → ℕ × Insn → RoundFact → Type 0
RowFinds w k row fact = ArgFinds w k row.1.arg fact

abbrev pub BodyFinds : List Shape → Known → MethodBody → RoundFact → Type 0
BodyFinds w k method fact = OfEach (RowFinds w k) method.body.insns fact

-- a method of Object that every world has
abbrev pub IsCoreMethod : MethodShape → Type 0
IsCoreMethod method = ((method.name ≡ init_name) ⊎ (method.name ≡ finalize_name)) × (method.desc ≡ void_desc)

abbrev pub CoreAt : ℕ → MethodShape → ℕ → RoundFact → Type 0
CoreAt c method place fact = IsCoreMethod method × (Method c place ≡ fact)

-- one of the class of this number, or of Object
abbrev pub CoreMethodOf : Known → ℕ → RoundFact → Type 0
CoreMethodOf k c fact = (place : ℕ) × (method : MethodShape) × DeclaresMethod k c place method × CoreAt c method place fact

abbrev pub CoreMethod : Known → RoundFact → Type 0
CoreMethod k fact = (c : ℕ) × NameAt k c object_name × CoreMethodOf k c fact

-- a class that one of the application names as its supertype
abbrev pub SuperOf : Shape → List ℕ → Type 0
SuperOf shape name = NamesSuper shape name

-- named classes, the supertypes of those of the application, members that references resolve to, and core methods
abbrev pub IsSeed : List Shape → Known → List Shape → List (List ℕ) → List MethodBody → RoundFact → Type 0
IsSeed w k app named bodies fact =
    (OfEach (Numbered k false) named fact ⊎ ((name : List ℕ) × OfEach SuperOf app name × Numbered k true name fact))
    ⊎ (OfEach (BodyFinds w k) bodies fact ⊎ CoreMethod k fact)
