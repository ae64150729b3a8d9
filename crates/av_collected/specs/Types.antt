-- What the types of members are made of: the classes that stand in them, and their dimensions (JVMS 4.3).
use Rattle.std.specs.Prelude.{◌≡◌, ℕ, ◌⊎◌, List, Some, Contains}
use Rattle.jv_types.specs.declared.desc.Desc.{Desc}
use Rattle.jv_types.specs.declared.desc.Desc.TheVariants.{Prim, Ref}
use Rattle.jv_types.specs.declared.desc.MethodDesc.{MethodDesc}
use Rattle.jv_desc.specs.Texts.{ref_dims}
use Rattle.jv_two_worlds.specs.Types.{EndsIn}

-- the class or interface of this name stands in the type, below all its dimensions
abbrev pub HasClass : Desc → List ℕ → Type 0
HasClass (Prim prim) name = ⊥
HasClass (Ref type) name = EndsIn type name

-- how many dimensions the type has
abbrev pub dims_of : Desc → ℕ
dims_of (Prim prim) = 0
dims_of (Ref type) = ref_dims type

-- the type is that of a parameter or of the result
abbrev pub IsPartOf : MethodDesc → Desc → Type 0
IsPartOf desc type = Contains desc.params type ⊎ (desc.result ≡ Some type)

-- the class or interface of this name stands in a parameter or in the result
abbrev pub MentionsClass : MethodDesc → List ℕ → Type 0
MentionsClass desc name = (type : Desc) × IsPartOf desc type × HasClass type name

-- a parameter or the result has this many dimensions
abbrev pub MentionsDims : MethodDesc → ℕ → Type 0
MentionsDims desc dims = (type : Desc) × IsPartOf desc type × (dims ≡ dims_of type)
