-- Access control (JVMS 5.4.4). A subclass and a superclass are such by superclass links alone.
use Rattle.std.specs.Prelude.{◌≡◌, ℕ, ◌⊎◌, List, Some, codes}
use Rattle.std.specs.List.{slice_get}
use Rattle.jv_types.specs.declared.access.Access.{Access}
use Rattle.jv_types.specs.declared.desc.RefType.{RefType}
use Rattle.jv_types.specs.declared.ids.FieldId.{FieldId}
use Rattle.jv_types.specs.declared.ids.MethodId.{MethodId}
use Rattle.jv_types.specs.declared.references.FieldRef.{FieldRef}
use Rattle.jv_types.specs.declared.references.MethodRef.{MethodRef}
use Rattle.jv_types.specs.declared.shapes.FieldShape.{FieldShape}
use Rattle.jv_types.specs.declared.shapes.MethodShape.{MethodShape}
use Rattle.jv_types.specs.declared.shapes.Shape.{Shape}
use Rattle.jv_world.specs.Worlds.{IsNamed, IsSubclass}
use Rattle.jv_resolve.specs.Members.{IsPublic, IsPrivate, IsProtected, IsPackagePrivate, IsStatic, IsMethod, IsField}
use Rattle.jv_resolve.specs.Packages.{AreInOnePackage}
use Rattle.jv_resolve.specs.References.{named_class, IsArray}

-- the class of this number is public (JVMS table 4.1-A)
abbrev pub IsPublicClass : List Shape → ℕ → Type 0
IsPublicClass w c = (s : Shape) × (slice_get w c ≡ Some s) × IsPublic s.flags

-- the class c is accessible from the class `from`: it is public, or the two are of one package
abbrev pub IsClassAccessible : List Shape → ℕ → ℕ → Type 0
IsClassAccessible w from c = IsPublicClass w c ⊎ AreInOnePackage w from c

-- the name is that of the class c, or of a subclass or a superclass of it
abbrev pub IsInLine : List Shape → ℕ → List ℕ → Type 0
IsInLine w c name = (d : ℕ) × IsNamed w d name × (IsSubclass w c d ⊎ IsSubclass w d c)

-- the type names a class in line with the class c; an array names none
abbrev pub NamesInLine : List Shape → ℕ → RefType → Type 0
NamesInLine w c type = (name : List ℕ) × (named_class type ≡ Some name) × IsInLine w c name

-- A protected member of the class `declarer` is accessible from the class `from`: where the two are of one
-- package, or `from` is a subclass of the declarer; then, for a member that isn't static, the class that the
-- reference names has to be in line with `from`.
abbrev pub IsProtectedAccess : List Shape → ℕ → Type 0 → ℕ → Access → Type 0
IsProtectedAccess w from in_line declarer flags = AreInOnePackage w from declarer ⊎ (IsSubclass w from declarer × (IsStatic flags ⊎ in_line))

-- A member of the class `declarer` with these flags is accessible from the class `from`, by a reference of which
-- `in_line` says whether it names a class in line with `from`.
abbrev pub HasAccess : List Shape → ℕ → Type 0 → ℕ → Access → Type 0
HasAccess w from in_line declarer flags =
    IsPublic flags
    ⊎ (IsProtected flags × IsProtectedAccess w from in_line declarer flags)
    ⊎ (IsPackagePrivate flags × AreInOnePackage w from declarer)
    ⊎ (IsPrivate flags × (from ≡ declarer))

-- the field is accessible from the class `from` by the reference
abbrev pub IsFieldAccessible : List Shape → ℕ → FieldRef → FieldId → Type 0
IsFieldAccessible w from r f = (x : FieldShape) × IsField w f x × HasAccess w from (IsInLine w from r.class) f.class.number x.flags

-- The method is accessible from the class `from` by the reference. The method `clone` of an array counts as
-- public (JVMS 10.7).
abbrev pub IsMethodAccessible : List Shape → ℕ → MethodRef → MethodId → Type 0
IsMethodAccessible w from r m =
    (IsArray r.class × (r.name ≡ codes "clone"))
    ⊎ ((x : MethodShape) × IsMethod w m x × HasAccess w from (NamesInLine w from r.class) m.class.number x.flags)
