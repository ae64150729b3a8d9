-- The names that a stand-in has beside those of the library, and the order in which names stand.
use Rattle.std.specs.Prelude.{ℕ, List, [], ◌∷◌, ◌++◌, None, codes}
use Rattle.std.specs.declared.cmp.Ordering.{Ordering}
use Rattle.std.specs.Ordering.{nat_cmp, ordering_then}
use Rattle.std.specs.Cmp.Lexicographic.{slice_cmp}
use Rattle.jv_types.specs.declared.desc.Desc.TheVariants.{Ref}
use Rattle.jv_types.specs.declared.desc.MethodDesc.{MethodDesc}
use Rattle.jv_types.specs.declared.desc.RefType.{Class}
use Rattle.jv_types.specs.declared.shapes.FieldShape.{FieldShape}
use Rattle.jv_types.specs.declared.shapes.MethodShape.{MethodShape}
use Rattle.jv_desc.specs.Texts.{desc_text, method_text}
use Rattle.av_conditions.specs.StandIn.{library_name}

-- ---- names

-- the descriptor of the extra constructor, `(Laverroes/Library;)V`
abbrev pub extra_desc : MethodDesc
extra_desc = record { params = Ref (Class library_name) ∷ []; result = None }

-- the name of the class of a package that has its items
abbrev pub part_name : List ℕ → List ℕ
part_name [] = codes "averroes$part"
part_name (byte ∷ bytes) = (byte ∷ bytes) ++ codes "/averroes$part"

-- the name of the file of a class
abbrev pub file_name : List ℕ → List ℕ
file_name name = name ++ codes ".class"

-- ---- order

-- names in the order of their bytes
abbrev pub name_order : List ℕ → List ℕ → Ordering
name_order = slice_cmp nat_cmp

-- a member is spoken of by its name and the text of its descriptor, and stands in the order of the one and then of
-- the other
abbrev pub member_order : List ℕ × List ℕ → List ℕ × List ℕ → Ordering
member_order a b = ordering_then (name_order a.0 b.0) (name_order a.1 b.1)

abbrev pub field_key : FieldShape → List ℕ × List ℕ
field_key field = (field.name, desc_text field.desc)

abbrev pub method_key : MethodShape → List ℕ × List ℕ
method_key method = (method.name, method_text method.desc)
