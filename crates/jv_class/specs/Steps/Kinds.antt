-- The kinds of texts that the rules ask for, and what is kept of a text: of which of them it is.
use Rattle.std.specs.Prelude.{◌↔◌, ◌-◌, ◌==◌, ℕ, Bool, true, false, IsTrue, List, Option, Some, None, if◌then◌else◌}
use Rattle.std.specs.List.{AllZip, slice_get}
use Rattle.std.specs.Option.{option_and_then}
use Rattle.jv_pool.specs.declared.item.PoolItem.{PoolItem}
use Rattle.jv_pool.specs.declared.item.PoolItem.TheVariants.{Utf8}
use Rattle.jv_names.specs.Spellings.{IsClassName, IsFieldName, IsMethodName, IsCalledName, IsFieldDescriptor, IsTypeName, IsMethodDescriptor}
use Rattle.jv_class.specs.declared.kinds.Kind.{Kind}
use Rattle.jv_class.specs.declared.kinds.Kind.TheVariants.{TypeName, ClassName, FieldName, MethodName, CalledName, FieldDescriptor, StaticDescriptor, InstanceDescriptor}
use Rattle.jv_class.specs.declared.kinds.TextKinds.{TextKinds}

-- the text is of this kind
abbrev pub IsOfKind : Kind → List ℕ → Type 0
IsOfKind TypeName text = IsTypeName text
IsOfKind ClassName text = IsClassName text
IsOfKind FieldName text = IsFieldName text
IsOfKind MethodName text = IsMethodName text
IsOfKind CalledName text = IsCalledName text
IsOfKind FieldDescriptor text = IsFieldDescriptor text
IsOfKind StaticDescriptor text = IsMethodDescriptor false text
IsOfKind InstanceDescriptor text = IsMethodDescriptor true text

-- what is kept of a text says that it is of this kind
abbrev pub says : TextKinds → Kind → Bool
says kinds TypeName = kinds.type_name
says kinds ClassName = kinds.class_name
says kinds FieldName = kinds.field_name
says kinds MethodName = kinds.method_name
says kinds CalledName = kinds.called_name
says kinds FieldDescriptor = kinds.field_descriptor
says kinds StaticDescriptor = kinds.static_descriptor
says kinds InstanceDescriptor = kinds.instance_descriptor

-- what is kept is right for the text
pub record AreKindsOf (text : List ℕ) (kinds : TextKinds) : Type 0 where
  pub right : (kind : Kind) → IsTrue (says kinds kind) ↔ IsOfKind kind text

-- what is kept of an item: something of a text, and nothing of any other
abbrev pub IsKeptOf : PoolItem → Option TextKinds → Type 0
IsKeptOf (Utf8 text) (Some kinds) = AreKindsOf text kinds
IsKeptOf (Utf8 text) None = ⊥
IsKeptOf _ (Some kinds) = ⊥
IsKeptOf _ None = Unit {0}

-- what is kept of the texts of a pool, by their places
pub record AreKept (items : List PoolItem) (kept : List (Option TextKinds)) : Type 0 where
  pub each : AllZip IsKeptOf items kept

-- what is kept of the text at an index
abbrev pub kept_at : List (Option TextKinds) → ℕ → Option TextKinds
kept_at kept i = if i == 0 then None else option_and_then (λ entry. entry) (slice_get kept (i - 1))
