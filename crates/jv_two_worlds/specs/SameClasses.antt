-- Shapes that say the same of everything that supertypes, resolution, access, overriding and selection ask (JVMS 4.1,
-- 4.5, 4.6). They may differ in other flags, in which methods have code, and in whether the class belongs to the
-- application.
use Rattle.std.specs.Prelude.{◌≡◌, ◌↔◌}
use Rattle.std.specs.List.{AllZip}
use Rattle.jv_types.specs.declared.access.Access.{Access}
use Rattle.jv_types.specs.declared.shapes.FieldShape.{FieldShape}
use Rattle.jv_types.specs.declared.shapes.MethodShape.{MethodShape}
use Rattle.jv_types.specs.declared.shapes.Shape.{Shape}
use Rattle.jv_world.specs.Worlds.{IsInterface}
use Rattle.jv_resolve.specs.Members.{IsAbstract, IsPrivate, IsProtected, IsPublic, IsStatic}

-- the flags say the same of who may use a member, and of whether it is static
pub record HaveSameAccess (flags other : Access) : Type 0 where
  pub public : IsPublic flags ↔ IsPublic other
  pub protected : IsProtected flags ↔ IsProtected other
  pub private : IsPrivate flags ↔ IsPrivate other
  pub static : IsStatic flags ↔ IsStatic other

pub record IsSameField (field other : FieldShape) : Type 0 where
  pub name : field.name ≡ other.name
  pub desc : field.desc ≡ other.desc
  pub access : HaveSameAccess field.flags other.flags

pub record IsSameMethod (method other : MethodShape) : Type 0 where
  pub name : method.name ≡ other.name
  pub desc : method.desc ≡ other.desc
  pub access : HaveSameAccess method.flags other.flags
  pub abstract : IsAbstract method.flags ↔ IsAbstract other.flags

-- the members are the same, place by place
pub record IsSameClass (shape other : Shape) : Type 0 where
  pub name : shape.name ≡ other.name
  pub public : IsPublic shape.flags ↔ IsPublic other.flags
  pub interface : IsInterface shape ↔ IsInterface other
  pub parent : shape.parent ≡ other.parent
  pub interfaces : shape.interfaces ≡ other.interfaces
  pub fields : AllZip IsSameField shape.fields other.fields
  pub methods : AllZip IsSameMethod shape.methods other.methods
