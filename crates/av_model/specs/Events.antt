-- The calls that an event makes: those from the application or into it.
use Rattle.std.specs.Prelude.{ℕ}
use Rattle.jv_types.specs.declared.ids.MethodId.{MethodId}

-- where a call comes from: the library, or the instruction at this offset of a method of the application
pub data Origin : Type 0 where
  FromLibrary : Origin
  FromSite : (method : MethodId) → (pc : ℕ) → Origin

-- what a call enters: a method of the application, or the library
pub data Target : Type 0 where
  IntoMethod : (method : MethodId) → Target
  IntoLibrary : Target

pub record MethodCall : Type 0 where
  pub origin : Origin
  pub target : Target
