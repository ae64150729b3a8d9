-- Which classes an application and the files of a library name, whoever's classes they are.
use Rattle.std.specs.Prelude.{◌≡◌, ℕ, ◌⊎◌, List, Some}
use Rattle.jv_types.specs.declared.body.Handler.{Handler}
use Rattle.jv_types.specs.declared.desc.RefType.{RefType}
use Rattle.jv_types.specs.declared.instruction.Insn.{Insn}
use Rattle.jv_types.specs.declared.shapes.FieldShape.{FieldShape}
use Rattle.jv_types.specs.declared.shapes.MethodShape.{MethodShape}
use Rattle.jv_types.specs.declared.shapes.Shape.{Shape}
use Rattle.jv_world.specs.Worlds.{NamesSuper}
use Rattle.jv_names.specs.Naming.{IsTypeText}
use Rattle.jv_two_worlds.specs.Types.{EndsIn}
use Rattle.av_conditions.specs.CoreClasses.{IsCoreClass, IsCoreInterface}
use Rattle.av_collected.specs.declared.method_body.MethodBody.{MethodBody}
use Rattle.av_collected.specs.Libraries.{LibraryFile}
use Rattle.av_collected.specs.Naming.{Application, ArgNames}
use Rattle.av_collected.specs.Types.{HasClass, MentionsClass}
use Rattle.av_named.specs.Appending.{OfEach}

-- a field names the class: its type does
abbrev pub FieldNames : FieldShape → List ℕ → Type 0
FieldNames field name = HasClass field.desc name

-- a method names the class: its descriptor does
abbrev pub MethodNames : MethodShape → List ℕ → Type 0
MethodNames method name = MentionsClass method.desc name

-- a member names the class
abbrev pub MemberNames : Shape → List ℕ → Type 0
MemberNames shape name = OfEach FieldNames shape.fields name ⊎ OfEach MethodNames shape.methods name

-- a class names another as a supertype or in a member
abbrev pub ShapeNames : Shape → List ℕ → Type 0
ShapeNames shape name = NamesSuper shape name ⊎ MemberNames shape name

-- a row of a code names the class
abbrev pub RowNames : ℕ × Insn → List ℕ → Type 0
RowNames row name = ArgNames row.1.arg name

-- a handler catches the class
abbrev pub HandlerNames : Handler → List ℕ → Type 0
HandlerNames handler name = handler.catch ≡ Some name

-- a code names the class
abbrev pub BodyNames : MethodBody → List ℕ → Type 0
BodyNames method name = OfEach RowNames method.body.insns name ⊎ OfEach HandlerNames method.body.handlers name

-- a text that names a class or array type names the class inside
abbrev pub TextNames : List ℕ → List ℕ → Type 0
TextNames text name = (type : RefType) × IsTypeText text type × EndsIn type name

-- one of the six classes that every world has
abbrev pub IsCore : List ℕ → Type 0
IsCore name = IsCoreClass name ⊎ IsCoreInterface name

-- the application names the class, or every world has it
abbrev pub ApplicationNames : Application → List ℕ → Type 0
ApplicationNames given name =
    (OfEach ShapeNames given.shapes name ⊎ OfEach BodyNames given.bodies name) ⊎ (OfEach TextNames given.maps name ⊎ IsCore name)
