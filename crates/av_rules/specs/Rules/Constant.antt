-- Constant. A load of a string or a class, in a method that is entered, pushes an object of the library (JVMS 6.5,
-- ldc and ldc_w).
use Rattle.std.specs.Prelude.{◌≡◌, List, Option, Some, None, ℕ}
use Rattle.jv_fix.specs.Facts.{Premises, One}
use Rattle.jv_types.specs.declared.fact.Fact.{Fact}
use Rattle.jv_types.specs.declared.fact.Fact.TheVariants as facts
use Rattle.jv_types.specs.declared.ids.ClassId.{ClassId}
use Rattle.jv_types.specs.declared.instruction.Arg.{Arg}
use Rattle.jv_types.specs.declared.instruction.Arg.TheVariants.{Constant as Loaded}
use Rattle.jv_types.specs.declared.instruction.Const.{Const}
use Rattle.jv_types.specs.declared.instruction.Const.TheVariants as consts
use Rattle.jv_types.specs.declared.label.Label.{Label}
use Rattle.jv_types.specs.declared.label.Label.TheVariants.{Lib}
use Rattle.jv_types.specs.declared.label.LibBase.TheVariants as bases
use Rattle.jv_types.specs.declared.shapes.Shape.{Shape}
use Rattle.jv_world.specs.Worlds.{IsNamed}
use Rattle.av_conditions.specs.CoreClasses.{class_name, string_name}
use Rattle.av_rules.specs.Program.{Program, Point, IsPoint, IsPushed, method_of}

-- the name of the class of a constant that is an object
abbrev pub constant_class : Const → Option (List ℕ)
constant_class consts.Text = Some string_name
constant_class (consts.Class type) = Some class_name
constant_class _ = None

-- operands load an object of this label
abbrev pub Loads : List Shape → Arg → Label → Type 0
Loads w (Loaded constant) label =
    (name : List ℕ) × (c : ClassId) × (constant_class constant ≡ Some name) × IsNamed w c.number name × (label ≡ Lib (bases.Class c) 0)
Loads w _ label = ⊥

-- what follows at a program point
abbrev pub ConstantAt : Program → Point → Premises Fact → Fact → Type 0
ConstantAt p at (One (facts.Reach m)) (facts.Pt place label) =
    (method_of at ≡ m) × Loads p.world at.insn.arg label × IsPushed at place
ConstantAt p at _ _ = ⊥

abbrev pub Constant : Program → Premises Fact → Fact → Type 0
Constant p premises fact = (at : Point) × IsPoint p at × ConstantAt p at premises fact
