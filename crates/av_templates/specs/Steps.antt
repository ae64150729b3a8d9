-- Parts of `throws`, whose branch hasn't landed, and the receiver of a method.
use Rattle.std.specs.Prelude.{ℕ, if◌then◌else◌, List, [], ◌∷◌, ◌++◌}
use Rattle.jv_table.specs.declared.ops.TheConstants.{IFNULL, ATHROW}
use Rattle.jv_types.specs.declared.desc.RefType as refs
use Rattle.jv_types.specs.declared.frames.VType.{VType, Class}
use Rattle.jv_types.specs.declared.shapes.MethodShape.{MethodShape}
use Rattle.jv_frames.specs.Entry.{is_static}
use Rattle.av_conditions.specs.CoreClasses.{throwable_name}
use Rattle.av_standin_of.specs.Codes.{Row, row, plain, get_known, object_vtype, throwable_vtype, known_as}
use Rattle.av_templates.specs.Putting.{open_row}

abbrev pub asks_known : ℕ → List VType → List Row
asks_known words locals = row words locals [] get_known ∷ open_row words locals (object_vtype ∷ []) IFNULL ∷ []

abbrev pub known_throwable : ℕ → List VType → List Row
known_throwable words locals = known_as words locals [] (refs.Class throwable_name)

abbrev pub throws_known : ℕ → List VType → List Row
throws_known words locals = known_throwable words locals ++ row words locals (throwable_vtype ∷ []) (plain ATHROW) ∷ []

-- the type of the receiver, once it is initialised
abbrev pub receiver_of : List ℕ → MethodShape → List VType
receiver_of class method = if is_static method then [] else Class class ∷ []
