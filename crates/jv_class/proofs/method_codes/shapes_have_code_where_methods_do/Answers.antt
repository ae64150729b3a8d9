use Rattle.std.proofs.Common.{◌∙◌}
use Rattle.jv_class.proofs.MethodCodes.{any_code}
use Rattle.jv_class.proofs.method_codes.shapes_have_code_where_methods_do.Goals as goal

pub returns : goal.returns
returns c = λ items method shape h. h.code ∙ any_code method.attrs
