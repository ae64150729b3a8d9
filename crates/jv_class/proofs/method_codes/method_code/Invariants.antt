use Rattle.std.proofs.Common.{◌≡◌, drop}
use Rattle.jv_class.specs.MethodCodes.{code_in}
use Rattle.jv_class.proofs.method_codes.method_code.Given as goal

-- none of the attributes so far is a code
abbrev pub invariant-loop-attr : goal.invariant-loop-attr
invariant-loop-attr l = (code_in (drop l.attr-index l.attr-items) ≡ code_in l.fn.method.attrs) × (l.attr-items ≡ l.fn.method.attrs)
