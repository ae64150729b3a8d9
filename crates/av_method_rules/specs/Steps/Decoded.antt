-- What is answered of a code that doesn't decode.
use Rattle.std.specs.Prelude.{◌≡◌}
use Rattle.jv_types.specs.declared.rule.Rule.TheVariants as rules
use Rattle.jv_attr.specs.declared.attr.CodeAttr.{CodeAttr}
use Rattle.jv_class.specs.declared.class_file.ClassFile.{ClassFile}
use Rattle.jv_insn.specs.Decoding.{IsLeastFailure}
use Rattle.av_method_rules.specs.declared.outcome.MethodStop.{MethodStop}
use Rattle.av_method_rules.specs.declared.outcome.MethodStop.TheVariants.{At, Memory}

-- the rule on codes, at the least offset at which this one isn't well formed
abbrev pub IsCodeStop : ClassFile → CodeAttr → MethodStop → Type 0
IsCodeStop class code (At rule pc) = (rule ≡ rules.CodeForm) × IsLeastFailure class.pool code.max_locals code.code code.handlers pc
IsCodeStop class code Memory = Unit {0}
