-- An instruction or an entry that is none has a cause, and one with a cause is none.
use Rattle.jv_insn.proofs.Failing.{decoded_fails_nowhere}
use Rattle.jv_insn.proofs.Causes.{fails_of, cause_of, first_of, least_of}
use Rattle.jv_insn.proofs.laws.codes_fail_for_causes.Goals as goal

pub returns : goal.returns
returns c = record {
  fails = λ pool max_locals code handlers pc of. (cause_of pool max_locals code handlers pc of, fails_of pool max_locals code handlers pc);
  least = λ pool max_locals code handlers pc of. (first_of pool max_locals code handlers pc of, least_of pool max_locals code handlers pc of);
  decodes = λ pool max_stack max_locals code handlers body pc d h. decoded_fails_nowhere pool max_stack max_locals code handlers body pc d (fails_of pool max_locals code handlers pc h);
}
