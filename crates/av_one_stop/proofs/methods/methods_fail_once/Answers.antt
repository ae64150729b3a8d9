use Rattle.av_one_stop.proofs.Failing.{Laws, not_passed, one_failure, one_framed}
use Rattle.av_one_stop.proofs.methods.methods_fail_once.Goals as goal

pub returns-clause-failure : goal.returns-clause-failure
returns-clause-failure c = λ w class id member rule another pc other file here.
    let laws : Laws = record {
      body = c.codes_have_one_body.ensures;
      nowhere = c.decoded_codes_fail_nowhere.ensures;
      table = c.methods_have_one_answer.ensures.table;
      apart = c.methods_have_one_answer.ensures.apart;
      refusal = c.methods_have_one_answer.ensures.refusal;
    } in
    one_failure laws w class id member file here rule another pc other

pub returns-clause-apart : goal.returns-clause-apart
returns-clause-apart c = λ w class id member rule pc file here.
    let laws : Laws = record {
      body = c.codes_have_one_body.ensures;
      nowhere = c.decoded_codes_fail_nowhere.ensures;
      table = c.methods_have_one_answer.ensures.table;
      apart = c.methods_have_one_answer.ensures.apart;
      refusal = c.methods_have_one_answer.ensures.refusal;
    } in
    not_passed laws w class id member file here rule pc

pub returns-clause-framed : goal.returns-clause-framed
returns-clause-framed c = λ w class id member framed other.
    let laws : Laws = record {
      body = c.codes_have_one_body.ensures;
      nowhere = c.decoded_codes_fail_nowhere.ensures;
      table = c.methods_have_one_answer.ensures.table;
      apart = c.methods_have_one_answer.ensures.apart;
      refusal = c.methods_have_one_answer.ensures.refusal;
    } in
    one_framed laws w class id member framed other
