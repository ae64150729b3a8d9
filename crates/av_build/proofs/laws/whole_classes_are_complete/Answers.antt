use Rattle.av_build.proofs.Complete.{none_absent, numbered}
use Rattle.av_build.proofs.Distinct.{Laws, distinct_members}
use Rattle.av_build.proofs.laws.whole_classes_are_complete.Goals as goal

pub returns-clause-numbered : goal.returns-clause-numbered
returns-clause-numbered _ = λ classes given found known of. numbered given found of classes known

pub returns-clause-there : goal.returns-clause-there
returns-clause-there _ = λ given found of. none_absent given found of

pub returns-clause-distinct : goal.returns-clause-distinct
returns-clause-distinct c = λ classes given found known of.
    let laws : Laws = record { fields = c.fields_have_one_text.ensures.text; methods = c.methods_have_one_text.ensures.text } in
    distinct_members laws classes given found known of
