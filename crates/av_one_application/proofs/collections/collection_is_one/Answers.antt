use Rattle.av_one_application.proofs.Answering.{found_back, more_limits, no_failure, one_failure, one_found}
use Rattle.av_one_application.proofs.collections.collection_is_one.Goals as goal

pub returns-clause-limits : goal.returns-clause-limits
returns-clause-limits c = λ folders given other library others quantity same alike.
    more_limits given other library others same alike (λ item. (c.same_applications_collect_alike.ensures given other library others same alike item).0) folders quantity

pub returns-clause-failure : goal.returns-clause-failure
returns-clause-failure c = λ given other library others rule another name named same alike.
    one_failure given other library others same alike (c.same_applications_collect_alike.ensures given other library others same alike) rule another name named

pub returns-clause-apart : goal.returns-clause-apart
returns-clause-apart c = λ given other library others rule name same alike.
    no_failure given other library others same alike (c.same_applications_collect_alike.ensures given other library others same alike) rule name

pub returns-clause-found : goal.returns-clause-found
returns-clause-found c = λ given other library others found another files same alike own its.
    let ends = c.same_applications_collect_alike.ensures given other library others same alike in
    one_found given library files found another own (found_back given other library others same alike ends another its)
