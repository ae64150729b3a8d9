use Rattle.av_states.proofs.RunOrder.{arrays_compare}
use Rattle.av_states.proofs.run_type.RunType.+compare.Goals as goal

pub returns-in-Array-Array : goal.returns-in-Array-Array
returns-in-Array-Array t c =
    let arm = c.in-Array-Array in
    arrays_compare arm.item arm.other_item c.get.result.now c.get-in-Array-Array.result.now c.args.self.now c.args.other.now c.compare.result arm.is-0 arm.is-1 c.get.ensures c.get-in-Array-Array.ensures c.compare.ensures
