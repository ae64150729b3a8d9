use Rattle.jv_equality.proofs.ToldApart.{const_told, const_ties, arg_told, arg_ties, insn_told, insn_ties, handler_told, handler_ties, raw_handler_told, raw_handler_ties, body_told, body_ties, vtype_told, vtype_ties, frame_told, frame_ties, framed_body_told, framed_body_ties}
use Rattle.jv_equality.proofs.equality.codes_are_told_apart.Goals as goal

pub returns-clause-constant : goal.returns-clause-constant
returns-clause-constant c = const_told

pub returns-clause-constant_order : goal.returns-clause-constant_order
returns-clause-constant_order c = const_ties

pub returns-clause-arg : goal.returns-clause-arg
returns-clause-arg c = arg_told

pub returns-clause-arg_order : goal.returns-clause-arg_order
returns-clause-arg_order c = arg_ties

pub returns-clause-insn : goal.returns-clause-insn
returns-clause-insn c = insn_told

pub returns-clause-insn_order : goal.returns-clause-insn_order
returns-clause-insn_order c = insn_ties

pub returns-clause-handler : goal.returns-clause-handler
returns-clause-handler c = handler_told

pub returns-clause-handler_order : goal.returns-clause-handler_order
returns-clause-handler_order c = handler_ties

pub returns-clause-raw_handler : goal.returns-clause-raw_handler
returns-clause-raw_handler c = raw_handler_told

pub returns-clause-raw_handler_order : goal.returns-clause-raw_handler_order
returns-clause-raw_handler_order c = raw_handler_ties

pub returns-clause-body : goal.returns-clause-body
returns-clause-body c = body_told

pub returns-clause-body_order : goal.returns-clause-body_order
returns-clause-body_order c = body_ties

pub returns-clause-vtype : goal.returns-clause-vtype
returns-clause-vtype c = vtype_told

pub returns-clause-vtype_order : goal.returns-clause-vtype_order
returns-clause-vtype_order c = vtype_ties

pub returns-clause-frame : goal.returns-clause-frame
returns-clause-frame c = frame_told

pub returns-clause-frame_order : goal.returns-clause-frame_order
returns-clause-frame_order c = frame_ties

pub returns-clause-framed_body : goal.returns-clause-framed_body
returns-clause-framed_body c = framed_body_told

pub returns-clause-framed_body_order : goal.returns-clause-framed_body_order
returns-clause-framed_body_order c = framed_body_ties
