use Rattle.std.proofs.Common.{List, ℕ, refl, ap, ◌∙◌}
use Rattle.av_outcome.specs.declared.outcome.Outcome.TheVariants.{Memory, Usage}
use Rattle.av_outcome.proofs.Sinks.{says, Handed-is}
use Rattle.av_program.proofs.Making.{makes_none}
use Rattle.av_cli.specs.Calls.Answers.{error_line}
use Rattle.av_cli.specs.Commands.{outcome_of, misused, called, verified, starved}
use Rattle.av_cli.proofs.CallsExactness.{exact_request}
use Rattle.av_cli.proofs.CallsOutcomes.{same_line, same_status}
use Rattle.av_cli.proofs.commands.run_with.Goals as goal

pub returns-in-Err-clause-ends : goal.returns-in-Err-clause-ends
returns-in-Err-clause-ends g c = record {
  outcome = Memory;
  status_is = c.finish.ensures.status;
  cause = starved refl refl;
  said = c.finish.ensures.said;
}

pub returns-in-Ok-None-clause-ends : goal.returns-in-Ok-None-clause-ends
returns-in-Ok-None-clause-ends g c = record {
  outcome = Usage;
  status_is = c.finish-in-Ok-None.ensures.status;
  cause = misused refl (rw c.in-Ok-None.field-0-is at c.in-Ok-None.ensures) refl;
  said = c.finish-in-Ok-None.ensures.said;
}

pub returns-in-Ok-Some-Calls-clause-ends : goal.returns-in-Ok-Some-Calls-clause-ends
returns-in-Ok-Some-Calls-clause-ends g c =
    let root = c.in-Ok-Some-Calls.root.now in
    let name = c.in-Ok-Some-Calls.name.now in
    let answer = c.print_class-answer.result in
    let asks = rw (c.in-Ok-Some-Calls.field-0-is, c.in-Ok-Some-Calls.field-0-0-is) at c.in-Ok-Some-Calls.ensures in
    let concludes = rw (c.as_bytes.ensures.value, c.as_bytes-in-Ok-Some-Calls.ensures.value) at c.print_class-answer.ensures.concludes in
    record {
      outcome = outcome_of name answer;
      status_is = c.status.ensures ∙ same_status name answer;
      cause = called root name answer refl asks (record { concludes = concludes; exact = exact_request _ _ _ _ answer asks concludes });
      said = says _ _ _ _ (Handed-is _ _ _ _ _
          (ap (λ (n : List ℕ). error_line n answer) c.as_bytes-in-Ok-Some-Calls-2.ensures.value ∙ same_line _ _ _ answer concludes)
          c.write_answer.ensures.said);
    }

pub returns-in-Ok-Some-Verify-clause-ends : goal.returns-in-Ok-Some-Verify-clause-ends
returns-in-Ok-Some-Verify-clause-ends g c = record {
  outcome = c.verify-outcome.result;
  status_is = c.finish-in-Ok-Some-Verify.ensures.status;
  cause = verified c.in-Ok-Some-Verify.app.now c.in-Ok-Some-Verify.lib.now
      (rw (c.in-Ok-Some-Verify.field-0-is, c.in-Ok-Some-Verify.field-0-0-is) at c.in-Ok-Some-Verify.ensures)
      (rw (c.as_bytes-in-Ok-Some-Verify.ensures.value, c.as_bytes-in-Ok-Some-Verify-2.ensures.value) at c.verify-outcome.ensures.ends);
  said = c.finish-in-Ok-Some-Verify.ensures.said;
}

pub returns-in-Err-clause-only_needed : goal.returns-in-Err-clause-only_needed
returns-in-Err-clause-only_needed g c = λ app lib asks. makes_none _ _ _ refl

pub returns-in-Ok-None-clause-only_needed : goal.returns-in-Ok-None-clause-only_needed
returns-in-Ok-None-clause-only_needed g c = λ app lib asks. makes_none _ _ _ refl
