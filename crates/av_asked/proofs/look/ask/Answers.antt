use Rattle.std.proofs.Common.{◌∙◌, [], inl, inr, refl, sym, append-nil}
use Rattle.av_asked.proofs.Asked.{not_at_absent, not_at_malformed, not_at_shape, passed_at, unless_memory}
use Rattle.av_asked.proofs.look.ask.Goals as goal

pub returns-in-Ok-Shape-clause-ran : goal.returns-in-Ok-Shape-clause-ran
returns-in-Ok-Shape-clause-ran g c =
    let e = c.in-Ok-Shape.ensures in
    record {
      moved = record {
        shapes = e.shapes_kept;
        kept = e.host_kept;
        asked = e.asked_grows;
        answered = e.answered_grows;
        past = inl refl;
        passed = e.passed_stays;
        faults = e.never_falls;
      };
      faultless = record { faults = e.faults_kept; failed = e.failed_kept };
      idle = λ none. absurd cc;
      not_passed = λ some. not_at_shape c.in-Ok-Shape.field-0 (g.S.ShapeSource.passed c.shape.new.self) e.passed c.in-Ok-Shape.shape c.in-Ok-Shape.field-0-is;
    }

pub returns-in-Ok-Malformed-clause-ran : goal.returns-in-Ok-Malformed-clause-ran
returns-in-Ok-Malformed-clause-ran g c =
    let e = c.in-Ok-Malformed.ensures in
    record {
      moved = record {
        shapes = e.shapes_kept;
        kept = e.host_kept;
        asked = e.asked_grows;
        answered = e.answered_grows;
        past = inl refl;
        passed = e.passed_stays;
        faults = e.never_falls;
      };
      faultless = record { faults = e.faults_kept; failed = e.failed_kept };
      idle = λ none. absurd cc;
      not_passed = λ some. not_at_malformed c.in-Ok-Malformed.field-0 (g.S.ShapeSource.passed c.shape.new.self) e.passed c.in-Ok-Malformed.field-0-is;
    }

pub returns-in-Ok-Absent-clause-ran : goal.returns-in-Ok-Absent-clause-ran
returns-in-Ok-Absent-clause-ran g c =
    let e = c.in-Ok-Absent.ensures in
    record {
      moved = record {
        shapes = e.shapes_kept;
        kept = e.host_kept;
        asked = e.asked_grows;
        answered = e.answered_grows;
        past = inl refl;
        passed = e.passed_stays;
        faults = e.never_falls;
      };
      faultless = record { faults = e.faults_kept; failed = e.failed_kept };
      idle = λ none. absurd cc;
      not_passed = λ some. not_at_absent c.in-Ok-Absent.field-0 (g.S.ShapeSource.passed c.shape.new.self) e.passed c.in-Ok-Absent.field-0-is;
    }

pub returns-in-Ok-TooMuch-clause-stops : goal.returns-in-Ok-TooMuch-clause-stops
returns-in-Ok-TooMuch-clause-stops g c =
    let e = c.in-Ok-TooMuch.ensures in
    record {
      moved = record {
        shapes = e.shapes_kept;
        kept = e.host_kept;
        asked = e.asked_grows;
        answered = e.answered_grows;
        past = inl refl;
        passed = e.passed_stays;
        faults = e.never_falls;
      };
      faultless = record { faults = e.faults_kept; failed = e.failed_kept };
      some = λ none. absurd cc;
      passed = passed_at c.in-Ok-TooMuch.field-0 (g.S.ShapeSource.passed c.shape.new.self) e.passed c.in-Ok-TooMuch.quantity c.in-Ok-TooMuch.field-0-is;
    }

pub returns-in-Err-Memory-clause-stops : goal.returns-in-Err-Memory-clause-stops
returns-in-Err-Memory-clause-stops g c =
    let e = c.in-Err-Memory.ensures in
    record {
      replied = [];
      moved = record {
        shapes = e.shapes_kept;
        kept = e.host_kept;
        asked = e.asked_grows;
        answered = e.answered_grows ∙ sym (append-nil (g.S.ShapeSource.answered c.args.source.now));
        past = inr (c.args.name.now, refl);
        passed = e.passed_stays;
        faults = e.never_falls;
      };
      faultless = record {
        faults = unless_memory c.in-Err-Memory.field-0 _ c.in-Err-Memory.field-0-is e.faults_kept;
        failed = unless_memory c.in-Err-Memory.field-0 _ c.in-Err-Memory.field-0-is e.failed_kept;
      };
    }
