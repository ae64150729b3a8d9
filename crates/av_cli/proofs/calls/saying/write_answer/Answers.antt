use Rattle.std.specs.Prelude.{codes}
use Rattle.av_outcome.proofs.Sinks.{Handed-is}
use Rattle.av_outcome.proofs.ShownText.{line_of_name, line_of_file}
use Rattle.av_cli.proofs.calls.saying.write_answer.Goals as goal

pub returns-in-Unreadable-clause-said : goal.returns-in-Unreadable-clause-said
returns-in-Unreadable-clause-said g c =
    rw c.in-Unreadable.is (Handed-is _ _ _ _ _ (line_of_file (codes "averroes: read fault ") c.args.name.now) c.write_about.ensures.handed)

pub returns-in-NoFile-clause-said : goal.returns-in-NoFile-clause-said
returns-in-NoFile-clause-said g c =
    rw c.in-NoFile.is (Handed-is _ _ _ _ _ (line_of_name (codes "averroes: refused 20 NoMain ") c.args.name.now) c.write_about-in-NoFile.ensures.handed)

pub returns-in-TooLarge-clause-said : goal.returns-in-TooLarge-clause-said
returns-in-TooLarge-clause-said g c = rw c.in-TooLarge.is c.write_whole.ensures.handed

pub returns-in-NotClass-clause-said : goal.returns-in-NotClass-clause-said
returns-in-NotClass-clause-said g c =
    rw c.in-NotClass.is (Handed-is _ _ _ _ _ (line_of_file (codes "averroes: refused 1 NotClass ") c.args.name.now) c.write_about-in-NotClass.ensures.handed)

pub returns-in-OutsideForm-clause-said : goal.returns-in-OutsideForm-clause-said
returns-in-OutsideForm-clause-said g c =
    rw c.in-OutsideForm.is (Handed-is _ _ _ _ _ (line_of_file (codes "averroes: refused 22 NotBuiltYet ") c.args.name.now) c.write_about-in-OutsideForm.ensures.handed)

pub returns-in-NoMain-clause-said : goal.returns-in-NoMain-clause-said
returns-in-NoMain-clause-said g c =
    rw c.in-NoMain.is (Handed-is _ _ _ _ _ (line_of_name (codes "averroes: refused 20 NoMain ") c.args.name.now) c.write_about-in-NoMain.ensures.handed)

pub returns-in-Unwritable-clause-said : goal.returns-in-Unwritable-clause-said
returns-in-Unwritable-clause-said g c = rw c.in-Unwritable.is c.write_whole-in-Unwritable.ensures.handed

pub returns-in-OutOfMemory-clause-said : goal.returns-in-OutOfMemory-clause-said
returns-in-OutOfMemory-clause-said g c = rw c.in-OutOfMemory.is c.write_whole-in-OutOfMemory.ensures.handed
