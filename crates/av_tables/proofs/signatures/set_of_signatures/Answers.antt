use Rattle.av_tables.proofs.Sets.{have_all, have_more, have_none}
use Rattle.av_tables.proofs.signatures.set_of_signatures.Goals as goal

pub loop-file-init : goal.loop-file-init
loop-file-init c = have_none c.args.files.now c.new-set.result.keys

pub loop-file-preserved : goal.loop-file-preserved
loop-file-preserved c =
    have_more c.args.files.now c.loop-file.file-index c.file-item.result c.loop-file.set.keys c.add_file.new.set.keys c.loop-file-test.true c.file-item.is c.loop-file.invariant c.in_ok-add_file.ensures

pub returns : goal.returns
returns c = have_all c.args.files.now c.loop-file.file-index c.loop-file.set.keys c.loop-file-test.false c.loop-file.invariant
