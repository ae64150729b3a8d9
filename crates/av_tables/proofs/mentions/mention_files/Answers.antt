use Rattle.av_named.proofs.Appending.{each_all, each_more, each_none}
use Rattle.av_tables.specs.Mentions.{FileNames}
use Rattle.av_tables.proofs.mentions.mention_files.Goals as goal

pub loop-file-init : goal.loop-file-init
loop-file-init c = each_none FileNames c.args.files.now c.args.out.now.items

pub loop-file-preserved : goal.loop-file-preserved
loop-file-preserved c =
    each_more FileNames c.args.files.now c.loop-file.file-index c.file-item.result c.args.out.now.items c.loop-file.out.items c.mention_file.new.out.items
    c.loop-file-test.true c.file-item.is c.loop-file.invariant c.in_ok-mention_file.ensures

pub returns : goal.returns
returns c = each_all FileNames c.args.files.now c.loop-file.file-index c.args.out.now.items c.loop-file.out.items c.loop-file-test.false c.loop-file.invariant
