use Rattle.std.proofs.Common.{sym, ◌∙◌}
use Rattle.av_library.proofs.Answers.{module_read}
use Rattle.av_library.proofs.looking.look_up.Goals as goal

pub returns-then-is_module_info-clause-says : goal.returns-then-is_module_info-clause-says
returns-then-is_module_info-clause-says g c =
    module_read (g.H.Host.files c.args.host.now) c.args.lib.now c.args.name.now c.in-Ok.file c.in-Ok.ensures (sym c.is_module_info.ensures ∙ c.if-is_module_info.true)
