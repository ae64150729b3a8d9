use Rattle.std.proofs.lemmas.Result.{on_ok_weaker}
use Rattle.av_named.specs.Appending.{OfEach}
use Rattle.av_named.specs.Named.{IsCore, TextNames}
use Rattle.av_named.proofs.Appending.{appends_both}
use Rattle.av_named.proofs.application.names_besides.Goals as goal

pub returns : goal.returns
returns c =
    on_ok_weaker c.push_core.result
    (appends_both (OfEach TextNames c.args.maps.now) IsCore c.args.out.now.items c.names_of_texts.new.out.items c.push_core.new.out.items c.in_ok-names_of_texts.ensures)
    c.push_core.ensures
