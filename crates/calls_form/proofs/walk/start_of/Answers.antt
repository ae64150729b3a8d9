-- The arguments' words, and as many unset locals as are left.
use Rattle.std.proofs.Common.{◌∙◌, ap, map, Some, List}
use Rattle.calls_form.specs.declared.object_class.Kind.{Kind}
use Rattle.calls_form.proofs.ClassesWalks.{start_is}
use Rattle.calls_form.proofs.walk.start_of.Goals as goal

pub returns : goal.returns
returns c =
    let words = c.in_ok-locals.ensures ∙ ap (λ (kinds : List Kind). map (λ kind. Some kind) kinds) c.as_slice.ensures in
    start_is c.args.method.now c.in_ok-locals.locals.items c.resize.new.self.items c.new.result.items c.in_ok-locals.locals.len c.from.result words c.in_ok-locals.locals.ok.0 c.requires c.from.ensures c.in_ok-resize.ensures.items c.new.ensures.items
