-- The method takes as many words of arguments as its code says.
use Rattle.std.proofs.Common.{◌≡◌, subst}
use Rattle.std.specs.Prelude.{IfOk}
use Rattle.jv_types.specs.declared.ids.MethodId.{MethodId}
use Rattle.av_standin_of.specs.Codes.{built_of}
use Rattle.av_class_files.proofs.Building.{words_are}
use Rattle.av_class_files.proofs.codes.built.Goals as goal

pub returns : goal.returns
returns c code is =
    let begun = c.in_ok-builder.ensures in
    let words = words_are c.args.owner.now.world.now c.args.id c.args.shape.now code c.in_ok-builder.builder.words c.requires.there (c.requires.may.finishes code is) begun.words in
    subst (λ (id : MethodId). IfOk c.build_recipe.result (λ made. made ≡ built_of id code)) begun.method (c.build_recipe.ensures code is words)
