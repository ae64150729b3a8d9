-- What was built is the code that the recipe gives.
use Rattle.std.proofs.Common.{List, Option, sym, subst, ◌∙◌}
use Rattle.std.proofs.lemmas.Result.{IfOk-weaker}
use Rattle.std.specs.Prelude.{IsSomeAnd}
use Rattle.jv_pool.specs.declared.item.PoolItem.{PoolItem}
use Rattle.jv_attr.specs.declared.attr.Attr.{Attr}
use Rattle.jv_attr.specs.declared.attr.CodeAttr.{CodeAttr}
use Rattle.av_asm.specs.Finishing.{IsFramed}
use Rattle.av_standin_of.specs.Codes.{Code}
use Rattle.av_standin_of.specs.Files.{put_code}
use Rattle.av_class_files.specs.declared.codes.Coded.{Coded}
use Rattle.av_class_files.specs.Steps.{HasBody, PutsTo}
use Rattle.av_class_files.proofs.Building.{code_given, code_put, has_body, ready}
use Rattle.av_class_files.proofs.codes.add_recipe.Goals as goal

pub add_built-requires : goal.add_built-requires
add_built-requires c =
    let owner = c.args.owner.now in
    let given = code_given owner.dims owner.name.now c.args.shape.now c.args.recipe.now (sym c.has_code.ensures ∙ c.if-not-has_code.false) in
    ready c.args.shape.now c.method_of-id.result given.0 c.in_ok-builder.builder (c.requires.may.finishes given.0 given.1) (c.in_ok-builder.ensures given.0 given.1)

pub returns-clause-attrs : goal.returns-clause-attrs
returns-clause-attrs c =
    let owner = c.args.owner.now in
    let given = code_given owner.dims owner.name.now c.args.shape.now c.args.recipe.now (sym c.has_code.ensures ∙ c.if-not-has_code.false) in
    let puts = λ (put : Option (List (Attr CodeAttr) × List PoolItem)). PutsTo (λ (made : Coded). made.attrs.items) c.add_built.result c.add_built.new.pool put in
    subst (λ (code : Option Code). puts (put_code code c.args.pool.now)) (sym given.1)
    (subst puts (code_put c.method_of-id.result given.0 c.in_ok-builder.builder c.args.pool.now (c.in_ok-builder.ensures given.0 given.1)) c.add_built.ensures.attrs)

pub returns-clause-body : goal.returns-clause-body
returns-clause-body c =
    let owner = c.args.owner.now in
    let given = code_given owner.dims owner.name.now c.args.shape.now c.args.recipe.now (sym c.has_code.ensures ∙ c.if-not-has_code.false) in
    let of = c.method_of-id.ensures in
    IfOk-weaker c.add_built.result (λ made. IsSomeAnd made.body (IsFramed c.in_ok-builder.builder)) (λ made. HasBody owner.world.now owner.name.now c.args.shape.now _ made.body)
    (λ made framed. subst (λ (code : Option Code). HasBody owner.world.now owner.name.now c.args.shape.now code made.body) (sym given.1)
    (has_body owner.world.now owner.name.now owner.class c.args.shape.now c.method_of-id.result given.0 c.in_ok-builder.builder made.body c.requires.named of.class of.declared (c.in_ok-builder.ensures given.0 given.1) framed))
    c.add_built.ensures.body
