use Rattle.std.proofs.Common.{◌≡◌, ℕ, List, Contains, sym, subst}
use Rattle.std.proofs.lemmas.List.Elements.{Contains-push}
use Rattle.av_reading.proofs.ReadLemmas.{goes_none, goes_one, memory_stop, not_there, one_stop}
use Rattle.av_reading.proofs.reading.Reading.read_class.Goals as goal

pub returns-then-has-clause-goes : goal.returns-then-has-clause-goes
returns-then-has-clause-goes g c = goes_none (λ other. other ≡ c.args.name.now) _ _ c.args.self.now c.requires

pub returns-in_err-look-clause-stops : goal.returns-in_err-look-clause-stops
returns-in_err-look-clause-stops g c =
    one_stop c.from_residual.result c.args.self.now.asked _ _ c.in_err-look.field-0.0 c.args.name.now c.from_residual.ensures.1 c.requires.once
    (not_there c.has.result (Contains c.args.self.now.asked c.args.name.now) c.has.ensures c.if-has.false) c.in_err-look.ensures.stops

pub returns-in_err-keep-clause-stops : goal.returns-in_err-keep-clause-stops
returns-in_err-keep-clause-stops g c =
    memory_stop c.from_residual-in_err-keep.result c.args.self.now.asked _ _ c.args.name.now c.from_residual-in_err-keep.ensures.1 c.requires.once
    (not_there c.has.result (Contains c.args.self.now.asked c.args.name.now) c.has.ensures c.if-has.false) c.in_ok-look.ensures.ran

pub returns-in_err-add-clause-stops : goal.returns-in_err-add-clause-stops
returns-in_err-add-clause-stops g c =
    memory_stop c.from_residual-in_err-add.result c.args.self.now.asked _ _ c.args.name.now c.from_residual-in_err-add.ensures.1 c.requires.once
    (not_there c.has.result (Contains c.args.self.now.asked c.args.name.now) c.has.ensures c.if-has.false) c.in_ok-look.ensures.ran

pub returns-clause-goes : goal.returns-clause-goes
returns-clause-goes g c =
    goes_one _ _ _ c.args.self.now _ c.args.name.now c.in_ok-look.look c.requires
    (not_there c.has.result (Contains c.args.self.now.asked c.args.name.now) c.has.ensures c.if-has.false) c.in_ok-look.ensures.ran c.in_ok-look.ensures.found c.in_ok-look.ensures.fit
    c.in_ok-keep.ensures c.in_ok-add.ensures

pub returns-clause-asked : goal.returns-clause-asked
returns-clause-asked g c =
    subst (λ (l : List (List ℕ)). Contains l c.args.name.now) (sym c.in_ok-add.ensures) (Contains-push c.args.self.now.asked c.args.name.now)
