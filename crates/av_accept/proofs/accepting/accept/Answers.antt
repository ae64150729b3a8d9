use Rattle.std.proofs.Common.{Bor, map, Ok}
use Rattle.std.proofs.lemmas.Result.{IfOk-weaker, err_from_is_err_and}
use Rattle.std.specs.Prelude.{option_map}
use Rattle.jv_types.specs.declared.name.Name.{Name}
use Rattle.av_load.specs.declared.app_class.AppClass.{AppClass}
use Rattle.av_program.specs.Answering.{IfStop}
use Rattle.av_given.specs.Givens.{application_of}
use Rattle.av_load.proofs.Told.{in_same}
use Rattle.av_stages.specs.Stages.{IsCollectedFrom, StopsBuilding, StopsCollecting}
use Rattle.av_acceptor.specs.Accepting.{IsNeeded}
use Rattle.av_accept.specs.Meanings.{Collects}
use Rattle.av_accept.proofs.Calls.{reads_both, reads_both_stop, reads_files, reads_lacking, reads_no_more}
use Rattle.av_accept.proofs.Telling.{Laws, accepted_program, exact_answer, told_application, told_built, told_collecting, told_in_files, told_nothing}
use Rattle.av_accept.proofs.accepting.accept.Goals as goal

-- ---- the files of the application stop

pub returns-in_err-loaded-clause-tells : goal.returns-in_err-loaded-clause-tells
returns-in_err-loaded-clause-tells g c =
    let p = err_from_is_err_and c.from_residual.result c.from_residual.ensures.1 in
    rw (p.1, p.2) (told_in_files (g.H.Host.files c.args.host.now) c.args.app.now c.args.lib.now _ c.in_err-loaded.field-0.0 c.in_err-loaded.ensures.stopped)

pub returns-in_err-loaded-clause-exact : goal.returns-in_err-loaded-clause-exact
returns-in_err-loaded-clause-exact g c =
    exact_answer c.first_stops_fit.ensures (g.H.Host.files c.args.host.now) c.args.app.now c.args.lib.now _ c.from_residual.result (returns-in_err-loaded-clause-tells g c)

pub returns-in_err-loaded-clause-kept : goal.returns-in_err-loaded-clause-kept
returns-in_err-loaded-clause-kept g c = c.in_err-loaded.ensures.reads.kept

pub returns-in_err-loaded-clause-makes : goal.returns-in_err-loaded-clause-makes
returns-in_err-loaded-clause-makes g c =
    (reads_files _ (g.H.Host.files c.args.host.now) c.args.app.now c.args.lib.now _ _ c.in_err-loaded.field-0.0 c.in_err-loaded.ensures.reads).makes

pub returns-in_err-loaded-clause-ends : goal.returns-in_err-loaded-clause-ends
returns-in_err-loaded-clause-ends g c =
    let p = err_from_is_err_and c.from_residual.result c.from_residual.ensures.1 in
    rw (p.1, p.2) (reads_files _ (g.H.Host.files c.args.host.now) c.args.app.now c.args.lib.now _ _ c.in_err-loaded.field-0.0 c.in_err-loaded.ensures.reads).ends

-- ---- memory is wanting for what is given

pub returns-in_err-known-clause-tells : goal.returns-in_err-known-clause-tells
returns-in_err-known-clause-tells g c =
    let p = err_from_is_err_and c.from_residual-in_err-known.result c.from_residual-in_err-known.ensures.1 in
    rw (p.1, p.2) (told_nothing (g.H.Host.files c.args.host.now) c.args.app.now c.args.lib.now)

pub returns-in_err-known-clause-exact : goal.returns-in_err-known-clause-exact
returns-in_err-known-clause-exact g c =
    exact_answer c.first_stops_fit.ensures (g.H.Host.files c.args.host.now) c.args.app.now c.args.lib.now _ c.from_residual-in_err-known.result (returns-in_err-known-clause-tells g c)

pub returns-in_err-known-clause-kept : goal.returns-in_err-known-clause-kept
returns-in_err-known-clause-kept g c = c.in_ok-loaded.ensures.reads.kept

pub returns-in_err-known-clause-makes : goal.returns-in_err-known-clause-makes
returns-in_err-known-clause-makes g c =
    (reads_lacking (g.H.Host.files c.args.host.now) c.args.app.now c.args.lib.now _ _ c.in_ok-loaded.loaded c.in_ok-loaded.ensures.reads).makes

pub returns-in_err-known-clause-ends : goal.returns-in_err-known-clause-ends
returns-in_err-known-clause-ends g c =
    let p = err_from_is_err_and c.from_residual-in_err-known.result c.from_residual-in_err-known.ensures.1 in
    rw (p.1, p.2) tt

-- ---- collection stops

pub returns-in_err-found-clause-tells : goal.returns-in_err-found-clause-tells
returns-in_err-found-clause-tells g c =
    let told = g.H.Host.files c.args.host.now in
    let classes = c.in_ok-known.known.files.items in
    let given = application_of c.in_ok-known.known.given in
    let stop = c.in_err-found.field-0.0 in
    let application = told_application told c.args.app.now c.args.lib.now (map (λ (class : AppClass). class.file) c.in_ok-loaded.loaded.items) classes given c.in_ok-known.ensures.told c.in_ok-loaded.ensures.loaded in
    let stopped = in_same told (g.H.Host.files c.load_files.new.host) c.args.app.now c.args.lib.now (λ folders. IfStop (StopsCollecting folders given) stop) c.in_ok-loaded.ensures.reads.kept.files
    (c.in_err-found.ensures.stopped c.args.app.now) in
    let p = err_from_is_err_and c.from_residual-in_err-found.result c.from_residual-in_err-found.ensures.1 in
    rw (p.1, p.2) (told_collecting told c.args.app.now c.args.lib.now _ classes given stop application stopped)

pub returns-in_err-found-clause-exact : goal.returns-in_err-found-clause-exact
returns-in_err-found-clause-exact g c =
    exact_answer c.first_stops_fit.ensures (g.H.Host.files c.args.host.now) c.args.app.now c.args.lib.now _ c.from_residual-in_err-found.result (returns-in_err-found-clause-tells g c)

pub returns-in_err-found-clause-kept : goal.returns-in_err-found-clause-kept
returns-in_err-found-clause-kept g c =
    let told = g.H.Host.files c.args.host.now in
    let classes = c.in_ok-known.known.files.items in
    let given = application_of c.in_ok-known.known.given in
    let application = told_application told c.args.app.now c.args.lib.now (map (λ (class : AppClass). class.file) c.in_ok-loaded.loaded.items) classes given c.in_ok-known.ensures.told c.in_ok-loaded.ensures.loaded in
    (reads_both_stop _ told c.args.app.now c.args.lib.now classes given _ _ _ c.in_ok-loaded.loaded c.in_err-found.field-0.0 application c.in_ok-loaded.ensures.reads c.in_ok-loaded.ensures.reads.kept.files
    c.in_err-found.ensures.reads).kept

pub returns-in_err-found-clause-makes : goal.returns-in_err-found-clause-makes
returns-in_err-found-clause-makes g c =
    let told = g.H.Host.files c.args.host.now in
    let classes = c.in_ok-known.known.files.items in
    let given = application_of c.in_ok-known.known.given in
    let application = told_application told c.args.app.now c.args.lib.now (map (λ (class : AppClass). class.file) c.in_ok-loaded.loaded.items) classes given c.in_ok-known.ensures.told c.in_ok-loaded.ensures.loaded in
    (reads_both_stop _ told c.args.app.now c.args.lib.now classes given _ _ _ c.in_ok-loaded.loaded c.in_err-found.field-0.0 application c.in_ok-loaded.ensures.reads c.in_ok-loaded.ensures.reads.kept.files
    c.in_err-found.ensures.reads).makes

pub returns-in_err-found-clause-ends : goal.returns-in_err-found-clause-ends
returns-in_err-found-clause-ends g c =
    let told = g.H.Host.files c.args.host.now in
    let classes = c.in_ok-known.known.files.items in
    let given = application_of c.in_ok-known.known.given in
    let application = told_application told c.args.app.now c.args.lib.now (map (λ (class : AppClass). class.file) c.in_ok-loaded.loaded.items) classes given c.in_ok-known.ensures.told c.in_ok-loaded.ensures.loaded in
    let p = err_from_is_err_and c.from_residual-in_err-found.result c.from_residual-in_err-found.ensures.1 in
    rw (p.1, p.2)
    (reads_both_stop _ told c.args.app.now c.args.lib.now classes given _ _ _ c.in_ok-loaded.loaded c.in_err-found.field-0.0 application c.in_ok-loaded.ensures.reads c.in_ok-loaded.ensures.reads.kept.files
    c.in_err-found.ensures.reads).ends

-- ---- what is built

pub returns-clause-tells : goal.returns-clause-tells
returns-clause-tells g c =
    let told = g.H.Host.files c.args.host.now in
    let classes = c.in_ok-known.known.files.items in
    let given = application_of c.in_ok-known.known.given in
    let found = c.in_ok-found.found in
    let application = told_application told c.args.app.now c.args.lib.now (map (λ (class : AppClass). class.file) c.in_ok-loaded.loaded.items) classes given c.in_ok-known.ensures.told c.in_ok-loaded.ensures.loaded in
    let collected = in_same told (g.H.Host.files c.load_files.new.host) c.args.app.now c.args.lib.now (λ folders. IsCollectedFrom folders given found) c.in_ok-loaded.ensures.reads.kept.files
    (c.in_ok-found.ensures.collected c.args.app.now) in
    told_built told c.args.app.now c.args.lib.now _ classes given found c.build.result c.build.ensures.built c.build.ensures.stopped application collected

pub returns-clause-exact : goal.returns-clause-exact
returns-clause-exact g c = exact_answer c.first_stops_fit.ensures (g.H.Host.files c.args.host.now) c.args.app.now c.args.lib.now _ c.build.result (returns-clause-tells g c)

pub returns-clause-accepted : goal.returns-clause-accepted
returns-clause-accepted g c =
    let laws : Laws = record { checkable = c.accepted_programs_are_checkable.ensures.checkable; analysable = c.accepted_programs_are_checkable.ensures.analysable } in
    IfOk-weaker c.build.result _ _
    (λ program built. accepted_program laws _ c.in_ok-known.known.files.items (application_of c.in_ok-known.known.given) c.in_ok-found.found program c.in_ok-known.ensures.known c.in_ok-found.ensures.known built) c.build.ensures.built

pub returns-clause-kept : goal.returns-clause-kept
returns-clause-kept g c =
    let told = g.H.Host.files c.args.host.now in
    let classes = c.in_ok-known.known.files.items in
    let given = application_of c.in_ok-known.known.given in
    let application = told_application told c.args.app.now c.args.lib.now (map (λ (class : AppClass). class.file) c.in_ok-loaded.loaded.items) classes given c.in_ok-known.ensures.told c.in_ok-loaded.ensures.loaded in
    (reads_both told c.args.app.now c.args.lib.now classes given _ _ _ c.in_ok-loaded.loaded (Ok c.in_ok-found.found) application c.in_ok-loaded.ensures.reads c.in_ok-loaded.ensures.reads.kept.files
    c.in_ok-found.ensures.reads).kept

pub returns-clause-makes : goal.returns-clause-makes
returns-clause-makes g c =
    let told = g.H.Host.files c.args.host.now in
    let classes = c.in_ok-known.known.files.items in
    let given = application_of c.in_ok-known.known.given in
    let application = told_application told c.args.app.now c.args.lib.now (map (λ (class : AppClass). class.file) c.in_ok-loaded.loaded.items) classes given c.in_ok-known.ensures.told c.in_ok-loaded.ensures.loaded in
    (reads_both told c.args.app.now c.args.lib.now classes given _ _ _ c.in_ok-loaded.loaded (Ok c.in_ok-found.found) application c.in_ok-loaded.ensures.reads c.in_ok-loaded.ensures.reads.kept.files
    c.in_ok-found.ensures.reads).makes

pub returns-clause-ends : goal.returns-clause-ends
returns-clause-ends g c =
    let told = g.H.Host.files c.args.host.now in
    let classes = c.in_ok-known.known.files.items in
    let main = option_map (λ (name : Bor Name). name.now) c.args.main in
    let given = application_of c.in_ok-known.known.given in
    let application = told_application told c.args.app.now c.args.lib.now (map (λ (class : AppClass). class.file) c.in_ok-loaded.loaded.items) classes given c.in_ok-known.ensures.told c.in_ok-loaded.ensures.loaded in
    (reads_no_more (IsNeeded Collects told c.args.app.now c.args.lib.now) (StopsBuilding classes given c.in_ok-found.found main) _ _ c.in_ok-found.found c.build.result c.build.ensures.stopped
    (reads_both told c.args.app.now c.args.lib.now classes given _ _ _ c.in_ok-loaded.loaded (Ok c.in_ok-found.found) application c.in_ok-loaded.ensures.reads c.in_ok-loaded.ensures.reads.kept.files
    c.in_ok-found.ensures.reads)).ends
