use Rattle.std.proofs.Common.{◌≡◌, map, Ok}
use Rattle.std.proofs.lemmas.Result.{IfErr-weaker, IfOk-from_err, IfOk-weaker, err_from_is_err_and}
use Rattle.jv_host.specs.declared.host.HostCall.{HostCall}
use Rattle.jv_host.specs.declared.host.HostCall.TheVariants as calls
use Rattle.av_program.specs.Answering.{IfStop}
use Rattle.av_program.specs.Reads.{IsFileCall}
use Rattle.av_app_files.specs.FileRules.{AreLoaded}
use Rattle.av_load.specs.declared.app_class.AppClass.{AppClass}
use Rattle.av_load.specs.Steps.Loading.{IsReadAmong, StopsAmong, sources_of}
use Rattle.av_load.proofs.Told.{in_same, reads_may, reads_then}
use Rattle.av_load.proofs.Whole.{exact_all, file_call, list_call, loaded_all, stopped_among, stopped_at_list}
use Rattle.av_load.proofs.loading.load_files.Goals as goal

pub returns-in_err-names-clause-stopped : goal.returns-in_err-names-clause-stopped
returns-in_err-names-clause-stopped g c =
    let p = err_from_is_err_and c.from_residual.result c.from_residual.ensures.1 in
    rw (p.1, p.2) (stopped_at_list (g.H.Host.files c.args.host.now) c.args.app.now c.args.lib.now c.in_err-names.field-0.0 (c.in_err-names.ensures.stopped c.args.lib.now))

pub returns-in_err-names-clause-exact : goal.returns-in_err-names-clause-exact
returns-in_err-names-clause-exact g c =
    exact_all (g.H.Host.files c.args.host.now) c.args.app.now c.args.lib.now (λ classes. map (λ (class : AppClass). class.file) classes.items) c.from_residual.result
    (IfOk-from_err c.from_residual.result _ c.from_residual.ensures.0) (returns-in_err-names-clause-stopped g c)

pub returns-clause-loaded : goal.returns-clause-loaded
returns-clause-loaded g c =
    let keys = c.in_ok-names.names.keys in
    IfOk-weaker c.load_all.result _ _
    (λ classes is. loaded_all (g.H.Host.files c.args.host.now) c.args.app.now c.args.lib.now keys (map (λ (class : AppClass). class.file) classes.items) c.in_ok-names.ensures.rising
    (c.in_ok-names.ensures.listed c.args.lib.now)
    (in_same (g.H.Host.files c.args.host.now) (g.H.Host.files c.names_in_order.new.host) c.args.app.now c.args.lib.now
    (λ folders. AreLoaded folders (sources_of folders keys) (map (λ (class : AppClass). class.file) classes.items)) c.in_ok-names.ensures.reads.kept.files is))
    c.load_all.ensures.loaded

pub returns-clause-stopped : goal.returns-clause-stopped
returns-clause-stopped g c =
    let keys = c.in_ok-names.names.keys in
    IfErr-weaker c.load_all.result _ _
    (λ stop is. stopped_among (g.H.Host.files c.args.host.now) c.args.app.now c.args.lib.now keys stop c.in_ok-names.ensures.rising (c.in_ok-names.ensures.listed c.args.lib.now)
    (in_same (g.H.Host.files c.args.host.now) (g.H.Host.files c.names_in_order.new.host) c.args.app.now c.args.lib.now (λ folders. IfStop (StopsAmong folders keys) stop)
    c.in_ok-names.ensures.reads.kept.files is))
    c.load_all.ensures.stopped

pub returns-clause-exact : goal.returns-clause-exact
returns-clause-exact g c =
    exact_all (g.H.Host.files c.args.host.now) c.args.app.now c.args.lib.now (λ classes. map (λ (class : AppClass). class.file) classes.items) c.load_all.result
    (returns-clause-loaded g c) (returns-clause-stopped g c)

pub returns-clause-reads : goal.returns-clause-reads
returns-clause-reads g c =
    let told = g.H.Host.files c.args.host.now in
    let keys = c.in_ok-names.names.keys in
    let may = IsFileCall told c.args.app.now c.args.lib.now in
    reads_then may _ _ _ c.in_ok-names.names c.load_all.result
    (reads_may (λ (call : HostCall). call ≡ calls.ListRoot c.args.app.now 20001) may _ _ (Ok c.in_ok-names.names) (list_call told c.args.app.now c.args.lib.now) c.in_ok-names.ensures.reads)
    (reads_may (IsReadAmong c.args.app.now c.args.lib.now keys) may _ _ c.load_all.result (file_call told c.args.app.now c.args.lib.now keys (c.in_ok-names.ensures.listed c.args.lib.now)) c.load_all.ensures.reads)
