use Rattle.std.proofs.Common.{◌∙◌, ℕ, List, Option, subst}
use Rattle.std.proofs.lemmas.Result.{err_from_is_err_and}
use Rattle.jv_host.specs.declared.host.HostFile.{HostFile}
use Rattle.av_program.specs.declared.accept_stop.AcceptStop.TheVariants.{Memory}
use Rattle.av_program.specs.Answering.{IfStop}
use Rattle.av_app_files.specs.Counting.{IsCounted, IsUncounted}
use Rattle.av_load.specs.Steps.Loading.{IsLoadedFrom, IsReadOf, IsRefusedFile, StopsAtName}
use Rattle.av_load.proofs.Judging.{memory_no_fault}
use Rattle.av_load.proofs.Next.{found_counts, found_given, next_loaded, next_passed, reads_both, reads_both_stop, reads_own, reads_own_stop, stop_refused, stop_uncounted, uncounted_no_fault}
use Rattle.av_load.proofs.Told.{in_folders, in_same, reads_stop}
use Rattle.av_load.proofs.loading.load_next.Goals as goal

pub returns-in_err-bytes-clause-reads : goal.returns-in_err-bytes-clause-reads
returns-in_err-bytes-clause-reads g c =
    let p = err_from_is_err_and c.from_residual.result c.from_residual.ensures.1 in
    rw (p.1, p.2) (reads_own_stop _ _ c.args.app.now c.args.lib.now c.args.name.now _ _ c.in_err-bytes.field-0.0 c.in_err-bytes.ensures.reads)

pub returns-in_default-clause-next : goal.returns-in_default-clause-next
returns-in_default-clause-next g c =
    next_passed (g.H.Host.files c.args.host.now) c.args.app.now c.args.lib.now c.args.name.now (λ bytes. bytes.items) c.in_ok-bytes.field-0 c.args.loaded.now.classes.items c.args.loaded.now.bytes c.in_default.is
    (c.in_ok-bytes.ensures.gives c.args.lib.now)

pub returns-in_default-clause-reads : goal.returns-in_default-clause-reads
returns-in_default-clause-reads g c = reads_own c.args.app.now c.args.lib.now c.args.name.now _ _ c.in_ok-bytes.field-0 (tt {0}) c.in_ok-bytes.ensures.reads

pub returns-in_err-total-clause-stopped : goal.returns-in_err-total-clause-stopped
returns-in_err-total-clause-stopped g c =
    let told = g.H.Host.files c.args.host.now in
    let stop = c.in_err-total.field-0.0 in
    let p = err_from_is_err_and c.from_residual-in_err-total.result c.from_residual-in_err-total.ensures.1 in
    let given = found_given told c.args.app.now c.args.lib.now c.args.name.now (λ bytes. bytes.items) c.in_ok-bytes.field-0 c.in-Some.bytes c.in-Some.is (c.in_ok-bytes.ensures.gives c.args.lib.now) in
    let un = subst (λ (n : ℕ). IsUncounted c.args.loaded.now.bytes n stop) (c.len.ensures ∙ c.in-Some.bytes.ok.0) c.in_err-total.ensures.stopped in
    rw (p.1, p.2) (stop_uncounted told c.args.app.now c.args.lib.now c.args.name.now c.in-Some.bytes.items c.args.loaded.now.bytes stop given un)

pub returns-in_err-total-clause-reads : goal.returns-in_err-total-clause-reads
returns-in_err-total-clause-reads g c =
    let p = err_from_is_err_and c.from_residual-in_err-total.result c.from_residual-in_err-total.ensures.1 in
    rw (p.1, p.2) (reads_stop _ _ (IsReadOf c.args.app.now c.args.lib.now c.args.name.now) _ _ c.in_ok-bytes.field-0 c.in_err-total.field-0.0
    (uncounted_no_fault c.args.loaded.now.bytes c.len.result c.in_err-total.field-0.0 c.in_err-total.ensures.stopped)
    (reads_own c.args.app.now c.args.lib.now c.args.name.now _ _ c.in_ok-bytes.field-0 c.in_ok-bytes.field-0 c.in_ok-bytes.ensures.reads))

pub returns-in_err-class-clause-stopped : goal.returns-in_err-class-clause-stopped
returns-in_err-class-clause-stopped g c =
    let told = g.H.Host.files c.args.host.now in
    let stop = c.in_err-class.field-0.0 in
    let bytes = c.in-Some.bytes.items in
    let p = err_from_is_err_and c.from_residual-in_err-class.result c.from_residual-in_err-class.ensures.1 in
    let given = found_given told c.args.app.now c.args.lib.now c.args.name.now (λ bytes. bytes.items) c.in_ok-bytes.field-0 c.in-Some.bytes c.in-Some.is (c.in_ok-bytes.ensures.gives c.args.lib.now) in
    let counted = subst (λ (n : ℕ). IsCounted c.args.loaded.now.bytes n c.in_ok-total.total) (c.len.ensures ∙ c.in-Some.bytes.ok.0) c.in_ok-total.ensures.counted in
    let refused = in_same told (g.H.Host.files c.next_bytes.new.host) c.args.app.now c.args.lib.now (λ folders. IfStop (IsRefusedFile folders (record { name = c.args.name.now; bytes = bytes })) stop)
    c.in_ok-bytes.ensures.reads.kept.files (rw c.as_slice.ensures.value at (c.in_err-class.ensures.refused c.args.app.now)) in
    rw (p.1, p.2) (stop_refused told c.args.app.now c.args.lib.now c.args.name.now bytes c.args.loaded.now.bytes c.in_ok-total.total stop given counted refused)

pub returns-in_err-class-clause-reads : goal.returns-in_err-class-clause-reads
returns-in_err-class-clause-reads g c =
    let p = err_from_is_err_and c.from_residual-in_err-class.result c.from_residual-in_err-class.ensures.1 in
    rw (p.1, p.2) (reads_both_stop _ _ c.args.app.now c.args.lib.now c.args.name.now _ _ _ c.in_ok-bytes.field-0 c.in_err-class.field-0.0
    (found_counts c.args.name.now c.in_ok-bytes.field-0 c.in-Some.bytes c.in-Some.is c.in_ok-bytes.ensures.counts) c.in_ok-bytes.ensures.reads c.in_err-class.ensures.reads)

pub returns-in_err-push-clause-stopped : goal.returns-in_err-push-clause-stopped
returns-in_err-push-clause-stopped g c =
    let p = err_from_is_err_and c.from_residual-in_err-push.result c.from_residual-in_err-push.ensures.1 in
    rw (p.1, p.2) (in_folders (g.H.Host.files c.args.host.now) c.args.app.now c.args.lib.now (λ folders. IfStop (StopsAtName folders c.args.loaded.now.bytes c.args.name.now) Memory) (λ folders. tt))

pub returns-in_err-push-clause-reads : goal.returns-in_err-push-clause-reads
returns-in_err-push-clause-reads g c =
    let p = err_from_is_err_and c.from_residual-in_err-push.result c.from_residual-in_err-push.ensures.1 in
    rw (p.1, p.2) (reads_stop _ _ (IsReadOf c.args.app.now c.args.lib.now c.args.name.now) _ _ (tt {0}) Memory memory_no_fault
    (reads_both c.args.app.now c.args.lib.now c.args.name.now _ _ _ c.in_ok-bytes.field-0 c.in_ok-class.class (tt {0})
    (found_counts c.args.name.now c.in_ok-bytes.field-0 c.in-Some.bytes c.in-Some.is c.in_ok-bytes.ensures.counts) c.in_ok-bytes.ensures.reads c.in_ok-class.ensures.reads))

pub returns-clause-next : goal.returns-clause-next
returns-clause-next g c =
    let told = g.H.Host.files c.args.host.now in
    let bytes = c.in-Some.bytes.items in
    let given = found_given told c.args.app.now c.args.lib.now c.args.name.now (λ bytes. bytes.items) c.in_ok-bytes.field-0 c.in-Some.bytes c.in-Some.is (c.in_ok-bytes.ensures.gives c.args.lib.now) in
    let counted = subst (λ (n : ℕ). IsCounted c.args.loaded.now.bytes n c.in_ok-total.total) (c.len.ensures ∙ c.in-Some.bytes.ok.0) c.in_ok-total.ensures.counted in
    let from = subst (λ (t : Option (List HostFile)). IsLoadedFrom t c.args.lib.now c.args.name.now bytes c.in_ok-class.class) c.in_ok-bytes.ensures.reads.kept.files
    (rw c.as_slice.ensures.value at c.in_ok-class.ensures.loaded) in
    next_loaded told c.args.app.now c.args.lib.now c.args.name.now bytes c.args.loaded.now.classes.items c.push.new.self.items c.args.loaded.now.bytes c.in_ok-total.total c.in_ok-class.class
    given counted from c.in_ok-push.ensures.items

pub returns-clause-reads : goal.returns-clause-reads
returns-clause-reads g c =
    reads_both c.args.app.now c.args.lib.now c.args.name.now _ _ _ c.in_ok-bytes.field-0 c.in_ok-class.class (tt {0})
    (found_counts c.args.name.now c.in_ok-bytes.field-0 c.in-Some.bytes c.in-Some.is c.in_ok-bytes.ensures.counts) c.in_ok-bytes.ensures.reads c.in_ok-class.ensures.reads
