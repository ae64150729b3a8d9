use Rattle.std.proofs.Common.{◌≡◌, ◌++◌, ℕ, true, List, Option, None, Some, option_map, IfOk, IfSome, Contains, ap, subst, ◌∙◌}
use Rattle.jv_types.specs.declared.quantity.Quantity.{Quantity}
use Rattle.jv_host.specs.declared.host.HostCall.{HostCall}
use Rattle.jv_host.specs.Counts.{Rises}
use Rattle.av_collected.specs.Sources.{Kept}
use Rattle.av_collected.specs.Naming.{Application}
use Rattle.av_asked.specs.Asking.{added, application}
use Rattle.av_closure.specs.Answered.{AreOverRead, OnFailed, UnlessFailed}
use Rattle.av_given.specs.Givens.{application_of}
use Rattle.av_stops.specs.LibraryFolders.{IsStated}
use Rattle.av_library.specs.Counting.{PassNone, PassesBy, passed_of}
use Rattle.av_library.specs.History.{IsReadOf, answered_in, asked_in, failed_in, read_of, reads_in}
use Rattle.av_library.specs.Told.{library_in}
use Rattle.av_gathered.specs.Steps.{is_told_by}
use Rattle.av_gathered.proofs.Folder.{IsRun, collected_told, known_of, stopped_told}
use Rattle.av_gathered.proofs.Reading.{added_all, reads_of}
use Rattle.av_gathered.proofs.Sources.{application_is, keeps, last_asked, none_failed, reads_to, run_is, view_of}
use Rattle.av_gathered.proofs.gathering.collect_from.Given.{Over}
use Rattle.av_gathered.proofs.gathering.collect_from.Goals as goal

module _ (g : Over) (c : goal.After-answered-found g) where
  -- the host that the source began with
  begins : c.new-source.result.host.host ≡ c.args.host
  begins = ap (λ (noted : _). noted.host) c.new-source.ensures.host ∙ c.new.ensures.host

  given_is : application c.as_slice-shapes.result.now c.as_slice-maps.result.now c.as_slice-bodies.result.now ≡ application_of c.args.given.now
  given_is = application_is c.as_slice-shapes.result.now _ c.as_slice-maps.result.now _ c.as_slice-bodies.result.now _ c.as_slice-shapes.ensures c.as_slice-maps.ensures c.as_slice-bodies.ensures

  root_is : c.collect-found.new.source.lib.now ≡ c.args.lib.now
  root_is = ap (λ (kept : Kept). kept.root) c.collect-found.ensures.host_kept ∙ c.new-source.ensures.lib

  files_are : g.H.Host.files c.collect-found.new.source.host.host ≡ g.H.Host.files c.args.host
  files_are = ap (λ (kept : Kept). kept.files) c.collect-found.ensures.host_kept ∙ ap g.H.Host.files begins

  asked_is : added (asked_in c.new-source.result.history.items) (asked_in c.collect-found.new.source.history.items) ≡ asked_in c.collect-found.new.source.history.items
  asked_is = added_all (asked_in c.new-source.result.history.items) (asked_in c.collect-found.new.source.history.items) (ap asked_in c.new-source.ensures.history)

  answered_is : added (answered_in c.new-source.result.history.items) (answered_in c.collect-found.new.source.history.items) ≡ answered_in c.collect-found.new.source.history.items
  answered_is = added_all (answered_in c.new-source.result.history.items) (answered_in c.collect-found.new.source.history.items) (ap answered_in c.new-source.ensures.history)

  run : IsRun (application_of c.args.given.now) (option_map (λ files. library_in files c.args.lib.now) (g.H.Host.files c.args.host)) (asked_in c.collect-found.new.source.history.items)
      (answered_in c.collect-found.new.source.history.items) (passed_of c.collect-found.new.source.counted) c.collect-found.result
  run =
      run_is _ (application_of c.args.given.now) (g.H.Host.files c.new-source.result.host.host) (g.H.Host.files c.args.host) c.new-source.result.lib.now c.args.lib.now _ _ _ _
      (passed_of c.collect-found.new.source.counted) c.collect-found.result
      given_is (ap g.H.Host.files begins) c.new-source.ensures.lib asked_is answered_is
      (record {
        collected = c.collect-found.ensures.collected;
        fit = c.collect-found.ensures.fit;
        few = c.collect-found.ensures.few;
        form = c.collect-found.ensures.form;
        missing = c.collect-found.ensures.missing;
        apart = c.collect-found.ensures.apart;
        limit = c.collect-found.ensures.limit;
        too_much = c.collect-found.ensures.too_much;
        asked_past = c.collect-found.ensures.asked_past;
        asked_once = c.collect-found.ensures.asked_once;
        asked_collected = c.collect-found.ensures.asked_collected;
        answered_all = c.collect-found.ensures.answered_all;
      })

  passes : IfSome (g.H.Host.files c.collect-found.new.source.host.host) (λ files. (quantity : Quantity) → passed_of c.collect-found.new.source.counted ≡ Some quantity
      → PassesBy files c.args.lib.now (answered_in c.collect-found.new.source.history.items) quantity)
  passes =
      subst (λ (root : List ℕ). IfSome (g.H.Host.files c.collect-found.new.source.host.host) (λ files. (quantity : Quantity) → passed_of c.collect-found.new.source.counted ≡ Some quantity
      → PassesBy files root (answered_in c.collect-found.new.source.history.items) quantity)) root_is c.tells.ensures.passes

  within : IfSome (g.H.Host.files c.collect-found.new.source.host.host) (λ files. passed_of c.collect-found.new.source.counted ≡ None → PassNone files c.args.lib.now (answered_in c.collect-found.new.source.history.items))
  within =
      subst (λ (root : List ℕ). IfSome (g.H.Host.files c.collect-found.new.source.host.host) (λ files. passed_of c.collect-found.new.source.counted ≡ None → PassNone files root (answered_in c.collect-found.new.source.history.items)))
      root_is c.tells.ensures.within

pub returns-clause-collected : goal.returns-clause-collected
returns-clause-collected g c =
    collected_told c.args.lib.now (application_of c.args.given.now) (asked_in c.collect-found.new.source.history.items) (answered_in c.collect-found.new.source.history.items) (passed_of c.collect-found.new.source.counted)
    c.told_files_are_the_library.ensures c.counted_limits_are_limits.ensures.passes c.counted_limits_are_limits.ensures.none
    (g.H.Host.files c.args.host) (g.H.Host.files c.collect-found.new.source.host.host) c.collect-found.result c.into_host-host.result.failed c.answered-found.result (files_are g c) c.answered-found.ensures
    (passes g c) (within g c) (run g c)

pub returns-clause-stopped : goal.returns-clause-stopped
returns-clause-stopped g c =
    stopped_told c.args.lib.now (application_of c.args.given.now) (asked_in c.collect-found.new.source.history.items) (answered_in c.collect-found.new.source.history.items) (passed_of c.collect-found.new.source.counted)
    c.told_files_are_the_library.ensures c.counted_limits_are_limits.ensures.passes c.counted_limits_are_limits.ensures.none
    (g.H.Host.files c.args.host) (g.H.Host.files c.collect-found.new.source.host.host) c.collect-found.result c.into_host-host.result.failed c.answered-found.result (files_are g c) c.answered-found.ensures
    (passes g c) (within g c) (run g c)

pub returns-clause-known : goal.returns-clause-known
returns-clause-known g c =
    known_of (application_of c.args.given.now) (added (answered_in c.new-source.result.history.items) (answered_in c.collect-found.new.source.history.items)) c.collect-found.result c.into_host-host.result.failed c.answered-found.result
    c.answered-found.ensures
    (subst (λ (given : Application). IfOk c.collect-found.result (AreOverRead given IsStated (added (answered_in c.new-source.result.history.items) (answered_in c.collect-found.new.source.history.items)))) (given_is g c) c.collect-found.ensures.read)

pub returns-clause-reads : goal.returns-clause-reads
returns-clause-reads g c =
    reads_to g.H.Host.files g.H.Host.written g.H.Host.calls g.H.Host.failed g.H.Host.read_faults g.H.Host.write_faults _ _ c.collect-found.new.source.host.host c.into_host-host.result.host c.answered-found.result
    (ap (λ (noted : _). noted.host) c.into_host-host.ensures)
    (reads_of (application_of c.args.given.now) (g.H.Host.files c.args.host) c.args.lib.now c.told_files_are_the_library.ensures (asked_in c.collect-found.new.source.history.items)
    (reads_in c.collect-found.new.source.lib.now c.collect-found.new.source.history.items) (failed_in c.collect-found.new.source.history.items)
    (view_of g.H.Host.files g.H.Host.written g.H.Host.calls g.H.Host.failed g.H.Host.read_faults g.H.Host.write_faults c.args.host)
    (view_of g.H.Host.files g.H.Host.written g.H.Host.calls g.H.Host.failed g.H.Host.read_faults g.H.Host.write_faults c.collect-found.new.source.host.host)
    c.collect-found.result c.into_host-host.result.failed c.answered-found.result c.answered-found.ensures
    (subst (λ (host : _). is_told_by c.into_host-host.result.failed (g.H.Host.failed host) ≡ true) (ap (λ (noted : _). noted.host) c.into_host-host.ensures) c.into_host-host.result.named)
    (record {
      collected = (run g c).asked_collected;
      reads = subst (λ (root : List ℕ). (call : HostCall) → Contains (reads_in c.collect-found.new.source.lib.now c.collect-found.new.source.history.items) call → IsReadOf (asked_in c.collect-found.new.source.history.items) root call) (root_is g c) c.tells.ensures.reads;
      called = c.tells.ensures.called
          ∙ ap (λ (told : Option (List HostCall)). option_map (λ earlier. earlier ++ reads_in c.collect-found.new.source.lib.now c.collect-found.new.source.history.items) told) c.requires.calls;
      kept = keeps g.H.Host.files g.H.Host.written g.H.Host.calls g.H.Host.failed g.H.Host.read_faults g.H.Host.write_faults c.args.host c.new-source.result.host.host c.collect-found.new.source.host.host
          c.new-source.result.lib.now c.collect-found.new.source.lib.now (begins g c) c.collect-found.ensures.host_kept c.collect-found.ensures.never_falls;
      counted = subst (λ (host : _). OnFailed c.collect-found.result (Rises (g.H.Host.read_faults host) (g.H.Host.read_faults c.collect-found.new.source.host.host))) (begins g c) c.collect-found.ensures.fault_counted;
      faults_kept = subst (λ (host : _). UnlessFailed c.collect-found.result (g.H.Host.read_faults c.collect-found.new.source.host.host ≡ g.H.Host.read_faults host)) (begins g c) c.collect-found.ensures.faults_kept;
      failed_last = last_asked c.collect-found.result _ (asked_in c.collect-found.new.source.history.items) (failed_in c.collect-found.new.source.history.items) (asked_is g c) c.collect-found.ensures.failed_last;
      failed_not = none_failed c.collect-found.result (failed_in c.collect-found.new.source.history.items) (failed_in c.new-source.result.history.items) None (ap failed_in c.new-source.ensures.history) c.collect-found.ensures.failed_kept;
      failed_is = subst (λ (root : List ℕ). (name : List ℕ) → failed_in c.collect-found.new.source.history.items ≡ Some name → IfSome (g.H.Host.failed c.collect-found.new.source.host.host) (λ told. told ≡ Some (read_of root name))) (root_is g c) c.tells.ensures.failed;
      failed_kept = λ none. c.tells.ensures.failed_not none ∙ c.requires.failed;
    }))
