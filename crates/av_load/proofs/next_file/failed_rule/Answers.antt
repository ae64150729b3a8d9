use Rattle.av_load.proofs.Judging.{alone_of, both_there, fails_library, fails_name, fails_reserve, fails_version, ruled_out}
use Rattle.av_load.proofs.next_file.failed_rule.Goals as goal

pub returns-then-has_wrong_version-clause-judged : goal.returns-then-has_wrong_version-clause-judged
returns-then-has_wrong_version-clause-judged g c =
    fails_version (g.H.Host.files c.args.host.now) c.args.lib.now c.args.file.now c.args.class.now (c.has_wrong_version.ensures.0 c.if-has_wrong_version.true)

pub returns-then-has_other_name-clause-judged : goal.returns-then-has_other_name-clause-judged
returns-then-has_other_name-clause-judged g c =
    let named = rw c.as_slice.ensures at c.has_other_name.ensures in
    fails_name (g.H.Host.files c.args.host.now) c.args.lib.now c.args.file.now c.args.class.now
    (ruled_out c.has_wrong_version.result c.has_wrong_version.ensures c.if-has_wrong_version.false) (named.0 c.if-has_other_name.true)

pub returns-then-branch-clause-judged : goal.returns-then-branch-clause-judged
returns-then-branch-clause-judged g c =
    let named = rw c.as_slice.ensures at c.has_other_name.ensures in
    fails_library (g.H.Host.files c.args.host.now) c.args.lib.now c.args.file.now c.args.class.now
    (ruled_out c.has_wrong_version.result c.has_wrong_version.ensures c.if-has_wrong_version.false) (ruled_out c.has_other_name.result named c.if-has_other_name.false)
    (both_there (g.H.Host.files c.args.host.now) c.args.lib.now c.args.file.now c.in_ok-is_in_both.field-0 c.in_ok-is_in_both.ensures.exact c.if-branch.true)

pub returns-then-has_reserved_name-clause-judged : goal.returns-then-has_reserved_name-clause-judged
returns-then-has_reserved_name-clause-judged g c =
    let named = rw c.as_slice.ensures at c.has_other_name.ensures in
    fails_reserve (g.H.Host.files c.args.host.now) c.args.lib.now c.args.file.now c.args.class.now
    (ruled_out c.has_wrong_version.result c.has_wrong_version.ensures c.if-has_wrong_version.false) (ruled_out c.has_other_name.result named c.if-has_other_name.false)
    (alone_of (g.H.Host.files c.args.host.now) c.args.lib.now c.args.file.now c.in_ok-is_in_both.field-0 c.in_ok-is_in_both.ensures.exact c.if-branch.false)
    (c.has_reserved_name.ensures.0 c.if-has_reserved_name.true)

pub returns-clause-judged : goal.returns-clause-judged
returns-clause-judged g c =
    let named = rw c.as_slice.ensures at c.has_other_name.ensures in
    record {
      version = ruled_out c.has_wrong_version.result c.has_wrong_version.ensures c.if-has_wrong_version.false;
      named = ruled_out c.has_other_name.result named c.if-has_other_name.false;
      alone = alone_of (g.H.Host.files c.args.host.now) c.args.lib.now c.args.file.now c.in_ok-is_in_both.field-0 c.in_ok-is_in_both.ensures.exact c.if-branch.false;
      free = ruled_out c.has_reserved_name.result c.has_reserved_name.ensures c.if-has_reserved_name.false;
    }
