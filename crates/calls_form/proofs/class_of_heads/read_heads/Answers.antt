-- Each turn of the loop is one method.
use Rattle.std.proofs.Common.{◌≡◌, ◌++◌, ◌∷◌, []}
use Rattle.std.proofs.lemmas.Result.{err_from_is_err_and}
use Rattle.std.proofs.lemmas.List.{map_push}
use Rattle.calls_form.specs.ClassesHeads.{heading_of, headings_of, heading_at, headings_at}
use Rattle.calls_form.proofs.ClassesLoops.{each_goes_on, each_ends, each_done}
use Rattle.calls_form.proofs.class_of_heads.read_heads.Goals as goal

pub returns-in_err-read_head : goal.returns-in_err-read_head
returns-in_err-read_head c =
    let p = err_from_is_err_and c.from_residual.result c.from_residual.ensures.1 in
    rw (p.1, p.2) (each_ends (heading_at c.args.pool.now) c.args.raws.now c.in_err-read_head.field-0.0 (headings_of c.loop-raw.heads.items) c.loop-raw.raw-index c.raw-item.result (headings_at c.args.pool.now c.args.raws.now) c.loop-raw-test.true c.raw-item.is c.in_err-read_head.ensures c.loop-raw.invariant)

pub loop-raw-preserved : goal.loop-raw-preserved
loop-raw-preserved c =
    let h = c.in_ok-read_head.field-0 in
    let e : headings_of c.push.new.self.items ≡ headings_of c.loop-raw.heads.items ++ heading_of h ∷ [] = rw c.in_ok-push.ensures.items (map_push heading_of c.loop-raw.heads.items h) in
    rw e (each_goes_on (heading_at c.args.pool.now) c.args.raws.now (headings_of c.loop-raw.heads.items) c.loop-raw.raw-index c.raw-item.result (heading_of h) (headings_at c.args.pool.now c.args.raws.now) c.loop-raw-test.true c.raw-item.is c.in_ok-read_head.ensures c.loop-raw.invariant)

pub returns : goal.returns
returns c = each_done (heading_at c.args.pool.now) c.args.raws.now (headings_of c.loop-raw.heads.items) c.loop-raw.raw-index (headings_at c.args.pool.now c.args.raws.now) c.loop-raw-test.false c.loop-raw.invariant
