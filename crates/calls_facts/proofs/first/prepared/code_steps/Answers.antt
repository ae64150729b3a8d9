use Rattle.std.proofs.Common.{◌≡◌, ℕ, ◌+◌, ◌-◌, suc, length, refl, ap, ◌∙◌, sym, arith}
use Rattle.calls_facts.specs.First.Names.{pc_of}
use Rattle.calls_facts.specs.First.Depths.{depth_from}
use Rattle.std.specs.List.{slice_get}
use Rattle.calls_facts.proofs.Depth.{pushed_count, step_is, depth_from_parts, steps_more, steps_all}
use Rattle.calls_facts.proofs.first.prepared.code_steps.Goals as goal

pub loop-placed-init : goal.loop-placed-init
unfolding depth_from
loop-placed-init c = record { count = ap length c.new-steps.ensures.items; depth = refl; each = λ i p early. absurd (omega arith) }

pub loop-placed-preserved : goal.loop-placed-preserved
loop-placed-preserved c =
    let before = c.loop-placed.invariant.count in
    let at : c.len.result ≡ c.loop-placed.placed-index = c.len.ensures ∙ (c.loop-placed.steps.ok.0 ∙ before) in
    let behind : c.len.result + 1 ≡ suc c.loop-placed.placed-index = omega arith in
    let next : c.pc_of.result ≡ pc_of (slice_get c.args.code.now (suc c.loop-placed.placed-index)) = c.pc_of.ensures ∙ ap (λ (n : ℕ). pc_of (slice_get c.args.code.now n)) behind in
    let step = step_is c.args.class.now c.args.code.now c.loop-placed.placed-index _ c.pc_of.result c.loop-placed.depth next c.loop-placed.invariant.depth in
    record {
      count = pushed_count _ _ _ _ c.in_ok-push.ensures.items before;
      depth =
          depth_from_parts c.args.class.now c.args.code.now c.loop-placed.placed-index _ c.loop-placed.depth c.taken.result c.saturating_sub-left.result c.given.result c.loop-placed-test.true
          c.loop-placed.invariant.depth c.taken.ensures c.saturating_sub-left.ensures c.given.ensures.gives;
      each =
          steps_more c.args.class.now c.args.code.now c.loop-placed.placed-index _ c.loop-placed.steps.items c.push.new.self.items _ c.loop-placed-test.true before step
          c.in_ok-push.ensures.items c.loop-placed.invariant.each;
    }

pub returns : goal.returns
returns c = steps_all c.args.class.now c.args.code.now c.loop-placed.placed-index c.loop-placed.steps.items c.loop-placed.auto.placed-index-end c.loop-placed-test.false c.loop-placed.invariant.count c.loop-placed.invariant.each
