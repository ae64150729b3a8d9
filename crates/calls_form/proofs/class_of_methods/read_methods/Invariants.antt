-- The methods before the place, and then those from there on, are all of them.
use Rattle.std.proofs.Common.{◌≡◌, take, drop, All}
use Rattle.calls_form.specs.declared.class_of_heads.Head.{Head}
use Rattle.calls_form.specs.Classes.{IsBytes}
use Rattle.calls_form.specs.ClassesBodies.{target_in}
use Rattle.calls_form.specs.ClassesHeads.{each, heading_of, method_at}
use Rattle.calls_form.proofs.ClassesLoops.{with_front}
use Rattle.calls_form.proofs.class_of_methods.read_methods.Given as goal

abbrev pub invariant-loop-head : goal.invariant-loop-head
invariant-loop-head l = record {
  so_far : with_front l.methods.items (each (λ (h : Head). method_at l.own (target_in l.targets) (heading_of h)) (drop l.head-index l.heads)) ≡ each (λ (h : Head). method_at l.own (target_in l.targets) (heading_of h)) l.heads;
  bytes : All (λ (h : Head). IsBytes h.code.now) (take l.head-index l.heads);
}
