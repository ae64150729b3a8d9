-- Where the methods, the main and the count of instructions stop.
use Rattle.std.proofs.Common.{◌≡◌, ◌<◌, ℕ, List, Option, None, Some, refl, sym, subst}
use Rattle.jv_types.specs.declared.frames.FramedBody.{FramedBody}
use Rattle.jv_types.specs.declared.ids.MethodId.{MethodId}
use Rattle.jv_types.specs.declared.quantity.Quantity.TheVariants as quantities
use Rattle.jv_types.specs.declared.shapes.Shape.{Shape}
use Rattle.jv_types.specs.Quantities.{quantity_limit}
use Rattle.jv_class.specs.declared.class_file.ClassFile.{ClassFile}
use Rattle.av_program.specs.declared.accept_stop.AcceptStop.{AcceptStop}
use Rattle.av_program.specs.declared.accept_stop.AcceptStop.TheVariants.{Refused, Limit, ReadFault, Memory}
use Rattle.av_stops.specs.FirstStops.{insns_in, limit_of}
use Rattle.av_stops.specs.Mains.{IsStartOf}
use Rattle.av_stops.specs.MethodRules.{AreAccepted}
use Rattle.av_method_rules.specs.Stopping.{AreStopped}
use Rattle.av_start.specs.Starting.{HasNoStart}
use Rattle.av_stages.specs.Stages.{OrMemory, StopsTyping, at_method, at_main, at_instructions}

pub stopped_at_method : (w : List Shape) (classes : List ClassFile) (main : Option (List ℕ)) (stop : AcceptStop) → AreStopped w classes stop → OrMemory (StopsTyping w classes main) stop
stopped_at_method w classes main (Refused refusal) p = at_method refusal.rule refusal.place refl p
stopped_at_method w classes main (Limit quantity number) p = absurd p
stopped_at_method w classes main (ReadFault name) p = absurd p
stopped_at_method w classes main Memory p = tt

pub stopped_at_main : (w : List Shape) (classes : List ClassFile) (methods : List FramedBody) (main : Option (List ℕ)) (stop : AcceptStop) → AreAccepted w classes methods → HasNoStart w main stop → OrMemory (StopsTyping w classes main) stop
stopped_at_main w classes methods None stop a p = absurd p
stopped_at_main w classes methods (Some name) (Refused refusal) a p = at_main methods name p.1 refl a p.0
stopped_at_main w classes methods (Some name) (Limit quantity number) a p = absurd p.1
stopped_at_main w classes methods (Some name) (ReadFault file) a p = absurd p.1
stopped_at_main w classes methods (Some name) Memory a p = tt

pub stopped_at_instructions : (w : List Shape) (classes : List ClassFile) (methods : List FramedBody) (main : Option (List ℕ)) (start : Option MethodId) (stop : AcceptStop) → stop ≡ limit_of quantities.Instructions
    → AreAccepted w classes methods → IsStartOf w main start → quantity_limit quantities.Instructions < insns_in methods → OrMemory (StopsTyping w classes main) stop
stopped_at_instructions w classes methods main start stop e a s more =
    subst (OrMemory (StopsTyping w classes main)) (sym e) (at_instructions methods start refl a s more)
