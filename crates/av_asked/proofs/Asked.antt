-- What an answer of a source says of a quantity that passes.
use Rattle.std.proofs.Common.{◌≡◌, Option, Some, Err, sym, subst, ◌∙◌}
use Rattle.jv_types.specs.declared.quantity.Quantity.{Quantity}
use Rattle.jv_types.specs.declared.shapes.Shape.{Shape}
use Rattle.jv_host.specs.declared.host.HostFault.{HostFault}
use Rattle.jv_host.specs.declared.host.HostFault.TheVariants.{Memory}
use Rattle.jv_host.specs.HostAnswer.{UnlessHostFailed}
use Rattle.av_collected.specs.declared.found.ShapeFound.{ShapeFound}
use Rattle.av_collected.specs.declared.found.ShapeFound.TheVariants as answers
use Rattle.av_collected.specs.Sources.{TellsPassed}

shape_clash : (shape : Shape) (quantity : Quantity) → answers.Shape shape ≡ answers.TooMuch quantity → ⊥
shape_clash shape quantity e = absurd cc

malformed_clash : (quantity : Quantity) → answers.Malformed ≡ answers.TooMuch quantity → ⊥
malformed_clash quantity e = absurd cc

absent_clash : (quantity : Quantity) → answers.Absent ≡ answers.TooMuch quantity → ⊥
absent_clash quantity e = absurd cc

module _ (found : ShapeFound) (passed : Option Quantity) (tells : TellsPassed found passed) where
  pub not_at_shape : (shape : Shape) → found ≡ answers.Shape shape → (quantity : Quantity) → passed ≡ Some quantity → ⊥
  not_at_shape shape is quantity p = shape_clash shape quantity (sym is ∙ (tells quantity).1 p)

  pub not_at_malformed : found ≡ answers.Malformed → (quantity : Quantity) → passed ≡ Some quantity → ⊥
  not_at_malformed is quantity p = malformed_clash quantity (sym is ∙ (tells quantity).1 p)

  pub not_at_absent : found ≡ answers.Absent → (quantity : Quantity) → passed ≡ Some quantity → ⊥
  not_at_absent is quantity p = absent_clash quantity (sym is ∙ (tells quantity).1 p)

  pub passed_at : (quantity : Quantity) → found ≡ answers.TooMuch quantity → passed ≡ Some quantity
  passed_at quantity is = (tells quantity).0 is

-- what stays unless the source failed stays where memory was wanting
pub unless_memory : (fault : HostFault) (P : Type 0) → fault ≡ Memory → UnlessHostFailed {T = ShapeFound} (Err fault) P → P
unless_memory fault P is h = subst (λ (f : HostFault). UnlessHostFailed {T = ShapeFound} (Err f) P) is h
