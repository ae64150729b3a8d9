-- The flags are those of the method.
use Rattle.std.proofs.Common.{inl, inr, subst}
use Rattle.std.specs.Prelude.{IsTrue}
use Rattle.jv_types.specs.declared.shapes.MethodShape.{MethodShape}
use Rattle.jv_resolve.specs.Access.{NamesInLine, HasAccess}
use Rattle.jv_resolve.proofs.MembersLemmas.{one_method}
use Rattle.jv_resolve.proofs.ReferenceLemmas.{access_by}
use Rattle.jv_resolve.proofs.Tests.{denied}
use Rattle.jv_resolve.proofs.access.is_method_accessible.Goals as goal

pub returns : goal.returns
returns c = record {
  exact = (
    λ t. inr (
      c.method_shape.result.now,
      c.method_shape.ensures,
      access_by c.args.world.now c.args.from.number (IsTrue c.names_in_line-in_line.result) (NamesInLine c.args.world.now c.args.from.number c.args.r.now.class) c.args.m.class.number c.method_shape.result.now.flags
          c.names_in_line-in_line.ensures.0 (c.has_access.ensures.0 t),
    ),
    λ p. elim p [
      | inl a ↦ absurd (denied c.is_array_clone.result c.if-is_array_clone.false c.is_array_clone.ensures.1 a)
      | inr q ↦ c.has_access.ensures.1
          (access_by c.args.world.now c.args.from.number (NamesInLine c.args.world.now c.args.from.number c.args.r.now.class) (IsTrue c.names_in_line-in_line.result) c.args.m.class.number c.method_shape.result.now.flags
          c.names_in_line-in_line.ensures.1
          (subst (λ (x : MethodShape). HasAccess c.args.world.now c.args.from.number (NamesInLine c.args.world.now c.args.from.number c.args.r.now.class) c.args.m.class.number x.flags)
          (one_method c.args.world.now c.args.m q.0 c.method_shape.result.now q.1 c.method_shape.ensures) q.2))
    ],
  );
}
