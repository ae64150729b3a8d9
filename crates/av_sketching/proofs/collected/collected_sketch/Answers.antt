use Rattle.std.proofs.Common.{ℕ, List, map, sym, subst}
use Rattle.av_standin_of.specs.Lists.{AreJust}
use Rattle.av_standin_of.specs.Names.{member_order, field_key}
use Rattle.av_standin_of.specs.Classes.{made_key, kept_field, IsMethodOf}
use Rattle.av_sketches.specs.Sketches.{made_method}
use Rattle.av_sorted.specs.Orders.{sketched_key}
use Rattle.av_sketching.specs.Steps.{all_sketched}
use Rattle.av_sketching.proofs.Kept.{fields_apart, fields_just, given_is, methods_apart, methods_just}
use Rattle.av_sketching.proofs.collected.collected_sketch.Goals as goal

pub returns : goal.returns
returns c dims =
    let class = c.args.class.now in
    let fields = given_is member_order field_key c.in_ok-kept_fields.field-0.items (map kept_field class.fields) c.in_ok-fields.fields c.in_ok-kept_fields.ensures c.in_ok-fields.ensures (fields_apart class c.requires) in
    let methods =
    given_is member_order sketched_key c.in_ok-all_sketched.field-0.items (all_sketched class) c.in_ok-methods.methods c.in_ok-all_sketched.ensures c.in_ok-methods.ensures (methods_apart class c.requires) in record {
      name = c.in_ok-copy.ensures;
      flags = c.kept_flags.ensures;
      parent = c.in_ok-parent_of.ensures;
      interfaces = c.in_ok-copy-2.ensures;
      fields = fields_just class c.in_ok-fields.fields fields;
      methods =
          subst (λ (name : List ℕ). AreJust member_order made_key (IsMethodOf class) (map (made_method dims name) c.in_ok-methods.methods)) (sym c.in_ok-copy.ensures)
          (methods_just dims class c.in_ok-methods.methods methods);
    }
