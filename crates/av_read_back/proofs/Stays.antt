-- Attributes keep their form as a pool grows.
use Rattle.std.proofs.Common.{◌≡◌, ℕ, Bool, true, false, eqb, List, refl}
use Rattle.std.specs.Prelude.{◌||◌}
use Rattle.std.specs.List.{AllByRecursion}
use Rattle.std.specs.declared.convert.Infallible.{Infallible as NoCode}
use Rattle.jv_lists.proofs.Among.{all_from}
use Rattle.jv_types.specs.declared.raw_handler.RawHandler.{RawHandler}
use Rattle.jv_pool.specs.declared.item.PoolItem.{PoolItem}
use Rattle.jv_pool.specs.Lookups.{names, is_class}
use Rattle.jv_attr.specs.declared.attr.Attr.{Attr}
use Rattle.jv_attr.specs.declared.attr.AttrBody.{AttrBody}
use Rattle.jv_attr.specs.declared.attr.AttrBody.TheVariants.{Code, Maps, Raw}
use Rattle.jv_attr.specs.declared.attr.CodeAttr.{CodeAttr}
use Rattle.jv_attr.specs.declared.frame.MapFrame.{MapFrame}
use Rattle.jv_attr.specs.declared.owner.Owner.{Owner}
use Rattle.jv_attr.specs.FrameText.{IsFrame}
use Rattle.jv_attr.specs.AttrText.{IsBody, IsNoCode, IsInner, is_catch, IsRawHandler, IsCode, IsAttr}
use Rattle.jv_insn.specs.Entries.{Grows}
use Rattle.av_read_back.proofs.Pools.{names_later, text_later}
use Rattle.av_read_back.proofs.Frames.{frame_later}

module _ (old new : List PoolItem) (grows : Grows old new) where
  frames_later : (frames : List MapFrame) → AllByRecursion (IsFrame old) frames → AllByRecursion (IsFrame new) frames
  frames_later frames h = all_from (IsFrame old) (IsFrame new) (λ f k. frame_later f old new grows k) frames h

  -- ---- attributes of a Code

  no_code_later : (as_code as_maps : Bool) (body : AttrBody NoCode) → IsBody IsNoCode old as_code as_maps body → IsBody IsNoCode new as_code as_maps body
  no_code_later as_code as_maps (Code c) h = absurd h.1
  no_code_later as_code as_maps (Maps frames) h = (h.0, frames_later frames h.1)
  no_code_later as_code as_maps (Raw bytes) h = h

  inner_later : (major : ℕ) (a : Attr NoCode) → IsInner old major a → IsInner new major a
  inner_later major a h = record {
    name_fits = h.name_fits;
    name = h.name;
    named = text_later old new a.name h.name grows h.named;
    body = no_code_later _ _ a.body h.body;
  }

  -- ---- a Code

  catch_later : (catch : ℕ) → is_catch old catch ≡ true → is_catch new catch ≡ true
  catch_later catch e = by (eqb catch 0) e
    where
      by : (b : Bool) → (b || names is_class old catch) ≡ true → (b || names is_class new catch) ≡ true
      by true e = refl
      by false e = names_later is_class old new catch grows e

  handler_later : (h : RawHandler) → IsRawHandler old h → IsRawHandler new h
  handler_later h k = record { start = k.start; end = k.end; target = k.target; catch = k.catch; class = catch_later h.catch k.class }

  code_later : (major : ℕ) (c : CodeAttr) → IsCode old major c → IsCode new major c
  code_later major c h = record {
    max_stack = h.max_stack;
    max_locals = h.max_locals;
    not_empty = h.not_empty;
    handlers = all_from (IsRawHandler old) (IsRawHandler new) handler_later c.handlers h.handlers;
    attrs = all_from (IsInner old major) (IsInner new major) (inner_later major) c.attrs h.attrs;
    one_map = h.one_map;
  }

  -- ---- an attribute

  body_later : (major : ℕ) (as_code as_maps : Bool) (body : AttrBody CodeAttr) → IsBody (IsCode old major) old as_code as_maps body → IsBody (IsCode new major) new as_code as_maps body
  body_later major as_code as_maps (Code c) h = (h.0, code_later major c h.1)
  body_later major as_code as_maps (Maps frames) h = (h.0, frames_later frames h.1)
  body_later major as_code as_maps (Raw bytes) h = h

  pub attr_later : (o : Owner) (major : ℕ) (a : Attr CodeAttr) → IsAttr old o major a → IsAttr new o major a
  attr_later o major a h = record {
    name_fits = h.name_fits;
    name = h.name;
    named = text_later old new a.name h.name grows h.named;
    body = body_later major _ _ a.body h.body;
  }

  pub attrs_later : (o : Owner) (major : ℕ) (attrs : List (Attr CodeAttr)) → AllByRecursion (IsAttr old o major) attrs → AllByRecursion (IsAttr new o major) attrs
  attrs_later o major attrs h = all_from (IsAttr old o major) (IsAttr new o major) (attr_later o major) attrs h
