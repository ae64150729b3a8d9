-- Some attribute is a code exactly where there is a code among them.
use Rattle.std.proofs.Common.{◌≡◌, ◌||◌, List, [], ◌∷◌, is_some, refl}
use Rattle.std.specs.List.{list_any}
use Rattle.jv_attr.specs.declared.attr.Attr.{Attr}
use Rattle.jv_attr.specs.declared.attr.AttrBody.{AttrBody}
use Rattle.jv_attr.specs.declared.attr.AttrBody.TheVariants.{Code, Maps, Raw}
use Rattle.jv_attr.specs.declared.attr.CodeAttr.{CodeAttr}
use Rattle.jv_class.specs.ClassTexts.{has_code, is_code_body}
use Rattle.jv_class.specs.MethodCodes.{code_in, code_or}

pub any_code : (attrs : List (Attr CodeAttr)) → list_any has_code attrs ≡ is_some (code_in attrs)
any_code [] = refl
any_code (a ∷ attrs) = by a.body (any_code attrs)
  where
    by : (body : AttrBody CodeAttr) → list_any has_code attrs ≡ is_some (code_in attrs) → (is_code_body body || list_any has_code attrs) ≡ is_some (code_or body (code_in attrs))
    by (Code code) more = refl
    by (Maps frames) more = more
    by (Raw bytes) more = more
