-- The code of a method in a class file (JVMS 4.6, 4.7.3).
use Rattle.std.specs.Prelude.{List, [], ◌∷◌, Option, None, Some}
use Rattle.jv_attr.specs.declared.attr.Attr.{Attr}
use Rattle.jv_attr.specs.declared.attr.AttrBody.{AttrBody}
use Rattle.jv_attr.specs.declared.attr.AttrBody.TheVariants.{Code, Maps, Raw}
use Rattle.jv_attr.specs.declared.attr.CodeAttr.{CodeAttr}

-- the code that an attribute is, or else what those after it have
abbrev pub code_or : AttrBody CodeAttr → Option CodeAttr → Option CodeAttr
code_or (Code code) later = Some code
code_or (Maps frames) later = later
code_or (Raw bytes) later = later

-- the code among a method's attributes, of which a method of a class has one at most
abbrev pub code_in : List (Attr CodeAttr) → Option CodeAttr
code_in [] = None
code_in (a ∷ attrs) = code_or a.body (code_in attrs)
