-- The text of an attribute (JVMS 4.7, 4.7.3, 4.7.4): the index of its name, the length of its content in
-- four bytes, and the content.
use Rattle.std.specs.Prelude.{◌≡◌, ◌<◌, ◌≤◌, ℕ, ◌^◌, Bool, true, false, ◌&&◌, nat_le, ◌||◌, ◌==◌, IsTrue, List, ◌++◌, length, Some, codes, count_by}
use Rattle.std.specs.List.{flat_map, AllByRecursion}
use Rattle.std.specs.Str.{bytes_eq}
use Rattle.jv_types.specs.declared.raw_handler.RawHandler.{RawHandler}
use Rattle.jv_pool.specs.declared.item.PoolItem.{PoolItem}
use Rattle.jv_pool.specs.Lookups.{names, is_class, text_at}
use Rattle.jv_pool.specs.PoolText.{u2, u4}
use Rattle.jv_attr.specs.declared.attr.Attr.{Attr}
use Rattle.jv_attr.specs.declared.attr.AttrBody.{AttrBody}
use Rattle.jv_attr.specs.declared.attr.AttrBody.TheVariants.{Code, Maps, Raw}
use Rattle.jv_attr.specs.declared.attr.CodeAttr.{CodeAttr}
use Rattle.std.specs.declared.convert.Infallible.{Infallible as NoCode}
use Rattle.jv_attr.specs.declared.owner.Owner as owners
use Rattle.jv_attr.specs.declared.owner.Owner.TheVariants as owner
use Rattle.jv_attr.specs.FrameText.{IsFrame, frames_text, AreFewFrames}

-- an attribute of this name is read as the code of a method
abbrev pub is_code : owners.Owner → List ℕ → Bool
is_code owner.Method name = bytes_eq name (codes "Code")
is_code _ name = false

-- an attribute of this name is read as frames: inside a Code, in major version 50 or more
abbrev pub is_maps : owners.Owner → ℕ → List ℕ → Bool
is_maps owner.Code major name = nat_le 50 major && bytes_eq name (codes "StackMapTable")
is_maps _ major name = false

-- ---- an attribute, where that of a Code is given

abbrev pub body_text : {C : Type 0} → (C → List ℕ) → AttrBody C → List ℕ
body_text code (Code c) = code c
body_text code (Maps frames) = frames_text frames
body_text code (Raw bytes) = bytes

abbrev pub text_with : {C : Type 0} → (C → List ℕ) → Attr C → List ℕ
text_with code a = u2 a.name ++ u4 (length (body_text code a.body)) ++ body_text code a.body

-- what stands in an attribute that is read as code, as frames, or as neither
abbrev pub IsBody : {C : Type 0} → (C → Type 0) → List PoolItem → Bool → Bool → AttrBody C → Type 0
IsBody IsCode pool as_code as_maps (Code c) = IsTrue as_code × IsCode c
IsBody IsCode pool as_code as_maps (Maps frames) = IsTrue as_maps × AllByRecursion (IsFrame pool) frames
IsBody IsCode pool as_code as_maps (Raw bytes) = (as_code ≡ false) × (as_maps ≡ false)

pub record IsAttrWith {C : Type 0} (IsCode : C → Type 0) (pool : List PoolItem) (o : owners.Owner) (major : ℕ) (a : Attr C) : Type 0 where
  pub name_fits : a.name < 2 ^ 16
  pub name : List ℕ
  pub named : text_at pool a.name ≡ Some name
  pub body : IsBody IsCode pool (is_code o name) (is_maps o major name) a.body

-- its counts fit two bytes
abbrev pub HasFewWith : {C : Type 0} → (C → Type 0) → AttrBody C → Type 0
HasFewWith HasFew (Code c) = HasFew c
HasFewWith HasFew (Maps frames) = AreFewFrames frames
HasFewWith HasFew (Raw bytes) = Unit {0}

-- its lengths fit: that of a code two bytes, and that of an attribute four
abbrev pub IsShortWith : {C : Type 0} → (C → Type 0) → AttrBody C → Type 0
IsShortWith IsShort (Code c) = IsShort c
IsShortWith IsShort (Maps frames) = Unit {0}
IsShortWith IsShort (Raw bytes) = Unit {0}

-- ---- attributes of a Code, none of which is a Code

abbrev pub no_code_text : NoCode → List ℕ
no_code_text c = elim c [ ]

abbrev pub IsNoCode : NoCode → Type 0
IsNoCode c = ⊥

abbrev pub inner_text : Attr NoCode → List ℕ
inner_text a = text_with no_code_text a

abbrev pub IsInner : List PoolItem → ℕ → Attr NoCode → Type 0
IsInner pool major a = IsAttrWith IsNoCode pool owner.Code major a

abbrev pub IsInnerFew : Attr NoCode → Type 0
IsInnerFew a = HasFewWith IsNoCode a.body

abbrev pub IsInnerShort : Attr NoCode → Type 0
IsInnerShort a = length (body_text no_code_text a.body) < 2 ^ 32

-- it has frames
abbrev pub has_maps : Attr NoCode → Bool
has_maps a = is_frames a.body
  where
    is_frames : AttrBody NoCode → Bool
    is_frames (Maps frames) = true
    is_frames _ = false

-- ---- a Code (JVMS 4.7.3)

abbrev pub handler_text : RawHandler → List ℕ
handler_text h = u2 h.start ++ u2 h.end ++ u2 h.target ++ u2 h.catch

-- a catch type is 0 or names a class
abbrev pub is_catch : List PoolItem → ℕ → Bool
is_catch pool catch = catch == 0 || names is_class pool catch

pub record IsRawHandler (pool : List PoolItem) (h : RawHandler) : Type 0 where
  pub start : h.start < 2 ^ 16
  pub end : h.end < 2 ^ 16
  pub target : h.target < 2 ^ 16
  pub catch : h.catch < 2 ^ 16
  pub class : IsTrue (is_catch pool h.catch)

abbrev pub code_text : CodeAttr → List ℕ
code_text c = u2 c.max_stack ++ u2 c.max_locals ++ u4 (length c.code) ++ c.code
    ++ u2 (length c.handlers) ++ flat_map handler_text c.handlers
    ++ u2 (length c.attrs) ++ flat_map inner_text c.attrs

-- at most one of its attributes is a StackMapTable
pub record IsCode (pool : List PoolItem) (major : ℕ) (c : CodeAttr) : Type 0 where
  pub max_stack : c.max_stack < 2 ^ 16
  pub max_locals : c.max_locals < 2 ^ 16
  pub not_empty : 0 < length c.code
  pub handlers : AllByRecursion (IsRawHandler pool) c.handlers
  pub attrs : AllByRecursion (IsInner pool major) c.attrs
  pub one_map : count_by has_maps c.attrs ≤ 1

pub record IsFewCode (c : CodeAttr) : Type 0 where
  pub handlers : length c.handlers < 2 ^ 16
  pub attrs : length c.attrs < 2 ^ 16
  pub each : AllByRecursion IsInnerFew c.attrs

pub record IsShortCode (c : CodeAttr) : Type 0 where
  pub code : length c.code < 2 ^ 16
  pub each : AllByRecursion IsInnerShort c.attrs

-- ---- an attribute of any owner

abbrev pub attr_text : Attr CodeAttr → List ℕ
attr_text a = text_with code_text a

-- an attribute of this owner in a file of this major version, apart from how many parts it may have and
-- how long they may be
abbrev pub IsAttr : List PoolItem → owners.Owner → ℕ → Attr CodeAttr → Type 0
IsAttr pool o major a = IsAttrWith (IsCode pool major) pool o major a

-- each count in it is at most 65535
abbrev pub HasFew : Attr CodeAttr → Type 0
HasFew a = HasFewWith IsFewCode a.body

-- a code in it has at most 65535 bytes, and it and each attribute in it at most 2 ^ 32 - 1
pub record IsShort (a : Attr CodeAttr) : Type 0 where
  pub code : IsShortWith IsShortCode a.body
  pub content : length (body_text code_text a.body) < 2 ^ 32

-- the bytes are the text of the attribute
pub record IsAttrText (pool : List PoolItem) (o : owners.Owner) (major : ℕ) (bytes : List ℕ) (a : Attr CodeAttr) : Type 0 where
  pub is_attr : IsAttr pool o major a
  pub few : HasFew a
  pub short : IsShort a
  pub spelled : bytes ≡ attr_text a

-- the bytes begin with the text of the attribute, and go on with the rest
pub record BeginsWithAttr (pool : List PoolItem) (o : owners.Owner) (major : ℕ) (bytes : List ℕ) (a : Attr CodeAttr) (rest : List ℕ) : Type 0 where
  pub front : List ℕ
  pub is_text : IsAttrText pool o major front a
  pub parts : bytes ≡ front ++ rest
