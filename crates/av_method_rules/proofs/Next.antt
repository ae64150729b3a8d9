-- The method at a place of classes, as code reads it.
use Rattle.std.proofs.Common.{◌≡◌, ℕ, ◌<◌, ◌≤◌, List, true, length, get_or, Some, refl, sym, ap, ◌∙◌, subst, arith}
use Rattle.std.specs.Prelude.{slice_get}
use Rattle.std.proofs.lemmas.Option.{slice_get_read, slice_get_within}
use Rattle.std.proofs.lemmas.List.{length-append}
use Rattle.std.proofs.lemmas.Slice.Zip.{AllZip-long}
use Rattle.jv_types.specs.declared.ids.MethodId.{MethodId}
use Rattle.jv_types.specs.declared.shapes.Shape.{Shape}
use Rattle.jv_class.specs.declared.class_file.ClassFile.{ClassFile}
use Rattle.jv_class.specs.declared.class_file.Member.{Member}
use Rattle.jv_class.specs.Shapes.{IsShapeOf}
use Rattle.jv_class.proofs.ListLemmas.{got}
use Rattle.jv_read.proofs.Fronts.{some_is}
use Rattle.jv_world.specs.Worlds.{IsWorld}
use Rattle.av_stops.specs.MethodRules.{IsMember}
use Rattle.av_method_rules.specs.Files.{AreFilesOf, HasTexts}
use Rattle.av_method_rules.specs.Steps.Until.{HasMember, place_at}
use Rattle.av_method_rules.proofs.Members.{few_methods, has_texts}
use Rattle.av_method_rules.proofs.Standing.{contained}

pub class_at : (classes : List ClassFile) (number : ℕ) (class : ClassFile) → number < length classes → class ≡ get_or classes number class → slice_get classes number ≡ Some class
class_at classes number class within is = slice_get_read classes (length classes) number class refl within is

pub member_here : (classes : List ClassFile) (id : MethodId) (class : ClassFile) (member : Member) (methods : List Member) (n : ℕ) → HasMember classes id
    → class ≡ get_or classes id.class.number class → methods ≡ class.methods → n ≡ id.index → member ≡ get_or methods n member → IsMember classes id class member
member_here classes id class member methods n here is same place own =
    let within : id.class.number < length classes = slice_get_within classes id.class.number here.0 here.2.of_class in
    let at : slice_get classes id.class.number ≡ Some class = class_at classes id.class.number class within is in
    let one : here.0 ≡ class = some_is here.0 class (sym here.2.of_class ∙ at) in
    let inside : id.index < length class.methods = subst (λ (c : ClassFile). id.index < length c.methods) one (slice_get_within here.0.methods id.index here.1 here.2.at_place) in
    let read : member ≡ get_or class.methods id.index member =
    own ∙ ap (λ (l : List Member). get_or l n member) same ∙ ap (λ (k : ℕ). get_or class.methods k member) place in
    record { of_class = at; at_place = slice_get_read class.methods (length class.methods) id.index member refl inside read }

pub texts_here : (w : List Shape) (classes : List ClassFile) (id : MethodId) (class : ClassFile) (member : Member) → AreFilesOf w classes → IsMember classes id class member → HasTexts class member
texts_here w classes id class member files is =
    has_texts class member (files.texts class (contained classes id.class.number class is.of_class)) (contained class.methods id.index member is.at_place)

-- numbers of 32 bits name the classes
pub number_fits : (w : List Shape) (classes : List ClassFile) (number : ℕ) → AreFilesOf w classes → IsWorld w → number < length classes → number < 4294967296
number_fits w classes number files world within =
    let same : length files.shapes ≡ length classes = AllZip-long (λ (c : ClassFile) (s : Shape). IsShapeOf c true s) classes files.shapes files.stated in
    let most : length w < 4294967296 = world.numbered.count in
    let parts = ap (λ (l : List Shape). length l) files.world ∙ length-append files.shapes files.others in
    omega (arith, within, same, most, parts)

own_count : (classes : List ClassFile) (number count : ℕ) (class : ClassFile) → class ≡ get_or classes number class → count ≡ length (get_or classes number class).methods
    → count ≡ length class.methods
own_count classes number count class is many = many ∙ ap (λ (c : ClassFile). length c.methods) (sym is)

pub all_past : (classes : List ClassFile) (number index count : ℕ) (class : ClassFile) → class ≡ get_or classes number class → count ≡ length (get_or classes number class).methods → count ≤ index
    → length class.methods ≤ index
all_past classes number index count class is many past = let own = own_count classes number count class is many in omega (arith, own, past)

-- numbers of 16 bits their methods
pub index_fits : (w : List Shape) (classes : List ClassFile) (number index count : ℕ) (class : ClassFile) → AreFilesOf w classes → number < length classes → class ≡ get_or classes number class
    → count ≡ length (get_or classes number class).methods → index < count → index < 65536
index_fits w classes number index count class files within is many lt =
    let own = own_count classes number count class is many in
    let few = few_methods class (files.texts class (contained classes number class (class_at classes number class within is))) in
    omega (arith, few, own, lt)

pub has_member : (classes : List ClassFile) (number index count : ℕ) (class : ClassFile) → number < length classes → class ≡ get_or classes number class → count ≡ length (get_or classes number class).methods → index < count
    → HasMember classes (place_at number index)
has_member classes number index count class within is many lt =
    let own = own_count classes number count class is many in
    let inside : index < length class.methods = omega (arith, own, lt) in
    let member = got class.methods index inside in
    (class, member.0, record { of_class = class_at classes number class within is; at_place = member.1 })
