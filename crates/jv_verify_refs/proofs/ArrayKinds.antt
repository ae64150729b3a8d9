-- What an instruction on an array has no typing for.
use Rattle.std.proofs.Common.{◌≡◌, false, IsTrue, List, [], ◌∷◌, ◌++◌, inl, inr, refl, sym, ap, ◌∙◌, subst}
use Rattle.std.specs.Prelude.{◌⊎◌}
use Rattle.std.proofs.lemmas.Bool.{false≢true}
use Rattle.jv_types.specs.declared.desc.PrimType.TheVariants.{Int}
use Rattle.jv_types.specs.declared.shapes.Shape.{Shape}
use Rattle.jv_types.specs.declared.frames.VType.{VType, Integer, Null, PrimArray}
use Rattle.jv_types.specs.declared.frames.Frame.{Frame}
use Rattle.jv_insn.specs.Effects.{effect_of}
use Rattle.jv_frames.specs.Types.{is_array, is_object}
use Rattle.jv_frames.specs.Assignable.{IsAssignable, same, of_null}
use Rattle.jv_typing.proofs.TypingOnce.{SameParts, same_ends}
use Rattle.jv_typing.specs.References.{LoadsItem}
use Rattle.jv_typing.specs.declared.rules.RefRule.TheVariants as rules
use Rattle.jv_verify_refs.specs.declared.step.Step.{Step}
use Rattle.jv_verify_refs.specs.Steps.Parts.{IsWithStack, StepGoes, HasNoTyping}
use Rattle.jv_verify_refs.proofs.LowestWords.{array_not_wide, receiver_fits, goes_with, at_top, to_array, one_item}

-- ---- aaload

same_array : (stack below under : List VType) (array other : VType) → stack ≡ below ++ array ∷ Integer ∷ [] → stack ≡ under ++ other ∷ Integer ∷ []
    → SameParts below (array ∷ Integer ∷ []) under (other ∷ Integer ∷ [])
same_array stack below under array other e f = same_ends below (array ∷ Integer ∷ []) under (other ∷ Integer ∷ []) (sym e ∙ f) refl

same_head : (array other : VType) → array ∷ Integer ∷ [] ≡ other ∷ Integer ∷ [] → array ≡ other
same_head array other e = cc

pub no_item : (step : Step) (array : VType) (below : List VType) → step.frame.now.stack ≡ below ++ array ∷ Integer ∷ [] → ((item : VType) → LoadsItem array item → ⊥) → HasNoTyping step rules.LoadRef
no_item step array below e none after h =
    let parts = same_array step.frame.now.stack h.below below h.array array h.whole e in
    none h.item (subst (λ (t : VType). LoadsItem t h.item) (same_head h.array array parts.second) h.loads)

pub no_load : (step : Step) (array item : VType) (below : List VType) → step.frame.now.stack ≡ below ++ array ∷ Integer ∷ [] → LoadsItem array item
    → ((after : Frame) → IsWithStack step.body.now.max_stack (below ++ item ∷ []) step.frame.now after → ⊥) → HasNoTyping step rules.LoadRef
no_load step array item below e loads none after h =
    let parts = same_array step.frame.now.stack h.below below h.array array h.whole e in
    let items : h.item ≡ item = one_item array h.item item (subst (λ (t : VType). LoadsItem t h.item) (same_head h.array array parts.second) h.loads) loads in
    none after (record {
      stack = h.stack ∙ ap (λ (ws : List VType). ws ++ h.item ∷ []) parts.first ∙ ap (λ (t : VType). below ++ t ∷ []) items;
      room = h.room;
      locals = h.locals;
      flag = h.flag;
    })

-- ---- arraylength

pub no_array : (step : Step) (word : VType) (rest : List VType) → step.frame.now.stack ≡ rest ++ word ∷ [] → (word ≡ Null → ⊥) → is_array word ≡ false → HasNoTyping step rules.ArrayLength
no_array step word rest e not_null not_array after h =
    let w = step.world.now in
    let fits : IsAssignable w word h.0 =
    receiver_fits w (effect_of step.insn.now).takes step.frame.now.stack word h.0 [] (array_not_wide h.0 h.1) (at_top step.frame.now.stack rest word e) h.2.pops in
    by_kind (to_array w word h.0 h.1 fits)
  where
    by_kind : (word ≡ Null) ⊎ IsTrue (is_array word) → ⊥
    by_kind (inl n) = not_null n
    by_kind (inr a) = absurd (false≢true (sym not_array ∙ a))

-- the type of an array that a word is popped as
abbrev pub IsArrayFor : VType → VType → Type 0
IsArrayFor word array = ((word ≡ Null) × (array ≡ PrimArray Int)) ⊎ (IsTrue (is_array word) × (array ≡ word))

is_array_for : (word array : VType) → IsArrayFor word array → IsTrue (is_array array)
is_array_for word array (inl n) = ap is_array n.1
is_array_for word array (inr a) = ap is_array a.1 ∙ a.0

fits_array : (w : List Shape) (word array : VType) → IsArrayFor word array → IsAssignable w word array
fits_array w word array (inl n) = of_null word array n.0 (ap is_object n.1)
fits_array w word array (inr a) = same word array (sym a.1)

pub no_length : (step : Step) (word array : VType) (rest : List VType) → step.frame.now.stack ≡ rest ++ word ∷ [] → IsArrayFor word array
    → ((after : Frame) → StepGoes step (array ∷ []) (Integer ∷ []) after → ⊥) → HasNoTyping step rules.ArrayLength
no_length step word array rest e for none after h =
    let w = step.world.now in
    none after (goes_with w step.body.now.max_stack (effect_of step.insn.now).takes step.frame.now after word h.0 array [] (Integer ∷ [])
    (array_not_wide h.0 h.1) (array_not_wide array (is_array_for word array for)) (at_top step.frame.now.stack rest word e) (fits_array w word array for) h.2)
