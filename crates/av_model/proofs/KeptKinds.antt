-- Frames stay of the right kinds: as an instruction goes on in its method, as a method is entered, and as an object is caught.
use Rattle.std.proofs.Common.{◌≡◌, ℕ, zero, suc, ◌-◌, ◌≤◌, Bool, true, false, List, [], ◌∷◌, ◌++◌, Some, map, length, replicate, refl, sym, ap, subst, ◌∙◌, inl, inr, ⊎_elim, arith}
use Rattle.std.specs.Prelude.{◌==◌, if◌then◌else◌, slice_get, Contains}
use Rattle.std.specs.List.{flat_map}
use Rattle.std.proofs.lemmas.List.{length-append, map-append}
use Rattle.std.proofs.lemmas.Option.{none-some, same_Some}
use Rattle.std.proofs.lemmas.Grind.{flat_map-append}
use Rattle.jv_table.specs.declared.code_tables.Cell.{Cell}
use Rattle.jv_table.specs.declared.code_tables.Cell.TheVariants.{Ref}
use Rattle.jv_table.specs.declared.ops.TheConstants.{INVOKESTATIC}
use Rattle.jv_types.specs.Bodies.{at_offset}
use Rattle.jv_types.specs.declared.body.Handler.{Handler}
use Rattle.jv_types.specs.declared.frames.FramedBody.{FramedBody}
use Rattle.jv_types.specs.declared.desc.MethodDesc.{MethodDesc}
use Rattle.jv_types.specs.declared.instruction.Arg.TheVariants.{Method}
use Rattle.jv_types.specs.declared.instruction.Insn.{Insn}
use Rattle.jv_types.specs.declared.references.MethodRef.{MethodRef}
use Rattle.jv_types.specs.declared.shapes.MethodShape.{MethodShape}
use Rattle.jv_types.specs.declared.shapes.Shape.{Shape}
use Rattle.jv_insn.specs.Effects.{cells_taken, desc_cell, effect_of}
use Rattle.jv_insn.specs.KindSafe.{Covers, IsKindSafe, entry_words, is_static, method_of}
use Rattle.jv_insn.specs.Kinds.{SaysOnly, WordKind, Reference, cell_words, kinds_of}
use Rattle.jv_insn.proofs.KindSafe.{fits_start}
use Rattle.jv_insn.proofs.OneEach.{value_of}
use Rattle.av_states.specs.declared.held.Held.{Held}
use Rattle.av_states.specs.declared.held.Held.TheVariants as held
use Rattle.av_model.specs.NeverWanting.{HasKinds, entry_spot, handler_spot, kinds_held}
use Rattle.av_model.specs.Operands.{HoldCells, kind_of_held}
use Rattle.av_model.specs.Spots.{Spot, entry_locals, local_count, widest_frame}

-- what is said of words is said of more words
said_more : (said words more : List WordKind) → SaysOnly said words → SaysOnly said (words ++ more)
said_more said words more only place kind at = ⊎_elim (λ unknown. inl unknown) (λ there. inr (in_front words place there)) (only place kind at)
  where
    in_front : (words : List WordKind) (place : ℕ) → slice_get words place ≡ Some kind → slice_get (words ++ more) place ≡ Some kind
    in_front [] place e = absurd (none-some kind e)
    in_front (x ∷ words) zero e = e
    in_front (x ∷ words) (suc place) e = in_front words place e

-- what is said of what is said
pub said_through : (first mid words : List WordKind) → SaysOnly first mid → SaysOnly mid words → SaysOnly first words
said_through first mid words a b place kind at = ⊎_elim (λ unknown. inl unknown) (λ there. b place kind there) (a place kind at)

-- a method that is entered has as many local variables as its frames
enough : (count : ℕ) (framed : FramedBody) (words : List Held) → count ≤ local_count framed → count ≤ length (entry_locals framed words)
enough count framed words le = count_of words (local_count framed) le
  where
    filled : (n : ℕ) → length (replicate n held.Word) ≡ n
    filled zero = refl
    filled (suc n) = ap suc (filled n)

    count_of : (words : List Held) (most : ℕ) → count ≤ most → count ≤ length (words ++ replicate (most - length words) held.Word)
    count_of words most le = omega (arith, length-append words (replicate (most - length words) held.Word), filled (most - length words))

-- A method that is entered on words of the kinds of its receiver and parameters
pub entered_kinds : (w : List Shape) (framed : FramedBody) (shape : MethodShape) (words : List Held) → IsKindSafe w framed → method_of w framed.method ≡ Some shape
    → map kind_of_held words ≡ (entry_words shape).locals → HasKinds (entry_spot framed words)
entered_kinds w framed shape words safe declared kinds =
    let one : safe.shape ≡ shape = same_Some safe.shape shape (sym safe.declared ∙ declared) in
    let entry = safe.entry in
    let filler = replicate (local_count framed - length words) held.Word in
    let said = (kinds_of entry.frame).locals in
    let P : List WordKind → Type 0 = λ locals. SaysOnly said locals in
    let words_are : (entry_words safe.shape).locals ≡ map kind_of_held words = ap (λ (s : MethodShape). (entry_words s).locals) one ∙ sym kinds in
    let only : SaysOnly said (map kind_of_held (entry_locals framed words)) =
    subst P (sym (map-append kind_of_held words filler)) (said_more said (map kind_of_held words) (map kind_of_held filler) (subst P words_are entry.fits.locals)) in
    record {
      fits = record { frame = entry.frame; stands = entry.stands; fits = record { locals = only; stack = entry.fits.stack; depth = entry.fits.depth } };
      wide = enough (widest_frame framed.frames) framed words (omega arith);
    }

-- a handler that covers the spot finds the local variables of the spot, and the object alone
pub caught_kinds : (w : List Shape) (spot : Spot) (handler : Handler) (thrown : ℕ) → IsKindSafe w spot.framed → HasKinds spot
    → Contains spot.framed.body.handlers handler → Covers handler spot.pc → HasKinds (handler_spot spot handler thrown)
caught_kinds w spot handler thrown safe kinds among covers =
    let at = kinds.fits in
    let found = value_of (at_offset spot.pc spot.framed.body.insns) (fits_start w spot.framed safe spot.pc (kinds_held spot.words) at) in
    let here = safe.each spot.pc found.0 at.frame found.1 at.stands in
    let there = here.throws handler among covers in
    record {
      fits = record {
        frame = there.frame;
        stands = there.stands;
        fits = record { locals = said_through (kinds_of there.frame).locals (kinds_of at.frame).locals (map kind_of_held spot.words.locals) there.fits.locals at.fits.locals; stack = there.fits.stack; depth = there.fits.depth };
      };
      wide = kinds.wide;
    }

-- A method that a call of this reference enters, with the words that the call takes
pub called_kinds : (w : List Shape) (framed : FramedBody) (shape : MethodShape) (insn : Insn) (r : MethodRef) (taken : List Held) → IsKindSafe w framed
    → method_of w framed.method ≡ Some shape → insn.arg ≡ Method r → shape.desc ≡ r.desc → is_static shape ≡ (insn.op == INVOKESTATIC)
    → HoldCells (effect_of insn).takes taken → HasKinds (entry_spot framed taken)
called_kinds w framed shape insn r taken safe declared names desc static holds =
    let receiver : Bool → List Cell = λ none. if none then [] else Ref ∷ [] in
    let first : Bool → List WordKind = λ none. if none then [] else Reference ∷ [] in
    let params = map desc_cell r.desc.params in
    let cells_are : (effect_of insn).takes ≡ receiver (insn.op == INVOKESTATIC) ++ params = ap (cells_taken insn.op) names in
    let entry_is : (entry_words shape).locals ≡ first (insn.op == INVOKESTATIC) ++ flat_map cell_words params =
    ap (λ (none : Bool). first none ++ flat_map cell_words (map desc_cell shape.desc.params)) static
    ∙ ap (λ (d : MethodDesc). first (insn.op == INVOKESTATIC) ++ flat_map cell_words (map desc_cell d.params)) desc in
    entered_kinds w framed shape taken safe declared
    (holds ∙ ap (flat_map cell_words) cells_are ∙ flat_map-append cell_words (receiver (insn.op == INVOKESTATIC)) params
    ∙ ap (λ (ks : List WordKind). ks ++ flat_map cell_words params) (of_receiver (insn.op == INVOKESTATIC)) ∙ sym entry_is)
  where
    of_receiver : (none : Bool) → flat_map cell_words (if none then [] else Ref ∷ []) ≡ (if none then [] else Reference ∷ [])
    of_receiver true = refl
    of_receiver false = refl
