-- The frames that are forced, one after the other.
use Rattle.std.proofs.Common.{◌≡◌, ℕ, ◌+◌, ◌<◌, ◌≤◌, List, [], ◌∷◌, ◌++◌, length, drop, get_or, append_assoc, Option, refl, sym, ap, subst}
use Rattle.std.specs.Prelude.{Some, None}
use Rattle.std.proofs.lemmas.List.{drop_all, append-nil}
use Rattle.jv_lists.proofs.Places.{drop_one}
use Rattle.jv_types.specs.Bodies.{at_offset}
use Rattle.jv_types.specs.declared.ids.MethodId.{MethodId}
use Rattle.jv_types.specs.declared.shapes.Shape.{Shape}
use Rattle.jv_types.specs.declared.instruction.Insn.{Insn}
use Rattle.jv_types.specs.declared.body.Body.{Body}
use Rattle.jv_types.specs.declared.frames.Frame.{Frame}
use Rattle.jv_verify.specs.Steps.Forcing.{forced_here, with_frame, IsLeft, AreForcedFrom, ForcesOn}

pub begins : (w : List Shape) (method : MethodId) (body : Body) (maps : List (ℕ × Frame)) (begun : Option Frame) → ForcesOn w method body maps begun begun [] 0
begins w method body maps begun = record { makes = λ rest h. h }

-- a row that is put in front, or put at the end
put_either : (pc : ℕ) (here : Option Frame) (rows rest : List (ℕ × Frame)) → (rows ++ with_frame pc here []) ++ rest ≡ rows ++ with_frame pc here rest
put_either pc None rows rest = ap (λ (l : List (ℕ × Frame)). l ++ rest) (append-nil rows)
put_either pc (Some frame) rows rest = append_assoc rows ((pc, frame) ∷ []) rest

pub goes_on : (w : List Shape) (method : MethodId) (body : Body) (maps : List (ℕ × Frame)) (begun before next : Option Frame) (rows : List (ℕ × Frame)) (n : ℕ) (row : ℕ × Insn)
    → n < length body.insns → row ≡ get_or body.insns n row → ForcesOn w method body maps begun before rows n
    → IsLeft w method body maps row.0 row.1 (forced_here (at_offset row.0 maps) before) next
    → ForcesOn w method body maps begun next (rows ++ with_frame row.0 (forced_here (at_offset row.0 maps) before) []) (n + 1)
goes_on w method body maps begun before next rows n row below is so_far leaves =
    let here = forced_here (at_offset row.0 maps) before in
    record {
      makes = λ rest h.
          let now : AreForcedFrom w method body maps before (row ∷ drop (n + 1) body.insns) (with_frame row.0 here rest) = (next, rest, leaves, h, refl) in
          rw (put_either row.0 here rows rest) (so_far.makes (with_frame row.0 here rest)
          (subst (λ (is : List (ℕ × Insn)). AreForcedFrom w method body maps before is (with_frame row.0 here rest)) (sym (drop_one body.insns n row below is)) now));
    }

pub ends : (w : List Shape) (method : MethodId) (body : Body) (maps : List (ℕ × Frame)) (begun before : Option Frame) (rows : List (ℕ × Frame)) (n : ℕ) → length body.insns ≤ n
    → ForcesOn w method body maps begun before rows n → AreForcedFrom w method body maps begun body.insns rows
ends w method body maps begun before rows n past so_far =
    subst (AreForcedFrom w method body maps begun body.insns) (append-nil rows)
    (so_far.makes [] (subst (λ (is : List (ℕ × Insn)). AreForcedFrom w method body maps before is []) (sym (drop_all n body.insns past)) refl))
