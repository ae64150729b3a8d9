-- The operands of a switch that are read are spelled so, and what is spelled so is read.
use Rattle.std.proofs.Common.{◌≡◌, ℕ, ◌^◌, ◌<◌, ℤ, List, ◌++◌, length, Option, Some, refl, sym, ap, subst, ◌∙◌, append_assoc}
use Rattle.std.specs.Prelude.{FitsSigned}
use Rattle.std.specs.Int.{w32}
use Rattle.std.specs.List.{flat_map}
use Rattle.jv_bytes.specs.Numbers.{number_text}
use Rattle.jv_read.specs.Reading.{◌>>=◌, bytes_at, many_at}
use Rattle.jv_read.proofs.Fronts.{bind_some, bind_is, given_as, joined, bytes_take, bytes_again}
use Rattle.jv_read.proofs.Many.{many_take, many_again}
use Rattle.jv_insn.specs.declared.written.Operands.{Operands}
use Rattle.jv_insn.specs.declared.written.Operands.TheVariants.{Table, Lookup}
use Rattle.jv_insn.specs.Layouts.{s4_text, pair_text, IsPair, padding_at, IsTable, IsLookup}
use Rattle.jv_insn.specs.Steps.Reading.{s4_at, pair_at, span_of, count_at, table_at, lookup_at}
use Rattle.jv_insn.proofs.Spelled.{Takes, s4_takes, s4_again, pair_takes, pair_again, span_takes, span_again, count_takes, count_again}

-- ---- a tableswitch

-- from the count on
abbrev offsets_from : ℤ → ℤ → ℕ → List ℕ → Option (Operands × List ℕ)
offsets_from default low count bytes = many_at s4_at count bytes >>= λ offsets. Some (Table default low offsets.0, offsets.1)

-- from the low value on
abbrev span_from : ℤ → ℤ → ℤ × List ℕ → Option (Operands × List ℕ)
span_from default low high = span_of low high.0 >>= λ count. offsets_from default low count high.1

abbrev high_from : ℤ → ℤ × List ℕ → Option (Operands × List ℕ)
high_from default low = s4_at low.1 >>= λ high. span_from default low.0 high

abbrev low_from : ℤ × List ℕ → Option (Operands × List ℕ)
low_from default = s4_at default.1 >>= λ low. high_from default.0 low

abbrev table_from : List ℕ × List ℕ → Option (Operands × List ℕ)
table_from padding = s4_at padding.1 >>= low_from

pub table_takes : (at : ℕ) (bytes : List ℕ) (x : Operands × List ℕ) → table_at at bytes ≡ Some x → Takes (IsTable at) bytes x
unfolding table_at
table_takes at bytes x e =
    let p = bind_some (bytes_at (padding_at at) bytes) table_from x e in
    let d = bind_some (s4_at p.0.1) low_from x p.2 in
    let l = bind_some (s4_at d.0.1) (high_from d.0.0) x d.2 in
    let h = bind_some (s4_at l.0.1) (span_from d.0.0 l.0.0) x l.2 in
    let n = bind_some (span_of l.0.0 h.0.0) (λ count. offsets_from d.0.0 l.0.0 count h.0.1) x h.2 in
    let o = bind_some (many_at s4_at n.0 h.0.1) (λ offsets. Some (Table d.0.0 l.0.0 offsets.0, offsets.1)) x n.2 in
    let pt = bytes_take (padding_at at) bytes p.0 p.1 in
    let dt = s4_takes p.0.1 d.0 d.1 in
    let lt = s4_takes d.0.1 l.0 l.1 in
    let ht = s4_takes l.0.1 h.0 h.1 in
    let nt = span_takes l.0.0 h.0.0 n.0 n.1 in
    let ot = many_take s4_at s4_text (FitsSigned w32) s4_takes n.0 h.0.1 o.0 o.1 in
    let made : Operands × List ℕ = (Table d.0.0 l.0.0 o.0.0, o.0.1) in
    let high_on : l.0.1 ≡ (s4_text h.0.0 ++ flat_map s4_text o.0.0) ++ o.0.1 = joined l.0.1 (s4_text h.0.0) (flat_map s4_text o.0.0) h.0.1 o.0.1 ht.1 ot.2 in
    let low_on : d.0.1 ≡ (s4_text l.0.0 ++ (s4_text h.0.0 ++ flat_map s4_text o.0.0)) ++ o.0.1 = joined d.0.1 (s4_text l.0.0) (s4_text h.0.0 ++ flat_map s4_text o.0.0) l.0.1 o.0.1 lt.1 high_on in
    let default_on : p.0.1 ≡ (s4_text d.0.0 ++ (s4_text l.0.0 ++ (s4_text h.0.0 ++ flat_map s4_text o.0.0))) ++ o.0.1 = joined p.0.1 (s4_text d.0.0) (s4_text l.0.0 ++ (s4_text h.0.0 ++ flat_map s4_text o.0.0)) d.0.1 o.0.1 dt.1 low_on in
    given_as (λ (y : Operands × List ℕ). Takes (IsTable at) bytes y) made x o.2
    (record {
      front = p.0.0 ++ (s4_text d.0.0 ++ (s4_text l.0.0 ++ (s4_text h.0.0 ++ flat_map s4_text o.0.0)));
      holds = record {
        padding = p.0.0;
        default = d.0.0;
        low = l.0.0;
        high = h.0.0;
        offsets = o.0.0;
        aligned = pt.1;
        default_fits = dt.0;
        low_fits = lt.0;
        high_fits = ht.0;
        each_fits = ot.0;
        in_order = nt.0;
        count = ot.1 ∙ nt.1;
        spelled = refl;
        made = refl;
      };
      parts = joined bytes p.0.0 (s4_text d.0.0 ++ (s4_text l.0.0 ++ (s4_text h.0.0 ++ flat_map s4_text o.0.0))) p.0.1 o.0.1 pt.0 default_on;
    })

-- five parts and what is behind them
regroup : (p d l h o rest : List ℕ) → (p ++ (d ++ (l ++ (h ++ o)))) ++ rest ≡ p ++ (d ++ (l ++ (h ++ (o ++ rest))))
regroup p d l h o rest = simp append_assoc

pub table_again : (at : ℕ) (text : List ℕ) (operands : Operands) (rest : List ℕ) → IsTable at text operands → table_at at (text ++ rest) ≡ Some (operands, rest)
unfolding table_at
table_again at text operands rest t =
    let p = t.padding in
    let d = s4_text t.default in
    let l = s4_text t.low in
    let h = s4_text t.high in
    let o = flat_map s4_text t.offsets in
    rw (t.spelled, t.made)
    (ap (λ (bytes : List ℕ). bytes_at (padding_at at) bytes >>= table_from) (regroup p d l h o rest)
    ∙ bind_is (bytes_at (padding_at at) (p ++ (d ++ (l ++ (h ++ (o ++ rest)))))) table_from (p, d ++ (l ++ (h ++ (o ++ rest)))) (bytes_again p (d ++ (l ++ (h ++ (o ++ rest)))) (padding_at at) t.aligned)
    ∙ bind_is (s4_at (d ++ (l ++ (h ++ (o ++ rest))))) low_from (t.default, l ++ (h ++ (o ++ rest))) (s4_again t.default (l ++ (h ++ (o ++ rest))) t.default_fits)
    ∙ bind_is (s4_at (l ++ (h ++ (o ++ rest)))) (high_from t.default) (t.low, h ++ (o ++ rest)) (s4_again t.low (h ++ (o ++ rest)) t.low_fits)
    ∙ bind_is (s4_at (h ++ (o ++ rest))) (span_from t.default t.low) (t.high, o ++ rest) (s4_again t.high (o ++ rest) t.high_fits)
    ∙ bind_is (span_of t.low t.high) (λ count. offsets_from t.default t.low count (o ++ rest)) (length t.offsets) (span_again t.low t.high (length t.offsets) t.in_order t.count)
    ∙ bind_is (many_at s4_at (length t.offsets) (o ++ rest)) (λ offsets. Some (Table t.default t.low offsets.0, offsets.1)) (t.offsets, rest) (many_again s4_at s4_text (FitsSigned w32) s4_again t.offsets rest t.each_fits))

-- ---- a lookupswitch

abbrev cases_from : ℤ → ℕ × List ℕ → Option (Operands × List ℕ)
cases_from default count = many_at pair_at count.0 count.1 >>= λ cases. Some (Lookup default cases.0, cases.1)

abbrev count_from : ℤ × List ℕ → Option (Operands × List ℕ)
count_from default = count_at default.1 >>= cases_from default.0

abbrev lookup_from : List ℕ × List ℕ → Option (Operands × List ℕ)
lookup_from padding = s4_at padding.1 >>= count_from

pub lookup_takes : (at : ℕ) (bytes : List ℕ) (x : Operands × List ℕ) → lookup_at at bytes ≡ Some x → Takes (IsLookup at) bytes x
unfolding lookup_at
lookup_takes at bytes x e =
    let p = bind_some (bytes_at (padding_at at) bytes) lookup_from x e in
    let d = bind_some (s4_at p.0.1) count_from x p.2 in
    let n = bind_some (count_at d.0.1) (cases_from d.0.0) x d.2 in
    let c = bind_some (many_at pair_at n.0.0 n.0.1) (λ cases. Some (Lookup d.0.0 cases.0, cases.1)) x n.2 in
    let pt = bytes_take (padding_at at) bytes p.0 p.1 in
    let dt = s4_takes p.0.1 d.0 d.1 in
    let nt = count_takes d.0.1 n.0 n.1 in
    let ct = many_take pair_at pair_text IsPair pair_takes n.0.0 n.0.1 c.0 c.1 in
    let counted : d.0.1 ≡ number_text 4 (length c.0.0) ++ n.0.1 = nt.1 ∙ ap (λ (k : ℕ). number_text 4 k ++ n.0.1) (sym ct.1) in
    let few : length c.0.0 < 2 ^ 31 = subst (λ (k : ℕ). k < 2 ^ 31) (sym ct.1) nt.0 in
    let made : Operands × List ℕ = (Lookup d.0.0 c.0.0, c.0.1) in
    let count_on : d.0.1 ≡ (number_text 4 (length c.0.0) ++ flat_map pair_text c.0.0) ++ c.0.1 = joined d.0.1 (number_text 4 (length c.0.0)) (flat_map pair_text c.0.0) n.0.1 c.0.1 counted ct.2 in
    let default_on : p.0.1 ≡ (s4_text d.0.0 ++ (number_text 4 (length c.0.0) ++ flat_map pair_text c.0.0)) ++ c.0.1 = joined p.0.1 (s4_text d.0.0) (number_text 4 (length c.0.0) ++ flat_map pair_text c.0.0) d.0.1 c.0.1 dt.1 count_on in
    given_as (λ (y : Operands × List ℕ). Takes (IsLookup at) bytes y) made x c.2
    (record {
      front = p.0.0 ++ (s4_text d.0.0 ++ (number_text 4 (length c.0.0) ++ flat_map pair_text c.0.0));
      holds = record {
        padding = p.0.0;
        default = d.0.0;
        cases = c.0.0;
        aligned = pt.1;
        default_fits = dt.0;
        each_fits = ct.0;
        count = few;
        spelled = refl;
        made = refl;
      };
      parts = joined bytes p.0.0 (s4_text d.0.0 ++ (number_text 4 (length c.0.0) ++ flat_map pair_text c.0.0)) p.0.1 c.0.1 pt.0 default_on;
    })

regroup_four : (p d n c rest : List ℕ) → (p ++ (d ++ (n ++ c))) ++ rest ≡ p ++ (d ++ (n ++ (c ++ rest)))
regroup_four p d n c rest = simp append_assoc

pub lookup_again : (at : ℕ) (text : List ℕ) (operands : Operands) (rest : List ℕ) → IsLookup at text operands → lookup_at at (text ++ rest) ≡ Some (operands, rest)
unfolding lookup_at
lookup_again at text operands rest t =
    let p = t.padding in
    let d = s4_text t.default in
    let n = number_text 4 (length t.cases) in
    let c = flat_map pair_text t.cases in
    rw (t.spelled, t.made)
    (ap (λ (bytes : List ℕ). bytes_at (padding_at at) bytes >>= lookup_from) (regroup_four p d n c rest)
    ∙ bind_is (bytes_at (padding_at at) (p ++ (d ++ (n ++ (c ++ rest))))) lookup_from (p, d ++ (n ++ (c ++ rest))) (bytes_again p (d ++ (n ++ (c ++ rest))) (padding_at at) t.aligned)
    ∙ bind_is (s4_at (d ++ (n ++ (c ++ rest)))) count_from (t.default, n ++ (c ++ rest)) (s4_again t.default (n ++ (c ++ rest)) t.default_fits)
    ∙ bind_is (count_at (n ++ (c ++ rest))) (cases_from t.default) (length t.cases, c ++ rest) (count_again (length t.cases) (c ++ rest) t.count)
    ∙ bind_is (many_at pair_at (length t.cases) (c ++ rest)) (λ cases. Some (Lookup t.default cases.0, cases.1)) (t.cases, rest) (many_again pair_at pair_text IsPair pair_again t.cases rest t.each_fits))
