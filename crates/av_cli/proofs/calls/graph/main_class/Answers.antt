use Rattle.std.proofs.Common.{◌↔◌, ◌≡◌, true, false, IsTrue, refl, arith}
use Rattle.av_cli.proofs.CallsGraphs.{outside_form, lacks_main}
use Rattle.av_cli.proofs.calls.graph.main_class.Goals as goal

-- a test that failed
false_is : {P : Type 0} → IsTrue false ↔ P → ¬ P
false_is tells = λ p. let both : false ≡ true = tells.1 p in absurd cc

pub returns-in-Err-Malformed : goal.returns-in-Err-Malformed
returns-in-Err-Malformed c = (
  λ large. omega (arith, large, c.if-bytes-gt-FILE_LIMIT.false),
  c.in_ok-is_class.ensures.0 c.if-not-is_class.false,
  outside_form c.args.name.now c.args.bytes.now c.in-Err-Malformed.field-0 c.in-Err-Malformed.field-0-is c.in-Err-Malformed.ensures.malformed,
)

pub returns-then-not-declares_main : goal.returns-then-not-declares_main
returns-then-not-declares_main c =
    lacks_main c.args.name.now c.args.bytes.now c.in-Ok.class c.one_object_class.ensures (c.in_ok-is_class.ensures.0 c.if-not-is_class.false) c.in-Ok.ensures.found
    (λ main. false_is c.if-not-declares_main.ensures main)

pub returns : goal.returns
returns c = record {
  class_file = c.in_ok-is_class.ensures.0 c.if-not-is_class.false;
  is_class = c.in-Ok.ensures.found;
  main = c.if-not-declares_main.ensures.0 refl;
}
