-- A file adds its name where there is room and it is a class file under the root.
use Rattle.std.proofs.Common.{rules, ◌<◌, ◌≤◌, [], ◌∷◌, ◌++◌, length, arith, ap, sym, ◌∙◌}
use Rattle.std.proofs.lemmas.Grind.{common_steps}
use Rattle.jv_host.specs.Files.{class_names}
use Rattle.jv_host.proofs.ClassNames.{names-taken, names-full, names-passed}
use Rattle.jv_host.proofs.mem_host.names_under.Goals as goal
use Rattle.jv_host.proofs.mem_host.names_under.Goals.{then-len-most+then-is_class_file+in_ok-copy+in_ok-push, else-len-most, else-len-most-via-then-len-most+else-is_class_file, else-len-most-via-else-len-most}

pub loop-file-init : goal.loop-file-init
unfolding class_names
loop-file-init c = grind (arith, common_steps)

pub loop-file-preserved : goal.loop-file-preserved
loop-file-preserved c = elim c.if-len-most.branch [
  | then-len-most+then-is_class_file+in_ok-copy+in_ok-push w ↦
      let room : length c.loop-file.names.items < c.args.most = search rules in
      let step = names-taken c.loop-file.names.items c.args.files.now c.loop-file.file-index c.args.root.now c.file-item.result c.args.most c.loop-file-test.true c.file-item.is c.loop-file.invariant room (sym w.is_class_file.ensures ∙ w.if-is_class_file.true) in
      ap (λ v. v.items) w.names-is ∙ (w.in_ok-push.ensures.items ∙ (ap (λ n. c.loop-file.names.items ++ n ∷ []) w.in_ok-copy.ensures ∙ step))
  | else-len-most w ↦ elim w.else-len-most.branch [
    | else-len-most-via-then-len-most+else-is_class_file w' ↦
        ap (λ v. v.items) w.names-is ∙ names-passed c.loop-file.names.items c.args.files.now c.loop-file.file-index c.args.root.now c.file-item.result c.args.most c.loop-file-test.true c.file-item.is c.loop-file.invariant (sym w'.is_class_file.ensures ∙ w'.if-is_class_file.false)
    | else-len-most-via-else-len-most w' ↦
        let full : c.args.most ≤ length c.loop-file.names.items = search rules in
        ap (λ v. v.items) w.names-is ∙ names-full c.loop-file.names.items c.args.files.now c.loop-file.file-index c.args.root.now c.file-item.result c.args.most c.loop-file-test.true c.file-item.is c.loop-file.invariant full
  ]
]
