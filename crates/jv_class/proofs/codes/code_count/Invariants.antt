-- How many of those so far are a method's code.
use Rattle.std.proofs.Common.{◌≡◌, ◌≤◌, take, count_by}
use Rattle.jv_class.specs.ClassTexts.{has_code}
use Rattle.jv_class.proofs.codes.code_count.Given as goal

abbrev pub invariant-loop-attr : goal.invariant-loop-attr
invariant-loop-attr l = record { few : l.count ≤ l.attr-index; counted : l.count ≡ count_by has_code (take l.attr-index l.attrs) }
