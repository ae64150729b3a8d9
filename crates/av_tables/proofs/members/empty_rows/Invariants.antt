use Rattle.std.proofs.Common.{◌≡◌, ℕ, List, [], Some, length, slice_get}
use Rattle.av_tables.specs.declared.member.Member.{Member}
use Rattle.av_tables.proofs.members.empty_rows.Given as goal

abbrev pub invariant-loop-place : goal.invariant-loop-place
invariant-loop-place l = record {
  count : length l.rows.items ≡ l.place;
  empty : (s : ℕ) (row : List Member) → slice_get l.rows.items s ≡ Some row → row ≡ [];
}
