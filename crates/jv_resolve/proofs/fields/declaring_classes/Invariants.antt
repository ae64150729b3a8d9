-- The list has those of the supertypes so far that declare the field.
use Rattle.jv_resolve.proofs.FieldLemmas.{AreDeclaringSoFar}
use Rattle.jv_resolve.proofs.fields.declaring_classes.Given as goal

abbrev pub invariant-loop-d : goal.invariant-loop-d
invariant-loop-d l = AreDeclaringSoFar l.world l.c.number l.name l.desc l.supers l.d-index l.found.items
