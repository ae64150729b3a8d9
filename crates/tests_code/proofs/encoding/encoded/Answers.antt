-- A body that may be encoded.
use Rattle.tests_code.proofs.Encodings.{may_of}
use Rattle.tests_code.proofs.encoding.encoded.Goals as goal

pub encode-requires : goal.encode-requires
encode-requires c = may_of c.may_encode.new.pool c.args.body.now c.requires (c.in_ok-may_encode.ensures c.if-not-branch.false)
