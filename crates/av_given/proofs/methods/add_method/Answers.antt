use Rattle.std.proofs.Common.{◌≡◌, Some, None, sym}
use Rattle.jv_class.specs.MethodCodes.{code_in}
use Rattle.av_given.proofs.Names.{no_code_body, no_code_names, short_code}
use Rattle.av_given.proofs.methods.add_method.Goals as goal

pub returns-in-None-clause-maps : goal.returns-in-None-clause-maps
returns-in-None-clause-maps c =
    let none : code_in c.args.member.now.attrs ≡ None = sym c.in-None.ensures in
    no_code_names c.args.class.now c.args.member.now c.args.found.maps.items none

pub returns-in-None-clause-bodies : goal.returns-in-None-clause-bodies
returns-in-None-clause-bodies c =
    let none : code_in c.args.member.now.attrs ≡ None = sym c.in-None.ensures in
    no_code_body c.args.class.now c.args.index c.args.member.now c.args.found.bodies.items none

pub add_code-requires-clause-short : goal.add_code-requires-clause-short
add_code-requires-clause-short c =
    let has : code_in c.args.member.now.attrs ≡ Some c.in-Some.code.now = sym c.in-Some.ensures in
    short_code c.args.class.now c.args.member.now c.in-Some.code.now c.requires.file c.requires.among has

pub add_code-requires-clause-has : goal.add_code-requires-clause-has
add_code-requires-clause-has c = sym c.in-Some.ensures
