-- What operands name goes by their kind.
use Rattle.std.proofs.Common.{rules}
use Rattle.std.specs.Int.{w32}
use mir.Val.{SFits, to_z, of_z}
use Rattle.jv_insn.specs.Meanings.{NamesJump, NamesTable, NamesLookup}
use Rattle.jv_names.specs.Finding.{Finds}
use Rattle.jv_insn.proofs.Bits.{of_bits}
use Rattle.jv_insn.proofs.operands.arg_of.Goals as goal

pub returns-in-Called : goal.returns-in-Called
returns-in-Called c = rw c.in-Called.is c.called_arg.ensures

pub returns-in-Site : goal.returns-in-Site
returns-in-Site c = rw c.in-Site.is c.site_arg.ensures

pub returns-in-NewPrim : goal.returns-in-NewPrim
returns-in-NewPrim c = rw c.in-NewPrim.is c.prim_arg.ensures

pub returns-in-Multi : goal.returns-in-Multi
returns-in-Multi c = rw c.in-Multi.is c.multi_arg.ensures

pub returns-in-Jump : goal.returns-in-Jump
returns-in-Jump c =
    let fits : SFits w32 c.in-Jump.offset = search rules in
    rw c.in-Jump.is (of_bits (λ n. Finds (NamesJump c.args.rows.now c.args.pc n) c.jump_arg.result) c.in-Jump.offset fits c.jump_arg.ensures)

pub returns-in-Table : goal.returns-in-Table
returns-in-Table c =
    let default : SFits w32 c.in-Table.default = search rules in
    let low : SFits w32 c.in-Table.low = search rules in
    let named = rw c.as_slice.ensures at c.table_arg.ensures in
    let by_default = of_bits (λ n. Finds (NamesTable c.args.rows.now c.args.pc n (to_z w32 (of_z w32 c.in-Table.low)) c.in-Table.offsets) c.table_arg.result) c.in-Table.default default named in
    rw c.in-Table.is (of_bits (λ n. Finds (NamesTable c.args.rows.now c.args.pc c.in-Table.default n c.in-Table.offsets) c.table_arg.result) c.in-Table.low low by_default)

pub returns-in-Lookup : goal.returns-in-Lookup
returns-in-Lookup c =
    let default : SFits w32 c.in-Lookup.default = search rules in
    let named = rw c.as_slice-in-Lookup.ensures at c.lookup_arg.ensures in
    rw c.in-Lookup.is (of_bits (λ n. Finds (NamesLookup c.args.rows.now c.args.pc n c.in-Lookup.cases) c.lookup_arg.result) c.in-Lookup.default default named)
