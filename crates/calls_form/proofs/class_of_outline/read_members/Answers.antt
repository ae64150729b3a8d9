-- Each step that fails says that there is no class, and what all of them found are its members.
use Rattle.std.proofs.Common.{◌∙◌, sym, ap, subst, map, List, Some, None, Err, All}
use Rattle.std.proofs.lemmas.Result.{err_from_is_err_and}
use Rattle.calls_form.specs.declared.class_of_heads.Head.{Head}
use Rattle.calls_form.specs.declared.object_class.Field.{Field}
use Rattle.calls_form.specs.declared.object_class.Method.{Method}
use Rattle.calls_form.specs.Classes.{IsBytes}
use Rattle.calls_form.specs.ClassesBodies.{target_in}
use Rattle.calls_form.specs.ClassesHeads.{heading_of, headings_of, headings_at, each, field_at, method_at}
use Rattle.calls_form.specs.ClassesPlaces.{AreApart}
use Rattle.calls_form.specs.ClassesClass.{field_texts, heading_texts}
use Rattle.calls_form.proofs.ClassesSteps.{err_is, failed_read}
use Rattle.calls_form.proofs.ClassesOutline.{no_fields, unnamed, unread, fields_apart_in, methods_apart_in, at_fields, at_heads, table_of, methods_of, members_found, few_fields_of, few_heads_of}
use Rattle.calls_form.proofs.class_of_outline.read_members.Goals as goal

pub returns-in_err-fields-clause-malformed : goal.returns-in_err-fields-clause-malformed
returns-in_err-fields-clause-malformed c = λ e d h.
    let p = err_from_is_err_and c.from_residual.result c.from_residual.ensures.1 in
    let o = c.args.outline.now in
    let name = c.args.name.now in
    let read = failed_read c.from_residual.result p.0 c.in_err-fields.field-0.0 (each (field_at c.as_slice-pool.result.now name) c.as_slice.result.now) p.1 p.2 e c.in_err-fields.ensures in
    no_fields name o d (at_fields c.as_slice-pool.result.now o.pool name c.as_slice.result.now o.fields None c.as_slice-pool.ensures c.as_slice.ensures read) h

pub returns-in_err-heads-clause-malformed : goal.returns-in_err-heads-clause-malformed
returns-in_err-heads-clause-malformed c = λ e d h.
    let p = err_from_is_err_and c.from_residual-in_err-heads.result c.from_residual-in_err-heads.ensures.1 in
    let o = c.args.outline.now in
    let read = failed_read c.from_residual-in_err-heads.result p.0 c.in_err-heads.field-0.0 (headings_at c.as_slice-pool.result.now c.as_slice-2.result.now) p.1 p.2 e c.in_err-heads.ensures in
    unnamed c.args.name.now o d (at_heads c.as_slice-pool.result.now o.pool c.as_slice-2.result.now o.methods None c.as_slice-pool.ensures c.as_slice-2.ensures read) h

pub read_all_targets-requires-clause-few_fields : goal.read_all_targets-requires-clause-few_fields
read_all_targets-requires-clause-few_fields c =
    few_fields_of c.as_slice-pool.result.now c.args.name.now c.as_slice.result.now c.args.outline.now.fields c.in_ok-fields.fields.items c.deref.result.now c.as_slice.ensures c.in_ok-fields.ensures c.deref.ensures.value c.requires.few_fields

pub read_all_targets-requires-clause-few_methods : goal.read_all_targets-requires-clause-few_methods
read_all_targets-requires-clause-few_methods c =
    few_heads_of c.as_slice-pool.result.now c.as_slice-2.result.now c.args.outline.now.methods c.in_ok-heads.heads.items c.deref-2.result.now c.as_slice-2.ensures c.in_ok-heads.ensures c.deref-2.ensures.value c.requires.few_methods

pub returns-in_err-targets-clause-malformed : goal.returns-in_err-targets-clause-malformed
returns-in_err-targets-clause-malformed c = λ e d h.
    let p = err_from_is_err_and c.from_residual-in_err-targets.result c.from_residual-in_err-targets.ensures.1 in
    let o = c.args.outline.now in
    let name = c.args.name.now in
    let pool = c.as_slice-pool.result.now in
    let is = err_is c.from_residual-in_err-targets.result p.0 c.in_err-targets.field-0.0 p.1 p.2 e in
    let fields = c.in_ok-fields.fields.items in
    let heads = c.in_ok-heads.heads.items in
    let read = at_fields pool o.pool name c.as_slice.result.now o.fields (Some fields) c.as_slice-pool.ensures c.as_slice.ensures c.in_ok-fields.ensures in
    let headings = at_heads pool o.pool c.as_slice-2.result.now o.methods (Some (headings_of heads)) c.as_slice-pool.ensures c.as_slice-2.ensures c.in_ok-heads.ensures in
    let apart_fields = subst (λ (xs : List Field). AreApart (map field_texts xs)) (sym c.deref.ensures.value) (fields_apart_in name o d fields read h) in
    let apart_methods = subst (λ (hs : List Head). AreApart (map heading_texts (headings_of hs))) (sym c.deref-2.ensures.value) (methods_apart_in name o d (headings_of heads) headings h) in
    c.in_err-targets.ensures.malformed (ap (λ x. Err x) is) apart_fields apart_methods

pub returns-in_err-methods-clause-malformed : goal.returns-in_err-methods-clause-malformed
returns-in_err-methods-clause-malformed c = λ e d h.
    let p = err_from_is_err_and c.from_residual-in_err-methods.result c.from_residual-in_err-methods.ensures.1 in
    let o = c.args.outline.now in
    let name = c.args.name.now in
    let pool = c.as_slice-pool.result.now in
    let fields = c.in_ok-fields.fields.items in
    let heads = c.in_ok-heads.heads.items in
    let items = c.in_ok-targets.targets.items in
    let read = at_fields pool o.pool name c.as_slice.result.now o.fields (Some fields) c.as_slice-pool.ensures c.as_slice.ensures c.in_ok-fields.ensures in
    let headings = at_heads pool o.pool c.as_slice-2.result.now o.methods (Some (headings_of heads)) c.as_slice-pool.ensures c.as_slice-2.ensures c.in_ok-heads.ensures in
    let agrees = table_of pool o.pool name c.deref.result.now fields c.deref-2.result.now heads (target_in items) c.as_slice-pool.ensures c.deref.ensures.value c.deref-2.ensures.value c.in_ok-targets.ensures.table in
    let failed = failed_read c.from_residual-in_err-methods.result p.0 c.in_err-methods.field-0.0 (each (λ (x : Head). method_at name (target_in c.deref-3.result.now) (heading_of x)) c.deref-4.result.now) p.1 p.2 e c.in_err-methods.ensures.gives in
    let none = methods_of name c.deref-4.result.now heads c.deref-3.result.now items None c.deref-4.ensures.value c.deref-3.ensures.value failed in
    unread name o d fields (headings_of heads) (target_in items) read headings agrees none h

pub returns-clause-found : goal.returns-clause-found
returns-clause-found c =
    let o = c.args.outline.now in
    let name = c.args.name.now in
    let pool = c.as_slice-pool.result.now in
    let fields = c.in_ok-fields.fields.items in
    let heads = c.in_ok-heads.heads.items in
    let items = c.in_ok-targets.targets.items in
    let read = at_fields pool o.pool name c.as_slice.result.now o.fields (Some fields) c.as_slice-pool.ensures c.as_slice.ensures c.in_ok-fields.ensures in
    let headings = at_heads pool o.pool c.as_slice-2.result.now o.methods (Some (headings_of heads)) c.as_slice-pool.ensures c.as_slice-2.ensures c.in_ok-heads.ensures in
    let agrees = table_of pool o.pool name c.deref.result.now fields c.deref-2.result.now heads (target_in items) c.as_slice-pool.ensures c.deref.ensures.value c.deref-2.ensures.value c.in_ok-targets.ensures.table in
    let apart_fields = subst (λ (xs : List Field). AreApart (map field_texts xs)) c.deref.ensures.value c.in_ok-targets.ensures.fields_apart in
    let apart_methods = subst (λ (hs : List Head). AreApart (map heading_texts (headings_of hs))) c.deref-2.ensures.value c.in_ok-targets.ensures.methods_apart in
    let methods = methods_of name c.deref-4.result.now heads c.deref-3.result.now items (Some c.in_ok-methods.methods.items) c.deref-4.ensures.value c.deref-3.ensures.value c.in_ok-methods.ensures.gives in
    let fits = subst (All (λ (x : Head). IsBytes x.code.now)) c.deref-4.ensures.value c.in_ok-methods.ensures.bytes in
    members_found name o (record { name = c.in_ok-from_slice.field-0; fields = c.from_vec.result; methods = c.from_vec-2.result }) fields heads (target_in items) c.in_ok-from_slice.ensures c.from_vec.ensures read headings agrees apart_fields apart_methods
    (methods ∙ ap (λ (ms : List Method). Some ms) (sym c.from_vec-2.ensures)) fits
