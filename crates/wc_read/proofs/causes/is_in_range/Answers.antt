use Rattle.std.proofs.Common.{◌≡◌, ◌∙◌, length, rules}
use Rattle.wc_read.proofs.CausesLemmas.{exports_in_range, globals_in_range, imports_in_range, types_in_range}
use Rattle.wc_read.proofs.causes.is_in_range.Goals as goal

pub returns-in-1 : goal.returns-in-1
returns-in-1 c =
    let n : c.len-types.result ≡ length c.args.parts.now.types.items = search rules in
    rw c.in-1.is (types_in_range c.args.parts.now c.len-types.result n c.types_name_types.result _ c.types_name_types.ensures c.deref.ensures.value)

pub returns-in-2 : goal.returns-in-2
returns-in-2 c =
    let n : c.len-types.result ≡ length c.args.parts.now.types.items = search rules in
    rw c.in-2.is (imports_in_range c.args.parts.now c.len-types.result n c.imports_name_types.result _ c.imports_name_types.ensures c.deref-in-2.ensures.value)

pub returns-in-6 : goal.returns-in-6
returns-in-6 c =
    let n : c.len-types.result ≡ length c.args.parts.now.types.items = search rules in
    rw c.in-6.is (globals_in_range c.args.parts.now c.len-types.result n c.globals_name_types.result _ c.globals_name_types.ensures c.deref-in-6.ensures.value)

pub returns-in-7 : goal.returns-in-7
returns-in-7 c = rw c.in-7.is (exports_in_range c.args.parts.now c.counts.result c.name_items.result _ c.counts.ensures c.name_items.ensures c.deref-in-7.ensures.value)
