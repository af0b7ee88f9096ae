use Rattle.std.proofs.Common.{[], ◌++◌, OnOk, subst}
use Rattle.std.specs.Option.{option_map_or}
use Rattle.std.specs.Rc.{rc_slice_items}
use Rattle.wc_resolve.specs.Roots.{param_roots, static_roots, type_roots}
use Rattle.wc_ways.specs.Private.Needs.{Finds}
use Rattle.wc_ways.proofs.NeedLemmas.{finds_both_on_ok, function_types}
use Rattle.wc_ways.proofs.needs.note_function.Goals as goal

pub returns : goal.returns
returns c =
    let g = c.args.needing.now in
    let f = c.args.function.now in
    let old = c.args.found.now in
    let static = c.note_static.new.found in
    let params = c.note_params.new.found in
    let new = c.note_result.new.found in
    let back = option_map_or type_roots f.result [] in
    subst (λ z. OnOk c.note_result.result (Finds g old new z)) (function_types f.kind (rc_slice_items f.params) c.deref.result.now back c.deref.ensures.value)
    (finds_both_on_ok g old static new (static_roots f.kind) (param_roots c.deref.result.now ++ back) c.note_result.result c.in_ok-note_static.ensures
    (finds_both_on_ok g static params new (param_roots c.deref.result.now) back c.note_result.result c.in_ok-note_params.ensures c.note_result.ensures))
