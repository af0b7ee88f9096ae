use Rattle.std.proofs.Common.{OnOk, subst}
use Rattle.wc_resolve.specs.Roots.{named_function_roots, named_type_roots}
use Rattle.wc_ways.specs.Private.Needs.{Finds}
use Rattle.wc_ways.proofs.NeedLemmas.{finds_both_on_ok, interface_types_are}
use Rattle.wc_ways.proofs.needs.note_contents.Goals as goal

pub returns : goal.returns
returns c =
    let g = c.args.needing.now in
    let v = c.args.interface.now in
    subst (λ z. OnOk c.note_functions.result (Finds g c.args.found.now c.note_functions.new.found z)) (interface_types_are v)
    (finds_both_on_ok g c.args.found.now c.note_types.new.found c.note_functions.new.found (named_type_roots v.types.entries) (named_function_roots v.functions.entries)
    c.note_functions.result c.in_ok-note_types.ensures c.note_functions.ensures)
