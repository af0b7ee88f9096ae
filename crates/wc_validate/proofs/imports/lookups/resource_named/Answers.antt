use Rattle.std.proofs.Common.{sym}
use Rattle.wc_validate.proofs.ScopeLemmas.{type_in_range}
use Rattle.wc_validate.proofs.imports.lookups.resource_named.Goals as goal

pub if_resource-requires : goal.if_resource-requires
if_resource-requires c =
    let there = rw c.in-Some.is at c.in_ok-id.ensures in
    type_in_range _ _ c.requires.index _ c.args.name.now c.in-Some.id.0 c.well_formedness.ensures c.requires.is_world (sym there)
