use Rattle.wc_resolve.proofs.NamedListLemmas.{named_values, named_options}
use Rattle.wc_resolve.proofs.kinds.contained_types.Goals as goal

pub returns-in-Record : goal.returns-in-Record
returns-in-Record c = rw (c.in-Record.is, ← c.deref.ensures.value, named_values c.deref.result.now) c.field_types.ensures

pub returns-in-Variant : goal.returns-in-Variant
returns-in-Variant c = rw (c.in-Variant.is, ← c.deref-in-Variant.ensures.value, named_options c.deref-in-Variant.result.now) c.payload_types.ensures
