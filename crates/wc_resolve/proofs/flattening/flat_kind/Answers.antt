use Rattle.wc_resolve.proofs.NamedListLemmas.{named_values}
use Rattle.wc_resolve.proofs.flattening.flat_kind.Goals as goal

pub returns-in-Record : goal.returns-in-Record
returns-in-Record c = rw (c.in-Record.is, ← c.deref.ensures.value, named_values c.deref.result.now) c.flat_fields.ensures
