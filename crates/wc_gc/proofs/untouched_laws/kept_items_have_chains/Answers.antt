use Rattle.wc_gc.proofs.ChainLemmas.{exports_required, items_have_chains}
use Rattle.wc_gc.proofs.untouched_laws.kept_items_have_chains.Goals as goal

pub returns-clause-exports : goal.returns-clause-exports
returns-clause-exports c = exports_required

pub returns-clause-items : goal.returns-clause-items
returns-clause-items c = items_have_chains
