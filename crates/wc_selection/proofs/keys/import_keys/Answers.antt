use Rattle.semver.specs.Identifiers.{parts_text}
use Rattle.wc_resolve.specs.Views.{world_view}
use Rattle.wc_resolve.proofs.WellFormedLemmas.{import_keys_have_texts, import_keys_in}
use Rattle.wc_selection.proofs.keys.import_keys.Goals as goal

pub named_keys-requires-clause-there : goal.named_keys-requires-clause-there
named_keys-requires-clause-there c = import_keys_in c.args.resolve.now c.well_formedness.ensures c.args.world.0 (world_view c.world.result.now) c.world.ensures

pub named_keys-requires-clause-named : goal.named_keys-requires-clause-named
named_keys-requires-clause-named c =
    import_keys_have_texts c.args.resolve.now c.well_formedness.ensures c.args.world.0 (world_view c.world.result.now) c.world.ensures parts_text
