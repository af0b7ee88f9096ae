use Rattle.std.proofs.Common.{subst}
use Rattle.wc_resolve.specs.WellFormed.{IsWellFormed}
use Rattle.wc_world.proofs.FunctionsLoweredLemmas.{functions_lowered}
use Rattle.wc_world.proofs.laws.recorded_functions_lowered.Goals as goal

pub returns : goal.returns
returns c =
    functions_lowered c.args.encoder.now (subst IsWellFormed c.metadata-metadata.ensures.resolve c.well_formedness-2.ensures) c.well_formedness.ensures c.records_in_range.ensures
