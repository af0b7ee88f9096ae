use Rattle.std.specs.Option.{option_copied}
use Rattle.wc_calls.proofs.ModuleLemmas.{main_cause, main_place}
use Rattle.wc_calls.proofs.validation.main_validated.Goals as goal

pub returns-in-Err-clause-fault : goal.returns-in-Err-clause-fault
returns-in-Err-clause-fault c =
    main_cause c.args.encoder.now (option_copied c.module_import_map-import_map.result) c.module-bytes.result.now c.in-Err.refused c.as_given.result c.main_refusal.result
    c.world_refusal.result c.module_import_map-import_map.ensures c.module-bytes.ensures c.in-Err.ensures.fault c.in-Err.ensures.place c.as_given.ensures c.main_refusal.ensures
    c.world_refusal.ensures

pub returns-in-Err-clause-place : goal.returns-in-Err-clause-place
returns-in-Err-clause-place c =
    main_place c.args.encoder.now (option_copied c.module_import_map-import_map.result) c.module-bytes.result.now c.in-Err.refused c.as_given.result c.main_refusal.result
    c.world_refusal.result c.module_import_map-import_map.ensures c.module-bytes.ensures c.in-Err.ensures.fault c.in-Err.ensures.place c.as_given.ensures c.main_refusal.ensures
    c.world_refusal.ensures
