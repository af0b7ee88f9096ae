use Rattle.std.specs.Option.{option_copied}
use Rattle.wc_world.proofs.AdapterLemmas.{main_refused}
use Rattle.wc_world.proofs.RefusedLemmas.{main_placed, main_refusal_of}
use Rattle.wc_world.proofs.world.main_record.Goals as goal

pub returns-in-Err-clause-fault : goal.returns-in-Err-clause-fault
returns-in-Err-clause-fault c =
    main_refused c.args.encoder.now c.as_given.result c.main_refusal.result
    (main_refusal_of c.args.encoder.now (option_copied c.module_import_map-import_map.result) c.module-bytes.result.now c.in-Err.refused c.as_given.result c.module_import_map-import_map.ensures c.module-bytes.ensures c.in-Err.ensures.fault c.in-Err.ensures.place c.as_given.ensures)
    c.main_refusal.ensures

pub returns-in-Err-clause-place : goal.returns-in-Err-clause-place
returns-in-Err-clause-place c =
    main_placed c.args.encoder.now c.as_given.result c.main_refusal.result
    (main_refusal_of c.args.encoder.now (option_copied c.module_import_map-import_map.result) c.module-bytes.result.now c.in-Err.refused c.as_given.result c.module_import_map-import_map.ensures c.module-bytes.ensures c.in-Err.ensures.fault c.in-Err.ensures.place c.as_given.ensures)
    c.main_refusal.ensures
