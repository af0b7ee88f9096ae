use Rattle.std.proofs.Common.{subst, sym}
use Rattle.wc_dedupe.specs.Dedupe.{renames_in}
use Rattle.wc_encoder.specs.EncoderParts.{given_in}
use Rattle.wc_program.specs.Files.{FailsToRead}
use Rattle.wc_selection.specs.declared.main_module.MainModule.{MainModule}
use Rattle.wcplan_inputs.specs.Inputs.{IsMainIn}
use Rattle.wcplan_inputs.proofs.ProgramLemmas.{main_cause}
use Rattle.wcplan_inputs.proofs.inputs.read_main.Goals as goal

pub returns-in-Err-clause-fault : goal.returns-in-Err-clause-fault
returns-in-Err-clause-fault g c =
    main_cause (g.F.FileStore.held c.args.files.now) (FailsToRead g.F.FileStore.read_fails c.args.files.now) c.args.path.now c.in_ok-bytes.bytes.items
    c.in-Err.refused c.main_fault.result c.in_ok-bytes.ensures.read c.in-Err.ensures.refused c.in-Err.ensures.place c.main_fault.ensures

pub returns-in_ok-heaped-in-Ok-clause-main : goal.returns-in_ok-heaped-in-Ok-clause-main
returns-in_ok-heaped-in-Ok-clause-main g c =
    let before = g.F.FileStore.held c.args.files.now in
    subst (λ (m : MainModule). IsMainIn before c.args.path.now (given_in m.given m.wasm.items) m.wasm.items (renames_in m.import_map))
    (sym c.in_ok-heaped-in-Ok.ensures)
    (subst (λ bytes. IsMainIn before c.args.path.now bytes c.in-Ok.main.wasm.items (renames_in c.in-Ok.main.import_map)) (sym c.in-Ok.ensures.given)
    (record { read = c.in_ok-bytes.ensures.read; renamed = c.in-Ok.ensures.dedupe }))
