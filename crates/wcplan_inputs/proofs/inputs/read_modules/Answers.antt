use Rattle.std.proofs.Common.{◌∙◌, ap, map, subst, sym}
use Rattle.std.proofs.lemmas.Result.{err_from_is_err_and}
use Rattle.wc_dedupe.specs.Dedupe.{renames_in}
use Rattle.wc_encoder.specs.EncoderParts.{given_in}
use Rattle.wc_program.specs.Files.{FailsToRead}
use Rattle.wc_selection.specs.Keys.{named_key}
use Rattle.wc_maps.specs.Texts.{AreDistinct}
use Rattle.wc_selection.specs.declared.main_module.MainModule.{MainModule}
use Rattle.wcplan_inputs.specs.Arguments.{command_view}
use Rattle.wcplan_inputs.specs.SharedKeys.{AreUnshared}
use Rattle.wcplan_inputs.specs.Private.Inputs.{AreRequested, scope_in}
use Rattle.wcplan_inputs.specs.Private.SharedKeys.{file_bytes}
use Rattle.wcplan_inputs.proofs.AdapterFileLemmas.{names_read}
use Rattle.wcplan_inputs.proofs.InputLemmas.{modules_in}
use Rattle.wcplan_inputs.proofs.ProgramLemmas.{exporter_parts}
use Rattle.wcplan_inputs.proofs.inputs.read_modules.Goals as goal

pub requested_modules-requires-clause-names : goal.requested_modules-requires-clause-names
requested_modules-requires-clause-names g c =
    subst AreDistinct (sym (names_read (g.F.FileStore.held c.args.files.now) (command_view c.args.command.now).adapters
    (map file_bytes c.in_ok-adapters.adapters.items) c.in_ok-adapters.ensures.read)) c.requires.names

pub returns-in_err-requested-clause-fault : goal.returns-in_err-requested-clause-fault
returns-in_err-requested-clause-fault g c =
    let command = command_view c.args.command.now in
    let s = scope_in command c.args.chosen.now in
    let keys = map named_key c.args.chosen.now.keys.items in
    let files = map file_bytes c.in_ok-adapters.adapters.items in
    let main = c.in_ok-main.main.value in
    let lent = c.deref-2.ensures.value ∙ ap (λ (m : MainModule). m.wasm.items) c.deref.ensures in
    let f = c.in_err-requested.field-0.0 in
    let p = err_from_is_err_and c.from_residual-in_err-requested.result c.from_residual-in_err-requested.ensures.1 in
    rw (p.1, p.2) (exporter_parts command (g.F.FileStore.held c.args.files.now) (FailsToRead g.F.FileStore.read_fails c.args.files.now) s keys
    (given_in main.given main.wasm.items) main.wasm.items (renames_in main.import_map) files f c.in_ok-main.ensures.main c.in_ok-adapters.ensures.read
    (subst (λ bytes. AreUnshared command s bytes files keys f) lent c.in_err-requested.ensures.fault))

pub returns-clause-modules : goal.returns-clause-modules
returns-clause-modules g c =
    let command = command_view c.args.command.now in
    let s = scope_in command c.args.chosen.now in
    let keys = map named_key c.args.chosen.now.keys.items in
    let files = map file_bytes c.in_ok-adapters.adapters.items in
    let requested = c.in_ok-requested.requested in
    let lent = c.deref-2.ensures.value ∙ ap (λ (m : MainModule). m.wasm.items) c.deref.ensures in
    modules_in command (g.F.FileStore.held c.args.files.now) s keys files _ c.in_ok-main.main.value c.into_inner.ensures c.in_ok-main.ensures.main
    c.in_ok-adapters.ensures.read (subst (λ bytes. AreRequested command s bytes files keys requested) lent c.in_ok-requested.ensures.requested)
    c.in_ok-task_hook.ensures
