use Rattle.std.proofs.Common.{◌≡◌, ◌∙◌, ◌≤◌, Some, ap, length, map, option_map, refl, subst, sym}
use Rattle.std.proofs.lemmas.List.{length-map}
use Rattle.std.proofs.lemmas.Option.{slice_get-map}
use Rattle.std.proofs.lemmas.Result.{err_from_is_err_and}
use Rattle.std.specs.List.{slice_get}
use Rattle.wc_component_file.specs.Files.{SpellsFile, core_module_view, file_view}
use Rattle.wc_program.specs.Files.{file_change}
use Rattle.wcwhy.specs.Arguments.{command_view}
use Rattle.wcwhy.specs.Inputs.{IsSource}
use Rattle.wcwhy.specs.Private.Component.{IsUnreadFault}
use Rattle.wcwhy.proofs.CoreFileLemmas.{missing_cause, source_cause, unread_cause, unwritten, written}
use Rattle.wcwhy.proofs.GetLemmas.{past_at, some_at}
use Rattle.wcwhy.proofs.core_file.write_core.Goals as goal

pub returns-in_err-source-clause-fault : goal.returns-in_err-source-clause-fault
returns-in_err-source-clause-fault g c =
    let files = file_change g.F.FileStore.held g.F.FileStore.read_fails g.F.FileStore.write_fails c.args.files.now c.args.files.now in
    let p = err_from_is_err_and c.from_residual.result c.from_residual.ensures.1 in
    rw (p.1, p.2) (source_cause (command_view c.args.command.now) (c.args.target.0, c.args.target.1.now) files refl c.in_err-source.field-0.0
    c.in_err-source.ensures.fault)

pub returns-in_err-file-clause-fault : goal.returns-in_err-file-clause-fault
returns-in_err-file-clause-fault g c =
    let command = command_view c.args.command.now in
    let files = file_change g.F.FileStore.held g.F.FileStore.read_fails g.F.FileStore.write_fails c.args.files.now c.args.files.now in
    let p = err_from_is_err_and c.from_residual-in_err-file.result c.from_residual-in_err-file.ensures.1 in
    let f = c.in_err-file.field-0.0 in
    let source = c.in_ok-source.source.items in
    let is : IsSource command files.before source = record { held = c.in_ok-source.ensures.held; fits = c.in_ok-source.ensures.fits } in
    rw (p.1, p.2) (unread_cause command (c.args.target.0, c.args.target.1.now) files source is refl f
    (subst (λ bytes. IsUnreadFault bytes f) c.deref.ensures.value c.in_err-file.ensures.fault))

pub returns-in-Some-clause-done : goal.returns-in-Some-clause-done
returns-in-Some-clause-done g c =
    let command = command_view c.args.command.now in
    let files = file_change g.F.FileStore.held g.F.FileStore.read_fails g.F.FileStore.write_fails c.args.files.now c.write_bytes.new.files in
    let source = c.in_ok-source.source.items in
    let file = c.in_ok-file.file in
    let k = c.args.target.0 in
    let is : IsSource command files.before source = record { held = c.in_ok-source.ensures.held; fits = c.in_ok-source.ensures.fits } in
    let spelled : SpellsFile source (file_view file) = subst (λ bytes. SpellsFile bytes (file_view file)) c.deref.ensures.value c.in_ok-file.ensures.found in
    let there : slice_get file.modules.items k ≡ Some c.in-Some.module.now
    = subst (λ xs. slice_get xs k ≡ Some c.in-Some.module.now) c.as_slice-modules.ensures.value
    (some_at c.as_slice-modules.result.now k c.get.result c.get.ensures.lookup.0 c.get.ensures.lookup.1 c.in-Some.module c.in-Some.is) in
    written command (k, c.args.target.1.now) files source is (file_view file) spelled (core_module_view c.in-Some.module.now)
    (slice_get-map core_module_view file.modules.items k ∙ ap (option_map core_module_view) there) c.write_bytes.result c.write_bytes.ensures.done

pub returns-in-Some-clause-fault : goal.returns-in-Some-clause-fault
returns-in-Some-clause-fault g c =
    let command = command_view c.args.command.now in
    let files = file_change g.F.FileStore.held g.F.FileStore.read_fails g.F.FileStore.write_fails c.args.files.now c.write_bytes.new.files in
    let source = c.in_ok-source.source.items in
    let file = c.in_ok-file.file in
    let k = c.args.target.0 in
    let is : IsSource command files.before source = record { held = c.in_ok-source.ensures.held; fits = c.in_ok-source.ensures.fits } in
    let spelled : SpellsFile source (file_view file) = subst (λ bytes. SpellsFile bytes (file_view file)) c.deref.ensures.value c.in_ok-file.ensures.found in
    let there : slice_get file.modules.items k ≡ Some c.in-Some.module.now
    = subst (λ xs. slice_get xs k ≡ Some c.in-Some.module.now) c.as_slice-modules.ensures.value
    (some_at c.as_slice-modules.result.now k c.get.result c.get.ensures.lookup.0 c.get.ensures.lookup.1 c.in-Some.module c.in-Some.is) in
    unwritten command (k, c.args.target.1.now) files source is (file_view file) spelled (core_module_view c.in-Some.module.now)
    (slice_get-map core_module_view file.modules.items k ∙ ap (option_map core_module_view) there) c.write_bytes.result c.write_bytes.ensures.fault

pub returns-clause-fault : goal.returns-clause-fault
returns-clause-fault g c =
    let command = command_view c.args.command.now in
    let files = file_change g.F.FileStore.held g.F.FileStore.read_fails g.F.FileStore.write_fails c.args.files.now c.args.files.now in
    let source = c.in_ok-source.source.items in
    let file = c.in_ok-file.file in
    let k = c.args.target.0 in
    let is : IsSource command files.before source = record { held = c.in_ok-source.ensures.held; fits = c.in_ok-source.ensures.fits } in
    let spelled : SpellsFile source (file_view file) = subst (λ bytes. SpellsFile bytes (file_view file)) c.deref.ensures.value c.in_ok-file.ensures.found in
    let past : length (map core_module_view file.modules.items) ≤ k
    = subst (λ n. n ≤ k) (sym (length-map file.modules.items core_module_view))
    (subst (λ xs. length xs ≤ k) c.as_slice-modules.ensures.value
    (past_at c.as_slice-modules.result.now k c.get.result c.get.ensures.lookup.0 c.in-None.is)) in
    missing_cause command (k, c.args.target.1.now) files source is (file_view file) spelled refl past c.missing_module.result c.missing_module.ensures
