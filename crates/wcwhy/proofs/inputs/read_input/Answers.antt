use Rattle.std.proofs.Common.{ap, map}
use Rattle.std.proofs.lemmas.Result.{err_from_is_err_and}
use Rattle.wc_maps.specs.Texts.{text_pair}
use Rattle.wc_program.specs.Files.{file_change}
use Rattle.wcwhy.specs.Arguments.{command_view}
use Rattle.wcwhy.specs.Inputs.{HasSource, IsSource}
use Rattle.wcwhy.proofs.InputLemmas.{adapters_unread, allow_unread, names_right, names_wrong, source_cause}
use Rattle.wcwhy.proofs.inputs.read_input.Goals as goal

pub returns-in_err-source-clause-fault : goal.returns-in_err-source-clause-fault
returns-in_err-source-clause-fault g c =
    let files = file_change g.F.FileStore.held g.F.FileStore.read_fails g.F.FileStore.write_fails c.args.files.now c.args.files.now in
    let p = err_from_is_err_and c.from_residual.result c.from_residual.ensures.1 in
    rw (p.1, p.2) (source_cause (command_view c.args.command.now) files c.in_err-source.field-0.0 c.in_err-source.ensures.fault)

pub returns-in_err-check_names-clause-fault : goal.returns-in_err-check_names-clause-fault
returns-in_err-check_names-clause-fault g c =
    let command = command_view c.args.command.now in
    let files = file_change g.F.FileStore.held g.F.FileStore.read_fails g.F.FileStore.write_fails c.args.files.now c.args.files.now in
    let p = err_from_is_err_and c.from_residual-in_err-check_names.result c.from_residual-in_err-check_names.ensures.1 in
    let has : HasSource command files.before
    = (c.in_ok-source.source.items, record { held = c.in_ok-source.ensures.held; fits = c.in_ok-source.ensures.fits }) in
    rw (p.1, p.2) (names_wrong command files c.deref.result.now c.deref-2.result.now (ap (map text_pair) c.deref.ensures.value)
    (ap (map text_pair) c.deref-2.ensures.value) has c.in_err-check_names.field-0.0 c.in_err-check_names.ensures.fault)

pub returns-in_err-adapters-clause-fault : goal.returns-in_err-adapters-clause-fault
returns-in_err-adapters-clause-fault g c =
    let command = command_view c.args.command.now in
    let files = file_change g.F.FileStore.held g.F.FileStore.read_fails g.F.FileStore.write_fails c.args.files.now c.args.files.now in
    let p = err_from_is_err_and c.from_residual-in_err-adapters.result c.from_residual-in_err-adapters.ensures.1 in
    let has : HasSource command files.before
    = (c.in_ok-source.source.items, record { held = c.in_ok-source.ensures.held; fits = c.in_ok-source.ensures.fits }) in
    rw (p.1, p.2) (adapters_unread command files has c.in_err-adapters.field-0.0 c.in_err-adapters.ensures.fault)

pub returns-in_err-allow-clause-fault : goal.returns-in_err-allow-clause-fault
returns-in_err-allow-clause-fault g c =
    let command = command_view c.args.command.now in
    let files = file_change g.F.FileStore.held g.F.FileStore.read_fails g.F.FileStore.write_fails c.args.files.now c.args.files.now in
    let p = err_from_is_err_and c.from_residual-in_err-allow.result c.from_residual-in_err-allow.ensures.1 in
    let has : HasSource command files.before
    = (c.in_ok-source.source.items, record { held = c.in_ok-source.ensures.held; fits = c.in_ok-source.ensures.fits }) in
    rw (p.1, p.2) (allow_unread command files has c.in_err-allow.field-0.0 c.in_err-allow.ensures.fault)

pub returns-clause-read : goal.returns-clause-read
returns-clause-read g c = record {
  is_source = record { held = c.in_ok-source.ensures.held; fits = c.in_ok-source.ensures.fits };
  named = names_right (command_view c.args.command.now) c.deref.result.now c.deref-2.result.now (ap (map text_pair) c.deref.ensures.value)
      (ap (map text_pair) c.deref-2.ensures.value) c.in_ok-check_names.ensures.named;
  files = c.in_ok-adapters.ensures.read;
  allowed = c.in_ok-allow.ensures.read;
}
