use Rattle.std.proofs.Common.{◌<◌, ap, length, map, sym, subst}
use Rattle.std.proofs.lemmas.Result.{err_from_is_err_and}
use Rattle.wc_encoder.specs.EncoderParts.{EncoderView, given_view}
use Rattle.wc_program.specs.Files.{FailsToRead}
use Rattle.wc_selection.specs.Keys.{named_key}
use Rattle.wcplan_inputs.specs.Arguments.{command_view}
use Rattle.wcplan_inputs.specs.Inputs.{IsEncoderOf, IsPartsOf}
use Rattle.wcplan_inputs.proofs.ProgramLemmas.{chosen_worlds, encoder_cause, parts_cause, parts_with}
use Rattle.wcplan_inputs.proofs.WorldsLemmas.{meant_there}
use Rattle.wcplan_inputs.proofs.inputs.read_encoder.Goals as goal

pub returns-in_err-read-clause-fault : goal.returns-in_err-read-clause-fault
returns-in_err-read-clause-fault g c =
    let command = command_view c.args.command.now in
    let before = g.F.FileStore.held c.args.files.now in
    let metadata = c.in_ok-chosen.chosen.metadata in
    let is = c.in_ok-chosen.ensures in
    let chosen = chosen_worlds command before metadata.resolve metadata.world.0 is.worlds _ is.keys is.there is.asked in
    let p = err_from_is_err_and c.from_residual-in_err-read.result c.from_residual-in_err-read.ensures.1 in
    rw (p.1, p.2) (parts_cause command before (FailsToRead g.F.FileStore.read_fails c.args.files.now) is.worlds.0 metadata.resolve metadata.world.0
    (map named_key c.in_ok-chosen.chosen.keys.items) c.in_err-read.field-0.0 chosen is.worlds.4 is.keys c.in_err-read.ensures.fault)

pub returns-in_err-encoder-clause-fault : goal.returns-in_err-encoder-clause-fault
returns-in_err-encoder-clause-fault g c =
    let command = command_view c.args.command.now in
    let before = g.F.FileStore.held c.args.files.now in
    let metadata = c.in_ok-chosen.chosen.metadata in
    let is = c.in_ok-chosen.ensures in
    let chosen = chosen_worlds command before metadata.resolve metadata.world.0 is.worlds _ is.keys is.there is.asked in
    let parts = parts_with command before metadata.resolve metadata.world.0 is.worlds _ (given_view c.in_ok-read.read.given c.in_ok-read.read.parts) chosen is.keys
    (ap (λ m. m.world.0) c.in_ok-read.ensures.metadata) (ap (λ m. m.resolve) c.in_ok-read.ensures.metadata) c.in_ok-read.ensures.parts in
    let p = err_from_is_err_and c.from_residual-in_err-encoder.result c.from_residual-in_err-encoder.ensures.1 in
    rw (p.1, p.2) (encoder_cause command before (FailsToRead g.F.FileStore.read_fails c.args.files.now) (given_view c.in_ok-read.read.given c.in_ok-read.read.parts) c.in_err-encoder.field-0.0 parts c.in_err-encoder.ensures.fault)

pub returns-clause-encoder : goal.returns-clause-encoder
returns-clause-encoder g c =
    let command = command_view c.args.command.now in
    let before = g.F.FileStore.held c.args.files.now in
    let metadata = c.in_ok-chosen.chosen.metadata in
    let is = c.in_ok-chosen.ensures in
    let chosen = chosen_worlds command before metadata.resolve metadata.world.0 is.worlds _ is.keys is.there is.asked in
    let parts = parts_with command before metadata.resolve metadata.world.0 is.worlds _ (given_view c.in_ok-read.read.given c.in_ok-read.read.parts) chosen is.keys
    (ap (λ m. m.world.0) c.in_ok-read.ensures.metadata) (ap (λ m. m.resolve) c.in_ok-read.ensures.metadata) c.in_ok-read.ensures.parts in
    let is = c.in_ok-encoder.ensures in
    subst (λ (e : EncoderView). IsEncoderOf command before e) (sym c.in_ok-heaped.ensures)
    (record { parts = subst (IsPartsOf command before) (sym is.ok) parts; formed = is.formed })

pub read_parts-requires-clause-world : goal.read_parts-requires-clause-world
read_parts-requires-clause-world g c =
    let there = c.in_ok-chosen.ensures.worlds in
    let metadata = c.in_ok-chosen.chosen.metadata in
    subst (λ r. metadata.world.0 < length r.worlds) (sym there.4)
    (meant_there there.0 (command_view c.args.command.now).world metadata.world.0 there.2)
