use Rattle.std.proofs.Common.{◌∙◌, [], ◌∷◌, ap, map, refl, rules}
use Rattle.std.proofs.lemmas.List.{map-append}
use Rattle.std.proofs.lemmas.Result.{err_from_is_err_and}
use Rattle.wc_maps.specs.Texts.{text_pair}
use Rattle.wc_program.specs.Files.{FailsToRead}
use Rattle.wcplan_inputs.specs.Arguments.{command_view}
use Rattle.wcplan_inputs.specs.Inputs.{IsFileIn}
use Rattle.wcplan_inputs.specs.Private.SharedKeys.{file_bytes}
use Rattle.wcplan_inputs.proofs.ProgramLemmas.{path_cause}
use Rattle.wc_options.proofs.AdapterLemmas.{zip_more}
use Rattle.wcplan_inputs.proofs.adapter_files.read_adapters.Goals as goal

pub returns-in_err-wasm-clause-fault : goal.returns-in_err-wasm-clause-fault
returns-in_err-wasm-clause-fault g c =
    let p = err_from_is_err_and c.from_residual.result c.from_residual.ensures.1 in
    rw (p.1, p.2) (path_cause (command_view c.args.command.now) (FailsToRead g.F.FileStore.read_fails c.args.files.now) c.deref-name-items.result.now
    c.loop-name.name-index _ (search rules) (ap (map text_pair) c.deref-name-items.ensures.value) c.in_err-wasm.field-0.0 c.in_err-wasm.ensures.fault)

pub loop-name-preserved : goal.loop-name-preserved
loop-name-preserved g c =
    zip_more (IsFileIn (g.F.FileStore.held c.args.files.now)) text_pair c.deref-name-items.result.now c.loop-name.name-index _
    (map file_bytes c.loop-name.read.items) (map file_bytes c.push.new.self.items) _ (search rules)
    (ap (map file_bytes) c.in_ok-push.ensures.items ∙ map-append file_bytes c.loop-name.read.items (_ ∷ [])) (refl, c.in_ok-wasm.ensures.read)
    c.loop-name.invariant
