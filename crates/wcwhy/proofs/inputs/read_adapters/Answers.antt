use Rattle.std.proofs.Common.{◌∙◌, [], ◌∷◌, ap, map, refl, rules}
use Rattle.std.proofs.lemmas.List.{map-append}
use Rattle.std.proofs.lemmas.Result.{err_from_is_err_and}
use Rattle.wc_options.proofs.AdapterLemmas.{zip_more}
use Rattle.wc_maps.specs.Texts.{text_pair}
use Rattle.wc_program.specs.Files.{FailsToRead}
use Rattle.wcwhy.specs.Arguments.{command_view}
use Rattle.wcwhy.specs.Inputs.{IsAdapterFile}
use Rattle.wcwhy.specs.Private.Inputs.{file_view}
use Rattle.wcwhy.proofs.InputLemmas.{path_cause}
use Rattle.wcwhy.proofs.inputs.read_adapters.Goals as goal

pub returns-in_err-wasm-clause-fault : goal.returns-in_err-wasm-clause-fault
returns-in_err-wasm-clause-fault g c =
    let p = err_from_is_err_and c.from_residual.result c.from_residual.ensures.1 in
    rw (p.1, p.2) (path_cause (command_view c.args.command.now) (FailsToRead g.F.FileStore.read_fails c.args.files.now) c.deref-name-items.result.now
    c.loop-name.name-index _ (search rules) (ap (map text_pair) c.deref-name-items.ensures.value) c.in_err-wasm.field-0.0 c.in_err-wasm.ensures.fault)

pub loop-name-preserved : goal.loop-name-preserved
loop-name-preserved g c =
    zip_more (IsAdapterFile (g.F.FileStore.held c.args.files.now)) text_pair c.deref-name-items.result.now c.loop-name.name-index _
    (map file_view c.loop-name.read.items) (map file_view c.push.new.self.items) _ (search rules)
    (ap (map file_view) c.in_ok-push.ensures.items ∙ map-append file_view c.loop-name.read.items (_ ∷ [])) (refl, c.in_ok-wasm.ensures.read)
    c.loop-name.invariant
