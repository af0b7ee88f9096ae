use Rattle.std.proofs.Common.{◌∙◌, [], ◌∷◌, ap, map, rules, subst}
use Rattle.std.proofs.lemmas.List.{map-append}
use Rattle.wcplan_inputs.specs.SharedKeys.{IsNamedFile}
use Rattle.wcplan_inputs.specs.Private.SharedKeys.{adapter_view, file_bytes}
use Rattle.wc_options.proofs.AdapterLemmas.{zip_more}
use Rattle.wcplan_inputs.proofs.shared_keys.adapter_names.Goals as goal

pub loop-file-preserved : goal.loop-file-preserved
loop-file-preserved c =
    zip_more IsNamedFile file_bytes c.args.files.now c.loop-file.file-index c.file-item.result (map adapter_view c.loop-file.names.items)
    (map adapter_view c.push.new.self.items) (adapter_view c.in_ok-names_in.field-0) (search rules)
    (ap (map adapter_view) c.in_ok-push.ensures.items ∙ map-append adapter_view c.loop-file.names.items (c.in_ok-names_in.field-0 ∷ []))
    (subst (λ file. IsNamedFile (file_bytes file) (adapter_view c.in_ok-names_in.field-0)) c.file-item.is c.in_ok-names_in.ensures) c.loop-file.invariant
