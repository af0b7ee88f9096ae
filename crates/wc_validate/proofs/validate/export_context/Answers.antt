use Rattle.std.proofs.Common.{◌∙◌, ap, sym}
use Rattle.wc_names.specs.ExportIndex.{ExportNamesView}
use Rattle.wc_names.specs.Mangling.{legacy, standard}
use Rattle.wc_validate.specs.NameScope.{name_scope_of}
use Rattle.wc_validate.proofs.ValidateLemmas.{names_by, world_of_name_scope}
use Rattle.wc_validate.proofs.validate.export_context.Goals as goal

pub returns-clause-context : goal.returns-clause-context
returns-clause-context c =
    let s = name_scope_of c.names_of-names.result in
    record {
      has_world = world_of_name_scope c.args.encoder.now s c.names_of-names.ensures;
      has_standard = names_by c.args.encoder.now s standard c.in_ok-standard.standard _ _ _ c.names_of-names.ensures c.metadata-metadata.ensures.resolve
          c.metadata-metadata.ensures.world c.in_ok-standard.ensures;
      has_legacy =
          names_by c.args.encoder.now s (legacy c.names_of-names.result.task_hook.now)
          c.in_ok-legacy.legacy _ _ _ c.names_of-names.ensures c.metadata-metadata.ensures.resolve c.metadata-metadata.ensures.world c.in_ok-legacy.ensures;
      has_keys = ap (λ (z : ExportNamesView). z.keys) c.in_ok-legacy.ensures ∙ sym (ap (λ (z : ExportNamesView). z.keys) c.in_ok-standard.ensures);
    }

pub returns-clause-keys : goal.returns-clause-keys
returns-clause-keys c = ap (λ (z : ExportNamesView). z.keys) c.in_ok-standard.ensures
