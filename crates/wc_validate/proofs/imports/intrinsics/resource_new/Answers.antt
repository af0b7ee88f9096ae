use Rattle.wc_names.specs.Mangling.{resource_new}
use Rattle.wc_validate.proofs.ClassificationLemmas.{classified_nothing}
use Rattle.wc_validate.specs.Fault.{fault_kind}
use Rattle.wc_validate.specs.Private.Imports.Lookups.{lookup_scope}
use Rattle.wc_validate.proofs.IntrinsicLemmas.{of_named_resource}
use Rattle.wc_validate.specs.Classifications.{of_imports}
use Rattle.wc_validate.proofs.imports.intrinsics.resource_new.Goals as goal

pub returns-in-Some : goal.returns-in-Some
returns-in-Some g c =
    of_named_resource (g.N.NameMangling.scheme c.args.scheme.now) (lookup_scope c.args.context.now)
    c.args.name.now fault_kind resource_new c.in-Some.resource.now _ _ c.in-Some.ensures c.on_resource.ensures

pub returns-in-None : goal.returns-in-None
returns-in-None g c = classified_nothing of_imports fault_kind _ _ (λ m h. c.in-None.ensures h.0 h.2)
