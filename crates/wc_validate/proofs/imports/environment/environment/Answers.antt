use Rattle.std.proofs.Common.{refl, sym}
use Rattle.std.proofs.lemmas.Bool.{not-false, not-true}
use Rattle.std.proofs.lemmas.Slice.Eq.{bytes_eq-Decides}
use Rattle.wc_read.specs.Types.{func_type_value}
use Rattle.wc_names.specs.Environment.{environment_module}
use Rattle.wc_validate.proofs.ClassificationLemmas.{classified_nothing}
use Rattle.wc_validate.specs.Fault.{fault_kind}
use Rattle.wc_validate.specs.declared.name_fault.NameFault.TheVariants.{TypedReference}
use Rattle.wc_validate.proofs.BuiltinLemmas.{not_equal}
use Rattle.wc_validate.proofs.ImportSchemeLemmas.{kept_environment, no_environment}
use Rattle.wc_validate.specs.Classifications.{of_imports}
use Rattle.wc_validate.proofs.imports.environment.environment.Goals as goal

pub returns-then-ne : goal.returns-then-ne
returns-then-ne g c =
    classified_nothing of_imports fault_kind _ _ (λ m h. not_equal c.args.function.module_name.now environment_module (not-true _ (sym c.if-ne.ensures)) h.0)

pub returns-in_default : goal.returns-in_default
returns-in_default g c =
    no_environment fault_kind (g.N.NameMangling.scheme c.args.scheme.now) c.args.function.module_name.now c.args.function.name.now
    (func_type_value c.args.function.ty.now) (rw c.in_default.is at c.env_import.ensures)

pub returns : goal.returns
returns g c =
    kept_environment fault_kind (g.N.NameMangling.scheme c.args.scheme.now) c.args.function.module_name.now c.args.function.name.now
    (func_type_value c.args.function.ty.now) c.in-Some.import
    ((bytes_eq-Decides c.args.function.module_name.now environment_module).0 (not-false _ (sym c.if-ne.ensures))) (rw c.in-Some.is at c.env_import.ensures)
    TypedReference refl c.names_value_type-is_plain.result (sym c.names_value_type-is_plain.ensures) c.kept.result c.kept.ensures.kept c.kept.ensures.refused
