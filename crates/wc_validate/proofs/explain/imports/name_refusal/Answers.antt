use Rattle.std.proofs.Common.{Err, Some, subst}
use Rattle.wc_read.specs.Imports.{import_value}
use Rattle.wc_validate.specs.Explain.{difference_view}
use Rattle.wc_validate.specs.Private.Imports.Contexts.{IsClassifiedIn, import_scope}
use Rattle.wc_validate.specs.declared.name_fault.NameFault.TheVariants as naming
use Rattle.wc_validate.proofs.ImportRecordLemmas.{other_name, refused_name}
use Rattle.wc_validate.proofs.explain.imports.name_refusal.Goals as goal

pub returns-in_ok-types-in-SignatureMismatch : goal.returns-in_ok-types-in-SignatureMismatch
returns-in_ok-types-in-SignatureMismatch c = λ library before none classified.
    let own = subst (λ z. IsClassifiedIn c.args.context.now library c.args.import.now (Err z)) c.in-SignatureMismatch.is classified in
    refused_name (import_scope c.args.context.now library) before (import_value c.args.import.now) (naming.SignatureMismatch c.in-SignatureMismatch.wanted)
    (Some (difference_view c.in_ok-types-in-SignatureMismatch.types)) none own.0 own.1 own.2
    (c.in_ok-types-in-SignatureMismatch.ensures library before own)

pub returns-in_default : goal.returns-in_default
returns-in_default c = λ library before none classified.
    other_name (import_scope c.args.context.now library) before (import_value c.args.import.now) c.args.cause c.from-fault.result
    c.in_default.not-SignatureMismatch c.from-fault.ensures none classified.0 classified.1 classified.2
