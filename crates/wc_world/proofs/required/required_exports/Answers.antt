use Rattle.std.proofs.Common.{◌≡◌, IfOk, subst}
use Rattle.wc_gc.specs.LiveItems.{names_of}
use Rattle.wc_validate.specs.Validate.{module_record}
use Rattle.wc_world.specs.Trimming.{required_names}
use Rattle.wc_world.proofs.RequiredLemmas.{trimmed_for_names}
use Rattle.wc_world.proofs.required.required_exports.Goals as goal

pub returns-clause-names : goal.returns-clause-names
returns-clause-names c =
    subst (λ r. IfOk c.required_names.result (λ s. names_of s.keys ≡ required_names r c.args.info.now.exports)) c.in_ok-required.ensures
    c.required_names.ensures

pub returns-clause-trimmed : goal.returns-clause-trimmed
returns-clause-trimmed c =
    trimmed_for_names (λ s. names_of s.keys) (module_record c.args.main.now) c.args.name.now (module_record c.args.info.now) c.required_names.result
    (subst (λ r. IfOk c.required_names.result (λ s. names_of s.keys ≡ required_names r c.args.info.now.exports)) c.in_ok-required.ensures
    c.required_names.ensures)
