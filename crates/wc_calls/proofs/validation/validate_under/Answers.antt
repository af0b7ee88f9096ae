use Rattle.std.proofs.Common.{None, Some, ap, inr, sym, ◌∙◌}
use Rattle.std.specs.Option.{option_copied}
use Rattle.wc_validate.specs.Validate.{module_record}
use Rattle.wc_world.proofs.AdapterLemmas.{adapter_found}
use Rattle.wc_calls.proofs.validation.validate_under.Goals as goal

pub validate_adapter-requires-clause-there : goal.validate_adapter-requires-clause-there
validate_adapter-requires-clause-there c =
    adapter_found c.args.main.encoder.now c.adapters.result.now.entries c.args.name.now (Some c.in-Some.adapter.now) c.adapters.ensures
    (sym (ap option_copied c.in-Some.is) ∙ c.get.ensures.value)

pub returns-in-None-clause-bad_argument : goal.returns-in-None-clause-bad_argument
returns-in-None-clause-bad_argument c = λ is. (
  (module_record c.args.main.validated.now, c.requires),
  inr (adapter_found c.args.main.encoder.now c.adapters.result.now.entries c.args.name.now None c.adapters.ensures
      (sym (ap option_copied c.in-None.is) ∙ c.get.ensures.value)),
)
