use Rattle.std.proofs.Common.{None, Some, ap, inl, inr, sym, ◌∙◌}
use Rattle.std.specs.Option.{option_copied}
use Rattle.wc_world.proofs.AdapterLemmas.{adapter_found}
use Rattle.wc_calls.proofs.validated_modules.answer_under.Goals as goal

pub answer_adapter-requires : goal.answer_adapter-requires
answer_adapter-requires c =
    adapter_found c.args.asked.encoder.now c.adapters.result.now.entries c.args.asked.name.now (Some c.in-Some.adapter.now) c.adapters.ensures
    (sym (ap option_copied c.in-Some.is) ∙ c.get.ensures.value)

pub returns-in-None-clause-bad_argument : goal.returns-in-None-clause-bad_argument
returns-in-None-clause-bad_argument c = λ is.
    inr (inl (adapter_found c.args.asked.encoder.now c.adapters.result.now.entries c.args.asked.name.now None c.adapters.ensures
    (sym (ap option_copied c.in-None.is) ∙ c.get.ensures.value)))
