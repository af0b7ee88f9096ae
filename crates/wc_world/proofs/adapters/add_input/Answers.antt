use Rattle.std.proofs.Common.{◌∙◌, refl, sym}
use Rattle.wc_adapters.specs.Adapters.{adapter_view as input_view}
use Rattle.wc_validate.specs.Validate.{module_record}
use Rattle.wc_world.proofs.AdapterLemmas.{adapter_last}
use Rattle.wc_world.proofs.adapters.add_input.Goals as goal

pub returns-clause-is_adapter : goal.returns-clause-is_adapter
returns-clause-is_adapter c = λ passed others h.
    adapter_last c.args.input.now.encoder.now (module_record c.args.input.now.main.now) (c.args.input.now.name.now, input_view c.args.input.now.adapter.now) passed c.args.found.now.entries c.insert.new.self.entries c.args.input.now.name c.in_ok-world_adapter.world_adapter
    (sym c.is_input_needed.ensures ∙ c.if-not-is_input_needed.false)
    refl c.in_ok-insert.ensures.entries c.in_ok-world_adapter.ensures.is_adapter others h

pub one_adapter-requires : goal.one_adapter-requires
one_adapter-requires c = record { same = c.requires.same; required = c.requires.required; in_component = sym c.is_input_needed.ensures ∙ c.if-not-is_input_needed.false }
