use Rattle.std.proofs.Common.{◌∙◌, map, refl, sym}
use Rattle.wc_gc.specs.LiveItems.{names_of}
use Rattle.wc_read.specs.Modules.{module_value}
use Rattle.wc_why.specs.Texts.{text_of}
use Rattle.wc_module_ways.specs.Adapters.{AdapterView, given_view}
use Rattle.wc_module_ways.proofs.ModuleLemmas.{adapter_left, adapter_there}
use Rattle.wc_module_ways.proofs.adapters.read_adapter.Goals as goal

pub returns-then-not-is_needed-clause-adapter : goal.returns-then-not-is_needed-clause-adapter
returns-then-not-is_needed-clause-adapter c imported asked one other =
    adapter_left imported asked (given_view c.args.given) (map text_of c.names_at-imported.result.now) (map text_of c.names_at-asked.result.now)
    (c.names_at-imported.ensures ∙ one c.args.given.0.now) (c.names_at-asked.ensures ∙ other c.args.given.0.now) (module_value c.in_ok-code.code)
    c.in_ok-code.ensures.found (sym c.is_needed.ensures ∙ c.if-not-is_needed.true)

pub returns-clause-adapter : goal.returns-clause-adapter
returns-clause-adapter c imported asked one other =
    let made : AdapterView = record {
      name = c.args.given.0.now;
      bytes = c.args.given.1.now;
      code = module_value c.in_ok-code.code;
      required = names_of c.in_ok-required.required.keys;
      always = map text_of c.in_ok-always.always.items;
    } in
    adapter_there imported asked (given_view c.args.given) (map text_of c.names_at-imported.result.now) (map text_of c.names_at-asked.result.now)
    (c.names_at-imported.ensures ∙ one c.args.given.0.now) (c.names_at-asked.ensures ∙ other c.args.given.0.now) made refl refl
    c.in_ok-code.ensures.found c.in_ok-required.ensures c.in_ok-always.ensures (sym c.is_needed.ensures ∙ c.if-not-is_needed.false)
