use Rattle.std.proofs.Common.{Bool, IfOk, subst, sym}
use Rattle.wc_module_ways.specs.Imports.{IsImportsText}
use Rattle.wc_module_ways.specs.Modules.{AreView, ModulesView}
use Rattle.wcwhy.specs.ModuleWays.{IsSummary}
use Rattle.wcwhy.proofs.module_ways.summary_bytes.Goals as goal

pub returns-then-json-clause-text : goal.returns-then-json-clause-text
returns-then-json-clause-text c =
    subst (λ (b : Bool). IfOk c.imports_json.result (λ v. (w : ModulesView) → AreView c.args.modules.now w → IsSummary b w v.items)) (sym c.if-json.true)
    c.imports_json.ensures.json

pub returns-in-Ok-clause-text : goal.returns-in-Ok-clause-text
returns-in-Ok-clause-text c w v =
    subst (λ (b : Bool). IsSummary b w c.into_bytes.result.items) (sym c.if-json.false)
    (subst (λ vec. IsImportsText w vec.items) (sym c.into_bytes.ensures.value) (c.in-Ok.ensures.text w v))
