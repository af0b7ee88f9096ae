use Rattle.std.proofs.Common.{refl}
use Rattle.wc_world.specs.Private.Refused.{IsInputRefusal}
use Rattle.wc_world.specs.WorldViews.{adapter_view}
use Rattle.wc_world.proofs.FaultLemmas.{passed_on}
use Rattle.wc_world.proofs.adapters.one_adapter.Goals as goal

pub returns-in_err-adapter-clause-refusal : goal.returns-in_err-adapter-clause-refusal
returns-in_err-adapter-clause-refusal c = passed_on (IsInputRefusal c.args.input.now) c.from_residual.result _ c.from_residual.ensures.1 c.in_err-adapter.ensures.refusal

pub returns-in_err-check_pages-clause-refusal : goal.returns-in_err-check_pages-clause-refusal
returns-in_err-check_pages-clause-refusal c =
    passed_on (IsInputRefusal c.args.input.now) c.from_residual-in_err-check_pages.result _ c.from_residual-in_err-check_pages.ensures.1 (c.in_err-check_pages.ensures.refusal (adapter_view c.in_ok-adapter.adapter) refl c.in_ok-adapter.ensures.is_adapter)

pub returns-clause-is_adapter : goal.returns-clause-is_adapter
returns-clause-is_adapter c = record { named = refl; library = c.in_ok-adapter.ensures.library; is_adapter = c.in_ok-adapter.ensures.is_adapter; paged = c.in_ok-check_pages.ensures.paged }
