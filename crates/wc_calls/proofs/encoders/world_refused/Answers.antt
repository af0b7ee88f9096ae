use Rattle.std.proofs.Common.{refl}
use Rattle.wc_json.specs.Document.{document_view}
use Rattle.wc_calls.specs.Private.Refusals.{IsNamePlaced, IsWorldRequest}
use Rattle.wc_calls.specs.declared.message_fault.MessageFault.TheVariants.{Memory}
use Rattle.wc_calls.proofs.RefusalLemmas.{without_as}
use Rattle.wc_calls.proofs.encoders.world_refused.Goals as goal

pub returns-in-Err : goal.returns-in-Err
returns-in-Err c =
    without_as (λ g p. IsWorldRequest c.args.fault g × IsNamePlaced (document_view c.args.document.now) g p) Memory c.from.result c.from.ensures (tt, refl)
