use Rattle.wc_calls.specs.Encoders.{AreOptionsOf, IsEncoderOf}
use Rattle.wc_calls.specs.Private.OptionTables.{table_options}
use Rattle.wc_calls.proofs.HeapLemmas.{boxed_as, not_boxed}
use Rattle.wc_calls.proofs.encoders.world_input.Goals as goal

pub returns-in-Ok-clause-encoder : goal.returns-in-Ok-clause-encoder
returns-in-Ok-clause-encoder c =
    boxed_as (λ i. IsEncoderOf c.args.message.now c.args.modules.now i.encoder) c.heaped.result c.in-Ok.input c.heaped.ensures.value
    c.in-Ok.ensures.encoder

pub returns-in-Ok-clause-options : goal.returns-in-Ok-clause-options
returns-in-Ok-clause-options c =
    boxed_as (λ i. AreOptionsOf c.args.message.now (table_options i.options)) c.heaped.result c.in-Ok.input c.heaped.ensures.value
    c.in-Ok.ensures.options

pub returns-in-Ok-clause-fault : goal.returns-in-Ok-clause-fault
returns-in-Ok-clause-fault c = not_boxed c.args.message.now c.args.modules.now c.heaped.result c.heaped.ensures.fault
