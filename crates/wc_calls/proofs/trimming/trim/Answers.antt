use Rattle.std.proofs.Common.{◌≡◌, ℕ, List, Option, subst}
use Rattle.wc_calls.specs.Answers.{failed}
use Rattle.wc_calls.specs.ExportNames.{texts}
use Rattle.wc_calls.specs.Trimming.{IsTrimmingFault}
use Rattle.wc_calls.proofs.trimming.trim.Goals as goal

pub returns-in-Ok-clause-fault : goal.returns-in-Ok-clause-fault
returns-in-Ok-clause-fault c =
    let r = c.trim_for_names.result in
    subst (λ (o : Option (List ℕ)). r.status ≡ failed → IsTrimmingFault (record { realloc = o; page_size_log2 = c.args.page_size_log2 }) c.args.wasm.now (texts c.args.required.now) r c.args.out.now c.trim_for_names.new.out) c.in-Ok.ensures.is c.trim_for_names.ensures.fault
