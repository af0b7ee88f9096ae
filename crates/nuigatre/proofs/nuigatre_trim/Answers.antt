use Rattle.std.proofs.Common.{◌≡◌, ℕ, List, Option, subst}
use Rattle.wc_calls.specs.Answers.{failed}
use Rattle.wc_calls.specs.ExportNames.{texts}
use Rattle.wc_calls.specs.Trimming.{IsTrimmingFault}
use Rattle.nuigatre.proofs.nuigatre_trim.Goals as goal

pub returns-clause-fault : goal.returns-clause-fault
returns-clause-fault c =
    let r = c.trim.result in
    subst (λ (o : Option (List ℕ)). r.status ≡ failed → IsTrimmingFault (record { realloc = o; page_size_log2 = c.args.page_size_log2 }) c.args.wasm.now (texts c.args.required.now) r c.args.out.now c.trim.new.out) c.optional_name-realloc.ensures c.trim.ensures.fault
