use Rattle.std.proofs.lemmas.Iterator.Adapters.{YieldsList-from_vec}
use Rattle.std.proofs.lemmas.Iterator.Consumers.{YieldsList-so_far, YieldsList-turn}
use Rattle.wcplan_inputs.proofs.AdapterFileLemmas.{requested_more}
use Rattle.wcplan_inputs.proofs.adapter_files.given_adapters.Goals as goal

pub loop-file-preserved : goal.loop-file-preserved
loop-file-preserved c = λ q keys are.
    let all = YieldsList-from_vec {s = c.into_iter-file-iterator.result} c.args.files.items c.into_iter-file-iterator.ensures.into_iter_gives.0 cc in
    let at = YieldsList-turn all c.loop-file.yielded c.loop-file.file-iterator c.loop-file.yielded_by c.next.result c.next.new.self c.in-Some.file
    c.in-Some.is c.next.ensures.steps in
    let passed = YieldsList-so_far all c.loop-file.yielded c.loop-file.file-iterator c.loop-file.yielded_by in
    let added = c.in_ok-add_adapter.ensures q keys are in
    requested_more q keys c.args.files.items c.loop-file.yielded c.in-Some.file c.loop-file.adapters.entries c.add_adapter.new.adapters.entries
    added.0 added.1 at passed c.requires added.2 added.3 (c.loop-file.invariant q keys are)
