use Rattle.std.proofs.Common.{Option, map, string_bytes, subst, sym}
use Rattle.std.specs.IoError.{error_kind}
use Rattle.std.proofs.lemmas.Iterator.Adapters.{YieldsList-from_vec}
use Rattle.std.proofs.lemmas.Iterator.Consumers.{YieldsList-so_far, YieldsList-turn}
use Rattle.wc_program.specs.Files.{FailsFrom, Held, Writes}
use Rattle.wcplan.specs.Program.{WritesAll, file_view}
use Rattle.wcplan.proofs.RunLemmas.{failed_from, unwritten_at, writes_more}
use Rattle.wcplan.proofs.outputs.write_files.Goals as goal

pub returns-in-Err-clause-fault : goal.returns-in-Err-clause-fault
returns-in-Err-clause-fault g c =
    let held = g.F.FileStore.held in
    let all = YieldsList-from_vec {s = c.into_iter-path-iterator.result} c.args.outputs.items c.into_iter-path-iterator.ensures.into_iter_gives.0 cc in
    let at = YieldsList-turn all c.loop-path.yielded c.loop-path.path-iterator c.loop-path.yielded_by c.next.result c.next.new.self
    (c.in-Some.path, c.in-Some.bytes) c.in-Some.is c.next.ensures.steps in
    let passed = YieldsList-so_far all c.loop-path.yielded c.loop-path.path-iterator c.loop-path.yielded_by in
    let fails = g.F.FileStore.write_fails in
    let kind = error_kind c.in-Err.e in
    let kept = c.in-Err.ensures.kept in
    let written = subst (λ (m : Option Held). WritesAll (held c.args.files.now) m (map file_view c.loop-path.yielded)) (sym kept) c.loop-path.invariant in
    unwritten_at (held c.args.files.now) (held c.replace.new.self) (FailsFrom held fails c.replace.new.self) c.args.outputs.items c.loop-path.yielded
    (c.in-Some.path, c.in-Some.bytes) c.problem_of.result at passed written
    (failed_from held fails c.loop-path.files c.replace.new.self (string_bytes c.in-Some.path) c.in-Some.bytes.now kind c.problem_of.result kept
    (subst (λ path. fails c.loop-path.files c.replace.new.self path c.in-Some.bytes.now kind) c.deref.ensures c.in-Err.ensures.cause) c.problem_of.ensures)

pub loop-path-preserved : goal.loop-path-preserved
loop-path-preserved g c =
    let held = g.F.FileStore.held in
    writes_more (held c.args.files.now) (held c.loop-path.files) (held c.replace.new.self) c.loop-path.yielded (c.in-Some.path, c.in-Some.bytes)
    c.loop-path.invariant (subst (λ path. Writes (held c.loop-path.files) (held c.replace.new.self) path c.in-Some.bytes.now) c.deref.ensures
    c.in_default.ensures.written)
