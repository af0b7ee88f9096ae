use Rattle.std.proofs.Common.{map, refl}
use Rattle.wc_module_ways.specs.Adapters.{adapter_view}
use Rattle.wc_program.specs.Screen.{Becomes, output_ends}
use Rattle.wcwhy.specs.ModuleWays.{IsSummary}
use Rattle.wcwhy.proofs.ModuleWayLemmas.{put_failed, put_printed, ways_cause}
use Rattle.wcwhy.proofs.module_ways.print_summary.Goals as goal

pub returns-in-Ok-clause-done : goal.returns-in-Ok-clause-done
returns-in-Ok-clause-done g c w v =
    let out = Becomes (output_ends g.O.Sink.written g.O.Output.sent g.O.Sink.is_failed) c.args.out.now c.put_bytes.new.out in
    put_printed (IsSummary c.args.json w) out c.in-Ok.text.items c.deref.result.now c.put_bytes.result c.deref.ensures.value
    (c.in-Ok.ensures.text w v) c.put_bytes.ensures.done

pub returns-in-Ok-clause-fault : goal.returns-in-Ok-clause-fault
returns-in-Ok-clause-fault g c w v =
    let out = Becomes (output_ends g.O.Sink.written g.O.Output.sent g.O.Sink.is_failed) c.args.out.now c.put_bytes.new.out in
    put_failed w out c.put_bytes.result c.put_bytes.ensures.fault

pub returns-in-Err-clause-fault : goal.returns-in-Err-clause-fault
returns-in-Err-clause-fault g c w v =
    let out = Becomes (output_ends g.O.Sink.written g.O.Output.sent g.O.Sink.is_failed) c.args.out.now c.args.out.now in
    ways_cause w out refl (map adapter_view c.args.modules.now.adapters.items) v.adapters c.in-Err.refusal c.ways_fault.result c.in-Err.ensures.refused
    c.ways_fault.ensures
