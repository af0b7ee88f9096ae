use Rattle.std.proofs.Common.{ap}
use Rattle.json.specs.Value.{value_view}
use Rattle.wc_json.specs.Fault.{◌>>=◌}
use Rattle.wc_json.specs.Kinds.{handle, handle_of}
use Rattle.wc_json.specs.Paths.{at_step, variant_step}
use Rattle.wc_json.proofs.MemoryLemmas.{read_at_variant}
use Rattle.wc_json.proofs.kinds.HandleFromJson.from_json.Goals as goal

pub returns-clause-memory : goal.returns-clause-memory
returns-clause-memory c =
    let m = c.in_ok-member.member.now in
    read_at_variant (λ x. x) m.0.now c.handle_of.result c.at_variant.result (handle (value_view c.args.value.now)) (handle_of m.0.now (value_view m.1))
    (ap (λ reading. reading >>= (λ p. at_step (variant_step p.0) (handle_of p.0 p.1))) c.in_ok-member.ensures.reads)
    c.at_variant.ensures c.handle_of.ensures.reads c.handle_of.ensures.no_memory
