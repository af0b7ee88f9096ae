use Rattle.std.proofs.Common.{ap}
use Rattle.json.specs.Value.{value_view}
use Rattle.wc_json.specs.Fault.{◌>>=◌}
use Rattle.wc_json.specs.Types.{owner, owner_of}
use Rattle.wc_json.specs.Paths.{at_step, variant_step}
use Rattle.wc_json.proofs.MemoryLemmas.{read_at_variant}
use Rattle.wc_json.proofs.types.TypeOwnerFromJson.from_json.Goals as goal

pub returns-clause-memory : goal.returns-clause-memory
returns-clause-memory c =
    let m = c.in_ok-member.member.now in
    read_at_variant (λ x. x) m.0.now c.owner_of.result c.at_variant.result (owner (value_view c.args.value.now)) (owner_of m.0.now (value_view m.1))
    (ap (λ reading. reading >>= (λ p. at_step (variant_step p.0) (owner_of p.0 p.1))) c.in_ok-member.ensures.reads)
    c.at_variant.ensures c.owner_of.ensures.reads c.owner_of.ensures.no_memory
