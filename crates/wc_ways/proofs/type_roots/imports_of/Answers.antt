use Rattle.std.proofs.Common.{◌<◌, ◌∙◌, ℕ, length, subst, sym}
use Rattle.std.specs.List.{slice_get}
use Rattle.wc_encoder.proofs.WorldLemmas.{imports_are}
use Rattle.wc_resolve.specs.Kinds.{ResolveView}
use Rattle.wc_resolve.specs.Views.{world_view}
use Rattle.wc_ways.proofs.type_roots.imports_of.Goals as goal

pub world-requires : goal.world-requires
world-requires c =
    let e = c.args.encoder.now in
    let m = c.metadata-metadata.result.now in
    subst (λ (n : ℕ). n < length m.resolve.worlds) (sym c.metadata-metadata.ensures.world)
    (subst (λ (z : ResolveView). e.world < length z.worlds) (sym c.metadata-metadata.ensures.resolve) c.well_formedness.ensures.has_world)

pub returns : goal.returns
returns c =
    sym (imports_are c.args.encoder.now (world_view c.world.result.now)
    ((λ i. slice_get (sym c.metadata-metadata.ensures.resolve i).worlds (sym c.metadata-metadata.ensures.world i)) ∙ c.world.ensures))
