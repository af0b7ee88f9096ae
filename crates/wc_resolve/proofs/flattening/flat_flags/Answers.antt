use Rattle.std.proofs.Common.{min, replicate, ap, ◌∙◌}
use Rattle.std.specs.Int.{div_ceil}
use Rattle.wc_resolve.specs.declared.flat.WasmType.TheVariants.{I32}
use Rattle.wc_resolve.proofs.FlatStepLemmas.{copies_cut}
use Rattle.wc_resolve.specs.Flat.{flat_types_kept}
use Rattle.wc_resolve.proofs.flattening.flat_flags.Goals as goal

pub returns : goal.returns
returns c =
    c.in_ok-flat.ensures.items_if_clones_equal (λ y h. h) ∙ ap (λ n. replicate n I32) (c.min-count.ensures ∙ ap (λ n. min n flat_types_kept) c.div_ceil.ensures)
    ∙ copies_cut flat_types_kept (div_ceil c.args.labels 32) I32
