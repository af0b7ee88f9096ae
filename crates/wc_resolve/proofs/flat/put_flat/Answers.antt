use Rattle.std.proofs.Common.{◌-◌, ◌++◌, take, ap, ◌∙◌}
use Rattle.wc_resolve.proofs.FlatStepLemmas.{put_room}
use Rattle.wc_resolve.specs.Flat.{flat_types_kept}
use Rattle.wc_resolve.proofs.flat.put_flat.Goals as goal

pub returns : goal.returns
returns c =
    c.in_ok-extend_from_slice.ensures.items ∙ ap (λ n. c.args.flat.now.items ++ take n c.args.more.now) c.min-count.ensures
    ∙ put_room flat_types_kept (flat_types_kept - c.len-room.result) c.args.flat.now.items c.args.more.now c.requires (ap (λ n. flat_types_kept - n) (c.len-room.ensures ∙ c.args.flat.now.ok.0))
