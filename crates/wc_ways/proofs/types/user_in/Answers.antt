use Rattle.std.proofs.Common.{◌≡◌, ◌∙◌, IfOk, ap, option_map, string_bytes, subst, sym}
use Rattle.std.specs.Option.{option_and_then}
use Rattle.wc_world.specs.WorldViews.{world_view}
use Rattle.wc_ways.specs.Private.Needs.{root_view}
use Rattle.wc_ways.specs.Types.{TypeCite, root_user}
use Rattle.wc_ways.proofs.types.user_in.Goals as goal

pub returns-in-Some : goal.returns-in-Some
returns-in-Some c =
    let w = world_view c.args.world.now in
    let is = sym (ap (option_map root_view) c.in-Some.is) ∙ ap (λ (z : TypeCite). z.root) c.cite_of.ensures in
    subst (λ z. IfOk c.root_user.result (λ t. option_map string_bytes t ≡ z))
    (ap (λ r. root_user r (root_view c.in-Some.root)) c.metadata-metadata.ensures.resolve ∙ ap (option_and_then (root_user w.encoder.resolve)) is) c.root_user.ensures

pub returns-in-None : goal.returns-in-None
returns-in-None c =
    let w = world_view c.args.world.now in
    let is = sym (ap (option_map root_view) c.in-None.is) ∙ ap (λ (z : TypeCite). z.root) c.cite_of.ensures in
    ap (option_and_then (root_user w.encoder.resolve)) is
