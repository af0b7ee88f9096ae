use Rattle.std.proofs.Common.{◌∙◌, ap, option_map, string_bytes, sym}
use Rattle.semver.specs.Identifiers.{parts_text}
use Rattle.wc_resolve.specs.Resolve.{key_text}
use Rattle.wc_resolve.specs.Views.{key_view}
use Rattle.wc_ways.specs.Typed.{item_end}
use Rattle.wc_ways.proofs.typed_found.end_at_item.Goals as goal

pub returns-in-Some : goal.returns-in-Some
returns-in-Some c =
    let text = ap (λ r. key_text parts_text r (key_view c.args.key.now)) c.metadata-metadata.ensures.resolve in
    ap (item_end c.args.side) (sym (ap (option_map string_bytes) c.in-Some.is) ∙ (c.in_ok-name.ensures ∙ text))

pub returns-in-None : goal.returns-in-None
returns-in-None c =
    let text = ap (λ r. key_text parts_text r (key_view c.args.key.now)) c.metadata-metadata.ensures.resolve in
    ap (item_end c.args.side) (sym (ap (option_map string_bytes) c.in-None.is) ∙ (c.in_ok-name.ensures ∙ text))
