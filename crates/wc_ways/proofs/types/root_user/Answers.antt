use Rattle.std.proofs.Common.{◌≡◌, IfOk, option_map, string_bytes, subst, sym}
use Rattle.wc_ways.specs.Private.Needs.{root_view}
use Rattle.wc_ways.specs.Types.{root_user}
use Rattle.wc_ways.proofs.types.root_user.Goals as goal

pub returns-in-Item : goal.returns-in-Item
returns-in-Item c =
    subst (λ z. IfOk c.key_text.result (λ t. option_map string_bytes t ≡ root_user c.args.resolve.now (root_view z))) (sym c.in-Item.is) c.key_text.ensures
