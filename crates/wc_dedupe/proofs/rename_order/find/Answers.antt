use Rattle.std.proofs.Common.{rules}
use Rattle.std.proofs.lemmas.Fn.{always_returns_same}
use Rattle.wc_dedupe.specs.Renaming.{ImportName}
use Rattle.wc_dedupe.specs.Private.RenameOrder.{key_cmp}
use Rattle.wc_dedupe.proofs.OrderLemmas.{found_at, rises_to, not_found}
use Rattle.wc_dedupe.proofs.rename_order.find.Goals as goal

pub returns-in-Ok : goal.returns-in-Ok
returns-in-Ok c =
    let renames = c.args.renames.now in
    let x : ImportName = record { module_name = c.args.module.now; name = c.args.name.now } in
    let tie = c.in-Ok.ensures.position (λ e. key_cmp renames e c.name_key-number.result x) (always_returns_same _ _ _ (λ a r f' called. (search rules, search rules))) in
    found_at renames c.args.order.now x c.requires c.name_key-number.result c.in-Ok.position c.in-Ok.ensures.bound (tie (0, 0))

pub returns-in-Err : goal.returns-in-Err
returns-in-Err c =
    let renames = c.args.renames.now in
    let x : ImportName = record { module_name = c.args.module.now; name = c.args.name.now } in
    let parts = c.in-Err.ensures.position (λ e. key_cmp renames e c.name_key-number.result x) (always_returns_same _ _ _ (λ a r f' called. (search rules, search rules))) in
    not_found renames c.args.order.now x c.requires c.name_key-number.result c.in-Err.field-0 c.name_key-number.ensures (parts (rises_to renames c.args.order.now x c.requires c.name_key-number.result))
