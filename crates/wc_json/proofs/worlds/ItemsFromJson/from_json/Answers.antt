use Rattle.std.proofs.Common.{◌+◌, ◌∙◌, Ok, Err, drop, ap, subst, sym}
use Rattle.std.proofs.lemmas.Result.{err_from_is_err_and}
use Rattle.indexmap.specs.IndexMap.{insert_entry}
use Rattle.json.specs.Value.{members_view}
use Rattle.wc_resolve.proofs.KeyLemmas.{key_view_eq, keys_viewed}
use Rattle.wc_resolve.specs.Views.{item_view, key_view}
use Rattle.wc_resolve.specs.contracts.worlds.WorldKeyPartialEq.TheImpl.{eq-value as key_eq}
use Rattle.wc_json.specs.Fault.{IsFaultOf}
use Rattle.wc_json.specs.Keys.{item_key}
use Rattle.wc_json.specs.Maps.{entries_after}
use Rattle.wc_json.specs.Paths.{key_step}
use Rattle.wc_json.specs.Worlds.{item}
use Rattle.wc_json.proofs.MapLemmas.{IsFaultOf_member, entries-value_view, entries_after-member, entries_view, entries_view-insert_entry}
use Rattle.wc_json.proofs.PathLemmas.{Reads_at_step}
use Rattle.wc_json.proofs.worlds.ItemsFromJson.from_json.Goals as goal

pub loop-member-preserved : goal.loop-member-preserved
loop-member-preserved c =
    let members = c.deref-member-items.result.now in
    let before = entries_view key_eq.it key_view_eq key_view item_view keys_viewed c.loop-member.items.entries in
    let rest = members_view (drop (c.loop-member.member-index + 1) members) in
    let value = Reads_at_step item_view (key_step c.member-item.result.0.now) c.from_json.result
    (Ok c.in_ok-item.item) _ c.in_ok-item.ensures c.from_json.ensures.reads in
    c.loop-member.invariant
    ∙ entries_after-member key_view_eq item_key item members c.loop-member.member-index c.member-item.result c.loop-member-test.true c.member-item.is
    before (item_view c.in_ok-item.item) value
    ∙ ap (λ es. entries_after key_view_eq item_key item es rest)
    (sym (ap (entries_view key_eq.it key_view_eq key_view item_view keys_viewed) c.in_ok-insert.ensures.entries
    ∙ entries_view-insert_entry key_eq.it key_view_eq key_view item_view keys_viewed c.loop-member.items.entries c.in_ok-item_key.field-0 c.in_ok-item.item
    ∙ ap (λ k. insert_entry key_view_eq before k (item_view c.in_ok-item.item)) c.in_ok-item_key.ensures))

pub returns-in_err-item : goal.returns-in_err-item
returns-in_err-item c =
    let p = err_from_is_err_and c.from_residual-in_err-item.result c.from_residual-in_err-item.ensures.1 in
    let members = c.deref-member-items.result.now in
    let fault = c.in_err-item.field-0.0 in
    let whole = entries-value_view key_view_eq item_key item c.args.value.now c.in-Object.members members c.in-Object.is
    c.deref-member-items.ensures.value ∙ c.loop-member.invariant in
    let value = Reads_at_step item_view (key_step c.member-item.result.0.now) c.from_json.result (Err fault) _ c.in_err-item.ensures c.from_json.ensures.reads in
    record {
      reads = rw (p.1, p.2) (subst (IsFaultOf fault) (sym whole)
          (IsFaultOf_member key_view_eq item_key item members c.loop-member.member-index c.member-item.result c.loop-member-test.true c.member-item.is
          fault _ value));
    }
