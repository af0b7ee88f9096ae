use Rattle.std.proofs.Common.{◌+◌, ◌∙◌, Ok, Err, drop, ap, refl, subst, sym, string_bytes, string_eq}
use Rattle.std.specs.Str.{bytes_eq}
use Rattle.std.proofs.lemmas.Result.{err_from_is_err_and}
use Rattle.indexmap.specs.IndexMap.{insert_entry}
use Rattle.json.specs.Value.{members_view}
use Rattle.wc_json.specs.Fault.{IsFaultOf}
use Rattle.wc_json.specs.Maps.{entries_after}
use Rattle.wc_json.specs.Paths.{key_step}
use Rattle.wc_json.proofs.MapLemmas.{IsFaultOf_member, entries-value_view, entries_after-member, entries_view, entries_view-insert_entry}
use Rattle.wc_json.proofs.PathLemmas.{Reads_at_step}
use Rattle.wc_json.proofs.maps.MapStringFromJson.from_json.Goals as goal

pub loop-member-preserved : goal.loop-member-preserved
loop-member-preserved g c =
    let reading = g.T.FromJson.reading in
    let view = g.T.FromJson.view in
    let members = c.deref-member-items.result.now in
    let before = entries_view string_eq bytes_eq string_bytes view (λ a b. refl) c.loop-member.map.entries in
    let rest = members_view (drop (c.loop-member.member-index + 1) members) in
    let value = Reads_at_step view (key_step c.member-item.result.0.now) c.from_json.result
    (Ok c.in_ok-entry.entry) _ c.in_ok-entry.ensures c.from_json.ensures.reads in
    c.loop-member.invariant
    ∙ entries_after-member bytes_eq (λ k a. k) reading members c.loop-member.member-index c.member-item.result c.loop-member-test.true c.member-item.is
    before (view c.in_ok-entry.entry) value
    ∙ ap (λ es. entries_after bytes_eq (λ k a. k) reading es rest)
    (sym (ap (entries_view string_eq bytes_eq string_bytes view (λ a b. refl)) c.in_ok-insert.ensures.entries
    ∙ entries_view-insert_entry string_eq bytes_eq string_bytes view (λ a b. refl) c.loop-member.map.entries c.in_ok-from_str.field-0 c.in_ok-entry.entry
    ∙ ap (λ k. insert_entry bytes_eq before k (view c.in_ok-entry.entry)) c.in_ok-from_str.ensures.ok))

pub returns-in_err-entry : goal.returns-in_err-entry
returns-in_err-entry g c =
    let p = err_from_is_err_and c.from_residual-in_err-entry.result c.from_residual-in_err-entry.ensures.1 in
    let reading = g.T.FromJson.reading in
    let view = g.T.FromJson.view in
    let members = c.deref-member-items.result.now in
    let fault = c.in_err-entry.field-0.0 in
    let whole = entries-value_view bytes_eq
    (λ k a. k) reading c.args.value.now c.in-Object.members members c.in-Object.is c.deref-member-items.ensures.value ∙ c.loop-member.invariant in
    let value = Reads_at_step view (key_step c.member-item.result.0.now) c.from_json.result (Err fault) _ c.in_err-entry.ensures c.from_json.ensures.reads in
    record {
      reads = rw (p.1, p.2) (subst (IsFaultOf fault) (sym whole)
          (IsFaultOf_member bytes_eq (λ k a. k) reading members c.loop-member.member-index c.member-item.result c.loop-member-test.true c.member-item.is fault _ value));
    }
