use Rattle.std.proofs.Common.{◌≡◌, ◌+◌, ◌<◌, List, length, map, take, get_or, refl, sym, ◌∙◌, subst, rules}
use Rattle.std.proofs.lemmas.List.{length-map}
use Rattle.std.proofs.lemmas.List.Elements.{Contains-get_or}
use Rattle.wc_resolve.specs.declared.futures.FuturesEntry.{FuturesEntry}
use Rattle.wc_resolve.specs.Futures.{EntryView, IsEntryFor, entry_view}
use Rattle.wc_resolve.specs.Views.{type_view}
use Rattle.wc_resolve.proofs.FuturesEntryLemmas.{EntriesOf, entries_start, entries_step, entries_end, entries-set}
use Rattle.wc_resolve.proofs.futures.futures_entries.Goals as goal

pub loop-index-init : goal.loop-index-init
loop-index-init c = entries_start (map type_view c.args.types.now) (length c.args.types.now) (map entry_view c.in_ok-entries.entries.items) c.in_ok-entries.ensures (sym (length-map c.args.types.now type_view))

pub entry_for-requires : goal.entry_for-requires
entry_for-requires c =
    rw length-map at (c.requires.within (get_or c.args.order.now c.loop-index.index-index 0) (Contains-get_or c.args.order.now c.loop-index.index-index 0 c.loop-index-test.true))

pub index_mut-requires : goal.index_mut-requires
index_mut-requires c =
    let bound : get_or c.args.order.now c.loop-index.index-index 0 < length (map type_view c.args.types.now) = c.requires.within (get_or c.args.order.now c.loop-index.index-index 0) (Contains-get_or c.args.order.now c.loop-index.index-index 0 c.loop-index-test.true) in
    let same_length : length c.loop-index.entries.items ≡ length (map type_view c.args.types.now) = sym (length-map c.loop-index.entries.items entry_view) ∙ c.loop-index.invariant.same_length in
    let small : get_or c.args.order.now c.loop-index.index-index 0 < length c.loop-index.entries.items = rw same_length bound in
    search (rules, small)

pub loop-index-preserved : goal.loop-index-preserved
loop-index-preserved c =
    let bound : get_or c.args.order.now c.loop-index.index-index 0 < length (map type_view c.args.types.now) = c.requires.within (get_or c.args.order.now c.loop-index.index-index 0) (Contains-get_or c.args.order.now c.loop-index.index-index 0 c.loop-index-test.true) in
    let made : IsEntryFor (map entry_view c.loop-index.entries.items) (map type_view c.args.types.now) (get_or c.args.order.now c.loop-index.index-index 0) (entry_view c.in_ok-entry.entry) =
    subst (λ (z : List FuturesEntry). IsEntryFor (map entry_view z) (map type_view c.args.types.now) (get_or c.args.order.now c.loop-index.index-index 0) (entry_view c.in_ok-entry.entry)) c.deref.ensures.value c.in_ok-entry.ensures in
    subst (λ (z : List EntryView). EntriesOf (map type_view c.args.types.now) z (take (c.loop-index.index-index + 1) c.args.order.now))
    (sym (entries-set c.loop-index.entries.items (get_or c.args.order.now c.loop-index.index-index 0) c.in_ok-entry.entry))
    (entries_step (map type_view c.args.types.now) c.args.order.now (map entry_view c.loop-index.entries.items) c.loop-index.index-index (get_or c.args.order.now c.loop-index.index-index 0) (entry_view c.in_ok-entry.entry)
    c.requires c.loop-index-test.true refl bound made c.loop-index.invariant)

pub returns : goal.returns
returns c = entries_end (map type_view c.args.types.now) c.args.order.now (map entry_view c.loop-index.entries.items) c.loop-index.index-index c.requires c.loop-index-test.false c.loop-index.invariant
