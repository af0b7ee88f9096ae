use Rattle.std.proofs.Common.{◌≢◌, ◌∙◌, List, Option, ℕ, ap, refl, subst, sym}
use Rattle.std.specs.Prelude.{AllPairs}
use Rattle.std.proofs.lemmas.Result.{on_ok_weaker}
use Rattle.wc_gc.specs.LiveItems.{names_of}
use Rattle.wc_summary.specs.Entries.{entries_view, interfaces_of}
use Rattle.wc_summary.specs.Private.Tags.{ArePlacesCounted}
use Rattle.wc_summary.specs.Leads.{tags_view}
use Rattle.wc_summary.proofs.NotedLemmas.{found_distinct, found_is, keys_many, keys_named, library_pushed}
use Rattle.wc_summary.proofs.summary_adapters.note_library.Goals as goal

pub push_uses-requires : goal.push_uses-requires
push_uses-requires c =
    let found = c.place_tags.new.entries.entries in
    let tags = tags_view c.args.tags.now in
    let is = found_is tags c.in_ok-places.places.items (entries_view c.with_hasher-found.result.entries) (entries_view found) (ap entries_view c.with_hasher-found.ensures.empty)
    c.in_ok-places.ensures in
    subst (AllPairs (λ x y. x ≢ y)) (sym (ap names_of (c.as_slice.ensures ∙ c.keys.ensures.rest) ∙ keys_named found)) (found_distinct tags (interfaces_of (entries_view found)) is)

pub returns : goal.returns
returns c =
    let found = c.place_tags.new.entries.entries in
    let places = c.in_ok-places.places.items in
    let tags = tags_view c.args.tags.now in
    let is = found_is tags places (entries_view c.with_hasher-found.result.entries) (entries_view found) (ap entries_view c.with_hasher-found.ensures.empty) c.in_ok-places.ensures in
    on_ok_weaker c.push_uses.result
    (library_pushed c.args.name.now tags (interfaces_of (entries_view found)) (names_of c.as_slice.result.now) places _ _
    (record { is_library = _; counts = c.in_ok-counts_of.field-0; led = c.new.result; alone = c.new-2.result }) c.len.result (entries_view c.args.entries.now.entries)
    (entries_view c.push_uses.new.entries.entries) (ap names_of (c.as_slice.ensures ∙ c.keys.ensures.rest) ∙ keys_named found) is c.in_ok-places.ensures.at
    (c.len.ensures.len ∙ keys_many found)
    (subst (λ (z : List (Option ℕ)). ArePlacesCounted z c.len.result c.in_ok-counts_of.field-0.items) c.deref.ensures.value c.in_ok-counts_of.ensures) refl c.new.ensures.items
    c.new-2.ensures.items)
    c.push_uses.ensures
