use Rattle.std.proofs.Common.{◌≢◌, ◌∙◌, List, Option, ℕ, ap, length, subst, sym}
use Rattle.std.specs.Prelude.{AllPairs}
use Rattle.std.proofs.lemmas.List.{length-map}
use Rattle.std.proofs.lemmas.Result.{on_ok_weaker}
use Rattle.wc_gc.specs.LiveItems.{names_of}
use Rattle.wc_summary.specs.CoreModules.{core_value}
use Rattle.wc_summary.specs.Entries.{entries_view, interfaces_of}
use Rattle.wc_summary.specs.Leads.{tag_view, tags_view}
use Rattle.wc_summary.specs.Private.CoreModules.{AreCoreUses}
use Rattle.wc_summary.proofs.CorePartLemmas.{core_pushed}
use Rattle.wc_summary.proofs.MainNoteLemmas.{places_sized}
use Rattle.wc_summary.proofs.NotedLemmas.{found_distinct, found_is, keys_many, keys_named}
use Rattle.wc_summary.proofs.core_modules.note_core_module.Goals as goal

pub core_uses-requires-clause-sized : goal.core_uses-requires-clause-sized
core_uses-requires-clause-sized c =
    let found = interfaces_of (entries_view c.place_tags.new.entries.entries) in
    let tags = c.args.core.now.tags.now in
    ap length c.deref.ensures.value ∙ (places_sized found c.in_ok-places.places.items (tags_view tags) c.in_ok-places.ensures.at.are ∙ (length-map tags tag_view ∙ c.requires))

pub push_core_uses-requires : goal.push_core_uses-requires
push_core_uses-requires c =
    let found = c.place_tags.new.entries.entries in
    let tags = tags_view c.args.core.now.tags.now in
    let is = found_is tags c.in_ok-places.places.items (entries_view c.with_hasher-found.result.entries) (entries_view found) (ap entries_view c.with_hasher-found.ensures.empty)
    c.in_ok-places.ensures in
    subst (AllPairs (λ x y. x ≢ y)) (sym (ap names_of (c.as_slice.ensures ∙ c.keys.ensures.rest) ∙ keys_named found)) (found_distinct tags (interfaces_of (entries_view found)) is)

pub returns : goal.returns
returns c =
    let a = core_value c.args.core.now in
    let found = c.place_tags.new.entries.entries in
    let interfaces = interfaces_of (entries_view found) in
    let places = c.in_ok-places.places.items in
    let is = found_is a.tags places (entries_view c.with_hasher-found.result.entries) (entries_view found) (ap entries_view c.with_hasher-found.ensures.empty)
    c.in_ok-places.ensures in
    on_ok_weaker c.push_core_uses.result
    (core_pushed a interfaces (names_of c.as_slice.result.now) places c.in_ok-uses.uses c.len.result (entries_view c.args.entries.now.entries)
    (entries_view c.push_core_uses.new.entries.entries) (ap names_of (c.as_slice.ensures ∙ c.keys.ensures.rest) ∙ keys_named found) is c.in_ok-places.ensures.at
    (c.len.ensures.len ∙ keys_many found)
    (subst (λ (z : List (Option ℕ)). AreCoreUses a z c.len.result c.in_ok-uses.uses) c.deref.ensures.value c.in_ok-uses.ensures))
    c.push_core_uses.ensures
