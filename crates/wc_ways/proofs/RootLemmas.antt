-- The roots of live types, by which all needs are found.
use Rattle.std.proofs.Common.{◌≡◌, ℕ, List, [], ◌++◌, subst}
use Rattle.std.specs.List.{flat_map}
use Rattle.wc_adapters.specs.Entries.{Entries}
use Rattle.wc_resolve.specs.Kinds.{ResolveView}
use Rattle.wc_resolve.specs.Live.{AddsListings}
use Rattle.wc_resolve.proofs.ListingLemmas.{complete_none}
use Rattle.wc_world.specs.Live.{live_from}
use Rattle.wc_world.specs.Views.{ComponentWorldView}
use Rattle.wc_ways.specs.Private.Needs.{AddsNeeds, AreNeeded, Noted}
use Rattle.wc_ways.specs.TypeRoots.{Needs, export_needs, modules_needs, own_needs}
use Rattle.wc_ways.proofs.NeedLemmas.{needs_both}

-- what the roots need, by what the world imports and exports
abbrev pub needs_by : ResolveView → Entries → Entries → ComponentWorldView → Needs
needs_by r imports exports w = flat_map (own_needs r) imports ++ (modules_needs r imports w ++ flat_map (export_needs r w.exports_used) exports)

-- what three kinds of roots need is noted, where nothing was
pub all_found : (r : ResolveView) (start a b c : Noted) (xs ys zs : Needs) → start ≡ [] → AddsNeeds r start a xs → AddsNeeds r a b ys → AddsNeeds r b c zs
    → AreNeeded (xs ++ (ys ++ zs)) c
all_found r start a b c xs ys zs none p q s =
    ((subst (λ z. AddsNeeds r z c (xs ++ (ys ++ zs))) none (needs_both r start a c xs (ys ++ zs) p (needs_both r a b c ys zs q s))) (complete_none r.types)).1

-- the types that were listed where none were
pub live_listed : (r : ResolveView) (cleared new roots : List ℕ) → cleared ≡ [] → AddsListings r cleared new roots → new ≡ live_from r roots
live_listed r cleared new roots none adds = (subst (λ z. AddsListings r z new roots) none adds (complete_none r.types)).1
