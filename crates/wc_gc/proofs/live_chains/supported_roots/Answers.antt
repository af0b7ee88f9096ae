use Rattle.std.proofs.Common.{◌≡◌, List, ap, subst, sym, ◌∙◌, refl, map, None}
use Rattle.wc_read.specs.Exports.{ExportValue, export_value}
use Rattle.wc_read.specs.Modules.{module_value}
use Rattle.wc_gc.specs.Exports.{AreNamed, export_entries, missing_name}
use Rattle.wc_gc.specs.LiveChains.{items_named}
use Rattle.wc_gc.specs.LiveItems.{names_of}
use Rattle.wc_gc.specs.Private.TrimPlace.{HasFound}
use Rattle.wc_gc.specs.Private.Roots.{AreNamedRoots}
use Rattle.wc_gc.proofs.ExportLemmas.{named_by_name, entries_by_name}
use Rattle.wc_gc.proofs.TrimPlaceLemmas.{missing_refusal, none_unsupported, section_refusal}
use Rattle.wc_gc.proofs.live_chains.supported_roots.Goals as goal

pub check_named-requires : goal.check_named-requires
check_named-requires c = subst AreNamed (sym c.in_ok-named.ensures) (named_by_name c.deref.result.now)

pub returns-in-Err-clause-refusal : goal.returns-in-Err-clause-refusal
returns-in-Err-clause-refusal c =
    let same = ap export_entries c.in_ok-named.ensures ∙ (entries_by_name c.deref.result.now ∙ ap (map export_value) c.deref.ensures.value) in
    missing_refusal (names_of c.args.required.now.keys) (module_value c.args.adapter.now) _ _ _ same c.in-Err.ensures.fault
    c.without_place.ensures.fault c.without_place.ensures.place

pub returns-in-Some-clause-refusal : goal.returns-in-Some-clause-refusal
returns-in-Some-clause-refusal c =
    let same = ap export_entries c.in_ok-named.ensures ∙ (entries_by_name c.deref.result.now ∙ ap (map export_value) c.deref.ensures.value) in
    section_refusal (names_of c.args.required.now.keys) (module_value c.args.adapter.now) c.in-Some.id _
    (subst (λ (z : List ExportValue). missing_name z (names_of c.args.required.now.keys) ≡ None) same (c.in_default.ensures.none refl))
    (sym c.first_unsupported.ensures ∙ c.in-Some.is) c.unsupported.ensures.fault c.unsupported.ensures.place

pub find_roots-requires : goal.find_roots-requires
find_roots-requires c = subst AreNamed (sym c.in_ok-named.ensures) (named_by_name c.deref.result.now)

pub returns-clause-found : goal.returns-clause-found
returns-clause-found c =
    let same = ap export_entries c.in_ok-named.ensures ∙ (entries_by_name c.deref.result.now ∙ ap (map export_value) c.deref.ensures.value) in
    subst (λ (z : List ExportValue). HasFound (items_named z (names_of c.args.required.now.keys)) c.in_ok-roots.roots.search) same c.in_ok-roots.ensures.found

pub returns-clause-named : goal.returns-clause-named
returns-clause-named c =
    let same = ap export_entries c.in_ok-named.ensures ∙ (entries_by_name c.deref.result.now ∙ ap (map export_value) c.deref.ensures.value) in
    subst (λ (z : List ExportValue). AreNamedRoots (names_of c.args.required.now.keys) z c.in_ok-roots.roots) same c.in_ok-roots.ensures.named

pub returns-clause-supported : goal.returns-clause-supported
returns-clause-supported c =
    let same = ap export_entries c.in_ok-named.ensures ∙ (entries_by_name c.deref.result.now ∙ ap (map export_value) c.deref.ensures.value) in
    λ _. (
      subst (λ (z : List ExportValue). missing_name z (names_of c.args.required.now.keys) ≡ None) same (c.in_default.ensures.none refl),
      none_unsupported (module_value c.args.adapter.now) (sym c.first_unsupported.ensures ∙ c.in_default-first_unsupported.is),
    )
