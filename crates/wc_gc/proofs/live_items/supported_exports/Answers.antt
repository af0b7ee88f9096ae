use Rattle.std.proofs.Common.{◌≡◌, List, ap, subst, sym, ◌∙◌, refl, map, None}
use Rattle.wc_read.specs.Exports.{ExportValue, export_value}
use Rattle.wc_read.specs.Modules.{module_value}
use Rattle.wc_gc.specs.Exports.{missing_name}
use Rattle.wc_gc.specs.LiveItems.{names_of}
use Rattle.wc_gc.proofs.TrimPlaceLemmas.{missing_refusal, none_unsupported, section_refusal}
use Rattle.wc_gc.proofs.live_items.supported_exports.Goals as goal

pub returns-clause-refusal : goal.returns-clause-refusal
returns-clause-refusal c =
    missing_refusal (names_of c.args.required.now.keys) (module_value c.args.adapter.now) _ _ _ (ap (map export_value) c.deref.ensures.value) c.in-Err.ensures.fault
    c.without_place.ensures.fault c.without_place.ensures.place

pub returns-in-Some-clause-refusal : goal.returns-in-Some-clause-refusal
returns-in-Some-clause-refusal c =
    let same = ap (map export_value) c.deref.ensures.value in
    section_refusal (names_of c.args.required.now.keys) (module_value c.args.adapter.now) c.in-Some.id _
    (subst (λ (z : List ExportValue). missing_name z (names_of c.args.required.now.keys) ≡ None) same (c.in-Ok.ensures.none refl))
    (sym c.first_unsupported.ensures ∙ c.in-Some.is) c.unsupported.ensures.fault c.unsupported.ensures.place

pub returns-in-Ok-clause-supported : goal.returns-in-Ok-clause-supported
returns-in-Ok-clause-supported c =
    let same = ap (map export_value) c.deref.ensures.value in
    λ _. (
      subst (λ (z : List ExportValue). missing_name z (names_of c.args.required.now.keys) ≡ None) same (c.in-Ok.ensures.none refl),
      none_unsupported (module_value c.args.adapter.now) (sym c.first_unsupported.ensures ∙ c.in-None.is),
    )
