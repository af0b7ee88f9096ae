use Rattle.std.proofs.Common.{◌≡◌, IfOk, None, Some, ap, refl, subst, sym, true}
use Rattle.std.specs.Borrow.{Bor}
use Rattle.std.specs.Option.{option_map}
use Rattle.wc_adapters.specs.declared.adapters.LibraryInfo.{LibraryInfo}
use Rattle.wc_adapters.specs.Adapters.{library_view}
use Rattle.wc_validate.specs.Validate.{module_record}
use Rattle.wc_world.specs.Private.Adapters.{main_of, named_adapter}
use Rattle.wc_world.specs.Private.Refused.{IsInputRefusal}
use Rattle.wc_world.specs.Views.{WorldAdapterView}
use Rattle.wc_world.specs.World.{IsTrimmedOrLibrary}
use Rattle.wc_world.specs.WorldViews.{adapter_view}
use Rattle.wc_world.specs.declared.adapter.WorldAdapter.{WorldAdapter}
use Rattle.wc_world.proofs.FaultLemmas.{borrowed_library, ok_mapped, passed_on}
use Rattle.wc_world.proofs.adapters.trimmed_or_library.Goals as goal

pub returns-in_err-first-clause-refusal : goal.returns-in_err-first-clause-refusal
returns-in_err-first-clause-refusal c = passed_on (IsInputRefusal c.args.input.now) c.from_residual.result _ c.from_residual.ensures.1 c.in_err-first.ensures.refusal

pub returns-in-Some-clause-is_adapter : goal.returns-in-Some-clause-is_adapter
returns-in-Some-clause-is_adapter c =
    let a : WorldAdapterView = record { wasm = c.deref.result.now; is_borrowed = true; info = module_record c.in_ok-first.first; library_info = Some (library_view c.in-Some.library) } in
    borrowed_library c.args.input.now c.in-Some.library a c.in-Some.is c.deref.ensures.value refl c.in_ok-first.ensures.recorded

pub returns-in-Some-clause-library : goal.returns-in-Some-clause-library
returns-in-Some-clause-library c = ap (option_map library_view) (sym c.in-Some.is)

pub trim_adapter-requires-clause-trims : goal.trim_adapter-requires-clause-trims
trim_adapter-requires-clause-trims c = c.in-None.is

pub returns-clause-is_adapter : goal.returns-clause-is_adapter
returns-clause-is_adapter c =
    subst (λ o. IfOk c.trim_adapter.result (λ a. IsTrimmedOrLibrary c.args.input.now.encoder.now (main_of c.args.input.now) (named_adapter c.args.input.now) (adapter_view a) (option_map library_view o))) (sym c.in-None.is) c.trim_adapter.ensures.is_adapter

pub returns-clause-library : goal.returns-clause-library
returns-clause-library c =
    subst (λ o. IfOk c.trim_adapter.result (λ a. (adapter_view a).library_info ≡ option_map library_view o)) (sym c.in-None.is)
    (ok_mapped (λ (a : WorldAdapter). a.library_info ≡ None) (λ (a : WorldAdapter). (adapter_view a).library_info ≡ None) c.trim_adapter.result (λ a none. ap (option_map (λ (l : Bor LibraryInfo). library_view l.now)) none) c.trim_adapter.ensures.library)
