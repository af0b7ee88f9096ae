-- Lowerings of interfaces that are kept; interfaces of which nothing is imported.
use Rattle.std.proofs.Common.{◌≡◌, ◌∙◌, ℕ, List, [], ◌∷◌, ◌++◌, Bool, true, false, cond, Option, Some, String, map, Result, Ok, Err, OnOk, refl, sym, ap, inl, inr}
use Rattle.std.specs.List.{list_any}
use Rattle.std.specs.Map.{lookup}
use Rattle.std.specs.Result.{IfOk, MatchResult}
use Rattle.std.specs.declared.alloc.Global.{Global}
use Rattle.std.specs.declared.rc.Rc.{Rc}
use Rattle.std.proofs.lemmas.Bool.{cases_Bool}
use Rattle.std.proofs.lemmas.Option.{same_Some}
use Rattle.indexmap.specs.IndexMap.{IndexMap}
use Rattle.wc_resolve.specs.declared.functions.AbiVariant.{AbiVariant}
use Rattle.wc_resolve.specs.declared.functions.AbiVariant.TheVariants.{GuestImport, GuestImportAsync}
use Rattle.wc_resolve.specs.declared.ids.InterfaceId.{InterfaceId}
use Rattle.wc_resolve.specs.Views.{FunctionView}
use Rattle.wc_resolve.proofs.KeyLemmas.{nat_from}
use Rattle.wc_names.specs.Imports.{import_abi}
use Rattle.wc_world.specs.declared.imported.Lowering.{Lowering}
use Rattle.wc_world.specs.Lowering.{KeyedLowering, Lowerer, called_lowering, is_import_of, lowered_function, lowerings_of_functions, lowerings_of_interface}
use Rattle.wc_world.specs.Private.LoweringContext.{AreKept}
use Rattle.wc_world.specs.Used.{same_interface}
use Rattle.wc_world.specs.WorldViews.{lowering_entry}

abbrev pub SharedLowerings : Type 0 → Type 0
SharedLowerings S = Rc (IndexMap (String Global × AbiVariant) Lowering S) Global

-- those of an interface more
pub kept_more : {S : Type 0} (l : Lowerer) (old new : List (InterfaceId × SharedLowerings S)) (id : InterfaceId) (shared : SharedLowerings S)
    → ((q : InterfaceId) → lookup (same_interface q) new ≡ cond (same_interface id q) (Some shared) (lookup (same_interface q) old)) → map lowering_entry shared.value.entries ≡ lowerings_of_interface l id.0
    → AreKept l old → AreKept l new
kept_more {S} l old new id shared put is kept i found at = elim (cases_Bool (same_interface id i)) [
  | inl same ↦
      ap (λ (v : SharedLowerings S). map lowering_entry v.value.entries) (same_Some found shared (sym at ∙ (put i ∙ ap (λ b. cond b (Some shared) (lookup (same_interface i) old)) same)))
      ∙ (is ∙ ap (lowerings_of_interface l) (nat_from id.0 i.0 same))
  | inr other ↦ kept i found (sym (put i ∙ ap (λ b. cond b (Some shared) (lookup (same_interface i) old)) other) ∙ at)
]

-- where no function of an interface is imported, none is lowered
pub none_lowered : (l : Lowerer) (interface : Option ℕ) → ((is_async : Bool) (name : List ℕ) → list_any (is_import_of interface name (import_abi is_async)) l.imports ≡ false)
    → (functions : List (List ℕ × FunctionView)) → lowerings_of_functions l interface functions ≡ []
none_lowered l interface none [] = refl
none_lowered l interface none ((key, f) ∷ functions) =
    let rest : List KeyedLowering = lowerings_of_functions l interface functions in
    ap (λ b. (cond b (((f.name, GuestImport), lowered_function l f GuestImport) ∷ []) [] ++ called_lowering l interface f GuestImportAsync) ++ rest) (none false f.name)
    ∙ (ap (λ b. cond b (((f.name, GuestImportAsync), lowered_function l f GuestImportAsync) ∷ []) [] ++ rest) (none true f.name)
    ∙ none_lowered l interface none functions)

pub on_ok_holds : {X E : Type 0} {P : Type 0} (r : Result X E) → P → OnOk r P
on_ok_holds (Ok x) p = p
on_ok_holds (Err e) p = tt

-- what holds of copies, where a copy is made
pub if_cloned : {X E : Type 0} {P Q : X → Type 0} (F : E → Type 0) (r : Result X E) → MatchResult r P F → ((x : X) → P x → Q x) → IfOk r Q
if_cloned F (Ok x) h weaker = weaker x h
if_cloned F (Err e) h weaker = tt
