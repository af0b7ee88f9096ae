-- The roles of modules, one after another, and why they can't be told.
use Rattle.std.proofs.Common.{◌≡◌, ◌≢◌, ℕ, ◌<◌, Bool, false, not, ◌&&◌, ◌==◌, nat_lt, List, length, map, get_or, Option, Result, Ok, Err, IfErr, refl, sym, ◌∙◌, ap, subst, inr, arith, Contains}
use Rattle.std.proofs.lemmas.List.Elements.{Contains-get_or, filter_agree}
use Rattle.std.proofs.lemmas.List.{get_or-map, length-map}
use Rattle.wc_maps.proofs.ListLemmas.{view_found}
use Rattle.wc_maps.specs.Texts.{HasTexts, is_in, text_pair}
use Rattle.wc_read.specs.Fault.{SpellsNothing}
use Rattle.wc_read.specs.Modules.{ModuleValue, SpellsModule}
use Rattle.wc_read.specs.Place.{IsPlaced}
use Rattle.wc_read.specs.declared.fault.ReadFault.{ReadFault}
use Rattle.wc_read.specs.declared.fault.ReadFault.TheVariants.{Memory as ReadMemory}
use Rattle.wc_read.specs.declared.place.ReadPlace.{ReadPlace}
use Rattle.wc_texts.specs.declared.refused.Refused.{Refused}
use Rattle.wc_component_file.proofs.ServingLemmas.{TextPair}
use Rattle.wc_component_file.specs.Files.{CoreModuleView, FileView, core_module_view}
use Rattle.wc_component_file.specs.MainModules.{IsMain}
use Rattle.wc_component_file.specs.Private.Adapters.{IsRoleRefusal, IsServedRefusal, IsServingRefusalIn, IsUnreadIn}
use Rattle.wc_component_file.specs.Private.Untold.{IsUnreadAs, IsUnreadAt, IsUntoldIn, IsUntoldOf}
use Rattle.wc_component_file.specs.Roles.{AreAsked, HasFunctionsAt, IsRolesRefusal, IsToldRefusal, is_too_many, told_names}
use Rattle.wc_component_file.specs.Serving.{function_pairs, without}
use Rattle.wc_component_file.specs.Told.{AreTold, IsUntold, ToldView, candidates, told_view}
use Rattle.wc_component_file.specs.declared.file.CoreModule.{CoreModule}
use Rattle.wc_component_file.specs.declared.main_module.MainModule.{MainModule}
use Rattle.wc_component_file.specs.declared.role.RolesRefusal.{RolesRefusal}
use Rattle.wc_component_file.specs.declared.role.RolesRefusal.TheVariants.{Memory, NoModule, NoSuchModule, Unread, Unclear}
use Rattle.wc_component_file.specs.declared.told.Told.{Told}

-- ---- a module that is none

pub unread_at : (position : ℕ) (bytes : List ℕ) (refused : Refused ReadFault ReadPlace) (r : RolesRefusal) → IsUnreadAs position refused r
    → (refused.fault ≢ ReadMemory → SpellsNothing SpellsModule bytes) → IsPlaced bytes refused.fault refused.place → IsUnreadAt position bytes r
unread_at position bytes refused Memory un nothing placed = tt
unread_at position bytes refused NoModule un nothing placed = un
unread_at position bytes refused NoSuchModule un nothing placed = un
unread_at position bytes refused Unclear un nothing placed = un
unread_at position bytes refused (Unread at fault place) un nothing placed = (
  un.0,
  record {
    failed = un.3;
    nothing = nothing (λ e. un.3 (un.1 ∙ e));
    placed = rw (un.1, un.2) placed;
  },
)

pub untold_in : (main : MainModule) (modules : List CoreModule) (k : ℕ) (d : CoreModule) (r : RolesRefusal) → k < length modules
    → IsUntoldOf main k (core_module_view (get_or modules k d)) r → IsUntoldIn main (map core_module_view modules) r
untold_in main modules k d Memory lt un = tt
untold_in main modules k d NoModule lt un = un
untold_in main modules k d NoSuchModule lt un = un
untold_in main modules k d Unclear lt un = un
untold_in main modules k d (Unread at fault place) lt un =
    let there = view_found core_module_view modules k d lt in
    rw un.0 (core_module_view (get_or modules k d), there, subst (λ n. IsUntold main n (core_module_view (get_or modules k d))) refl un.1, un.2)

pub unread_in : (modules : List CoreModule) (k : ℕ) (d : CoreModule) (r : RolesRefusal) → k < length modules
    → IsUnreadAt k (get_or modules k d).bytes.now r → IsUnreadIn (map core_module_view modules) k r
unread_in modules k d Memory lt un = tt
unread_in modules k d NoModule lt un = un
unread_in modules k d NoSuchModule lt un = un
unread_in modules k d Unclear lt un = un
unread_in modules k d (Unread at fault place) lt un =
    record { is = un.0; core = core_module_view (get_or modules k d); is_at = view_found core_module_view modules k d lt; is_bad = un.1 }

-- ---- what is asked of candidates

functions_left : (names keys : List (List ℕ)) (pairs : List (List ℕ × List ℕ)) → HasTexts names keys → without keys pairs ≡ without names pairs
functions_left names keys pairs same = filter_agree (λ (p : List ℕ × List ℕ). not (is_in keys p.0)) (λ (p : List ℕ × List ℕ). not (is_in names p.0)) (λ p. ap not (same p.0)) pairs

pub asked_made : (main : MainModule) (modules : List CoreModuleView) (told : List ToldView) (functions asked : List (List ℕ × List ℕ)) (keys : List (List ℕ))
    → HasFunctionsAt modules main.position functions → is_too_many told functions ≡ false → HasTexts (told_names told) keys → asked ≡ without keys functions
    → AreAsked main modules told asked
asked_made main modules told functions asked keys has few same is some =
    record { functions = functions; has_main = has; few = few; is = is ∙ functions_left (told_names told) keys functions same }

pub few_are : (told : List ToldView) (functions given : List TextPair) (count : ℕ) (r : Bool) → count ≡ candidates told → given ≡ functions
    → r ≡ (nat_lt 100 count && not (length given == 0)) → r ≡ false → is_too_many told (map text_pair functions) ≡ false
few_are told functions given count r counts gives is few =
    (λ t. nat_lt 100 (sym counts t) && not ((length-map functions text_pair ∙ ap length (sym gives)) t == 0)) ∙ (sym is ∙ few)

pub functions_read : (modules : List CoreModule) (k : ℕ) (d : CoreModule) (m : ModuleValue) (functions : List (List ℕ × List ℕ)) → k < length modules
    → SpellsModule (get_or modules k d).bytes.now m → functions ≡ function_pairs m.imports → HasFunctionsAt (map core_module_view modules) k functions
functions_read modules k d m functions lt spelled is =
    record { core = core_module_view (get_or modules k d); value = m; is_at = view_found core_module_view modules k d lt; spelled = spelled; has_functions = is }

-- ---- what candidates serve

pub told_contains : (told : List Told) (k : ℕ) (x : Told) → k < length told → x ≡ get_or told k x → Contains (map told_view told) (told_view x)
told_contains told k x lt is =
    let within : k < length (map told_view told) = omega (arith, lt, length-map told told_view) in
    subst (Contains (map told_view told)) (get_or-map told_view told k x (told_view x) lt ∙ ap told_view (sym is))
    (Contains-get_or (map told_view told) k (told_view x) within)

pub one_refused : (asked : List (List ℕ × List ℕ)) (told : List ToldView) (one : ToldView) (r : RolesRefusal) → Contains told one → IsRoleRefusal asked one r
    → IsServingRefusalIn asked told r
one_refused asked told one Memory has two = tt
one_refused asked told one NoModule has two = two
one_refused asked told one NoSuchModule has two = two
one_refused asked told one (Unread position fault place) has two = two
one_refused asked told one Unclear has two = record { functions = two.0; has = subst (Contains told) two.1 has; two = two.2 }

-- ---- all of them

module _ (main : MainModule) (modules : List CoreModuleView) (told : List ToldView) (are : AreTold main modules told) where
  pub served_refused : (asked : List (List ℕ × List ℕ)) (r : RolesRefusal) → AreAsked main modules told asked → IsServedRefusal asked told r
      → IsToldRefusal main modules r
  served_refused asked Memory so two = tt
  served_refused asked NoModule so two = two
  served_refused asked NoSuchModule so two = two
  served_refused asked (Unread position fault place) so two = absurd two
  served_refused asked Unclear so two = (told, are, inr (asked, so, two))

pub served_err : {X : Type 0} (main : MainModule) (modules : List CoreModuleView) (told : List ToldView) (asked : List (List ℕ × List ℕ)) (r : Result X RolesRefusal)
    → AreTold main modules told → AreAsked main modules told asked → IfErr r (IsServedRefusal asked told) → IfErr r (IsToldRefusal main modules)
served_err main modules told asked (Ok x) are so h = tt
served_err main modules told asked (Err e) are so h = served_refused main modules told are asked e so h

pub told_err : {X : Type 0} (file : FileView) (chosen : Option ℕ) (main : MainModule) (r : Result X RolesRefusal) → IsMain file.modules chosen main
    → IfErr r (IsToldRefusal main file.modules) → IfErr r (IsRolesRefusal file chosen)
told_err file chosen main (Ok x) is h = tt
told_err file chosen main (Err e) is h = inr (main, is, h)
