-- What is printed of a component's file, by its core modules, or why it is not.
use Rattle.std.proofs.Common.{◌≡◌, ◌≢◌, ◌<◌, ◌≤◌, ◌+◌, ◌∙◌, ap, ℕ, zero, suc, Bool, true, false, not, List, [], ◌∷◌, ◌++◌, length, map, nat_eq, Contains, Option, Some, None, String, Global, Result, Ok, Err, OnOk, IfOk, IfErr, refl, sym, subst, inl, inr, arith}
use Rattle.std.specs.Prelude.{◌⊎◌, ◌==◌, ◌↔◌, IsTrue}
use Rattle.std.specs.List.{slice_get}
use Rattle.std.proofs.lemmas.Bool.{cases_lt, eq-eqb, false≢true}
use Rattle.std.proofs.lemmas.List.{length-map}
use Rattle.std.proofs.lemmas.Option.{same_Some, slice_get_within}
use Rattle.wc_component_file.specs.Files.{CoreModuleView, FileView, SpellsFile, core_module_view}
use Rattle.wc_component_file.specs.Refusals.{IsFaultAt}
use Rattle.wc_component_file.specs.Roles.{AreRoles, IsRole, IsRolesRefusal}
use Rattle.wc_component_file.specs.Told.{EachAt, IsTold, IsToldIf, RoleView, ToldView, known, candidate, the_main, adapter_for, library_named, a_shim, a_fixup, another}
use Rattle.wc_component_file.specs.declared.fault.FileFault.{FileFault}
use Rattle.wc_component_file.specs.declared.fault.FileFault.TheVariants.{Memory as file_memory}
use Rattle.wc_component_file.specs.declared.file.CoreModule.{CoreModule}
use Rattle.wc_component_file.specs.declared.role.RolesRefusal.TheVariants.{NoModule as roles_none, NoSuchModule as roles_missing, Unclear as roles_unclear, Unread}
use Rattle.wc_gc.specs.declared.fault.GcFault.{GcFault}
use Rattle.wc_gc.specs.declared.fault.GcFault.TheVariants.{Memory as gc_memory, MissingExport}
use Rattle.wc_gc.specs.declared.trim_place.TrimPlace.{TrimPlace}
use Rattle.wc_import_paths.proofs.JoinedLemmas.{one_more}
use Rattle.wc_import_paths.specs.Joined.{AreJoined}
use Rattle.wc_module_ways.specs.Adapters.{Given}
use Rattle.wc_module_ways.specs.CoreModules.{CoreGiven}
use Rattle.wc_module_ways.specs.Modules.{InputView}
use Rattle.wc_module_ways.specs.Names.{NamePair}
use Rattle.wc_program.specs.Screen.{Printing, nothing}
use Rattle.wc_read.specs.declared.fault.ReadFault.{ReadFault}
use Rattle.wc_read.specs.declared.place.ReadPlace.{ReadPlace}
use Rattle.wcwhy.specs.Arguments.{CommandView}
use Rattle.wcwhy.specs.Component.{AreIndexedRefused, AreParts, ArePartsAt, IsComponentCause, IsComponentText, IsFileText, IsInputOf, input_with, parts_of}
use Rattle.wcwhy.specs.Inputs.{AllowView}
use Rattle.wcwhy.specs.ModuleWays.{ArePrinted, IsModulesCause}
use Rattle.wcwhy.specs.Private.Component.{IsFileFault, IsFilePrintCause, IsIndexedCause, IsMainAt, IsModulesText, IsReadFaultOf, IsUnclearFault, IsUnreadFault, is_main, of_file, of_index, of_main, of_missing, of_missing_in}
use Rattle.wcwhy.specs.Private.Execution.{PrintsSome}
use Rattle.wcwhy.specs.Private.ModuleWays.{of_core}
use Rattle.wcwhy.specs.Private.Warnings.{said_view}
use Rattle.wcwhy.specs.Warnings.{Saying, with_inside}
use Rattle.wcwhy.specs.declared.fault.WhyFault.{WhyFault}
use Rattle.wcwhy.specs.declared.fault.WhyFault.TheVariants as fault
use Rattle.wcwhy.specs.declared.warnings.Said.{Said}

-- ---- two lists that belong together position by position

each_length : {A B : Type 0} (P : ℕ → A → B → Type 0) (xs : List A) (ys : List B) → EachAt P xs ys → length xs ≡ length ys
each_length P [] [] each = refl
each_length P [] (y ∷ ys) each = absurd each
each_length P (x ∷ xs) [] each = absurd each
each_length P (x ∷ xs) (y ∷ ys) each = ap suc (each_length (λ k. P (suc k)) xs ys each.1)

each_there : {A B : Type 0} (P : ℕ → A → B → Type 0) (xs : List A) (ys : List B) (k : ℕ) → k < length xs → EachAt P xs ys
    → (x : A) × (y : B) × (slice_get ys k ≡ Some y) × P k x y
each_there P [] ys k lt each = absurd (omega (arith, lt))
each_there P (x ∷ xs) [] k lt each = absurd each
each_there P (x ∷ xs) (y ∷ ys) zero lt each = (x, y, refl, each.0)
each_there P (x ∷ xs) (y ∷ ys) (suc k) lt each = each_there (λ j. P (suc j)) xs ys k (omega (arith, lt)) each.1

each_at : {A B : Type 0} (P : ℕ → A → B → Type 0) (xs : List A) (ys : List B) (k : ℕ) (x : A) → EachAt P xs ys → slice_get xs k ≡ Some x
    → (y : B) × (slice_get ys k ≡ Some y) × P k x y
each_at P [] ys k x each e = absurd (omega (arith, slice_get_within [] k x e))
each_at P (x ∷ xs) [] k z each e = absurd each
each_at P (x ∷ xs) (y ∷ ys) zero z each e = let same : x ≡ z = cc in (y, refl, subst (λ v. P 0 v y) same each.0)
each_at P (x ∷ xs) (y ∷ ys) (suc k) z each e = each_at (λ j. P (suc j)) xs ys k z each.1 e

-- ---- the main module

-- as many roles as core modules
pub roles_length : (file : FileView) (chosen : Option ℕ) (roles : List RoleView) → AreRoles file chosen roles → length roles ≡ length file.modules
roles_length file chosen roles r =
    sym (each_length (IsTold r.main) file.modules r.told r.are_told ∙ each_length (λ k. IsRole r.asked) r.told roles r.are_serving)

-- one of them is that of the main module
main_told : (named : Bool) (core : CoreModuleView) (told : ToldView) (b : Bool) → b ≡ true → IsToldIf b named core told → told ≡ known the_main
main_told named core told true is h = h
main_told named core told false is h = absurd cc

pub main_there : (file : FileView) (chosen : Option ℕ) (roles : List RoleView) → AreRoles file chosen roles → (k : ℕ) × (slice_get roles k ≡ Some the_main)
main_there file chosen roles r =
    let at = r.main.position in
    let one = each_there (IsTold r.main) file.modules r.told at r.within r.are_told in
    let told : one.1 ≡ known the_main = main_told r.main.is_named one.0 one.1 (nat_eq at at) (eq-eqb at at refl) one.3 in
    let other = each_at (λ k. IsRole r.asked) r.told roles at (known the_main) r.are_serving (subst (λ t. slice_get r.told at ≡ Some t) told one.2) in
    (at, subst (λ (role : RoleView). slice_get roles at ≡ Some role) other.2 other.1)

-- it is told by its role
main_is : (role : RoleView) → is_main role ≡ true → role ≡ the_main
main_is the_main e = refl
main_is (adapter_for name) e = absurd cc
main_is (library_named name) e = absurd cc
main_is a_shim e = absurd cc
main_is a_fixup e = absurd cc
main_is another e = absurd cc

pub main_tells : (o : Option RoleView) (role : RoleView) (b : Bool) → o ≡ Some role → b ≡ is_main role → IsTrue b ↔ (o ≡ Some the_main)
main_tells o role b is tells = (
  λ t. is ∙ ap (λ x. Some x) (main_is role (sym tells ∙ t)),
  λ e. tells ∙ ap is_main (same_Some role the_main (sym is ∙ e)),
)

pub main_missing : (o : Option RoleView) (b : Bool) → o ≡ None → b ≡ false → IsTrue b ↔ (o ≡ Some the_main)
main_missing o b is off = (λ t. absurd (false≢true (sym off ∙ t)), λ e. let two : None ≡ Some the_main = sym is ∙ e in absurd cc)

-- up to an index there is none
pub none_more : (P : ℕ → Type 0) (n : ℕ) → ((k : ℕ) → k < n → ¬ P k) → ¬ P n → (k : ℕ) → k < n + 1 → ¬ P k
none_more P n before here k lt is = elim (cases_lt k n) [
  | inl less ↦ before k less is
  | inr more ↦ let same : k ≡ n = omega (arith, lt, more) in here (subst P same is)
]

pub none_in : (roles : List RoleView) (n : ℕ) → n ≡ length roles → ((k : ℕ) → k < n → ¬ IsMainAt roles k) → (k : ℕ) → ¬ IsMainAt roles k
none_in roles n all before k is = let lt = slice_get_within roles k the_main is in before k (omega (arith, all, lt)) is

-- ---- the other parts

-- those of one more core module
pub part_more : (file : FileView) (roles : List RoleView) (k : ℕ) (m : CoreModuleView) (r : RoleView) (front new : List CoreGiven)
    → AreJoined k (ArePartsAt file roles) front → new ≡ front ++ parts_of k m r → slice_get file.modules k ≡ Some m → slice_get roles k ≡ Some r
    → AreJoined (k + 1) (ArePartsAt file roles) new
part_more file roles k m r front new joined put is_m is_r =
    one_more k (ArePartsAt file roles) front (parts_of k m r) new joined put (λ n s e f.
    let same : m ≡ n = same_Some m n (sym is_m ∙ e) in
    let role : r ≡ s = same_Some r s (sym is_r ∙ f) in ap (λ (x : CoreModuleView). parts_of k x r) same ∙ ap (parts_of k n) role)

-- ---- what was printed of a file

module _ (c : CommandView) (file : FileView) (out : Printing → Type 0) where
  pub modules_printed : (index : ℕ) (i : InputView) (allow : Option AllowView) → IsInputOf c file index i → (r : Result Said WhyFault)
      → IfOk r (λ said. PrintsSome (ArePrinted c i allow (said_view said)) out)
      → IfOk r (λ said. PrintsSome (IsModulesText c file allow (said_view said)) out)
  modules_printed index i allow is (Ok said) (text, printed, shown) = (text, (index, i, is, printed), shown)
  modules_printed index i allow is (Err f) h = tt

  pub file_printed : (allow : Option AllowView) (said all : Saying) → all ≡ with_inside file.inside said → PrintsSome (IsModulesText c file allow said) out
      → PrintsSome (IsFileText c file allow all) out
  file_printed allow said all is (text, (index, i, is_input, printed), shown) =
      (text, record { index = index; input = i; is_input = is_input; of_modules = said; are = printed; is_said = is }, shown)

  pub component_printed : (source : List ℕ) (allow : Option AllowView) → SpellsFile source file → (r : Result Said WhyFault)
      → IfOk r (λ said. PrintsSome (IsFileText c file allow (said_view said)) out)
      → IfOk r (λ said. PrintsSome (IsComponentText c source allow (said_view said)) out)
  component_printed source allow spelled (Ok said) (text, is, shown) = (text, (file, spelled, is), shown)
  component_printed source allow spelled (Err f) h = tt

  -- ---- or why it could not be

  modules_cause : (index : ℕ) (i : InputView) → IsInputOf c file index i → (f : WhyFault) → IsIndexedCause c i index out f → IsFilePrintCause c file out f
  modules_cause index i is fault.Memory h = tt
  modules_cause index i is fault.Output h = h
  modules_cause index i is (fault.NoModule inside) h = absurd h.0.2.4
  modules_cause index i is (fault.NoSuchModule asked count) h = absurd h.0.2.4
  modules_cause index i is (fault.Unclear listing) h = absurd h.0.2.4
  modules_cause index i is (fault.Core k f place) h = (inr (index, i, is, h.0), h.1)
  modules_cause index i is f h = ((index, i, is, h.0), h.1)

  pub modules_failed : {T : Type 0} (index : ℕ) (i : InputView) → IsInputOf c file index i → (r : Result T WhyFault) → IfErr r (IsIndexedCause c i index out)
      → IfErr r (IsFilePrintCause c file out)
  modules_failed index i is (Ok x) h = tt
  modules_failed index i is (Err f) h = modules_cause index i is f h

  file_cause : (source : List ℕ) → SpellsFile source file → (f : WhyFault) → IsFilePrintCause c file out f → IsComponentCause c source out f
  file_cause source spelled fault.Memory h = tt
  file_cause source spelled fault.Output h = h
  file_cause source spelled (fault.File f byte) h = absurd h.0.3.2.4
  file_cause source spelled (fault.NoModule inside) h = ((file, spelled, h.0.0, h.0.1), h.1)
  file_cause source spelled (fault.NoSuchModule asked count) h = ((h.0.0, (file, spelled, h.0.1, h.0.2, h.0.3)), h.1)
  file_cause source spelled f h = ((file, spelled, h.0), h.1)

  pub file_failed : {T : Type 0} (source : List ℕ) → SpellsFile source file → (r : Result T WhyFault) → IfErr r (IsFilePrintCause c file out)
      → IfErr r (IsComponentCause c source out)
  file_failed source spelled (Ok x) h = tt
  file_failed source spelled (Err f) h = file_cause source spelled f h

  -- before anything was printed
  pub unprinted : out nothing → (f : WhyFault) → IsFileFault c file f → IsFilePrintCause c file out f
  unprinted still fault.Memory h = tt
  unprinted still fault.Output h = absurd h.3.2.4
  unprinted still f h = (h, still)

-- bytes that can't be cut into sections
pub unread_of : (source : List ℕ) (f : FileFault) (byte : Option ℕ) (result : WhyFault) → IsFaultAt source f byte → result ≡ of_file f byte
    → IsUnreadFault source result
unread_of source file_memory byte result h is = subst (IsUnreadFault source) (sym is) tt
unread_of source f byte result h is = subst (IsUnreadFault source) (sym is) ((λ e. cc), h)

pub unread_cause : (c : CommandView) (source : List ℕ) (out : Printing → Type 0) → out nothing → (f : WhyFault) → IsUnreadFault source f
    → IsComponentCause c source out f
unread_cause c source out still fault.Memory h = tt
unread_cause c source out still (fault.File f byte) h = (h, still)
unread_cause c source out still f h = absurd h

-- ---- faults of roles

-- that a core module is missing, of none and of some
pub none_missing : (modules : List CoreModule) (inside asked : ℕ) → length modules ≡ 0
    → fault.NoModule inside ≡ of_missing_in (map core_module_view modules) inside asked
none_missing [] inside asked e = refl
none_missing (m ∷ modules) inside asked e = absurd (omega (arith, e))

pub some_missing : (modules : List CoreModule) (inside asked count : ℕ) → 0 < length modules → count ≡ length modules
    → fault.NoSuchModule asked count ≡ of_missing_in (map core_module_view modules) inside asked
some_missing [] inside asked count some e = absurd (omega (arith, some))
some_missing (m ∷ modules) inside asked count some e =
    ap (fault.NoSuchModule asked) (e ∙ sym (length-map (m ∷ modules) core_module_view))

module _ (c : CommandView) (file : FileView) where
  pub none_fault : (inside : ℕ) → IsRolesRefusal file c.core roles_none → inside ≡ file.inside → IsFileFault c file (fault.NoModule inside)
  none_fault inside (inl none) is = (none, is)
  none_fault inside (inr h) is = absurd h.2

  missing : (modules : List CoreModuleView) → file.modules ≡ modules → (index : ℕ) → c.core ≡ Some index → length modules ≤ index
      → IsFileFault c file (of_missing_in modules file.inside index)
  missing [] are index chosen past = (are, refl)
  missing (m ∷ modules) are index chosen past =
      (chosen, (λ none. let no : m ∷ modules ≡ [] = sym are ∙ none in cc), sym (ap length are), past)

  pub missing_fault : (f : WhyFault) → IsRolesRefusal file c.core roles_missing → (unwrapped : ℕ)
      → ((k : ℕ) → c.core ≡ Some k → unwrapped ≡ k) → f ≡ of_missing file unwrapped → IsFileFault c file f
  missing_fault f (inl (k, chosen, past)) unwrapped same is =
      subst (IsFileFault c file) (sym (is ∙ ap (of_missing file) (same k chosen))) (missing file.modules refl k chosen past)
  missing_fault f (inr h) unwrapped same is = absurd h.2

  pub read_fault : (k : ℕ) (f : ReadFault) (at : Option ReadPlace) (result : WhyFault) → IsRolesRefusal file c.core (Unread k f at)
      → IsReadFaultOf file k f at result → IsFileFault c file result
  read_fault k f at result refused (m, is_at, is) = subst (IsFileFault c file) (sym is) (inl (f, at, m, refused, is_at, refl, refl))

  pub unclear_fault : IsRolesRefusal file c.core roles_unclear → (f : WhyFault) → IsUnclearFault file f → IsFileFault c file f
  unclear_fault refused fault.Memory h = tt
  unclear_fault refused (fault.Unclear listing) h = (refused, h)
  unclear_fault refused f h = absurd h

-- ---- faults of modules by the index of the main module

module _ (c : CommandView) (i : InputView) (index : ℕ) (out : Printing → Type 0) where
  main_cause : (f : GcFault) (place : Option TrimPlace) (near : Option (String Global)) → IsModulesCause c i out (fault.Source f place near)
      → IsIndexedCause c i index out (of_main index f place near)
  main_cause gc_memory place near h = tt
  main_cause (MissingExport name) place near h = h
  main_cause f place near h = ((h.0.0, inl (refl, h.0.1)), h.1)

  indexed_cause : (f : WhyFault) → IsModulesCause c i out f → IsIndexedCause c i index out (of_index index f)
  indexed_cause fault.Memory h = tt
  indexed_cause fault.Output h = h
  indexed_cause (fault.Source f place near) h = main_cause f place near h
  indexed_cause (fault.Core k f place) h = ((h.0.0, inr h.0.1), h.1)
  indexed_cause f h = h

  pub indexed : (f result : WhyFault) → IsModulesCause c i out f → result ≡ of_index index f → IsIndexedCause c i index out result
  indexed f result h is = subst (IsIndexedCause c i index out) (sym is) (indexed_cause f h)

-- ---- the modules of a file, as they are given

pub input_is : (c : CommandView) (main : CoreModuleView) (m : List ℕ) (offset : ℕ) (exports : List (List ℕ)) (given : List Given) (core parts : List CoreGiven)
    (asked : List NamePair) (is_whole : Bool) → m ≡ main.bytes → offset ≡ main.offset → exports ≡ c.exports → given ≡ [] → core ≡ parts → asked ≡ []
    → is_whole ≡ not (length c.functions == 0)
    → ◌≡◌ {A = InputView}
    (record { main = m; main_offset = offset; exports = exports; adapters = given; core = core; adapter_exports = asked; is_whole = is_whole })
    (input_with c main parts)
input_is c main m offset exports given core parts asked is_whole a b d none e no_asked f =
    λ t. record { main = a t; main_offset = b t; exports = d t; adapters = none t; core = e t; adapter_exports = no_asked t; is_whole = f t }
