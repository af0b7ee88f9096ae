-- What was printed of the modules of a component, or why it could not be.
use Rattle.std.proofs.Common.{◌≡◌, ℕ, Bool, true, not, All, List, [], length, map, Contains, String, Global, string_bytes, Option, Some, None, Result, Ok, Err, OnOk, IfOk, IfErr, refl, sym, subst, inl, inr}
use Rattle.std.specs.Prelude.{◌==◌, ◌⊎◌}
use Rattle.wc_gc.specs.declared.fault.GcFault.{GcFault}
use Rattle.wc_gc.specs.declared.fault.GcFault.TheVariants.{Memory as gc_memory}
use Rattle.wc_gc.specs.declared.trim_place.TrimPlace.{TrimPlace}
use Rattle.wc_import_paths.specs.Patterns.{PatternView, pattern_view}
use Rattle.wc_module_ways.specs.Adapters.{AdapterView, Given}
use Rattle.wc_import_paths.specs.Functions.{AreAskedOf}
use Rattle.wc_import_paths.specs.MainModules.{code_of}
use Rattle.wc_module_ways.specs.CoreModules.{CoreGiven}
use Rattle.wc_module_ways.specs.Modules.{InputView, IsModules, ModulesView, imports_of}
use Rattle.wc_module_ways.specs.Names.{NamePair}
use Rattle.wc_module_ways.specs.Refusals.{HasNoCause, IsReadRefusal, IsWaysRefusal, adapter_in}
use Rattle.wc_module_ways.specs.declared.refusals.ModulesRefusal.{ModulesRefusal}
use Rattle.wc_module_ways.specs.Tree.{IsTree}
use Rattle.wc_program.specs.Screen.{Printing, nothing, printed}
use Rattle.wc_why.specs.Tree.{TreeCallerView, TreeView}
use Rattle.wc_read.specs.Imports.{ImportValue}
use Rattle.wcwhy.specs.Arguments.{CommandView}
use Rattle.wcwhy.specs.Fault.{IsAdapterFault, IsNamedFault, IsSourceFault, of_adapter, of_source}
use Rattle.wcwhy.specs.Allowed.{way_modules}
use Rattle.wcwhy.specs.Inputs.{AllowView}
use Rattle.wcwhy.specs.ModuleWays.{ArePrinted, AreWays, IsAdapterRefusal, IsCoreRefusal, IsMainRefusal, IsModulesCause, IsNoImport, IsUnfollowed, modules_input}
use Rattle.wcwhy.specs.Functions.{IsFunctionFault}
use Rattle.wcwhy.specs.NearExports.{IsNearFor}
use Rattle.wcwhy.specs.Private.Execution.{IsTreeFault, IsUnknownOf, PrintsSome}
use Rattle.wcwhy.specs.Private.ModuleWays.{AreAnswered, IsKnownCause, IsModulesFault, IsModulesFaultOf, IsPutFault, IsShownCause, IsVerdictFault, IsVerdictOf, IsWaysCause, IsWaysFault, IsWaysFaultOf, of_core}
use Rattle.wcwhy.specs.Private.Warnings.{said_view}
use Rattle.wcwhy.specs.Warnings.{refused_patterns, said_by}
use Rattle.wcwhy.specs.Tree.{IsTreeText}
use Rattle.wcwhy.specs.declared.fault.WhyFault.{WhyFault}
use Rattle.wcwhy.specs.declared.fault.WhyFault.TheVariants.{Memory, Source, Adapter, Core, NoImport, Output}
use Rattle.wcwhy.specs.declared.warnings.Said.{Said}
use Rattle.wcwhy.specs.declared.warnings.Verdict.{Verdict}

-- the modules of a command
pub given_is : (c : CommandView) (main m : List ℕ) (exports : List (List ℕ)) (adapters given : List Given) (core : List CoreGiven) (asked : List NamePair)
    → m ≡ main → exports ≡ c.exports → given ≡ adapters → core ≡ [] → asked ≡ c.adapter_exports → (is_whole : Bool)
    → is_whole ≡ not (length c.functions == 0)
    → ◌≡◌ {A = InputView}
    (record { main = m; main_offset = 0; exports = exports; adapters = given; core = core; adapter_exports = asked; is_whole = is_whole })
    (modules_input c main adapters)
given_is c main m exports adapters given core asked a b d none e is_whole f =
    λ t. record { main = a t; main_offset = 0; exports = b t; adapters = d t; core = none t; adapter_exports = e t; is_whole = f t }

-- ---- faults of a want of memory

named_memory : (name : List ℕ) (place : Option TrimPlace) (near : Option (String Global)) (fault : WhyFault) → IsNamedFault name gc_memory place near fault
    → fault ≡ Memory
named_memory name place near fault (inl none) = none
named_memory name place near fault (inr (n, is, of)) = of

adapter_memory : (name bytes : List ℕ) (place : Option TrimPlace) (fault : WhyFault) → IsAdapterFault name bytes gc_memory place fault → fault ≡ Memory
adapter_memory name bytes place fault (inl none) = none
adapter_memory name bytes place fault (inr (near, is, named)) = named_memory name place near fault named

source_memory : (bytes : List ℕ) (place : Option TrimPlace) (fault : WhyFault) → IsSourceFault bytes gc_memory place fault → fault ≡ Memory
source_memory bytes place fault (inl none) = none
source_memory bytes place fault (inr (near, is, of)) = of

modules_memory : (main : List ℕ) (o : Option Given) (core : Option ℕ) (place : Option TrimPlace) (fault : WhyFault)
    → IsModulesFaultOf main o core gc_memory place fault → fault ≡ Memory
modules_memory main (Some g) core place fault h = adapter_memory g.0 g.1 place fault h
modules_memory main None (Some index) place fault h = h
modules_memory main None None place fault h = source_memory main place fault h

ways_memory : (o : Option Given) (place : Option TrimPlace) (fault : WhyFault) → IsWaysFaultOf o gc_memory place fault → fault ≡ Memory
ways_memory None place fault h = h
ways_memory (Some g) place fault h = adapter_memory g.0 g.1 place fault h

-- ---- modules that can't be read

module _ (c : CommandView) (i : InputView) (out : Printing → Type 0) (still : out nothing) where
  main_with : (f : GcFault) (place : Option TrimPlace) (near : Option (String Global)) → IsMainRefusal i f place → IsNearFor i.main f near
      → IsModulesCause c i out (of_source f place near)
  main_with gc_memory place near h is = tt
  main_with f place near h is = (((λ e. cc), h, is), still)

  main_cause : (f : GcFault) (place : Option TrimPlace) (fault : WhyFault) → IsMainRefusal i f place → IsSourceFault i.main f place fault
      → IsModulesCause c i out fault
  main_cause f place fault h (inl none) = subst (IsModulesCause c i out) (sym none) tt
  main_cause f place fault h (inr (near, near_is, is)) = subst (IsModulesCause c i out) (sym is) (main_with f place near h near_is)

  adapter_with : (g : Given) (n : String Global) (f : GcFault) (place : Option TrimPlace) (near : Option (String Global)) → string_bytes n ≡ g.0
      → IsAdapterRefusal i g f place → IsNearFor g.1 f near → IsModulesCause c i out (of_adapter n f place near)
  adapter_with g n gc_memory place near named h is = tt
  adapter_with g n f place near named h is = (((λ e. cc), g, named, h, is), still)

  named_cause : (g : Given) (f : GcFault) (place : Option TrimPlace) (near : Option (String Global)) (fault : WhyFault) → IsAdapterRefusal i g f place
      → IsNearFor g.1 f near → IsNamedFault g.0 f place near fault → IsModulesCause c i out fault
  named_cause g f place near fault h is (inl none) = subst (IsModulesCause c i out) (sym none) tt
  named_cause g f place near fault h is (inr (n, named, of)) = subst (IsModulesCause c i out) (sym of) (adapter_with g n f place near named h is)

  adapter_cause : (g : Given) (f : GcFault) (place : Option TrimPlace) (fault : WhyFault) → IsAdapterRefusal i g f place → IsAdapterFault g.0 g.1 f place fault
      → IsModulesCause c i out fault
  adapter_cause g f place fault h (inl none) = subst (IsModulesCause c i out) (sym none) tt
  adapter_cause g f place fault h (inr (near, is, named)) = named_cause g f place near fault h is named

  core_cause : (index : ℕ) (f : GcFault) (place : Option TrimPlace) → IsCoreRefusal i index f place → IsModulesCause c i out (of_core index f place)
  core_cause index gc_memory place h = tt
  core_cause index f place h = (((λ e. cc), h), still)

  memory_cause : (r : ModulesRefusal) (fault : WhyFault) → r.fault ≡ gc_memory → IsModulesFault i.main r fault → IsModulesCause c i out fault
  memory_cause r fault memory is =
      subst (IsModulesCause c i out) (sym (modules_memory i.main (adapter_in r) r.core r.place fault
      (subst (λ f. IsModulesFaultOf i.main (adapter_in r) r.core f r.place fault) memory is))) tt

  pub read_cause : (r : ModulesRefusal) (fault : WhyFault) → IsReadRefusal i r → IsModulesFault i.main r fault
      → IsModulesCause c i out fault
  read_cause r fault (inl (none, no_core, at, refused, place)) is =
      main_cause r.fault r.place fault (at, refused, place)
      (subst (λ o. IsModulesFaultOf i.main None o r.fault r.place fault) no_core
      (subst (λ o. IsModulesFaultOf i.main o r.core r.fault r.place fault) none is))
  read_cause r fault (inr (inl (inl memory))) is = memory_cause r fault memory is
  read_cause r fault (inr (inl (inr (g, has, refused)))) is =
      adapter_cause g r.fault r.place fault (inl (has, refused.2)) (subst (λ o. IsModulesFaultOf i.main o r.core r.fault r.place fault) refused.0 is)
  read_cause r fault (inr (inr (inl memory))) is = memory_cause r fault memory is
  read_cause r fault (inr (inr (inr (g, has, (none, core, at, refused, place))))) is =
      let same : fault ≡ of_core g.index r.fault r.place
      = subst (λ o. IsModulesFaultOf i.main None o r.fault r.place fault) core (subst (λ o. IsModulesFaultOf i.main o r.core r.fault r.place fault) none is) in
      subst (IsModulesCause c i out) (sym same) (core_cause g.index r.fault r.place (g, has, refl, at, refused, place))

-- ---- modules that can't be followed

module _ (w : ModulesView) (out : Printing → Type 0) (still : out nothing) where
  unfollowed_with : (g : Given) (n : String Global) (f : GcFault) (place : Option TrimPlace) (near : Option (String Global)) → string_bytes n ≡ g.0
      → IsUnfollowed w g f place → IsNearFor g.1 f near → IsWaysCause w out (of_adapter n f place near)
  unfollowed_with g n gc_memory place near named h is = tt
  unfollowed_with g n f place near named h is = (((λ e. cc), g, named, h, is), still)

  unfollowed_named : (g : Given) (f : GcFault) (place : Option TrimPlace) (near : Option (String Global)) (fault : WhyFault) → IsUnfollowed w g f place
      → IsNearFor g.1 f near → IsNamedFault g.0 f place near fault → IsWaysCause w out fault
  unfollowed_named g f place near fault h is (inl none) = subst (IsWaysCause w out) (sym none) tt
  unfollowed_named g f place near fault h is (inr (n, named, of)) = subst (IsWaysCause w out) (sym of) (unfollowed_with g n f place near named h is)

  unfollowed_cause : (g : Given) (f : GcFault) (place : Option TrimPlace) (fault : WhyFault) → IsUnfollowed w g f place → IsAdapterFault g.0 g.1 f place fault
      → IsWaysCause w out fault
  unfollowed_cause g f place fault h (inl none) = subst (IsWaysCause w out) (sym none) tt
  unfollowed_cause g f place fault h (inr (near, is, named)) = unfollowed_named g f place near fault h is named

  pub ways_cause : (adapters : List AdapterView) → adapters ≡ w.adapters → (r : ModulesRefusal) (fault : WhyFault) → IsWaysRefusal adapters r → IsWaysFault r fault
      → IsWaysCause w out fault
  ways_cause adapters are r fault (inl memory) is =
      subst (IsWaysCause w out) (sym (ways_memory (adapter_in r) r.place fault (subst (λ f. IsWaysFaultOf (adapter_in r) f r.place fault) memory is))) tt
  ways_cause adapters are r fault (inr (a, has, refused)) is =
      unfollowed_cause (a.name, a.bytes) r.fault r.place fault (a, subst (λ l. Contains l a) are has, refl, refused.2, refused.3)
      (subst (λ o. IsWaysFaultOf o r.fault r.place fault) refused.0 is)

-- ---- what a file of what is allowed says of modules

pub verdict_is : (w : ModulesView) (a : AllowView) (t : TreeView) → IsTree w [] [] t → (r : Result Verdict WhyFault)
    → IfOk r (λ v. map pattern_view v.patterns.items ≡ refused_patterns a (way_modules t.ways))
    → IfOk r (λ v. said_view v.said ≡ said_by a (way_modules t.ways))
    → IfOk r (λ v. IsVerdictOf w a (map pattern_view v.patterns.items) (said_view v.said))
verdict_is w a t tree (Ok v) are is = (way_modules t.ways, (t, tree, refl), are, is)
verdict_is w a t tree (Err f) are is = tt

pub verdict_memory : {T : Type 0} (w : ModulesView) (r : Result T WhyFault) → IfErr r (λ f. f ≡ Memory) → IfErr r (IsVerdictFault w)
verdict_memory w (Ok x) h = tt
verdict_memory w (Err f) h = subst (IsVerdictFault w) (sym h) tt

-- why it could not be said: nothing was printed
abbrev Still : Printing → Type 0
Still p = p ≡ nothing

verdict_by : (w : ModulesView) (f : WhyFault) → IsWaysCause w Still f → IsVerdictFault w f
verdict_by w Memory h = tt
verdict_by w Output h = absurd cc
verdict_by w f h = h.0

pub verdict_cause : (w : ModulesView) (adapters : List AdapterView) → adapters ≡ w.adapters → (r : ModulesRefusal) (f : WhyFault) → IsWaysRefusal adapters r
    → IsWaysFault r f → IsVerdictFault w f
verdict_cause w adapters are r f refused is = verdict_by w f (ways_cause w Still refl adapters are r f refused is)

pub verdict_shown : (c : CommandView) (w : ModulesView) (out : Printing → Type 0) → out nothing → (f : WhyFault) → IsVerdictFault w f → IsShownCause c w out f
verdict_shown c w out still Memory h = inl tt
verdict_shown c w out still Output h = absurd h
verdict_shown c w out still f h = inl (h, still)

-- ---- what was printed of modules, or why it could not be

put_cause : (w : ModulesView) (out : Printing → Type 0) (f : WhyFault) → IsPutFault out f → IsWaysCause w out f
put_cause w out Output h = h
put_cause w out f h = absurd h

pub unknown_cause : (c : CommandView) (w : ModulesView) (out : Printing → Type 0) (imports : List ImportValue) (f : WhyFault) → out nothing
    → imports ≡ imports_of w → IsUnknownOf imports c.imports f → IsKnownCause c w out f
unknown_cause c w out imports Memory still are h = inl tt
unknown_cause c w out imports (NoImport p near) still are h = (subst (λ l. IsNoImport l c.imports p near) are h, still)
unknown_cause c w out imports f still are h = absurd h

known_cause : (c : CommandView) (w : ModulesView) (out : Printing → Type 0) (f : WhyFault) → IsShownCause c w out f → IsKnownCause c w out f
known_cause c w out (NoImport p near) (inl h) = absurd h.0
known_cause c w out (NoImport p near) (inr h) = absurd h.0.4
known_cause c w out f h = h

pub ways_known : {T : Type 0} (c : CommandView) (w : ModulesView) (out : Printing → Type 0) (r : Result T WhyFault) → IfErr r (IsShownCause c w out)
    → IfErr r (IsKnownCause c w out)
ways_known c w out (Ok x) h = tt
ways_known c w out (Err f) h = known_cause c w out f h

pub ways_shown : {T : Type 0} (c : CommandView) (w : ModulesView) (out : Printing → Type 0) (r : Result T WhyFault) → IfErr r (IsWaysCause w out)
    → IfErr r (IsShownCause c w out)
ways_shown c w out (Ok x) h = tt
ways_shown c w out (Err f) h = inl h

pub functions_cause : (c : CommandView) (w : ModulesView) (out : Printing → Type 0) → out nothing → (f : WhyFault)
    → (f ≡ Memory) ⊎ IsFunctionFault c w.bytes (length (code_of w.main).funcs) f → IsShownCause c w out f
functions_cause c w out still f (inl none) = inl (subst (IsWaysCause w out) (sym none) tt)
functions_cause c w out still f (inr h) = inr (h, still)

tree_cause : (w : ModulesView) (out : Printing → Type 0) (f : WhyFault) → IsTreeFault out f → IsWaysCause w out f
tree_cause w out Memory h = tt
tree_cause w out Output h = h
tree_cause w out f h = absurd h

pub tree_failed : {T : Type 0} (w : ModulesView) (out : Printing → Type 0) (r : Result T WhyFault) → IfErr r (IsTreeFault out) → IfErr r (IsWaysCause w out)
tree_failed w out (Ok x) h = tt
tree_failed w out (Err f) h = tree_cause w out f h

-- what was printed of a tree is that of the paths to what is asked for
pub tree_printed : {T : Type 0} (c : CommandView) (w : ModulesView) (patterns : List PatternView) (fs : List TreeCallerView) (t : TreeView) (out : Printing → Type 0)
    (r : Result T WhyFault) → All HasNoCause w.adapters → AreAskedOf w.bytes (length (code_of w.main).funcs) c.functions fs → IsTree w patterns fs t
    → OnOk r (PrintsSome (IsTreeText true c t) out) → OnOk r (PrintsSome (AreWays c w patterns) out)
tree_printed c w patterns fs t out (Ok x) no_cause are is (text, shows, shown) =
    (text, record { no_cause = no_cause; functions = fs; are_functions = are; tree = t; is_tree = is; is = shows }, shown)
tree_printed c w patterns fs t out (Err f) no_cause are is h = tt

module _ (c : CommandView) (i : InputView) (w : ModulesView) (is : IsModules i w) (out : Printing → Type 0) where
  pub known_printed : (allow : Option AllowView) (r : Result Said WhyFault) → IfOk r (λ said. PrintsSome (AreAnswered c w allow (said_view said)) out)
      → IfOk r (λ said. PrintsSome (ArePrinted c i allow (said_view said)) out)
  known_printed allow (Ok said) (text, is_answer, shown) = (text, record { modules = w; are = is; is = is_answer }, shown)
  known_printed allow (Err f) h = tt

  shown_cause : (f : WhyFault) → IsShownCause c w out f → IsModulesCause c i out f
  shown_cause Memory h = tt
  shown_cause Output (inl h) = h
  shown_cause Output (inr h) = absurd h.0.4
  shown_cause (Adapter name f place near) (inl h) = ((h.0.0, h.0.1, h.0.2, inr (w, is, h.0.3), h.0.4), h.1)
  shown_cause (Adapter name f place near) (inr h) = absurd h.0.4
  shown_cause (NoImport p near) (inl h) = absurd h.0
  shown_cause (NoImport p near) (inr h) = absurd h.0.4
  shown_cause (Source f place near) (inl h) = absurd h.0
  shown_cause (Source f place near) (inr h) = absurd h.0.4
  shown_cause (Core index f place) (inl h) = absurd h.0
  shown_cause (Core index f place) (inr h) = absurd h.0.4
  shown_cause f (inl h) = absurd h.0
  shown_cause f (inr h) = ((w, is, h.0), h.1)

  modules_cause : (f : WhyFault) → IsKnownCause c w out f → IsModulesCause c i out f
  modules_cause (NoImport p near) h = ((w, is, h.0), h.1)
  modules_cause f h = shown_cause f h

  pub known_failed : {T : Type 0} (r : Result T WhyFault) → IfErr r (IsKnownCause c w out) → IfErr r (IsModulesCause c i out)
  known_failed (Ok x) h = tt
  known_failed (Err f) h = modules_cause f h

-- ---- a text that was put

pub put_printed : {T : Type 0} (Is : List ℕ → Type 0) (out : Printing → Type 0) (text put : List ℕ) (r : Result T WhyFault) → put ≡ text → Is text
    → OnOk r (out (printed put)) → OnOk r (PrintsSome Is out)
put_printed Is out text put (Ok x) same is shown = (text, is, subst (λ t. out (printed t)) same shown)
put_printed Is out text put (Err f) same is shown = tt

pub put_failed : {T : Type 0} (w : ModulesView) (out : Printing → Type 0) (r : Result T WhyFault) → IfErr r (IsPutFault out) → IfErr r (IsWaysCause w out)
put_failed w out (Ok x) h = tt
put_failed w out (Err f) h = put_cause w out f h
