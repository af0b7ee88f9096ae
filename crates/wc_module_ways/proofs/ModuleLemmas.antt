-- The modules of a component, as they are read.
use Rattle.std.proofs.Common.{◌≡◌, ℕ, ◌+◌, ◌<◌, Bool, true, false, cond, ◌||◌, List, [], ◌∷◌, ◌++◌, length, map, filter, take, get_or, Option, Some, None, option_map, Result, Ok, Err, IfErr, All, suc, refl, sym, ◌∙◌, ap, append_assoc, subst, inl, inr, arith}
use Rattle.std.proofs.lemmas.Cmp.{nat_list_eq_equiv}
use Rattle.std.proofs.lemmas.List.{length-map}
use Rattle.std.proofs.lemmas.List.Elements.{All-append, All-cons, All-nil}
use Rattle.std.proofs.lemmas.List.Folds.{list_any-append}
use Rattle.std.proofs.lemmas.Option.{get_or_from_slice_get, same_Some, slice_get-get_or, slice_get-map, slice_get_cases, slice_get_within}
use Rattle.std.specs.Borrow.{Bor}
use Rattle.std.specs.List.{flat_map, list_any, slice_get}
use Rattle.std.specs.Option.{option_to_list}
use Rattle.std.specs.Str.{bytes_eq}
use Rattle.wc_read.specs.Imports.{ImportValue}
use Rattle.wc_read.specs.Modules.{ModuleValue, SpellsModule}
use Rattle.wc_read.specs.Laws.{HasOneValue}
use Rattle.wc_gc.specs.LiveChains.{AreImportChains, AreWhyImports}
use Rattle.wc_gc.specs.LiveItems.{IsFault, TrimInput}
use Rattle.wc_gc.specs.declared.import_chains.ImportChains.{ImportChains}
use Rattle.wc_gc.specs.TrimPlace.{IsExplained}
use Rattle.wc_gc.specs.declared.fault.GcFault.{GcFault}
use Rattle.wc_gc.specs.declared.trim_place.TrimPlace.{TrimPlace}
use Rattle.wc_import_paths.specs.Joined.{AreJoined}
use Rattle.wc_import_paths.proofs.JoinedLemmas.{one_more}
use Rattle.wc_module_ways.specs.AdapterNames.{HasNames, is_name}
use Rattle.wc_module_ways.specs.Adapters.{AdapterView, AreAdapters, Given, IsAdapterFor, IsPartAt, IsRead, adapter_view, given_view, is_needed_as, search_input}
use Rattle.wc_import_paths.specs.MainModules.{IsMainOf, code_of, main_view}
use Rattle.wc_module_ways.specs.CoreModules.{HasCore, IsCore, core_view}
use Rattle.wc_module_ways.specs.Matched.{AreMatched}
use Rattle.wc_module_ways.specs.NameLists.{AreListed}
use Rattle.wc_module_ways.specs.Modules.{AreImportsIn, AreModules, InputView, IsWholeIf, core_imports, given_in, imports_through, is_of_main}
use Rattle.wc_module_ways.specs.Names.{NamePair, function_pairs, names_under}
use Rattle.wc_module_ways.specs.Private.Others.{AreOthers}
use Rattle.wc_module_ways.specs.Refusals.{IsAdapterUnread, IsAdaptersRefusal, IsGivenRefusal, IsMainFault, IsOfAdapter, IsOfMain, IsOthersRefusal, IsReadRefusal, IsThisRefusal, IsWaysRefusal, moved}
use Rattle.wc_module_ways.specs.Required.{always_names, is_needed, required_names}
use Rattle.wc_import_paths.specs.declared.main_module.MainModule.{MainModule}
use Rattle.wc_module_ways.specs.declared.modules.Modules.{Modules}
use Rattle.wc_module_ways.specs.declared.modules.Others.{Others}
use Rattle.wc_module_ways.specs.declared.refusals.ModulesRefusal.{ModulesRefusal}
use Rattle.wc_import_paths.proofs.PickedLemmas.{taken_more}

abbrev pub GivenPair : Type 0
GivenPair = Bor (List ℕ) × Bor (List ℕ)

-- ---- the names of adapters, one after another

one_any : (a b : Bool) → cond b true a ≡ (a || (b || false))
one_any true true = refl
one_any true false = refl
one_any false true = refl
one_any false false = refl

-- a name more
pub name_put : (given : List Given) (g : Given) (x : Bor (List ℕ)) (old new : List (Bor (List ℕ))) → x.now ≡ g.0
    → ((q : Bor (List ℕ)) → list_any (is_name q) new ≡ cond (is_name x q) true (list_any (is_name q) old)) → HasNames given old
    → HasNames (given ++ g ∷ []) new
name_put given g x old new same put h q =
    let test = (λ (g : Given). bytes_eq q.now g.0) in
    put q
    ∙ (ap (λ a. cond (bytes_eq x.now q.now) true a) (h q)
    ∙ (one_any (list_any test given) (bytes_eq x.now q.now)
    ∙ (ap (λ b. list_any test given || (b || false)) (nat_list_eq_equiv.symm x.now q.now ∙ ap (bytes_eq q.now) same)
    ∙ sym (list_any-append test given (g ∷ [])))))

pub names_next : (given : List GivenPair) (k : ℕ) (d : GivenPair) (old new : List (Bor (List ℕ))) → k < length given
    → ((q : Bor (List ℕ)) → list_any (is_name q) new ≡ cond (is_name (get_or given k d).0 q) true (list_any (is_name q) old))
    → HasNames (map given_view (take k given)) old → HasNames (map given_view (take (k + 1) given)) new
names_next given k d old new lt put h =
    subst (λ z. HasNames z new) (sym (taken_more given_view given k d lt))
    (name_put (map given_view (take k given)) (given_view (get_or given k d)) (get_or given k d).0 old new refl put h)

-- ---- an adapter, by what is listed under its name

module _ (imported asked : List NamePair) (g : Given) (one other : List (List ℕ)) (are : one ≡ names_under imported g.0) (also : other ≡ names_under asked g.0) where
  needed_is : (m : ModuleValue) → is_needed one m other ≡ is_needed_as imported asked g.0 m
  needed_is m = λ t. is_needed (are t) m (also t)

  pub adapter_left : (m : ModuleValue) → SpellsModule g.1 m → is_needed one m other ≡ false → IsAdapterFor imported asked g None
  adapter_left m spelled off = (m, spelled, sym (needed_is m) ∙ off)

  pub adapter_there : (a : AdapterView) → a.name ≡ g.0 → a.bytes ≡ g.1 → SpellsModule g.1 a.code
      → a.required ≡ required_names one a.code other → a.always ≡ always_names a.code other → is_needed one a.code other ≡ true → IsAdapterFor imported asked g (Some a)
  adapter_there a name bytes spelled required always on = record {
    name = name;
    bytes = bytes;
    spelled = spelled;
    required = required ∙ (λ t. required_names (are t) a.code (also t));
    always = always ∙ ap (always_names a.code) also;
    needed = sym (needed_is a.code) ∙ on;
  }

-- ---- adapters, one after another

module _ (imported asked : List NamePair) (given : List GivenPair) where
  pub adapters_next : (k : ℕ) (d : GivenPair) (o : Option AdapterView) (old new : List AdapterView) → k < length given
      → AreJoined k (IsPartAt imported asked (map given_view given)) old → IsAdapterFor imported asked (given_view (get_or given k d)) o
      → new ≡ old ++ option_to_list o → AreJoined (k + 1) (IsPartAt imported asked (map given_view given)) new
  adapters_next k d o old new lt j is put =
      let at : slice_get (map given_view given) k ≡ Some (given_view (get_or given k d)) =
      slice_get-map given_view given k ∙ ap (option_map given_view) (slice_get-get_or given k d lt) in
      one_more k (IsPartAt imported asked (map given_view given)) old (option_to_list o) new j put
      (λ g e. (o, subst (λ z. IsAdapterFor imported asked z o) (same_Some (given_view (get_or given k d)) g (sym at ∙ e)) is, refl))

  pub adapters_all : (n : ℕ) (adapters : List AdapterView) → n ≡ length given → AreJoined n (IsPartAt imported asked (map given_view given)) adapters
      → AreAdapters imported asked (map given_view given) adapters
  adapters_all n adapters all j =
      subst (λ k. AreJoined k (IsPartAt imported asked (map given_view given)) adapters) (all ∙ sym (length-map given given_view)) j

-- ---- each was read

all_parts : {A : Type 0} (P : A → Type 0) (parts : List (List A)) → ((k : ℕ) (part : List A) → slice_get parts k ≡ Some part → All P part)
    → All P (flat_map (λ t. t) parts)
all_parts P [] h = All-nil P
all_parts P (t ∷ ts) h = All-append P t (flat_map (λ u. u) ts) (h 0 t refl) (all_parts P ts (λ k part e. h (suc k) part e))

module _ (imported asked : List NamePair) where
  read_part : (g : Given) (o : Option AdapterView) → IsAdapterFor imported asked g o → All IsRead (option_to_list o)
  read_part g None h = All-nil IsRead
  read_part g (Some a) h = All-cons IsRead a [] (subst (λ b. SpellsModule b a.code) (sym h.bytes) h.spelled) (All-nil IsRead)

  pub all_read : (given : List Given) (adapters : List AdapterView) → AreAdapters imported asked given adapters → All IsRead adapters
  all_read given adapters j = subst (All IsRead) (sym j.is) (all_parts IsRead j.parts each) where
    each : (k : ℕ) (part : List AdapterView) → slice_get j.parts k ≡ Some part → All IsRead part
    each k part e =
        elim (slice_get_cases given k).1 [
          | inl there ↦ let h = j.are k part e there.0 there.2 in subst (All IsRead) (sym h.2) (read_part there.0 h.0 h.1)
          | inr past ↦ absurd (let le = past.0 in let lt = slice_get_within j.parts k part e in let each = j.each in omega (arith, lt, le, each))
        ]

-- the chains of an adapter are those of its module
pub chains_of_read : (one : HasOneValue SpellsModule) (w : TrimInput) (m : ModuleValue) (c : ImportChains) → SpellsModule w.bytes m → AreWhyImports w c
    → AreImportChains w.required m c
chains_of_read one w m c spelled (n, also, chains) = subst (λ (k : ModuleValue). AreImportChains w.required k c) (one w.bytes n m also spelled) chains

-- ---- refusals

pub main_refused : (i : InputView) (f : GcFault) (place : Option TrimPlace) (r : ModulesRefusal) → IsOfMain f (moved i.main_offset place) r
    → IsMainFault i.is_whole i.main i.exports f place → IsReadRefusal i r
main_refused i f place r of h = inl (of.0, of.1, place, subst (λ z. IsMainFault i.is_whole i.main i.exports z place) (sym of.2) h, of.3)

pub one_refused : (given : List Given) (g : Given) (k : ℕ) (r : ModulesRefusal) → slice_get given k ≡ Some g → IsGivenRefusal g r → IsAdaptersRefusal given r
one_refused given g k r at h = inr (g, (k, slice_get_within given k g at, get_or_from_slice_get given k g g at), h)

pub this_refused : (a : AdapterView) (f : GcFault) (place : Option TrimPlace) (r : ModulesRefusal) → IsOfAdapter a.name a.bytes f place r
    → IsFault (search_input a) f → IsExplained (search_input a) f place → IsThisRefusal a r
this_refused a f place r of fault explained =
    inr (
      of.0,
      of.1,
      subst (IsFault (search_input a)) (sym of.2) fault,
      subst (λ z. IsExplained (search_input a) z r.place) (sym of.2) (subst (λ z. IsExplained (search_input a) f z) (sym of.3) explained),
    )

pub way_refused : (adapters : List AdapterView) (a : AdapterView) (k : ℕ) (r : ModulesRefusal) → slice_get adapters k ≡ Some a → IsThisRefusal a r
    → IsWaysRefusal adapters r
way_refused adapters a k r at (inl memory) = inl memory
way_refused adapters a k r at (inr fault) = inr (a, (k, slice_get_within adapters k a at, get_or_from_slice_get adapters k a a at), fault)

pub given_refused : (g : Given) (f : GcFault) (place : Option TrimPlace) (r : ModulesRefusal) → IsOfAdapter g.0 g.1 f place r → IsAdapterUnread g.1 f place
    → IsGivenRefusal g r
given_refused g f place r of h =
    (of.0, of.1, subst (λ z. IsAdapterUnread g.1 z r.place) (sym of.2) (subst (λ z. IsAdapterUnread g.1 f z) (sym of.3) h))

-- ---- all of them

pub modules_read : (i : InputView) (p : Modules) → IsMainOf i.main i.exports p.main → IsWholeIf i.is_whole (main_view p.main)
    → AreListed (function_pairs (code_of (main_view p.main)).imports) p.functions.entries
    → AreAdapters (function_pairs (code_of (main_view p.main)).imports) i.adapter_exports i.adapters (map adapter_view p.adapters.items)
    → AreMatched IsCore i.core (map core_view p.core.items) → All HasCore p.core.items → HasNames (given_in i) p.names.keys → AreModules i p
modules_read i p h all functions adapters cores has names = record {
  view = record {
    main = main_view p.main;
    bytes = i.main;
    adapters = map adapter_view p.adapters.items;
    core = map core_view p.core.items;
    given = given_in i;
  };
  is_modules = record { main = h.is_main; is_whole = all; bytes = refl; adapters = adapters; core = cores; given = refl };
  are_view = record { main = refl; bytes = h.spelled; adapters = refl; core = refl; names = names };
  has_modules = record {
    main = h.has_main;
    functions = functions;
    adapters = all_read (function_pairs (code_of (main_view p.main)).imports) i.adapter_exports i.adapters (map adapter_view p.adapters.items) adapters;
    core = has;
  };
}

-- of a main module, and others
pub modules_made : (i : InputView) (main : MainModule) (o : Others) (p : Modules) → IsMainOf i.main i.exports main → IsWholeIf i.is_whole (main_view main)
    → AreOthers i (code_of (main_view main)).imports o → p.main ≡ main → p.adapters.items ≡ o.adapters.items → p.core.items ≡ o.core.items
    → p.functions.entries ≡ o.functions.entries → p.names.keys ≡ o.names.keys → AreModules i p
modules_made i main o p h all others is adapters cores functions names =
    let m : IsMainOf i.main i.exports p.main = subst (IsMainOf i.main i.exports) (sym is) h in
    let whole = subst (λ (z : MainModule). IsWholeIf i.is_whole (main_view z)) (sym is) all in
    let rest = subst (λ (z : MainModule). AreOthers i (code_of (main_view z)).imports o) (sym is) others in
    modules_read i p m whole (subst (AreListed (function_pairs (code_of (main_view p.main)).imports)) (sym functions) rest.functions)
    (subst (λ v. AreAdapters (function_pairs (code_of (main_view p.main)).imports) i.adapter_exports i.adapters (map adapter_view v)) (sym adapters) rest.adapters)
    (subst (λ v. AreMatched IsCore i.core (map core_view v)) (sym cores) rest.core)
    (subst (All HasCore) (sym cores) rest.has)
    (subst (HasNames (given_in i)) (sym names) rest.names)

pub others_refused : {T : Type 0} (i : InputView) (r : Result T ModulesRefusal) → IfErr r (IsOthersRefusal i) → IfErr r (IsReadRefusal i)
others_refused i (Ok x) h = tt
others_refused i (Err e) h = inr h

-- the imports of the main module, of all adapters, and of all core modules, put after none
pub imports_are : (p : Modules) (none first next all : List ImportValue) → none ≡ []
    → ((given : List Given) → HasNames given p.names.keys → first ≡ none ++ filter (is_of_main given) (code_of (main_view p.main)).imports)
    → next ≡ first ++ flat_map imports_through (map adapter_view p.adapters.items)
    → ((given : List Given) → HasNames given p.names.keys → all ≡ next ++ flat_map (core_imports given) (map core_view p.core.items)) → AreImportsIn p all
imports_are p none first next all empty main put last w v =
    let one : first ≡ filter (is_of_main w.given) (code_of w.main).imports =
    main w.given v.names ∙ (λ t. empty t ++ filter (is_of_main w.given) (code_of (v.main t)).imports) in
    let two : next ≡ filter (is_of_main w.given) (code_of w.main).imports ++ flat_map imports_through w.adapters =
    put ∙ (λ t. one t ++ flat_map imports_through (v.adapters t)) in
    last w.given v.names
    ∙ ((λ t. two t ++ flat_map (core_imports w.given) (v.core t))
    ∙ append_assoc (filter (is_of_main w.given) (code_of w.main).imports) (flat_map imports_through w.adapters) (flat_map (core_imports w.given) w.core))
