-- Adapters by their names, and the live types of an interface.
use Rattle.std.proofs.Common.{◌≡◌, ℕ, ◌+◌, ◌-◌, ◌<◌, zero, suc, arith, Bool, cond, List, [], ◌∷◌, ◌++◌, length, map, nat_eq, nat_lt, not, position, slice_get, option_map, Option, Some, None, refl, sym, ◌∙◌, ap}
use Rattle.std.specs.Prelude.{unwrap_or}
use Rattle.std.specs.List.{prefix_len}
use Rattle.std.specs.Borrow.{Bor}
use Rattle.std.specs.Option.{option_and_then, option_copied, option_map_or, option_to_list}
use Rattle.std.proofs.lemmas.Option.{slice_get-map}
use Rattle.indexmap.specs.IndexSet.{IndexSet}
use Rattle.wc_resolve.specs.Roots.{id_index, indices}
use Rattle.wc_resolve.specs.contracts.ids.InterfaceIdPartialEq.TheImpl.{eq-value as interface_eq}
use Rattle.wc_resolve.specs.declared.ids.InterfaceId.{InterfaceId}
use Rattle.wc_resolve.specs.declared.ids.TypeId.{TypeId}
use Rattle.wc_resolve.proofs.LookupLemmas.{copied_viewed}
use Rattle.std.specs.Map.{keys_of, lookup}
use Rattle.wc_why.specs.Tree.{TreeImportView}
use Rattle.std.specs.Str.{bytes_eq}
use Rattle.wc_world.specs.Views.{ComponentWorldView, NamedWorldAdapter}
use Rattle.wc_world.specs.WorldViews.{adapter_entry, adapter_view, world_view}
use Rattle.wc_world.specs.declared.adapter.WorldAdapter.{WorldAdapter}
use Rattle.wc_world.specs.declared.world.ComponentWorld.{ComponentWorld}
use Rattle.wc_why.specs.declared.component.Target.{Target}
use Rattle.wc_import_paths.specs.MainModules.{MainView}
use Rattle.wc_read.specs.Modules.{ModuleValue}
use Rattle.wc_ways.specs.Typed.{adapter_target, end_at, end_by, end_for, end_in, target_in, target_of, typed_of, typed_wanted, typed_with}
use Rattle.wc_ways.specs.Types.{TypeCite, cite, first_live}
use Rattle.wc_ways.specs.Wanted.{EndView, TypedView, WantedView, nowhere, of_types}
use Rattle.wc_ways.proofs.TypesLemmas.{found_viewed}

-- ---- adapters by their names

module _ (name : List ℕ) where
  abbrev named_key : Bor (List ℕ) → Bool
  named_key k = bytes_eq name k.now

  abbrev named_adapter : NamedWorldAdapter → Bool
  named_adapter y = bytes_eq name y.0

  before : (es : List (Bor (List ℕ) × WorldAdapter)) → prefix_len (λ (k : Bor (List ℕ)). not (bytes_eq name k.now)) (keys_of es) ≡ prefix_len (λ (y : NamedWorldAdapter). not (bytes_eq name y.0)) (map adapter_entry es)
  before [] = refl
  before (e ∷ es) = ap (λ (n : ℕ). cond (not (bytes_eq name e.0.now)) (1 + n) 0) (before es)

  sized : (es : List (Bor (List ℕ) × WorldAdapter)) → length (keys_of es) ≡ length (map adapter_entry es)
  sized [] = refl
  sized (e ∷ es) = ap suc (sized es)

  pub position_viewed : (es : List (Bor (List ℕ) × WorldAdapter)) → position named_key (keys_of es) ≡ position named_adapter (map adapter_entry es)
  position_viewed es = λ t. cond (nat_lt (before es t) (sized es t)) (Some (before es t)) None

module _ (w : ComponentWorld) (name : List ℕ) (i : TreeImportView) where
  pub end_there : (k : ℕ) (key : Bor (List ℕ)) (a : WorldAdapter) → Some k ≡ position (named_key name) (keys_of w.adapters.entries)
      → slice_get w.adapters.entries k ≡ Some (key, a) → end_in (adapter_view a).library_info (k + 1) i ≡ end_at (world_view w) (Some name) i
  end_there k key a found at =
      let there : slice_get (world_view w).adapters k ≡ Some (adapter_entry (key, a)) =
      slice_get-map adapter_entry w.adapters.entries k ∙ ap (option_map adapter_entry) at in
      ap (λ (o : Option NamedWorldAdapter). option_map_or (λ (y : NamedWorldAdapter). end_in y.1.library_info (k + 1) i) o nowhere) (sym there)
      ∙ ap (λ (o : Option ℕ). option_map_or (end_by (world_view w) i) o nowhere) (found ∙ position_viewed name w.adapters.entries)

  pub end_missing : None ≡ position (named_key name) (keys_of w.adapters.entries) → nowhere ≡ end_at (world_view w) (Some name) i
  end_missing none = ap (λ (o : Option ℕ). option_map_or (end_by (world_view w) i) o nowhere) (none ∙ position_viewed name w.adapters.entries)

-- the live types of an interface, as the map has them

module _ {S : Type 0} (id : InterfaceId) (es : List (InterfaceId × IndexSet TypeId S)) (r : Option (Bor (IndexSet TypeId S)))
    (at : option_copied r ≡ lookup (interface_eq.it id) es)
  where
    abbrev keys_in : IndexSet TypeId S → List ℕ
    keys_in s = indices s.keys

    abbrev groups : List (ℕ × List ℕ)
    groups = map (λ (e : InterfaceId × IndexSet TypeId S). (e.0.0, indices e.1.keys)) es

    live_viewed : lookup (nat_eq id.0) groups ≡ option_map (λ (s : Bor (IndexSet TypeId S)). keys_in s.now) r
    live_viewed =
        sym (found_viewed (interface_eq.it id) (λ (k : InterfaceId). k.0) keys_in id.0 (λ k. refl) es)
        ∙ (ap (option_map keys_in) (sym at) ∙ sym (copied_viewed keys_in r))

    pub live_there : (s : Bor (IndexSet TypeId S)) → r ≡ Some s → first_live groups id.0 ≡ option_map id_index (slice_get s.now.keys 0)
    live_there s is =
        ap (λ o. slice_get (unwrap_or o []) 0) (live_viewed ∙ ap (option_map (λ (s : Bor (IndexSet TypeId S)). keys_in s.now)) is)
        ∙ slice_get-map id_index s.now.keys 0

    pub live_none : r ≡ None → first_live groups id.0 ≡ None
    live_none is = ap (λ o. slice_get (unwrap_or o []) 0) (live_viewed ∙ ap (option_map (λ (s : Bor (IndexSet TypeId S)). keys_in s.now)) is)

-- ---- an interface that is imported for its types alone, and the item at which the path to it ends

module _ (w : ComponentWorldView) (main : MainView) (ms : List ModuleValue) (interface : List ℕ) (i : ℕ) (c : TypeCite) (is : c ≡ cite w i) (end : EndView) (ends : end ≡ end_for w c.root)
    (target : Target) (targets : target ≡ target_of main ms end)
  where
    abbrev typed_by : EndView → TypedView
    typed_by e = record { interface = interface; ty = c.name; end = e }

    abbrev wanted_by : Target → WantedView
    wanted_by t = record { what = of_types (typed_by end); target = t }

    typed_is : wanted_by target ≡ typed_of w main ms (interface, i)
    typed_is =
        ap wanted_by targets
        ∙ (ap (λ (e : EndView). typed_wanted main ms (typed_by e)) ends ∙ ap (λ (z : TypeCite). typed_wanted main ms (typed_with w interface z)) is)

    pub typed_put : (o : Option (List ℕ × ℕ)) → Some (interface, i) ≡ o → (old new : List WantedView) → new ≡ old ++ wanted_by target ∷ []
        → new ≡ old ++ option_to_list (option_map (typed_of w main ms) o)
    typed_put o named old new put =
        put ∙ (ap (λ (v : WantedView). old ++ v ∷ []) typed_is ∙ ap (λ (p : Option (List ℕ × ℕ)). old ++ option_to_list (option_map (typed_of w main ms) p)) named)

module _ (ms : List ModuleValue) (i : TreeImportView) where
  pub target_later : (part : ℕ) → 0 < part → option_and_then (λ (m : ModuleValue). target_in part m i) (slice_get ms (part - 1)) ≡ adapter_target ms part i
  target_later zero lt = absurd (omega (arith, lt))
  target_later (suc k) lt =
      let same : suc k - 1 ≡ k = omega arith in
      ap (λ (n : ℕ). option_and_then (λ (m : ModuleValue). target_in (suc k) m i) (slice_get ms n)) same
