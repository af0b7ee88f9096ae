-- Functions and resources of interfaces that share a text: of the first interface that has one of a name.
use Rattle.std.proofs.Common.{◌≡◌, ◌∙◌, ◌<◌, ◌≤◌, ◌+◌, ℕ, length, drop, get_or, Bool, true, false, cond, List, [], ◌∷◌, ◌++◌, map, String, string_bytes, Option, Some, None, is_some, refl, sym, ap, subst}
use Rattle.std.specs.Prelude.{MatchOption, slice_get}
use Rattle.std.specs.Map.{lookup}
use Rattle.std.specs.Option.{option_map, option_or, option_and_then, IfSome}
use Rattle.std.specs.String.{string_eq}
use Rattle.std.specs.Str.{bytes_eq}
use Rattle.std.specs.Borrow.{Bor}
use Rattle.std.specs.declared.alloc.Global.{Global}
use Rattle.std.specs.declared.vec.Vec.{Vec}
use Rattle.std.proofs.lemmas.List.{drop_all, drop_more}
use Rattle.std.proofs.lemmas.Slice.Eq.{bytes_eq-Decides}
use Rattle.wc_resolve.specs.Views.{FunctionView, InterfaceView, KeyView}
use Rattle.wc_resolve.specs.Kinds.{ResolveView}
use Rattle.wc_maps.proofs.LookupLemmas.{name_viewed}
use Rattle.wc_texts.specs.Names.{under_name}
use Rattle.wc_resolve.specs.Roots.{id_index}
use Rattle.wc_resolve.specs.declared.functions.Function.{Function}
use Rattle.wc_resolve.specs.declared.ids.InterfaceId.{InterfaceId}
use Rattle.wc_resolve.specs.declared.ids.TypeId.{TypeId}
use Rattle.wc_resolve.specs.declared.worlds.WorldKey.{WorldKey}
use Rattle.wc_adapters.specs.Entries.{Entries}
use Rattle.wc_names.specs.declared.export_index.ExportedInterface.{ExportedInterface}
use Rattle.wc_names.specs.declared.export_names.ExportSyntax.{ExportSyntax}
use Rattle.wc_names.specs.declared.export_names.ExportSyntax.TheVariants.{Legacy}
use Rattle.wc_names.specs.declared.first_members.FirstMembers.{FirstMembers}
use Rattle.wc_names.specs.ExportIndex.{IsExportIndex, listed}
use Rattle.wc_names.specs.ExportNames.{HasFunction, HasResource, interface_function, interface_resource, interfaces_of_text, searched_interfaces, target}
use Rattle.wc_names.specs.ExportViews.{export_target}
use Rattle.wc_names.specs.Keys.{resource_at}
use Rattle.wc_names.specs.Finds.{Finds}
use Rattle.wc_names.specs.First.{FirstOf}
use Rattle.wc_names.specs.FirstMembers.{AreFirstMembers, AreMembersOf, KeepsMore, among, own_function}
use Rattle.wc_names.specs.InterfaceIndex.{KeepsFirst, is_text, with_first}
use Rattle.wc_names.proofs.InterfaceIndexLemmas.{KeepsPassed, keeps_all, lookup_push}
use Rattle.wc_maps.proofs.OptionLemmas.{none_of_false}
use Rattle.wc_names.proofs.SearchLemmas.{IsFirstInRest, first_found, rest_after}

-- whether an item is listed under a name
abbrev pub is_listed : {X : Type 0} → List (String Global × X) → List ℕ → Bool
is_listed entries name = is_some (lookup (is_text name) entries)

-- of what an interface has, what is kept and what is left are what was kept and all
abbrev pub KeepsOwn : {V X O : Type 0} → (V → O) → (List ℕ → Option O) → List (String Global × X) → List (String Global × V) → List (String Global × X)
    → List (String Global × V) → Type 0
KeepsOwn view own all old left now =
    (name : List ℕ) → option_or (option_map view (lookup (is_text name) now)) (among left own name)
    ≡ option_or (option_map view (lookup (is_text name) old)) (among all own name)

module _ {V X O : Type 0} (view : V → O) (own : List ℕ → Option O) (k : String Global) (x : X) (rest : List (String Global × X)) (name : List ℕ) where
  -- a name that is passed, and has nothing
  passed_at : (b c : Bool) → is_text name k ≡ b → own (string_bytes k) ≡ None → is_listed rest name ≡ c
      → cond c (own name) None ≡ cond (is_some (cond b (Some x) (lookup (is_text name) rest))) (own name) None
  passed_at true true is none at = refl
  passed_at true false is none at = sym (ap own ((bytes_eq-Decides name (string_bytes k)).0 is) ∙ none)
  passed_at false c is none at = ap (λ z. cond z (own name) None) (sym at)

  -- a name that is passed, and is kept already
  there_at : (kept : List (String Global × V)) (o : Option V) (b : Bool) → lookup (is_text name) kept ≡ o → is_text name k ≡ b
      → is_some (lookup (is_text (string_bytes k)) kept) ≡ true
      → option_or (option_map view o) (among rest own name)
      ≡ option_or (option_map view o) (cond (is_some (cond b (Some x) (lookup (is_text name) rest))) (own name) None)
  there_at kept (Some v) b at is there = refl
  there_at kept None true at is there =
      let gone : lookup (is_text (string_bytes k)) kept ≡ None = subst (λ z. lookup (is_text z) kept ≡ None) ((bytes_eq-Decides name (string_bytes k)).0 is) at in
      let both : false ≡ true = sym (ap is_some gone) ∙ there in
      absurd (let bad : ⊥ = cc both in bad)
  there_at kept None false at is there = refl

  -- a name that is passed, and is kept now
  kept_at : (v : V) (o : Option V) (b : Bool) → is_text name k ≡ b → own (string_bytes k) ≡ Some (view v)
      → option_or (option_map view (option_or o (cond b (Some v) None))) (among rest own name)
      ≡ option_or (option_map view o) (cond (is_some (cond b (Some x) (lookup (is_text name) rest))) (own name) None)
  kept_at v (Some w) b is has = refl
  kept_at v None true is has = sym (ap own ((bytes_eq-Decides name (string_bytes k)).0 is) ∙ has)
  kept_at v None false is has = refl

  put_at : (key : String Global) (kept : List (String Global × V)) (v : V) (b : Bool) → string_bytes key ≡ string_bytes k
      → is_some (lookup (is_text (string_bytes key)) kept) ≡ b → own (string_bytes k) ≡ Some (view v)
      → option_or (option_map view (lookup (is_text name) (cond b kept (kept ++ (key, v) ∷ [])))) (among rest own name)
      ≡ option_or (option_map view (lookup (is_text name) kept)) (among ((k, x) ∷ rest) own name)
  put_at key kept v true same there has =
      there_at kept (lookup (is_text name) kept) (is_text name k) refl refl (subst (λ z. is_some (lookup (is_text z) kept) ≡ true) same there)
  put_at key kept v false same there has =
      ap (λ z. option_or (option_map view z) (among rest own name)) (lookup_push (is_text name) kept key v)
      ∙ (ap (λ z. option_or (option_map view (option_or (lookup (is_text name) kept) (cond (bytes_eq name z) (Some v) None))) (among rest own name)) same
      ∙ kept_at v (lookup (is_text name) kept) (is_text name k) refl has)

module _ {V X O : Type 0} (view : V → O) (own : List ℕ → Option O) (all : List (String Global × X)) (old : List (String Global × V))
    (left rest : List (String Global × X)) (k : String Global) (x : X) (next : left ≡ (k, x) ∷ rest) (kept : List (String Global × V))
    (before : KeepsOwn view own all old left kept) where
  here : KeepsOwn view own all old ((k, x) ∷ rest) kept
  here = subst (λ z. KeepsOwn view own all old z kept) next before

  -- after a name of which something is kept
  pub own_kept : (new : List (String Global × V)) (key : String Global) (v : V) (text : List ℕ) → text ≡ string_bytes k → string_bytes key ≡ text
      → own text ≡ Some (view v) → new ≡ with_first string_eq kept key v → KeepsOwn view own all old rest new
  own_kept new key v text is same has put name =
      ap (λ z. option_or (option_map view (lookup (is_text name) z)) (among rest own name)) put
      ∙ (put_at view own k x rest name key kept v (is_some (lookup (is_text (string_bytes key)) kept)) (same ∙ is) refl
      (subst (λ z. own z ≡ Some (view v)) is has)
      ∙ here name)

pub or_none : {X : Type 0} (o : Option X) → option_or o None ≡ o
or_none None = refl
or_none (Some x) = refl

-- what an interface has, where it lists all names of which it has something
pub among_all : {X O : Type 0} (all : List (String Global × X)) (own : List ℕ → Option O) → ((name : List ℕ) → is_listed all name ≡ false → own name ≡ None)
    → (name : List ℕ) → among all own name ≡ own name
among_all all own only name = at (is_listed all name) refl where
  at : (b : Bool) → is_listed all name ≡ b → cond b (own name) None ≡ own name
  at true is = refl
  at false is = sym (only name is)

-- an interface has no function, and no resource, of a name that it doesn't list
unlisted : {X Y : Type 0} (view : X → Y) (entries : List (String Global × X)) (name : List ℕ) → is_listed entries name ≡ false
    → under_name (map (λ (e : String Global × X). (string_bytes e.0, view e.1)) entries) name ≡ None
unlisted view entries name none = sym (name_viewed view entries name) ∙ ap (option_map view) (none_of_false (lookup (is_text name) entries) none)

module _ {X : Type 0} (r : ResolveView) (i : ℕ) (v : InterfaceView) (at : slice_get r.interfaces i ≡ Some v) (entries : List (String Global × X)) where
  no_function : (view : X → FunctionView) (key : KeyView) → v.functions ≡ map (λ (e : String Global × X). (string_bytes e.0, view e.1)) entries
      → (name : List ℕ) → is_listed entries name ≡ false → own_function r (key, i) name ≡ None
  no_function view key are name none =
      ap (λ o. option_map (target key (Some i)) (option_and_then (λ (v : InterfaceView). under_name v.functions name) o)) at
      ∙ ap (option_map (target key (Some i))) (ap (λ z. under_name z name) are ∙ unlisted view entries name none)

  no_resource : (view : X → ℕ) → v.types ≡ map (λ (e : String Global × X). (string_bytes e.0, view e.1)) entries
      → (name : List ℕ) → is_listed entries name ≡ false → interface_resource r i name ≡ None
  no_resource view are name none =
      ap (λ o. option_and_then (resource_at r) (option_and_then (λ (v : InterfaceView). under_name v.types name) o)) at
      ∙ ap (option_and_then (resource_at r)) (ap (λ z. under_name z name) are ∙ unlisted view entries name none)

  of_function : (key : KeyView) (name : List ℕ) (o : Option FunctionView) → interface_function r i name ≡ o
      → Finds (option_map (target key (Some i)) o) (HasFunction r name (key, i))
  of_function key name None is = λ t h. let none : None ≡ Some h.0 = sym is ∙ h.1 in let bad : ⊥ = cc none in bad
  of_function key name (Some f) is = (f, is, refl)

  of_resource : (key : KeyView) (name : List ℕ) (o : Option ℕ) → interface_resource r i name ≡ o → Finds o (HasResource r name (key, i))
  of_resource key name None is = λ t h. let none : None ≡ Some t = sym is ∙ h in let bad : ⊥ = cc none in bad
  of_resource key name (Some t) is = is

  -- what an interface has of a name that it lists is its function, or its resource, of that name
  pub own_functions : (view : X → FunctionView) (key : KeyView) → v.functions ≡ map (λ (e : String Global × X). (string_bytes e.0, view e.1)) entries
      → (name : List ℕ) → Finds (among entries (own_function r (key, i)) name) (HasFunction r name (key, i))
  own_functions view key are name =
      subst (λ z. Finds z (HasFunction r name (key, i))) (sym (among_all entries (own_function r (key, i)) (no_function view key are) name))
      (of_function key name (interface_function r i name) refl)

  pub own_resources : (view : X → ℕ) (key : KeyView) → v.types ≡ map (λ (e : String Global × X). (string_bytes e.0, view e.1)) entries
      → (name : List ℕ) → Finds (among entries (interface_resource r i) name) (HasResource r name (key, i))
  own_resources view key are name =
      subst (λ z. Finds z (HasResource r name (key, i))) (sym (among_all entries (interface_resource r i) (no_resource view are) name))
      (of_resource key name (interface_resource r i name) refl)

-- what is kept after one more interface
module _ {E O : Type 0} (Has : E → O → Type 0) (all rest : List E) (e : E) where
  more_at : (old own : Option O) → Finds own (Has e) → MatchOption old (IsFirstInRest Has all (e ∷ rest)) (FirstOf Has all)
      → MatchOption (option_or old own) (IsFirstInRest Has all rest) (FirstOf Has all)
  more_at (Some x) own has h = h
  more_at None None none h = rest_after Has all rest e h none
  more_at None (Some x) has h = first_found Has all rest e x h has

after_cut : {X E : Type 0} (f : X → E) (xs : List X) (i : ℕ) (x : X) → i < length xs → x ≡ get_or xs i x
    → map f (drop i xs) ≡ f x ∷ map f (drop (i + 1) xs)
after_cut f xs i x small is = ap (map f) (drop_more xs i x small) ∙ ap (λ z. f z ∷ map f (drop (i + 1) xs)) (sym is)

module _ {X E V O : Type 0} (Has : List ℕ → E → O → Type 0) (view : V → O) (f : X → E) (xs : List X) (i : ℕ) where
  pub keeps_more : (x : X) (own : List ℕ → Option O) (kept new : List (String Global × V)) → i < length xs → x ≡ get_or xs i x
      → ((name : List ℕ) → Finds (own name) (Has name (f x))) → KeepsMore view own kept new
      → KeepsPassed Has (map f xs) (map f (drop i xs)) (λ t. option_map view (lookup (is_text t) kept))
      → KeepsPassed Has (map f xs) (map f (drop (i + 1) xs)) (λ t. option_map view (lookup (is_text t) new))
  keeps_more x own kept new small is has more before name =
      subst (λ z. MatchOption z (IsFirstInRest (Has name) (map f xs) (map f (drop (i + 1) xs))) (FirstOf (Has name) (map f xs))) (sym (more name))
      (more_at (Has name) (map f xs) (map f (drop (i + 1) xs)) (f x) (option_map view (lookup (is_text name) kept)) (own name) (has name)
      (subst (λ z. MatchOption (option_map view (lookup (is_text name) kept)) (IsFirstInRest (Has name) (map f xs) z) (FirstOf (Has name) (map f xs)))
      (after_cut f xs i x small is) (before name)))

  -- what is kept after all interfaces
  pub all_kept : (kept : List (String Global × V)) → length xs ≤ i
      → KeepsPassed Has (map f xs) (map f (drop i xs)) (λ t. option_map view (lookup (is_text t) kept)) → KeepsFirst Has is_text view (map f xs) kept
  all_kept kept end before = keeps_all Has is_text view (map f xs) (map f (drop i xs)) kept (ap (map f) (drop_all i xs end)) before

-- what is kept under a text, after one more is
module _ {V : Type 0} (P : List ℕ → V → Type 0) (k : String Global) (v : V) (mine : P (string_bytes k) v) (text : List ℕ) where
  one_more_at : (o : Option V) (b : Bool) → is_text text k ≡ b → IfSome o (P text) → IfSome (option_or o (cond b (Some v) None)) (P text)
  one_more_at (Some w) b is h = h
  one_more_at None true is h = subst (λ z. P z v) (sym ((bytes_eq-Decides text (string_bytes k)).0 is)) mine
  one_more_at None false is h = tt

  put_under : (kept : List (String Global × V)) (b : Bool) → IfSome (lookup (is_text text) kept) (P text)
      → IfSome (lookup (is_text text) (cond b kept (kept ++ (k, v) ∷ []))) (P text)
  put_under kept true h = h
  put_under kept false h =
      subst (λ z. IfSome z (P text)) (sym (lookup_push (is_text text) kept k v)) (one_more_at (lookup (is_text text) kept) (is_text text k) refl h)

pub all_under : {V : Type 0} (P : List ℕ → V → Type 0) (k : String Global) (v : V) (kept new : List (String Global × V)) → P (string_bytes k) v
    → new ≡ with_first string_eq kept k v → ((text : List ℕ) → IfSome (lookup (is_text text) kept) (P text))
    → (text : List ℕ) → IfSome (lookup (is_text text) new) (P text)
all_under P k v kept new mine put before text =
    subst (λ z. IfSome (lookup (is_text text) z) (P text)) (sym put)
    (put_under P k v mine text kept (is_some (lookup (is_text (string_bytes k)) kept)) (before text))

-- what is kept under a text is of the first of the interfaces that are searched
module _ (x : ExportSyntax) (r : ResolveView) (es : Entries) (ks : List KeyView) (entries : List (String Global × Vec ExportedInterface Global))
    (index : IsExportIndex x r es ks entries) (members : List (String Global × FirstMembers)) (are_members : AreMembersOf x r (listed entries) members)
    (text name : List ℕ) (m : FirstMembers) (found : Some m ≡ lookup (is_text text) members) where
  under_text : (x ≡ Legacy) × AreFirstMembers r (listed entries text) m
  under_text = subst (λ z. IfSome z (λ m. (x ≡ Legacy) × AreFirstMembers r (listed entries text) m)) (sym found) (are_members text)

  are_searched : listed entries text ≡ searched_interfaces x r es ks text
  are_searched =
      index.are_listed text
      ∙ (ap (λ z. interfaces_of_text z r es ks text) under_text.0 ∙ ap (λ z. searched_interfaces z r es ks text) (sym under_text.0))

  pub kept_function : (o : Option (Bor WorldKey × Option InterfaceId × Bor Function)) → o ≡ lookup (is_text name) m.functions.entries
      → Finds (option_map export_target o) (FirstOf (HasFunction r name) (searched_interfaces x r es ks text))
  kept_function o is =
      subst (λ z. Finds (option_map export_target o) (FirstOf (HasFunction r name) z)) are_searched
      (subst (λ z. Finds (option_map export_target z) (FirstOf (HasFunction r name) (listed entries text))) (sym is) (under_text.1.are_functions name))

  pub kept_resource : (o : Option TypeId) → o ≡ lookup (is_text name) m.resources.entries
      → Finds (option_map id_index o) (FirstOf (HasResource r name) (searched_interfaces x r es ks text))
  kept_resource o is =
      subst (λ z. Finds (option_map id_index o) (FirstOf (HasResource r name) z)) are_searched
      (subst (λ z. Finds (option_map id_index z) (FirstOf (HasResource r name) (listed entries text))) (sym is) (under_text.1.are_resources name))
