-- Which sources of a core module lead to which imports, by the numbers of items.
use Rattle.std.proofs.Common.{◌≡◌, ℕ, zero, suc, Bool, true, List, [], ◌∷◌, map, refl, sym, ◌∙◌, ap, subst, arith, Option, Some, None}
use Rattle.std.specs.Prelude.{◌↔◌, Contains, cond}
use Rattle.std.specs.List.{slice_get}
use Rattle.std.specs.Option.{option_map}
use Rattle.std.proofs.lemmas.List.Elements.{All-contains, filter_passes}
use Rattle.std.proofs.lemmas.Option.{get_or_from_slice_get, slice_get-get_or, slice_get-map, slice_get_within}
use Rattle.wc_read.specs.Imports.{ImportValue}
use Rattle.wc_read.specs.declared.operators.Space.TheVariants.{Funcs}
use Rattle.wc_graph.specs.Alone.{IsAlone}
use Rattle.wc_graph.specs.Leads.{HasPath, Leads as LeadsTo}
use Rattle.wc_graph.specs.Positions.{AreAscending, IsAt}
use Rattle.wc_graph.specs.Reached.{IsPath}
use Rattle.wc_graph.proofs.ListLemmas.{from_filter, in_filter}
use Rattle.wc_graph.proofs.NumberingLemmas.{path_numbers, path_things}
use Rattle.wc_paths.specs.Items.{CountsValue, GraphValue, counts_of, has_item, names_in}
use Rattle.wc_paths.specs.Numbers.{item_at, number_of, numbers_in, present}
use Rattle.wc_paths.specs.Paths.{IsReachedIn}
use Rattle.wc_paths.specs.Roots.{import_item}
use Rattle.wc_paths.specs.declared.items.PathItem.{PathItem}
use Rattle.wc_paths.specs.declared.items.PathItem.TheVariants.{Item}
use Rattle.wc_paths.proofs.NumbersLemmas.{item_back}
use Rattle.wc_paths.proofs.PathLemmas.{IsThere, named_there, reached_there}
use Rattle.wc_summary.specs.CoreModules.{CoreValue, IsGoneFrom, LabelLeads, LabelLeadsAt, LabelValue, core_graph}
use Rattle.wc_summary.specs.Leads.{as_number}
use Rattle.wc_summary.specs.Private.CoreModules.{label_number, label_numbers}
use Rattle.wc_summary.proofs.LeadLemmas.{mapped_at}
use Rattle.wc_summary.proofs.OwnerLemmas.{number_by, one_number}

only_one : {A : Type 0} (x y : A) → Contains (x ∷ []) y → x ≡ y
only_one x y (zero, h, e) = e
only_one x y (suc k, h, e) = absurd (omega (arith, h))

-- ---- a path of items from one root, and a path of numbers
module _ (g : GraphValue) where
  abbrev counts : CountsValue
  counts = counts_of g

  numbered : (x : PathItem) → IsThere g x → as_number counts x ≡ Some (number_of counts x)
  numbered x h = ap (λ (b : Bool). cond b (Some (number_of counts x)) None) h

  to_numbers : (r x : PathItem) → IsReachedIn g (r ∷ []) x → IsThere g r × HasPath (numbers_in g) (number_of counts r) (number_of counts x)
  to_numbers r x (y, among, path, leads) =
      let there : IsThere g y = All-contains (λ z. has_item counts z ≡ true) (present g (r ∷ [])) y (filter_passes (has_item counts) (r ∷ [])) among in
      let one : y ≡ r = sym (only_one r y (from_filter (has_item counts) (r ∷ []) y among)) in
      let numbers : List ℕ = map (number_of counts) path in (
        subst (IsThere g) one there,
        (
          numbers,
          subst (λ (z : PathItem). IsPath (numbers_in g) (number_of counts z) numbers (number_of counts x)) one
              (path_numbers (number_of counts) (item_at counts) (IsThere g) (item_back counts) (names_in g) (named_there g) y path x there leads),
        ),
      )

  from_numbers : (r : PathItem) (n m : ℕ) → as_number counts r ≡ Some n → HasPath (numbers_in g) n m
      → (x : PathItem) × (as_number counts x ≡ Some m) × IsReachedIn g (r ∷ []) x
  from_numbers r n m e p =
      let h = number_by counts r n (has_item counts r) refl e in
      let w = path_things (number_of counts) (item_at counts) (IsThere g) (item_back counts) (names_in g) (named_there g) r p.0 m h.0
      (subst (λ (z : ℕ). IsPath (numbers_in g) z p.0 m) (sym h.1) p.1) in
      (w.last, numbered w.last w.holds ∙ ap Some w.ends, (r, in_filter (has_item counts) (r ∷ []) r (0, omega arith, refl) h.0, w.things, w.leads))

module _ (a : CoreValue) (places owners : List (Option ℕ)) (u : ℕ) (interface : List ℕ)
    (owns : (n : ℕ) → IsAt owners n u ↔ ((k : ℕ) × (i : ImportValue) × (slice_get a.value.imports k ≡ Some i) × IsAt places k u
    × (as_number (counts (core_graph a)) (import_item a.value.imports k i) ≡ Some n)))
    (tagged : (k : ℕ) → IsAt places k u ↔ (slice_get a.tags k ≡ Some (Some interface))) where
  abbrev g : GraphValue
  g = core_graph a

  abbrev c : CountsValue
  c = counts (core_graph a)

  -- a source leads to an import of the interface exactly where its item leads to one of this owner
  leads_from : (l : LabelValue) (n y : ℕ) → as_number c l.item ≡ Some n → IsAt owners y u → HasPath (numbers_in g) n y → LabelLeads a interface l
  leads_from l n y e own path =
      let o = (owns y).0 own in
      let t = from_numbers g l.item n y e path in
      (t.0, (o.0, o.1, o.2, (tagged o.0).0 o.3, one_number c t.0 (import_item a.value.imports o.0 o.1) y t.1 o.4), t.2)

  leads_to : (l : LabelValue) → LabelLeads a interface l → (n y : ℕ) × (as_number c l.item ≡ Some n) × IsAt owners y u × HasPath (numbers_in g) n y
  leads_to l (x, (k, i, import, tag, is), reached) =
      let f = to_numbers g l.item x reached in
      let there : IsThere g x = reached_there g (l.item ∷ []) x reached in (
        number_of c l.item,
        number_of c x,
        numbered g l.item f.0,
        (owns (number_of c x)).1 (k, i, import, (tagged k).1 tag, ap (as_number c) (sym is) ∙ numbered g x there),
        f.1,
      )

  -- what is at a position
  label_at : (p n : ℕ) → IsAt (label_numbers a) p n → (l : LabelValue) × (slice_get a.labels p ≡ Some l) × (as_number c l.item ≡ Some n)
  label_at p n e = mapped_at (label_number c) a.labels p (Some n) e

  is_at : (p n : ℕ) (l : LabelValue) → slice_get a.labels p ≡ Some l → as_number c l.item ≡ Some n → IsAt (label_numbers a) p n
  is_at p n l e f = slice_get-map (label_number c) a.labels p ∙ (ap (option_map (label_number c)) e ∙ ap Some f)

  led_is : (p : ℕ) → LeadsTo (numbers_in g) (label_numbers a) owners u p ↔ LabelLeadsAt a interface p
  led_is p = (
    λ l. let e = label_at p l.0 l.2 in (e.0, e.1, leads_from e.0 l.0 l.1 e.2 l.3 l.4),
    λ l. let r = leads_to l.0 l.2 in (r.0, r.1, is_at p r.0 l.0 l.1 r.2, r.3, r.4),
  )

  pub ascending_labels : (ps : List ℕ) → AreAscending (LeadsTo (numbers_in g) (label_numbers a) owners u) ps → AreAscending (LabelLeadsAt a interface) ps
  ascending_labels ps h = (h.0, λ p. (λ m. (led_is p).0 ((h.1 p).0 m), λ l. (h.1 p).1 ((led_is p).1 l)))

  -- a function is reached from these sources alone exactly where it goes with them
  module _ (ps : List ℕ) (led : AreAscending (LeadsTo (numbers_in g) (label_numbers a) owners u) ps) (f : ℕ) (inside : IsThere g (Item Funcs f)) where
    abbrev func : ℕ
    func = number_of c (Item Funcs f)

    reached_from : (l : LabelValue) (n : ℕ) → as_number c l.item ≡ Some n → HasPath (numbers_in g) n func → IsReachedIn g (l.item ∷ []) (Item Funcs f)
    reached_from l n e path =
        let t = from_numbers g l.item n func e path in
        subst (IsReachedIn g (l.item ∷ [])) (one_number c t.0 (Item Funcs f) func t.1 (numbered g (Item Funcs f) inside)) t.2

    pub label_gone : IsAlone (numbers_in g) (label_numbers a) ps func → IsGoneFrom a interface f
    label_gone h =
        let e = label_at h.reached.0 h.reached.1 h.reached.2 in
        record {
          live = (
            e.0,
            (h.reached.0, slice_get_within a.labels h.reached.0 e.0 e.1, get_or_from_slice_get a.labels h.reached.0 e.0 e.0 e.1),
            reached_from e.0 h.reached.1 e.2 h.reached.3,
          );
          alone = λ l m reached.
              let s = to_numbers g l.item (Item Funcs f) reached in
              let at : slice_get a.labels m.0 ≡ Some l = slice_get-get_or a.labels m.0 l m.1 ∙ ap Some m.2 in
              let q = h.alone m.0 (number_of c l.item) (is_at m.0 (number_of c l.item) l at (numbered g l.item s.0)) s.1 in
              let r = (led.1 q.0).0 q.1 in
              let one : r.0 ≡ number_of c l.item = (let both : Some (Some r.0) ≡ Some (Some (number_of c l.item)) = sym r.2 ∙ q.2 in cc both) in
              leads_from l (number_of c l.item) r.1 (numbered g l.item s.0) r.3 (subst (λ (z : ℕ). HasPath (numbers_in g) z r.1) one r.4);
        }

    pub gone_label : IsGoneFrom a interface f → IsAlone (numbers_in g) (label_numbers a) ps func
    gone_label h = record {
      reached =
          let l = h.live.0 in
          let m = h.live.1 in
          let s = to_numbers g l.item (Item Funcs f) h.live.2 in
          let at : slice_get a.labels m.0 ≡ Some l = slice_get-get_or a.labels m.0 l m.1 ∙ ap Some m.2 in
          (m.0, number_of c l.item, is_at m.0 (number_of c l.item) l at (numbered g l.item s.0), s.1);
      alone = λ p y at path.
          let e = label_at p y at in
          let m : Contains a.labels e.0 = (p, slice_get_within a.labels p e.0 e.1, get_or_from_slice_get a.labels p e.0 e.0 e.1) in
          let leads = h.alone e.0 m (reached_from e.0 y e.2 path) in
          (p, (led.1 p).1 ((led_is p).1 (e.0, e.1, leads)), at);
    }
