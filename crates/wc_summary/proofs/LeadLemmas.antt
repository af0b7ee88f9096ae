-- Which exports lead to which imports, by the numbers of items.
use Rattle.std.proofs.Common.{◌≡◌, ℕ, ◌≤◌, Bool, true, false, List, [], ◌∷◌, map, refl, sym, ◌∙◌, ap, subst, inl, inr, arith, Option, Some, None}
use Rattle.std.specs.Prelude.{◌↔◌, Contains, cond}
use Rattle.std.specs.List.{slice_get}
use Rattle.std.specs.Option.{option_and_then, option_map}
use Rattle.std.proofs.lemmas.Bool.{cases_lt, lt-ltb}
use Rattle.std.proofs.lemmas.Option.{get_or_from_slice_get, slice_get-get_or, slice_get-map, slice_get_past, slice_get_within}
use Rattle.wc_read.specs.Imports.{ImportValue}
use Rattle.wc_read.specs.Modules.{ModuleValue}
use Rattle.wc_read.specs.declared.operators.Space.{Space}
use Rattle.wc_read.specs.declared.operators.Space.TheVariants.{Types, Funcs, Tables, Memories, Globals}
use Rattle.wc_read.specs.Decoded.{DecodedModule, ItemIndex, decode, is_in, size_of}
use Rattle.wc_read.specs.Entries.{entry_at, entry_refs, no_entry, present, refs_in}
use Rattle.wc_gc.specs.LiveChains.{item_named}
use Rattle.wc_graph.specs.Reached.{IsPath}
use Rattle.wc_paths.specs.Items.{CountsValue, counts_of, has_item, space_item}
use Rattle.wc_paths.specs.Numbers.{item_at, numbers_in}
use Rattle.wc_paths.specs.declared.items.PathItem.{PathItem}
use Rattle.wc_paths.specs.declared.items.PathItem.TheVariants.{Item, Elements, Data}
use Rattle.wc_paths.proofs.NumbersLemmas.{item_back}
use Rattle.wc_graph.specs.Alone.{IsAlone}
use Rattle.wc_graph.specs.Leads.{HasPath, Leads as LeadsTo}
use Rattle.wc_graph.specs.Positions.{AreAscending, IsAt}
use Rattle.wc_summary.specs.Leads.{IsGone, Leads, LeadsAt, Reaches, Tags, as_number, import_index}
use Rattle.wc_summary.specs.Private.Leads.{source_in}
use Rattle.wc_summary.proofs.NoSegmentLemmas.{graph_without, there_in}
use Rattle.wc_summary.proofs.NumberedLemmas.{number, path_from_numbers, path_to_numbers}

-- the index of an item of a space
abbrev index_of : PathItem → ItemIndex
index_of (Item space n) = (space, n)
index_of (Elements n) = (Funcs, n)
index_of (Data n) = (Funcs, n)

-- an item that is not there refers to nothing
past_end : (d : DecodedModule) (space : Space) (n : ℕ) → size_of d space ≤ n → entry_at d (space, n) ≡ no_entry
past_end d Types n h = rw (slice_get_past d.types n h) refl
past_end d Funcs n h = rw (slice_get_past d.funcs n h) refl
past_end d Tables n h = rw (slice_get_past d.tables n h) refl
past_end d Memories n h = rw (slice_get_past d.memories n h) refl
past_end d Globals n h = rw (slice_get_past d.globals n h) refl

within_by : (d : DecodedModule) (x z : ItemIndex) → Contains (refs_in d x) z → is_in d x ≡ true
within_by d x z c = elim (cases_lt x.1 (size_of d x.0)) [
  | inl less ↦ lt-ltb x.1 (size_of d x.0) less
  | inr past ↦
      let none : refs_in d x ≡ [] = ap (λ e. present d (entry_refs e)) (past_end d x.0 x.1 past) in
      absurd (let n = subst (λ (xs : List ItemIndex). Contains xs z) none c in let h = n.1 in omega (arith, h))
]

space_one : (x y : ItemIndex) → space_item x ≡ space_item y → x ≡ y
space_one x y e = ap index_of e

module _ (m : ModuleValue) where
  -- what begins a path to an item that is there, is there
  begins_there : (x : ItemIndex) (path : List ItemIndex) (y : ItemIndex) → IsPath (refs_in (decode m)) x path y → is_in (decode m) y ≡ true → is_in (decode m) x ≡ true
  begins_there x [] y p h = ap (is_in (decode m)) p ∙ h
  begins_there x (z ∷ zs) y p h = within_by (decode m) x z p.0

  abbrev pub counts : CountsValue
  counts = counts_of (graph_without m)

  -- the number of an item that is there; and an item by its number
  numbered : (x : ItemIndex) → is_in (decode m) x ≡ true → as_number counts (space_item x) ≡ Some (number m x)
  numbered x h = ap (λ (b : Bool). cond b (Some (number m x)) None) (there_in m x.0 x.1 ∙ h)

  number_by : (x : ItemIndex) (n : ℕ) (b : Bool) → has_item counts (space_item x) ≡ b → cond b (Some (number m x)) None ≡ Some n
      → (is_in (decode m) x ≡ true) × (number m x ≡ n)
  number_by x n true h e = (sym (there_in m x.0 x.1) ∙ h, let same : Some (number m x) ≡ Some n = e in cc same)
  number_by x n false h e = absurd (let bad : None ≡ Some n = e in cc bad)

  pub number_is : (x : ItemIndex) (n : ℕ) → as_number counts (space_item x) ≡ Some n → (is_in (decode m) x ≡ true) × (number m x ≡ n)
  number_is x n e = number_by x n (has_item counts (space_item x)) refl e

  one_item : (x y : ItemIndex) → is_in (decode m) x ≡ true → is_in (decode m) y ≡ true → number m x ≡ number m y → x ≡ y
  one_item x y h k e =
      let same : space_item x ≡ space_item y = sym (item_back counts (space_item x) (there_in m x.0 x.1 ∙ h))
      ∙ (ap (item_at counts) e ∙ item_back counts (space_item y) (there_in m y.0 y.1 ∙ k)) in
      space_one x y same

  -- a name reaches an item exactly where a path of numbers leads from its item
  module _ (export : List ℕ) where
    abbrev pub source : Option ℕ
    source = source_in (graph_without m) export

    pub reaches_by : (y : ItemIndex) → is_in (decode m) y ≡ true → Reaches m export y → (n : ℕ) × (source ≡ Some n) × HasPath (numbers_in (graph_without m)) n (number m y)
    reaches_by y h r =
        let first = r.0 in
        let there = begins_there first r.2 y r.3 h in (
          number m first,
          ap (λ (o : Option ItemIndex). option_and_then (as_number counts) (option_map space_item o)) r.1 ∙ numbered first there,
          path_to_numbers m first y r.2 there r.3,
        )

    source_by : (o : Option ItemIndex) (n : ℕ) → option_and_then (as_number counts) (option_map space_item o) ≡ Some n
        → (first : ItemIndex) × (o ≡ Some first) × (is_in (decode m) first ≡ true) × (number m first ≡ n)
    source_by None n e = absurd (let bad : None ≡ Some n = e in cc bad)
    source_by (Some first) n e = let h = number_is first n e in (first, refl, h.0, h.1)

    pub reached_by : (n k : ℕ) → source ≡ Some n → HasPath (numbers_in (graph_without m)) n k → (y : ItemIndex) × (is_in (decode m) y ≡ true) × (number m y ≡ k) × Reaches m export y
    reached_by n k e p =
        let f = source_by (item_named m.exports export) n e in
        let r = path_from_numbers m f.0 k f.2 (subst (λ (z : ℕ). HasPath (numbers_in (graph_without m)) z k) (sym f.3) p) in
        (r.item, r.there, r.is, (f.0, f.1, r.path, r.leads))

-- what is at a position of a list that is mapped
pub mapped_at : {A B : Type 0} (f : A → B) (xs : List A) (k : ℕ) (y : B) → slice_get (map f xs) k ≡ Some y → (x : A) × (slice_get xs k ≡ Some x) × (f x ≡ y)
mapped_at {A = A} f xs k y e = by (slice_get xs k) refl
  where
    by : (o : Option A) → slice_get xs k ≡ o → (x : A) × (slice_get xs k ≡ Some x) × (f x ≡ y)
    by None h = absurd (let bad : None ≡ Some y = sym (slice_get-map f xs k ∙ ap (option_map f) h) ∙ e in cc bad)
    by (Some x) h = (x, h, let same : Some (f x) ≡ Some y = sym (slice_get-map f xs k ∙ ap (option_map f) h) ∙ e in cc same)

module _ (m : ModuleValue) (tags : Tags) (places owners : List (Option ℕ)) (u : ℕ) (interface : List ℕ)
    (owns : (n : ℕ) → IsAt owners n u ↔ ((k : ℕ) × (i : ImportValue) × (slice_get m.imports k ≡ Some i) × IsAt places k u
    × (as_number (counts m) (space_item (import_index m.imports k i)) ≡ Some n)))
    (tagged : (k : ℕ) → IsAt places k u ↔ (slice_get tags k ≡ Some (Some interface))) where
  -- an export leads to an import of the interface exactly where its item leads to one of this owner
  pub leads_from : (export : List ℕ) (n y : ℕ) → source m export ≡ Some n → IsAt owners y u → HasPath (numbers_in (graph_without m)) n y → Leads m tags interface export
  leads_from export n y e own path =
      let o = (owns y).0 own in
      let r = reached_by m export n y e path in
      let h = number_is m (import_index m.imports o.0 o.1) y o.4 in
      let same : r.0 ≡ import_index m.imports o.0 o.1 = one_item m r.0 (import_index m.imports o.0 o.1) r.1 h.0 (r.2 ∙ sym h.1) in
      (r.0, (o.0, o.1, o.2, (tagged o.0).0 o.3, same, r.1), r.3)

  pub leads_to : (export : List ℕ) → Leads m tags interface export
      → (n y : ℕ) × (source m export ≡ Some n) × IsAt owners y u × HasPath (numbers_in (graph_without m)) n y
  leads_to export l =
      let x = l.0 in
      let i = l.1 in
      let r = reaches_by m export x i.5 l.2 in (
        r.0,
        number m x,
        r.1,
        (owns (number m x)).1 (i.0, i.1, i.2, (tagged i.0).1 i.3, ap (λ (z : ItemIndex). as_number (counts m) (space_item z)) (sym i.4) ∙ numbered m x i.5),
        r.2,
      )

  module _ (exports : List (List ℕ)) (sources : List (Option ℕ)) (are : sources ≡ map (source m) exports) where
    -- what is exported at a position
    export_at : (p n : ℕ) → IsAt sources p n → (export : List ℕ) × (slice_get exports p ≡ Some export) × (source m export ≡ Some n)
    export_at p n e = mapped_at (source m) exports p (Some n) (ap (λ (z : List (Option ℕ)). slice_get z p) (sym are) ∙ e)

    is_at : (p n : ℕ) (export : List ℕ) → slice_get exports p ≡ Some export → source m export ≡ Some n → IsAt sources p n
    is_at p n export e f = ap (λ (z : List (Option ℕ)). slice_get z p) are ∙ (slice_get-map (source m) exports p ∙ (ap (option_map (source m)) e ∙ ap Some f))

    pub led_at : (p : ℕ) → LeadsTo (numbers_in (graph_without m)) sources owners u p ↔ LeadsAt m tags exports interface p
    led_at p = (
      λ l. let e = export_at p l.0 l.2 in (e.0, e.1, leads_from e.0 l.0 l.1 e.2 l.3 l.4),
      λ l. let r = leads_to l.0 l.2 in (r.0, r.1, is_at p r.0 l.0 l.1 r.2, r.3, r.4),
    )

    pub ascending_is : (ps : List ℕ) → AreAscending (LeadsTo (numbers_in (graph_without m)) sources owners u) ps → AreAscending (LeadsAt m tags exports interface) ps
    ascending_is ps a = (a.0, λ p. (λ c. (led_at p).0 ((a.1 p).0 c), λ l. (a.1 p).1 ((led_at p).1 l)))

    -- a function is reached from these sources alone exactly where it is live for these exports alone
    module _ (ps : List ℕ) (led : AreAscending (LeadsTo (numbers_in (graph_without m)) sources owners u) ps) (f : ℕ) (inside : is_in (decode m) (Funcs, f) ≡ true) where
      pub gone_from : IsAlone (numbers_in (graph_without m)) sources ps (number m (Funcs, f)) → IsGone m tags exports interface f
      gone_from a =
          let e = export_at a.reached.0 a.reached.1 a.reached.2 in
          let r = reached_by m e.0 a.reached.1 (number m (Funcs, f)) e.2 a.reached.3 in
          let same : r.0 ≡ (Funcs, f) = one_item m r.0 (Funcs, f) r.1 inside r.2 in
          record {
            there = inside;
            live = (
              e.0,
              (a.reached.0, slice_get_within exports a.reached.0 e.0 e.1, get_or_from_slice_get exports a.reached.0 e.0 e.0 e.1),
              subst (Reaches m e.0) same r.3,
            );
            alone = λ export c h.
                let s = reaches_by m export (Funcs, f) inside h in
                let at : slice_get exports c.0 ≡ Some export = slice_get-get_or exports c.0 export c.1 ∙ ap Some c.2 in
                let q = a.alone c.0 s.0 (is_at c.0 s.0 export at s.1) s.2 in
                let l = (led.1 q.0).0 q.1 in
                let one : l.0 ≡ s.0 = (let both : Some (Some l.0) ≡ Some (Some s.0) = sym l.2 ∙ q.2 in cc both) in
                leads_from export s.0 l.1 s.1 l.3 (subst (λ (z : ℕ). HasPath (numbers_in (graph_without m)) z l.1) one l.4);
          }

      pub gone_to : IsGone m tags exports interface f → IsAlone (numbers_in (graph_without m)) sources ps (number m (Funcs, f))
      gone_to g = record {
        reached =
            let s = reaches_by m g.live.0 (Funcs, f) inside g.live.2 in
            let c = g.live.1 in
            let at : slice_get exports c.0 ≡ Some g.live.0 = slice_get-get_or exports c.0 g.live.0 c.1 ∙ ap Some c.2 in
            (c.0, s.0, is_at c.0 s.0 g.live.0 at s.1, s.2);
        alone = λ p y at path.
            let e = export_at p y at in
            let r = reached_by m e.0 y (number m (Funcs, f)) e.2 path in
            let same : r.0 ≡ (Funcs, f) = one_item m r.0 (Funcs, f) r.1 inside r.2 in
            let l = g.alone e.0 (p, slice_get_within exports p e.0 e.1, get_or_from_slice_get exports p e.0 e.0 e.1) (subst (Reaches m e.0) same r.3) in
            (p, (led.1 p).1 ((led_at p).1 (e.0, e.1, l)), at);
      }
