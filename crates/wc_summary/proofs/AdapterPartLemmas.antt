-- What is noted of an adapter by positions are its parts.
use Rattle.std.proofs.Common.{◌≡◌, ◌≢◌, ℕ, ◌+◌, ◌-◌, ◌^◌, ◌<◌, Bool, true, false, List, [], ◌∷◌, ◌++◌, map, length, min, refl, sym, ◌∙◌, ap, append-nil, subst, inl, inr, arith, Option, Some, None}
use Rattle.std.specs.Prelude.{◌↔◌, AllPairs, Contains, cond, filter, unwrap_or}
use Rattle.std.specs.List.{filter_map, range_with_len, slice_get, sum_by}
use Rattle.std.specs.Option.{option_and_then, option_map}
use Rattle.std.proofs.lemmas.Bool.{lt-ltb}
use Rattle.std.proofs.lemmas.List.{length-map}
use Rattle.std.proofs.lemmas.List.Elements.{Contains-append_cases, filter_map-append}
use Rattle.std.proofs.lemmas.Option.{slice_get-get_or, slice_get_within, unwrap_or-slice_get}
use Rattle.wc_read.specs.Exports.{ExportValue}
use Rattle.wc_read.specs.Imports.{ImportValue}
use Rattle.std.specs.Borrow.{Bor}
use Rattle.wc_read.specs.Items.{FuncValue, func_value}
use Rattle.wc_read.specs.declared.items.Item.{Item}
use Rattle.wc_read.specs.Modules.{ModuleValue, module_value}
use Rattle.wc_read.specs.declared.operators.Space.TheVariants.{Funcs}
use Rattle.wc_read.specs.Items.{item_seen}
use Rattle.wc_read.specs.BodyOperators.{body_in}
use Rattle.wc_read.specs.declared.core_module.Module.{Module}
use Rattle.wc_read.specs.Decoded.{decode, decoded_module, is_in}
use Rattle.wc_segments.specs.Data.{DataValue, data_value}
use Rattle.wc_segments.specs.Elements.{ElementValue, element_value}
use Rattle.wc_segments.specs.Segments.{SegmentsValue, segments_value}
use Rattle.wc_segments.specs.declared.data.DataSegment.{DataSegment}
use Rattle.wc_segments.specs.declared.elements.ElementSegment.{ElementSegment}
use Rattle.wc_segments.specs.declared.segments.Segments.{Segments}
use Rattle.wc_gc.specs.LiveChains.{item_named}
use Rattle.wc_graph.proofs.ListLemmas.{contains_mapped}
use Rattle.wc_gc.proofs.RootLemmas.{in_option}
use Rattle.wc_paths.specs.Items.{CountsValue, GraphValue, counts_of, graph_of, has_item, space_item}
use Rattle.wc_paths.specs.Numbers.{item_count, number_of, numbers_in}
use Rattle.wc_paths.specs.declared.items.PathItem.{PathItem}
use Rattle.wc_paths.proofs.NumbersLemmas.{number_below}
use Rattle.wc_paths.proofs.PathLemmas.{graph_is}
use Rattle.wc_graph.specs.Alone.{AreAlone, AreCounted}
use Rattle.wc_graph.specs.Leads.{AreLeads, Leads as LeadsTo}
use Rattle.wc_graph.specs.Positions.{AreAscending, AreBelow, sets_view}
use Rattle.wc_summary.specs.Notes.{NotesAdapterModule}
use Rattle.wc_summary.specs.Parts.{AdapterValue, IsAdapterPartOf}
use Rattle.wc_summary.specs.Leads.{IsGone, as_number, found_in, named_in, own_bodies, own_body, sized_body, source_by}
use Rattle.wc_summary.specs.Summary.{AdapterPartView, PartsView}
use Rattle.wc_summary.specs.Private.SummaryAdapters.{AreUses, UsesGraph, graph_alone}
use Rattle.wc_summary.specs.Entries.{EntriesView, parts_of, with_adapters}
use Rattle.wc_summary.specs.Private.SummaryMain.{AreOwnersOf}
use Rattle.wc_summary.specs.Private.Tags.{ArePlacesCounted, AreTagsAt}
use Rattle.wc_summary.specs.Private.Uses.{ArePushed, alone_at, led_at, no_items, part_at}
use Rattle.wc_summary.specs.declared.uses.Uses.{Uses}
use Rattle.wc_summary.proofs.AdapterLemmas.{count_is, found_at, placed_there, sum_of_mapped, tagged_is}
use Rattle.wc_summary.proofs.LeadLemmas.{ascending_is, gone_from, gone_to, mapped_at}
use Rattle.wc_summary.proofs.UseLemmas.{one_listed}

-- ---- lists that are mapped and filtered

filtered_by : {A B : Type 0} (p : B → Bool) (g : A → B) (x : A) (xs : List A) → filter p (map g xs) ≡ map g (filter (λ (y : A). p (g y)) xs) → (b : Bool) → p (g x) ≡ b
    → filter p (map g (x ∷ xs)) ≡ map g (filter (λ (y : A). p (g y)) (x ∷ xs))
filtered_by p g x xs rest true e = rw e (ap (λ ys. g x ∷ ys) rest)
filtered_by p g x xs rest false e = rw e rest

pub filter_mapped : {A B : Type 0} (p : B → Bool) (g : A → B) (xs : List A) → filter p (map g xs) ≡ map g (filter (λ (y : A). p (g y)) xs)
filter_mapped p g [] = refl
filter_mapped p g (x ∷ xs) = filtered_by p g x xs (filter_mapped p g xs) (p (g x)) refl

from_filter_map : {A B : Type 0} (h : A → Option B) (xs : List A) (y : B) → Contains (filter_map h xs) y → (x : A) × (h x ≡ Some y)
from_filter_map h [] y c = absurd (let l = c.1 in omega (arith, l))
from_filter_map {B = B} h (x ∷ xs) y c = elim (Contains-append_cases (filter_map h (x ∷ [])) (filter_map h xs) y
    (subst (λ (z : List B). Contains z y) (filter_map-append h (x ∷ []) xs) c)) [
      | inl first ↦ (x, in_option (h x) y (subst (λ (z : List B). Contains z y) (one_listed h x (h x) refl) first))
      | inr rest ↦ from_filter_map h xs y rest
    ]

body_at : (funcs : List FuncValue) (x : ℕ) (b : ℕ × ℕ) (o : Option FuncValue) → slice_get funcs x ≡ o
    → option_map (λ (body : List ℕ). (x, length body)) (option_and_then own_body o) ≡ Some b → (b.0 ≡ x) × (x < length funcs)
body_at funcs x b None e f = absurd (let bad : None ≡ Some b = f in cc bad)
body_at funcs x b (Some v) e f = (by (own_body v) f, slice_get_within funcs x v e)
  where
    by : (d : Option (List ℕ)) → option_map (λ (body : List ℕ). (x, length body)) d ≡ Some b → b.0 ≡ x
    by None g = absurd (let bad : None ≡ Some b = g in cc bad)
    by (Some body) g = let same : (x, length body) ≡ b = (let both : Some (x, length body) ≡ Some b = g in cc both) in ap (λ (z : ℕ × ℕ). z.0) (sym same)

-- a function of the module's own is there
pub body_inside : (m : ModuleValue) (b : ℕ × ℕ) → Contains (own_bodies m.funcs) b → is_in (decode m) (Funcs, b.0) ≡ true
body_inside m b c =
    let r = from_filter_map (sized_body m.funcs) (range_with_len 0 (length m.funcs)) b c in
    let h = body_at m.funcs r.0 b (slice_get m.funcs r.0) refl r.1 in
    let l = length-map m.funcs (item_seen body_in) in
    let e = h.0 in let w = h.1 in
    lt-ltb b.0 (length (map (item_seen body_in) m.funcs)) (omega (arith, l, e, w))

abbrev pub with_list : PartsView → List AdapterPartView → PartsView
with_list v z = record { main = v.main; adapters = z; types = v.types }

pub no_more : (v : PartsView) → v ≡ with_adapters [] v
no_more v =
    let same : ◌≡◌ {A = PartsView} (record { main = v.main; adapters = v.adapters; types = v.types }) (record { main = v.main; adapters = v.adapters ++ []; types = v.types }) =
    ap (with_list v) (sym (append-nil v.adapters)) in same

-- ---- a part
module _ (a : AdapterValue) (interfaces : List (List ℕ)) (distinct : AllPairs (λ x y. x ≢ y) interfaces) (places : List (Option ℕ))
    (at : AreTagsAt interfaces a.tags places) (uses : Uses) (are : AreUses a.value a.required places (length interfaces) uses) where
  abbrev part : ℕ → AdapterPartView
  part k = part_at a.name a.required a.is_wanted uses k

  abbrev add : ℕ × ℕ → ℕ × ℕ
  add b = ((counts_of (graph_alone a.value)).types + b.0, b.1)

  module _ (u : ℕ) (q : List ℕ) (here : slice_get interfaces u ≡ Some q) where
    led_here : slice_get (sets_view uses.led.items) u ≡ Some (led_at uses u)
    led_here =
        let w = slice_get_within interfaces u q here in
        let n = are.led.each in
        slice_get-get_or (sets_view uses.led.items) u [] (omega (arith, w, n)) ∙ ap Some (sym (unwrap_or-slice_get (sets_view uses.led.items) u []))

    alone_here : slice_get uses.alone.items u ≡ Some (alone_at uses u)
    alone_here =
        let w = slice_get_within interfaces u q here in
        let n = are.led.each in
        let k = are.alone.each in
        slice_get-get_or uses.alone.items u no_items (omega (arith, w, n, k)) ∙ ap Some (sym (unwrap_or-slice_get uses.alone.items u no_items))

    led_are : AreAscending (LeadsTo (numbers_in (graph_alone a.value)) are.sources are.owners u) (led_at uses u)
    led_are = are.led.at u (led_at uses u) led_here

    abbrev counted : AreCounted (numbers_in (graph_alone a.value)) are.sources (map add (own_bodies a.value.funcs)) (led_at uses u) (alone_at uses u)
    counted = are.alone.at u (led_at uses u) (alone_at uses u) led_here alone_here

    abbrev is_gone : ℕ × ℕ → Bool
    is_gone b = counted.are_picked.0 (add b)

    gone_is : (b : ℕ × ℕ) → Contains (own_bodies a.value.funcs) b → (is_gone b ≡ true) ↔ IsGone a.value a.tags a.required q b.0
    gone_is b c =
        let inside = body_inside a.value b c in
        let t = counted.are_picked.1 (add b) (contains_mapped add (own_bodies a.value.funcs) b c) in
        let tagged = tagged_is interfaces distinct u q here a.tags places at in
        let owned = (λ (n : ℕ). are.are_owners.at n u) in (
          λ h. gone_from a.value a.tags places are.owners u q owned tagged a.required are.sources are.are_sources (led_at uses u) led_are b.0 inside (t.0 h),
          λ g. t.1 (gone_to a.value a.tags places are.owners u q owned tagged a.required are.sources are.are_sources (led_at uses u) led_are b.0 inside g),
        )

    picked_is : counted.picked ≡ map add (filter is_gone (own_bodies a.value.funcs))
    picked_is = counted.are_picked.2 ∙ filter_mapped counted.are_picked.0 add (own_bodies a.value.funcs)

    pub part_is : IsAdapterPartOf q a (part u)
    part_is = record {
      named = refl;
      trimmed = are.trimmed;
      imports = are.counts.at u (slice_get_within interfaces u q here) ∙ count_is interfaces distinct u q here a.tags places at;
      led = led_at uses u;
      are_led = ascending_is a.value a.tags places are.owners u q (λ n. are.are_owners.at n u) (tagged_is interfaces distinct u q here a.tags places at)
          a.required are.sources are.are_sources (led_at uses u) led_are;
      exports = refl;
      stays = refl;
      roots = refl;
      gone = filter is_gone (own_bodies a.value.funcs);
      are_gone = (is_gone, gone_is, refl);
      functions = counted.items ∙ (ap length picked_is ∙ length-map (filter is_gone (own_bodies a.value.funcs)) add);
      bytes = counted.size ∙ ap (λ (n : ℕ). min n (2 ^ 64 - 1)) (ap (sum_by (λ (b : ℕ × ℕ). b.1)) picked_is ∙ sum_of_mapped (λ (b : ℕ × ℕ). b.1) add (filter is_gone (own_bodies a.value.funcs)));
    }

  pub adapter_noted : (old new : EntriesView) → interfaces ≡ found_in a.tags → ArePushed part interfaces old new → NotesAdapterModule a old new
  adapter_noted old new is p = record {
    found = interfaces;
    are_found = is;
    listed = p.listed;
    each = λ q. elim (p.each q) [
      | inl none ↦ (
        [],
        inl (
          (λ c. let r = placed_there (named_in a.tags) q c in none.0 r.0 (ap (λ (z : List (List ℕ)). slice_get z r.0) is ∙ r.1)),
          refl,
        ),
        none.1 ∙ no_more (parts_of old q),
      )
      | inr some ↦ (
        part some.0 ∷ [],
        inr (
          found_at (named_in a.tags) q some.0 (ap (λ (z : List (List ℕ)). slice_get z some.0) (sym is) ∙ some.1),
          part some.0,
          part_is some.0 q some.1,
          refl,
        ),
        some.2,
      )
    ];
  }

-- ---- what is used of a module's graph

pub record HasItems (g : GraphValue) (m : ModuleValue) (names : List (List ℕ)) (places sources owners : List (Option ℕ)) (bodies : List (ℕ × ℕ)) : Type 0 where
  pub sources_are : sources ≡ map (source_by (counts_of g) m.exports) names
  pub owners_are : AreOwnersOf (counts_of g) m.imports places owners
  pub bodies_are : bodies ≡ map (λ (b : ℕ × ℕ). ((counts_of g).types + b.0, b.1)) (own_bodies m.funcs)

uses_alone : (m : ModuleValue) (names : List (List ℕ)) (places sources owners : List (Option ℕ)) (bodies : List (ℕ × ℕ)) (count : ℕ) (counts : List ℕ) (u : Uses)
    → HasItems (graph_alone m) m names places sources owners bodies → ArePlacesCounted places count counts → UsesGraph (graph_alone m) (sources, owners) bodies counts u
    → AreUses m names places count u
uses_alone m names places sources owners bodies count counts u h c g = record {
  trimmed = g.trimmed;
  counts = subst (ArePlacesCounted places count) (sym g.counts_are) c;
  sources = sources;
  are_sources = h.sources_are;
  owners = owners;
  are_owners = h.owners_are;
  led = subst (λ (n : ℕ). AreLeads (numbers_in (graph_alone m)) sources owners n (sets_view u.led.items)) c.each g.led;
  alone = subst (λ (bs : List (ℕ × ℕ)). AreAlone (numbers_in (graph_alone m)) sources bs (sets_view u.led.items) u.alone.items) h.bodies_are g.alone;
}

pub uses_are : (m : ModuleValue) (g : GraphValue) → g ≡ graph_alone m → (names : List (List ℕ)) (places sources owners : List (Option ℕ)) (bodies : List (ℕ × ℕ)) (count : ℕ)
    (counts : List ℕ) (u : Uses) → HasItems g m names places sources owners bodies → ArePlacesCounted places count counts → UsesGraph g (sources, owners) bodies counts u
    → AreUses m names places count u
uses_are m g e names places sources owners bodies count counts u h c used =
    uses_alone m names places sources owners bodies count counts u (subst (λ (z : GraphValue). HasItems z m names places sources owners bodies) e h) c
    (subst (λ (z : GraphValue). UsesGraph z (sources, owners) bodies counts u) e used)

abbrev segments_with : List ElementValue → List DataValue → SegmentsValue
segments_with es ds = record { elements = es; data_segments = ds }

segments_none : (s : Segments) → s.elements.items ≡ [] → s.data.items ≡ [] → ◌≡◌ {A = SegmentsValue} (segments_value s) (record { elements = []; data_segments = [] })
segments_none s e d =
    ap (λ (z : List ElementSegment). segments_with (map element_value z) (map data_value s.data.items)) e
    ∙ ap (λ (z : List DataSegment). segments_with [] (map data_value z)) d

-- a module without segments
pub alone_is : (m : Module) (s : Segments) → s.elements.items ≡ [] → s.data.items ≡ []
    → ◌≡◌ {A = GraphValue} (record { code = decoded_module m; segments = segments_value s }) (graph_alone (module_value m))
alone_is m s e d = graph_is m s ∙ ap (graph_of (module_value m)) (segments_none s e d)

pub funcs_are : (m : Module) (g : GraphValue) (fs : List (Item ℕ (Bor (List ℕ)))) → fs ≡ m.funcs.items → g ≡ graph_alone (module_value m) → length fs ≡ (counts_of g).funcs
funcs_are m g fs e is =
    ap length e ∙ (sym (length-map m.funcs.items func_value) ∙ (sym (length-map (map func_value m.funcs.items) (item_seen body_in))
    ∙ ap (λ (z : GraphValue). (counts_of z).funcs) (sym is)))

number_in_by : (c : CountsValue) (x : PathItem) (n : ℕ) (b : Bool) → has_item c x ≡ b → cond b (Some (number_of c x)) None ≡ Some n → n < item_count c
number_in_by c x n true h e = subst (λ (k : ℕ). k < item_count c) (let same : Some (number_of c x) ≡ Some n = e in cc same) (number_below c x h)
number_in_by c x n false h e = absurd (let bad : None ≡ Some n = e in cc bad)

number_of_some : (c : CountsValue) (o : Option PathItem) (n : ℕ) → option_and_then (as_number c) o ≡ Some n → n < item_count c
number_of_some c None n e = absurd (let bad : None ≡ Some n = e in cc bad)
number_of_some c (Some x) n e = number_in_by c x n (has_item c x) refl e

pub sources_below : (c : CountsValue) (exports : List ExportValue) (names : List (List ℕ)) (sources : List (Option ℕ)) (size : ℕ) → size ≡ item_count c
    → sources ≡ map (source_by c exports) names → AreBelow size sources
sources_below c exports names sources size s e p x h =
    let r = mapped_at (source_by c exports) names p (Some x) (ap (λ (z : List (Option ℕ)). slice_get z p) (sym e) ∙ h) in
    let below = number_of_some c (option_map space_item (item_named exports r.0)) x r.2 in omega (arith, s, below)

pub owners_within : (c : CountsValue) (imports : List ImportValue) (places owners : List (Option ℕ)) (count size : ℕ) → size ≡ count → AreBelow count places
    → AreOwnersOf c imports places owners → AreBelow size owners
owners_within c imports places owners count size s below o p x h =
    let r = (o.at p x).0 h in let b = below r.0 x r.3 in omega (arith, s, b)
