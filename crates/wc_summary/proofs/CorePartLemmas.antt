-- What is noted of a core module by positions are its parts.
use Rattle.std.proofs.Common.{◌≡◌, ◌≢◌, ℕ, ◌+◌, ◌-◌, ◌^◌, ◌<◌, Bool, true, false, cond, List, [], ◌∷◌, ◌++◌, map, take, get_or, append-nil, length, min, refl, sym, ◌∙◌, ap, subst, inl, inr, arith, Option, Some, None}
use Rattle.std.specs.Prelude.{◌↔◌, AllPairs, Contains, filter, nat_lt, String, string_bytes}
use Rattle.std.specs.List.{dedup, dedup_from, filter_map, slice_get, sum_by}
use Rattle.std.specs.List.Retain.{DiffersFromLast, IsFiltered}
use Rattle.std.specs.Option.{option_map, option_map_or, option_to_list}
use Rattle.std.specs.Str.{bytes_eq}
use Rattle.std.specs.declared.alloc.Global.{Global}
use Rattle.std.proofs.lemmas.Bool.{ltb-false}
use Rattle.std.proofs.lemmas.List.{length-map, map-append, take_more}
use Rattle.std.proofs.lemmas.List.Concat.{flat_map-append}
use Rattle.std.proofs.lemmas.List.Elements.{filter-append, filter_map-append}
use Rattle.std.proofs.lemmas.List.Filters.{dedup_is}
use Rattle.std.proofs.lemmas.Option.{slice_get-get_or, slice_get-map, slice_get_past, slice_get_within, unwrap_or-slice_get}
use Rattle.std.specs.Borrow.{Bor}
use Rattle.wc_read.specs.BodyOperators.{body_in}
use Rattle.wc_read.specs.Items.{func_value, item_seen}
use Rattle.wc_read.specs.Modules.{module_value}
use Rattle.wc_read.specs.declared.core_module.Module.{Module}
use Rattle.wc_read.specs.declared.items.Item.{Item}
use Rattle.wc_segments.specs.Segments.{SegmentsValue}
use Rattle.wc_graph.specs.Alone.{AreAlone, AreCounted}
use Rattle.wc_graph.specs.Leads.{AreLeads, Leads as LeadsTo}
use Rattle.wc_graph.specs.Positions.{AreAscending, AreBelow, sets_view}
use Rattle.wc_graph.proofs.ListLemmas.{contains_mapped}
use Rattle.wc_paths.specs.Items.{CountsValue, GraphValue, counts_of, graph_of, has_item}
use Rattle.wc_paths.specs.Numbers.{item_count, numbers_in}
use Rattle.wc_paths.proofs.NumbersLemmas.{number_below}
use Rattle.wc_summary.specs.CoreModules.{CoreValue, IsCorePartOf, IsGoneFrom, LabelValue, NotesCoreModule, core_graph, is_kind, label_value, labels_at}
use Rattle.wc_summary.specs.Entries.{EntriesView, parts_of}
use Rattle.wc_summary.specs.Leads.{found_in, named_in, own_bodies}
use Rattle.wc_summary.specs.Private.CoreModules.{AreCoreUses, core_part_at, label_number, label_numbers, text_at, text_of, texts_at}
use Rattle.wc_summary.specs.Private.SummaryAdapters.{UsesGraph}
use Rattle.wc_summary.specs.Private.SummaryMain.{AreOwnersOf}
use Rattle.wc_summary.specs.Private.Tags.{ArePlacesCounted, AreTagsAt}
use Rattle.wc_summary.specs.Private.Uses.{ArePushed, alone_at, led_at, no_items}
use Rattle.wc_summary.specs.declared.core_modules.Label.{Label}
use Rattle.wc_summary.specs.declared.core_modules.LabelKind.{LabelKind}
use Rattle.wc_summary.specs.declared.uses.Uses.{Uses}
use Rattle.wc_summary.proofs.AdapterLemmas.{count_is, found_at, placed_there, sum_of_mapped, tagged_is}
use Rattle.wc_summary.proofs.AdapterPartLemmas.{body_inside, filter_mapped, no_more}
use Rattle.wc_summary.proofs.CoreModuleLemmas.{ascending_labels, gone_label, label_gone}
use Rattle.wc_summary.proofs.LeadLemmas.{mapped_at}
use Rattle.wc_summary.proofs.NotedLemmas.{found_distinct}
use Rattle.wc_summary.proofs.OwnerLemmas.{number_by}
use Rattle.wc_summary.proofs.UseLemmas.{one_listed}

-- ---- texts of labels

one_text : (b : Bool) (l : LabelValue) → map (λ (x : LabelValue). x.text) (cond b (l ∷ []) []) ≡ cond b (l.text ∷ []) []
one_text true l = refl
one_text false l = refl

module _ (kind : LabelKind) (labels : List Label) where
  abbrev is_of : LabelValue → Bool
  is_of l = is_kind kind l.kind

  abbrev view : LabelValue → List ℕ
  view l = l.text

  abbrev all : List LabelValue
  all = map label_value labels

  text_is : (o : Option Label) → option_map_or (text_of kind) o [] ≡ map view (filter is_of (option_to_list (option_map label_value o)))
  text_is None = refl
  text_is (Some l) = sym (one_text (is_kind kind l.kind) (label_value l))

  first_is : (p : ℕ) → text_at kind labels p ≡ map view (labels_at kind all (p ∷ []))
  first_is p =
      text_is (slice_get labels p)
      ∙ ap (λ (z : List LabelValue). map view (filter is_of z))
      (sym (one_listed (slice_get all) p (slice_get all p) refl ∙ ap (λ (o : Option LabelValue). option_to_list o) (slice_get-map label_value labels p)))

  pub texts_are : (positions : List ℕ) → texts_at kind labels positions ≡ map view (labels_at kind all positions)
  texts_are [] = refl
  texts_are (p ∷ ps) =
      ap (λ (z : List (List ℕ)). text_at kind labels p ++ z) (texts_are ps)
      ∙ (ap (λ (z : List (List ℕ)). z ++ map view (labels_at kind all ps)) (first_is p)
      ∙ (sym (map-append view (labels_at kind all (p ∷ [])) (labels_at kind all ps))
      ∙ ap (map view) (sym (filter-append is_of (filter_map (slice_get all) (p ∷ [])) (filter_map (slice_get all) ps))
      ∙ ap (filter is_of) (sym (filter_map-append (slice_get all) (p ∷ []) ps)))))

  -- one position more
  pub texts_next : (positions : List ℕ) (i : ℕ) (old new : List (List ℕ)) → i < length positions → old ≡ texts_at kind labels (take i positions)
      → new ≡ old ++ text_at kind labels (get_or positions i 0) → new ≡ texts_at kind labels (take (i + 1) positions)
  texts_next positions i old new h e put =
      put ∙ (ap (λ (z : List (List ℕ)). z ++ text_at kind labels (get_or positions i 0)) e
      ∙ sym (ap (texts_at kind labels) (take_more positions i 0 h) ∙ (flat_map-append (text_at kind labels) (take i positions) (get_or positions i 0 ∷ [])
      ∙ ap (λ (z : List (List ℕ)). texts_at kind labels (take i positions) ++ z) (append-nil (text_at kind labels (get_or positions i 0))))))

  -- at a position past the end there is none
  pub none_noted : (p : ℕ) (old : List (List ℕ)) → false ≡ nat_lt p (length labels) → old ≡ old ++ text_at kind labels p
  none_noted p old past =
      sym (append-nil old) ∙ ap (λ (o : Option Label). old ++ option_map_or (text_of kind) o []) (sym (slice_get_past labels p (ltb-false p (length labels) (sym past))))

-- of texts in a row the first, as strings and as lists
abbrev same_text : String Global → String Global → Bool
same_text x = λ y. bytes_eq (string_bytes x) (string_bytes y)

same_step : (k x : String Global) (xs : List (String Global)) → map string_bytes (dedup_from same_text k xs) ≡ dedup_from bytes_eq (string_bytes k) (map string_bytes xs)
    → map string_bytes (dedup_from same_text x xs) ≡ dedup_from bytes_eq (string_bytes x) (map string_bytes xs) → (b : Bool) → same_text x k ≡ b
    → map string_bytes (dedup_from same_text k (x ∷ xs)) ≡ dedup_from bytes_eq (string_bytes k) (string_bytes x ∷ map string_bytes xs)
same_step k x xs this next true e = rw e this
same_step k x xs this next false e = rw e (ap (λ z. string_bytes k ∷ z) next)

from_same : (k : String Global) (xs : List (String Global)) → map string_bytes (dedup_from same_text k xs) ≡ dedup_from bytes_eq (string_bytes k) (map string_bytes xs)
from_same k [] = refl
from_same k (x ∷ xs) = same_step k x xs (from_same k xs) (from_same x xs) (same_text x k) refl

first_of_same : (xs : List (String Global)) → map string_bytes (dedup same_text xs) ≡ dedup bytes_eq (map string_bytes xs)
first_of_same [] = refl
first_of_same (x ∷ xs) = from_same x xs

pub listed_once : (xs ys : List (String Global)) → IsFiltered (DiffersFromLast same_text) [] xs ys → map string_bytes ys ≡ dedup bytes_eq (map string_bytes xs)
listed_once xs ys h = ap (map string_bytes) (dedup_is same_text xs ys h) ∙ first_of_same xs

-- ---- a part
module _ (a : CoreValue) (interfaces : List (List ℕ)) (distinct : AllPairs (λ x y. x ≢ y) interfaces) (places : List (Option ℕ))
    (at : AreTagsAt interfaces a.tags places) (uses : Uses) (are : AreCoreUses a places (length interfaces) uses) where
  abbrev add : ℕ × ℕ → ℕ × ℕ
  add b = ((counts_of (core_graph a)).types + b.0, b.1)

  module _ (u : ℕ) (q : List ℕ) (here : slice_get interfaces u ≡ Some q) where
    led_here : slice_get (sets_view uses.led.items) u ≡ Some (led_at uses u)
    led_here =
        let w = slice_get_within interfaces u q here in
        let n = are.led.each in
        slice_get-get_or (sets_view uses.led.items) u [] (omega (arith, w, n)) ∙ ap Some (sym (unwrap_or-slice_get (sets_view uses.led.items) u []))

    alone_here : slice_get uses.alone.items u ≡ Some (alone_at uses u)
    alone_here =
        let w = slice_get_within interfaces u q here in
        let n = are.led.each in
        let k = are.alone.each in
        slice_get-get_or uses.alone.items u no_items (omega (arith, w, n, k)) ∙ ap Some (sym (unwrap_or-slice_get uses.alone.items u no_items))

    led_are : AreAscending (LeadsTo (numbers_in (core_graph a)) (label_numbers a) are.owners u) (led_at uses u)
    led_are = are.led.at u (led_at uses u) led_here

    abbrev counted : AreCounted (numbers_in (core_graph a)) (label_numbers a) (map add (own_bodies a.value.funcs)) (led_at uses u) (alone_at uses u)
    counted = are.alone.at u (led_at uses u) (alone_at uses u) led_here alone_here

    abbrev is_gone : ℕ × ℕ → Bool
    is_gone b = counted.are_picked.0 (add b)

    gone_is : (b : ℕ × ℕ) → Contains (own_bodies a.value.funcs) b → (is_gone b ≡ true) ↔ IsGoneFrom a q b.0
    gone_is b m =
        let inside = body_inside a.value b m in
        let t = counted.are_picked.1 (add b) (contains_mapped add (own_bodies a.value.funcs) b m) in
        let tagged = tagged_is interfaces distinct u q here a.tags places at in
        let owned = (λ (n : ℕ). are.are_owners.at n u) in (
          λ h. label_gone a places are.owners u q owned tagged (led_at uses u) led_are b.0 inside (t.0 h),
          λ h. t.1 (gone_label a places are.owners u q owned tagged (led_at uses u) led_are b.0 inside h),
        )

    picked_is : counted.picked ≡ map add (filter is_gone (own_bodies a.value.funcs))
    picked_is = counted.are_picked.2 ∙ filter_mapped counted.are_picked.0 add (own_bodies a.value.funcs)

    part_is : IsCorePartOf q a (core_part_at a uses u)
    part_is = record {
      named = refl;
      followed = are.followed;
      imports = are.counts.at u (slice_get_within interfaces u q here) ∙ count_is interfaces distinct u q here a.tags places at;
      led = led_at uses u;
      are_led = ascending_labels a places are.owners u q (λ n. are.are_owners.at n u) (tagged_is interfaces distinct u q here a.tags places at) (led_at uses u) led_are;
      exports = refl;
      stays = refl;
      roots = refl;
      gone = filter is_gone (own_bodies a.value.funcs);
      are_gone = (is_gone, gone_is, refl);
      functions = counted.items ∙ (ap length picked_is ∙ length-map (filter is_gone (own_bodies a.value.funcs)) add);
      bytes = counted.size ∙ ap (λ (n : ℕ). min n (2 ^ 64 - 1)) (ap (sum_by (λ (b : ℕ × ℕ). b.1)) picked_is ∙ sum_of_mapped (λ (b : ℕ × ℕ). b.1) add (filter is_gone (own_bodies a.value.funcs)));
    }

  core_noted : (old new : EntriesView) → interfaces ≡ found_in a.tags → ArePushed (core_part_at a uses) interfaces old new → NotesCoreModule a old new
  core_noted old new is p = record {
    found = interfaces;
    are_found = is;
    listed = p.listed;
    each = λ q. elim (p.each q) [
      | inl none ↦ (
        [],
        inl (
          (λ m. let r = placed_there (named_in a.tags) q m in none.0 r.0 (ap (λ (z : List (List ℕ)). slice_get z r.0) is ∙ r.1)),
          refl,
        ),
        none.1 ∙ no_more (parts_of old q),
      )
      | inr some ↦ (
        core_part_at a uses some.0 ∷ [],
        inr (
          found_at (named_in a.tags) q some.0 (ap (λ (z : List (List ℕ)). slice_get z some.0) (sym is) ∙ some.1),
          core_part_at a uses some.0,
          part_is some.0 q some.1,
          refl,
        ),
        some.2,
      )
    ];
  }

-- what was noted by a map of the module's own interfaces
pub core_pushed : (a : CoreValue) (interfaces slice : List (List ℕ)) (places : List (Option ℕ)) (uses : Uses) (count : ℕ) (old new : EntriesView)
    → slice ≡ interfaces → interfaces ≡ found_in a.tags → AreTagsAt interfaces a.tags places → count ≡ length interfaces → AreCoreUses a places count uses
    → ArePushed (core_part_at a uses) slice old new → NotesCoreModule a old new
core_pushed a interfaces slice places uses count old new s f t k u p =
    core_noted a interfaces (found_distinct a.tags interfaces f) places t uses (subst (λ (z : ℕ). AreCoreUses a places z uses) k u) old new f
    (subst (λ (z : List (List ℕ)). ArePushed (core_part_at a uses) z old new) s p)

-- ---- what is used of a module's graph

pub record HasCoreItems (g : GraphValue) (a : CoreValue) (places sources owners : List (Option ℕ)) (bodies : List (ℕ × ℕ)) : Type 0 where
  pub sources_are : sources ≡ map (label_number (counts_of g)) a.labels
  pub owners_are : AreOwnersOf (counts_of g) a.value.imports places owners
  pub bodies_are : bodies ≡ map (λ (b : ℕ × ℕ). ((counts_of g).types + b.0, b.1)) (own_bodies a.value.funcs)

uses_in : (a : CoreValue) (places sources owners : List (Option ℕ)) (bodies : List (ℕ × ℕ)) (count : ℕ) (counts : List ℕ) (u : Uses)
    → HasCoreItems (core_graph a) a places sources owners bodies → ArePlacesCounted places count counts → UsesGraph (core_graph a) (sources, owners) bodies counts u
    → AreCoreUses a places count u
uses_in a places sources owners bodies count counts u h c g =
    let names = numbers_in (core_graph a) in
    let sets = sets_view u.led.items in
    record {
      followed = g.trimmed;
      counts = subst (ArePlacesCounted places count) (sym g.counts_are) c;
      owners = owners;
      are_owners = h.owners_are;
      led = subst (λ (n : ℕ). AreLeads names (label_numbers a) owners n sets) c.each
          (subst (λ (ss : List (Option ℕ)). AreLeads names ss owners (length counts) sets) h.sources_are g.led);
      alone = subst (λ (bs : List (ℕ × ℕ)). AreAlone names (label_numbers a) bs sets u.alone.items) h.bodies_are
          (subst (λ (ss : List (Option ℕ)). AreAlone names ss bodies sets u.alone.items) h.sources_are g.alone);
    }

pub core_uses_are : (a : CoreValue) (g : GraphValue) → g ≡ core_graph a → (places sources owners : List (Option ℕ)) (bodies : List (ℕ × ℕ)) (count : ℕ) (counts : List ℕ)
    (u : Uses) → HasCoreItems g a places sources owners bodies → ArePlacesCounted places count counts → UsesGraph g (sources, owners) bodies counts u → AreCoreUses a places count u
core_uses_are a g e places sources owners bodies count counts u h c used =
    uses_in a places sources owners bodies count counts u (subst (λ (z : GraphValue). HasCoreItems z a places sources owners bodies) e h) c
    (subst (λ (z : GraphValue). UsesGraph z (sources, owners) bodies counts u) e used)

-- the functions of a module are those of its graph
pub funcs_in : (m : Module) (s : SegmentsValue) (g : GraphValue) (fs : List (Item ℕ (Bor (List ℕ)))) → fs ≡ m.funcs.items → g ≡ graph_of (module_value m) s
    → length fs ≡ (counts_of g).funcs
funcs_in m s g fs e is =
    ap length e ∙ (sym (length-map m.funcs.items func_value) ∙ (sym (length-map (map func_value m.funcs.items) (item_seen body_in))
    ∙ ap (λ (z : GraphValue). (counts_of z).funcs) (sym is)))

pub labels_below : (c : CountsValue) (labels : List LabelValue) (sources : List (Option ℕ)) (size : ℕ) → size ≡ item_count c → sources ≡ map (label_number c) labels
    → AreBelow size sources
labels_below c labels sources size s e p x h =
    let r = mapped_at (label_number c) labels p (Some x) (ap (λ (z : List (Option ℕ)). slice_get z p) (sym e) ∙ h) in
    let n = number_by c r.0.item x (has_item c r.0.item) refl r.2 in
    let below = number_below c r.0.item n.0 in
    let same = n.1 in omega (arith, s, below, same)
