-- What is noted of adapters and of libraries.
use Rattle.std.proofs.Common.{◌≡◌, ◌≢◌, ℕ, Bool, true, false, List, [], ◌∷◌, ◌++◌, length, map, refl, sym, ◌∙◌, ap, append_assoc, not, subst, inl, inr, arith, Option}
use Rattle.std.specs.Prelude.{AllPairs, String, string_bytes, unwrap_or}
use Rattle.std.specs.Map.{keys_of}
use Rattle.std.specs.declared.alloc.Global.{Global}
use Rattle.std.specs.List.{slice_get}
use Rattle.std.proofs.lemmas.List.Elements.{filter_agree}
use Rattle.std.proofs.lemmas.Option.{slice_get_within}
use Rattle.wc_read.specs.Modules.{ModuleValue}
use Rattle.wc_graph.specs.Positions.{sets_view}
use Rattle.wc_graph.specs.declared.alone.Alone.{Alone}
use Rattle.wc_summary.specs.Parts.{AdapterValue, IsAdapterPartOf, library_part}
use Rattle.wc_summary.specs.Leads.{Tags, count_tag, found_in, named_in, names_at}
use Rattle.wc_summary.specs.Summary.{AdapterPartView, PartsView}
use Rattle.wc_summary.specs.Notes.{NotesAdapterModule, NotesLibraryModule}
use Rattle.wc_summary.specs.Entries.{EntriesView, entries_view, interfaces_of, parts_of, with_adapters}
use Rattle.wc_summary.specs.Private.SummaryAdapters.{AreUses}
use Rattle.wc_summary.specs.Private.Tags.{ArePlacesCounted, AreTagsAt, AreTagsPlaced}
use Rattle.wc_summary.specs.Private.Uses.{ArePushed, alone_at, exports_at, led_at, no_items, part_at}
use Rattle.wc_summary.specs.declared.summary.Entry.{Entry}
use Rattle.wc_summary.specs.declared.uses.Uses.{Uses}
use Rattle.wc_summary.proofs.AdapterLemmas.{count_is, distinct_found, found_at, placed_there}
use Rattle.wc_summary.proofs.AdapterPartLemmas.{adapter_noted, no_more, with_list}

-- ---- a library

nothing_led : (uses : Uses) → uses.led.items ≡ [] → (k : ℕ) → led_at uses k ≡ []
nothing_led uses e k = ap (λ z. unwrap_or (slice_get (sets_view z) k) []) e

nothing_alone : (uses : Uses) → uses.alone.items ≡ [] → (k : ℕ) → alone_at uses k ≡ no_items
nothing_alone uses e k = ap (λ (z : List Alone). unwrap_or (slice_get z k) no_items) e

-- the part by all of its members
abbrev with_all : List ℕ → Bool → ℕ → List ℕ → List (List ℕ) → (List ℕ → Bool) → Alone → AdapterPartView
with_all name b i ps names wanted a = record {
  adapter = name;
  is_library = b;
  imports = i;
  exports = exports_at true names wanted ps;
  stays = exports_at false names wanted ps;
  roots = [];
  functions = a.items;
  bytes = a.size;
}

library_is : (name : List ℕ) (names : List (List ℕ)) (wanted : (List ℕ → Bool)) (uses : Uses) (k n : ℕ) → uses.is_library ≡ true → uses.led.items ≡ [] → uses.alone.items ≡ []
    → (part_at name names wanted uses k).imports ≡ n → part_at name names wanted uses k ≡ library_part name n
library_is name names wanted uses k n l d a e =
    ap (λ b. with_all name b (part_at name names wanted uses k).imports (led_at uses k) names wanted (alone_at uses k)) l
    ∙ (ap (λ i. with_all name true i (led_at uses k) names wanted (alone_at uses k)) e
    ∙ (ap (λ ps. with_all name true n ps names wanted (alone_at uses k)) (nothing_led uses d k)
    ∙ ap (with_all name true n [] names wanted) (nothing_alone uses a k)))

module _ (name : List ℕ) (names : List (List ℕ)) (wanted : (List ℕ → Bool)) (tags : Tags) (interfaces : List (List ℕ)) (distinct : AllPairs (λ x y. x ≢ y) interfaces)
    (places : List (Option ℕ)) (at : AreTagsAt interfaces tags places) (uses : Uses) (l : uses.is_library ≡ true) (d : uses.led.items ≡ []) (a : uses.alone.items ≡ [])
    (counts : ArePlacesCounted places (length interfaces) uses.counts.items) where
  pub library_noted : (old new : EntriesView) → interfaces ≡ found_in tags → ArePushed (part_at name names wanted uses) interfaces old new
      → NotesLibraryModule name tags old new
  library_noted old new is p = record {
    found = interfaces;
    are_found = is;
    listed = p.listed;
    each = λ q. elim (p.each q) [
      | inl none ↦ (
        [],
        inl (
          (λ c. let r = placed_there (named_in tags) q c in none.0 r.0 (ap (λ (z : List (List ℕ)). slice_get z r.0) is ∙ r.1)),
          refl,
        ),
        none.1 ∙ no_more (parts_of old q),
      )
      | inr some ↦ (
        part_at name names wanted uses some.0 ∷ [],
        inr (
          found_at (named_in tags) q some.0 (ap (λ (z : List (List ℕ)). slice_get z some.0) (sym is) ∙ some.1),
          part_at name names wanted uses some.0,
          library_is name names wanted uses some.0 (count_tag q tags) l d a
              (counts.at some.0 (slice_get_within interfaces some.0 q some.1) ∙ count_is interfaces distinct some.0 q some.1 tags places at),
          refl,
        ),
        some.2,
      )
    ];
  }

-- what is listed in a map that had nothing
pub found_is : (tags : Tags) (places : List (Option ℕ)) (old new : EntriesView) → old ≡ [] → AreTagsPlaced tags places old new → interfaces_of new ≡ found_in tags
found_is tags places old new e p = p.listed.listed [] (ap interfaces_of e)

pub found_distinct : (tags : Tags) (interfaces : List (List ℕ)) → interfaces ≡ found_in tags → AllPairs (λ x y. x ≢ y) interfaces
found_distinct tags interfaces e = subst (AllPairs (λ x y. x ≢ y)) (sym e) (distinct_found (named_in tags))

pub keys_named : (entries : List (String Global × Entry)) → map string_bytes (keys_of entries) ≡ interfaces_of (entries_view entries)
keys_named [] = refl
keys_named (e ∷ es) = ap (λ (z : List (List ℕ)). string_bytes e.0 ∷ z) (keys_named es)

pub keys_many : (entries : List (String Global × Entry)) → length entries ≡ length (interfaces_of (entries_view entries))
keys_many [] = refl
keys_many (e ∷ es) = let n = keys_many es in omega (arith, n)

-- what was noted by a map of the module's own interfaces
pub adapter_pushed : (a : AdapterValue) (interfaces slice : List (List ℕ)) (places : List (Option ℕ)) (uses : Uses) (count : ℕ) (old new : EntriesView)
    → slice ≡ interfaces → interfaces ≡ found_in a.tags → AreTagsAt interfaces a.tags places → count ≡ length interfaces → AreUses a.value a.required places count uses
    → ArePushed (part_at a.name a.required a.is_wanted uses) slice old new → NotesAdapterModule a old new
adapter_pushed a interfaces slice places uses count old new s f t k u p =
    adapter_noted a interfaces (found_distinct a.tags interfaces f) places t uses (subst (λ (z : ℕ). AreUses a.value a.required places z uses) k u) old new f
    (subst (λ (z : List (List ℕ)). ArePushed (part_at a.name a.required a.is_wanted uses) z old new) s p)

pub library_pushed : (name : List ℕ) (tags : Tags) (interfaces slice : List (List ℕ)) (places : List (Option ℕ)) (names : List (List ℕ)) (is_wanted : List ℕ → Bool) (uses : Uses)
    (count : ℕ) (old new : EntriesView) → slice ≡ interfaces → interfaces ≡ found_in tags → AreTagsAt interfaces tags places → count ≡ length interfaces
    → ArePlacesCounted places count uses.counts.items → uses.is_library ≡ true → uses.led.items ≡ [] → uses.alone.items ≡ []
    → ArePushed (part_at name names is_wanted uses) slice old new → NotesLibraryModule name tags old new
library_pushed name tags interfaces slice places names is_wanted uses count old new s f t k c l d a p =
    library_noted name names is_wanted tags interfaces (found_distinct tags interfaces f) places t uses l d a
    (subst (λ (n : ℕ). ArePlacesCounted places n uses.counts.items) k c) old new f
    (subst (λ (z : List (List ℕ)). ArePushed (part_at name names is_wanted uses) z old new) s p)

-- ---- parts that are noted one after another

pub with_both : (v : PartsView) (xs ys : List AdapterPartView) → with_adapters ys (with_adapters xs v) ≡ with_adapters (xs ++ ys) v
with_both v xs ys = ap (with_list v) (append_assoc v.adapters xs ys)

-- ---- the same exports are wanted, by another test

abbrev pub adapter_by : List ℕ → ModuleValue → Tags → List (List ℕ) → (List ℕ → Bool) → AdapterValue
adapter_by name value tags required is_wanted = record { name = name; value = value; tags = tags; required = required; is_wanted = is_wanted }

module _ (name : List ℕ) (value : ModuleValue) (tags : Tags) (required : List (List ℕ)) (p q : List ℕ → Bool) (same : (e : List ℕ) → p e ≡ q e) where
  part_as : (interface : List ℕ) (part : AdapterPartView) → IsAdapterPartOf interface (adapter_by name value tags required p) part
      → IsAdapterPartOf interface (adapter_by name value tags required q) part
  part_as interface part h = record {
    named = h.named;
    trimmed = h.trimmed;
    imports = h.imports;
    led = h.led;
    are_led = h.are_led;
    exports = h.exports ∙ filter_agree p q same (names_at required h.led);
    roots = h.roots;
    stays = h.stays ∙ filter_agree (λ e. not (p e)) (λ e. not (q e)) (λ e. ap not (same e)) (names_at required h.led);
    gone = h.gone;
    are_gone = h.are_gone;
    functions = h.functions;
    bytes = h.bytes;
  }

  pub wanted_as : (old new : EntriesView) → NotesAdapterModule (adapter_by name value tags required p) old new
      → NotesAdapterModule (adapter_by name value tags required q) old new
  wanted_as old new h = record {
    found = h.found;
    are_found = h.are_found;
    listed = h.listed;
    each = λ interface.
        let n = h.each interface in (
          n.0,
          elim n.1 [
            | inl none ↦ inl none
            | inr some ↦ inr (some.0, some.1, part_as interface some.1 some.2, some.3)
          ],
          n.2,
        );
  }
