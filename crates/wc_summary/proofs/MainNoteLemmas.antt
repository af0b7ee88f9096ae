-- What the main module imports of each interface, once its imports and its functions are noted.
use Rattle.std.proofs.Common.{◌≡◌, ℕ, List, [], length, map, Option, Some, None, option_map, slice_get, refl, sym, ◌∙◌, ap, cond}
use Rattle.std.proofs.lemmas.List.{length-map}
use Rattle.std.proofs.lemmas.Option.{slice_get-map}
use Rattle.wc_read.specs.Modules.{ModuleValue}
use Rattle.wc_segments.specs.Segments.{SegmentsValue}
use Rattle.wc_paths.specs.Items.{graph_of}
use Rattle.wc_paths.specs.Roots.{first_roots, second_roots}
use Rattle.wc_summary.specs.Entries.{EntriesView, interfaces_of, no_parts, parts_of}
use Rattle.wc_summary.specs.Leads.{Tags, count_tag, is_tag}
use Rattle.wc_summary.specs.Notes.{NotesMainModule}
use Rattle.wc_summary.specs.Parts.{IsNamer}
use Rattle.wc_summary.specs.Private.SummaryMain.{CountsEach, IsNamerBy, NotesOf, count_at, with_by, with_count}
use Rattle.wc_summary.specs.Private.Tags.{AreTagsPlaced, tag_at}
use Rattle.wc_summary.specs.Summary.{MainPartView, PartsView}
use Rattle.wc_summary.proofs.AdapterLemmas.{sum_of_mapped}
use Rattle.wc_summary.proofs.MainNamerLemmas.{tag_place}

counted_tags : (interfaces : List (List ℕ)) (places : List (Option ℕ)) (interface : List ℕ) → count_at interfaces places interface ≡ count_tag interface (map (tag_at interfaces) places)
counted_tags interfaces places interface =
    sym (sum_of_mapped (λ (t : Option (List ℕ)). cond (is_tag interface t) 1 0) (tag_at interfaces) places)

module _ (m : ModuleValue) (tags : Tags) (places : List (Option ℕ)) (old mid counted : EntriesView) (placed : AreTagsPlaced tags places old mid)
    (counts : CountsEach places mid counted)
  where
    -- a namer by the places of imports is one by their interfaces
    by_tags : (s : SegmentsValue) (interface : List ℕ) (f : ℕ)
        → IsNamerBy (graph_of m s) (first_roots m) (second_roots s) (interfaces_of counted) m.imports places interface f → IsNamer m s tags interface f
    by_tags s interface f (reached, (k, i, u, import, place, at, named)) =
        let here : slice_get (interfaces_of mid) u ≡ Some interface = ap (λ l. slice_get l u) (sym counts.listed) ∙ at in
        let tag : slice_get tags k ≡ Some (Some interface) =
        ap (λ (l : Tags). slice_get l k) (sym placed.at.are) ∙ (slice_get-map (tag_at (interfaces_of mid)) places k
        ∙ (ap (option_map (tag_at (interfaces_of mid))) place ∙ ap Some here)) in
        (reached, (k, i, import, tag, named))

    by_places : (s : SegmentsValue) (interface : List ℕ) (f : ℕ) → IsNamer m s tags interface f
        → IsNamerBy (graph_of m s) (first_roots m) (second_roots s) (interfaces_of counted) m.imports places interface f
    by_places s interface f (reached, (k, i, import, tag, named)) =
        let seen : option_map (tag_at (interfaces_of mid)) (slice_get places k) ≡ Some (Some interface) =
        sym (slice_get-map (tag_at (interfaces_of mid)) places k) ∙ (ap (λ (l : Tags). slice_get l k) placed.at.are ∙ tag) in
        let (p, at, is) = there (slice_get places k) seen in
        let (u, place, here) = tag_place (interfaces_of mid) p interface is in
        (reached, (k, i, u, import, at ∙ ap Some place, ap (λ l. slice_get l u) counts.listed ∙ here, named))
      where
        there : (o : Option (Option ℕ)) → option_map (tag_at (interfaces_of mid)) o ≡ Some (Some interface) → (p : Option ℕ) × (o ≡ Some p) × (tag_at (interfaces_of mid) p ≡ Some interface)
        there None e = absurd (let bad : None ≡ Some (Some interface) = e in cc)
        there (Some p) e = (p, refl, (let is : tag_at (interfaces_of mid) p ≡ Some interface = cc in is))

    part : ℕ → List ℕ → MainPartView
    part n by = record { imports = n; by = by }

    counted_part : (interface : List ℕ) → parts_of old interface ≡ no_parts → parts_of counted interface ≡ with_count (count_tag interface tags) no_parts
    counted_part interface none =
        let before : parts_of mid interface ≡ no_parts = placed.listed.same interface ∙ none in
        counts.each interface (ap (λ (p : PartsView). p.main.imports) before)
        ∙ (ap (with_count (count_at (interfaces_of mid) places interface)) before
        ∙ ap (λ (n : ℕ). with_count n no_parts) (counted_tags (interfaces_of mid) places interface ∙ ap (count_tag interface) placed.at.are))

    pub noted_unread : NotesMainModule m None tags old counted
    noted_unread = record {
      listed = λ before h. counts.listed ∙ placed.listed.listed before h;
      each = λ interface. (record { imports = count_tag interface tags; by = [] }, (refl, refl), counted_part interface);
    }

    pub noted_followed : (s : SegmentsValue) (new : EntriesView) → NotesOf m s places counted new → NotesMainModule m (Some s) tags old new
    noted_followed s new notes = record {
      listed = λ before h. notes.listed ∙ (counts.listed ∙ placed.listed.listed before h);
      each = λ interface.
          let (by, ascending, noted) = notes.each interface in (
            record { imports = count_tag interface tags; by = by },
            (refl, (ascending.0, λ f. (λ c. by_tags s interface f ((ascending.1 f).0 c), λ is. (ascending.1 f).1 (by_places s interface f is)))),
            λ none. (let was = counted_part interface none in
                noted (ap (λ (p : PartsView). p.main.by) was) ∙ ap (with_by by) was),
          );
    }

-- there are as many places as tags
pub places_sized : (interfaces : List (List ℕ)) (places : List (Option ℕ)) (tags : Tags) → map (tag_at interfaces) places ≡ tags → length places ≡ length tags
places_sized interfaces places tags are = sym (length-map places (tag_at interfaces)) ∙ ap length are
