-- Marks by numbers are marks of items.
use Rattle.std.proofs.Common.{◌≡◌, ℕ, ◌+◌, ◌<◌, List, [], ◌∷◌, ◌++◌, length, map, take, get_or, Bool, true, false, Option, Some, refl, sym, ◌∙◌, ap, subst}
use Rattle.std.specs.Prelude.{All, Contains, filter, ◌↔◌}
use Rattle.std.specs.List.{filter_map}
use Rattle.std.specs.Option.{option_map_or}
use Rattle.std.specs.declared.alloc.Global.{Global}
use Rattle.std.specs.declared.vec.Vec.{Vec}
use Rattle.std.proofs.lemmas.List.{map-append, take_more}
use Rattle.std.proofs.lemmas.List.Elements.{All-contains_itself, All-weaker, filter-append, filter_map-append}
use Rattle.wc_graph.specs.ChainMarks.{is_set}
use Rattle.wc_graph.specs.Dominators.{AreGraphDominators, IsDominator}
use Rattle.wc_graph.specs.Reached.{IsReachedFrom}
use Rattle.wc_graph.proofs.ListLemmas.{contains_mapped, contains_unmapped}
use Rattle.wc_graph.proofs.OnChainLemmas.{mapped_from, mapped_to}
use Rattle.wc_why.specs.Component.{IsMark, asked_items, target_item}
use Rattle.wc_why.specs.Graph.{has_item, names_in}
use Rattle.wc_why.specs.Part.{PartView}
use Rattle.wc_why.specs.Paths.{joined}
use Rattle.wc_why.specs.Private.Graph.{AreLinked, names_by}
use Rattle.wc_why.specs.Private.Marks.{AreMarks, asked_numbers, mark_in, mark_of}
use Rattle.wc_why.specs.Private.Numbers.{AreNumbers, number_of, place_of, total}
use Rattle.wc_why.specs.declared.component.Target.{Target}
use Rattle.wc_why.specs.declared.links.Linked.{Linked}
use Rattle.wc_why.specs.declared.numbers.Numbers.{Numbers}
use Rattle.wc_why.proofs.GraphLemmas.{AreBelow, named_below, named_same, places_apart}
use Rattle.wc_why.proofs.NumberLemmas.{number_back, number_is, number_of_there}
use Rattle.wc_why.proofs.TransportLemmas.{dominator_back, dominator_to, reached_any, reached_inside}

module _ (parts : List PartView) (n : Numbers) (links : List (Option Linked)) (numbered : AreNumbers parts n) (below : AreBelow parts) (linked : AreLinked parts n links)
    (roots : List ℕ) (rooted : All (λ x. x < total n) roots) where
  -- what is asked for that is there
  module _ (items : List (ℕ × ℕ)) where
    abbrev pub asked : List ℕ
    asked = filter_map (number_of n) items

    asked_is : (x : ℕ) → Contains (filter_map (number_of n) items) x → Contains items (place_of n x) × (x < total n)
    asked_is x c =
        let (y, there, is) = mapped_from (number_of n) items x c in
        let (lt, same) = number_is parts n.starts.items n.owners.items numbered y x is in
        (subst (Contains items) (sym same) there, lt)

    pub asked_below : All (λ x. x < total n) (filter_map (number_of n) items)
    asked_below =
        All-weaker (Contains (filter_map (number_of n) items)) (λ x. x < total n) (λ x c. (asked_is x c).1) (filter_map (number_of n) items)
        (All-contains_itself (filter_map (number_of n) items))

    asked_there : (x : ℕ) → x < total n → Contains items (place_of n x) → Contains (filter_map (number_of n) items) x
    asked_there x lt c = mapped_to (number_of n) items x (place_of n x, c, number_back parts n.starts.items n.owners.items numbered x lt)

    -- a target that is reached is there
    reached_number : (t : ℕ × ℕ) → IsReachedFrom (names_in parts) (map (place_of n) roots) t → (x : ℕ) × (x < total n) × (place_of n x ≡ t)
    reached_number t r =
        let (x, e, h) =
        reached_any (place_of n) (λ x. x < total n) (names_by parts n links) (names_in parts) (named_below parts n links numbered below linked)
        (named_same parts n links numbered below linked) (places_apart parts n links numbered below linked) roots rooted t r in
        let lt =
        reached_inside (place_of n) (λ x. x < total n) (names_by parts n links) (names_in parts) (named_below parts n links numbered below linked)
        (named_same parts n links numbered below linked) (places_apart parts n links numbered below linked) roots rooted x h in
        (x, lt, sym e)

    -- those that are not there change nothing
    more_there : (x : ℕ) → x < total n → IsDominator (names_in parts) (map (place_of n) roots) (map (place_of n) (filter_map (number_of n) items)) (place_of n x)
        → IsDominator (names_in parts) (map (place_of n) roots) items (place_of n x)
    more_there x lt d =
        let (z, c, e) = contains_unmapped (place_of n) (filter_map (number_of n) items) d.target d.asked in
        record {
          target = d.target;
          asked = subst (Contains items) e (asked_is z c).0;
          reached = d.reached;
          no_target = λ c. d.no_target (contains_mapped (place_of n) (filter_map (number_of n) items) x (asked_there x lt c));
          on_all = λ r t path cr ct p.
              let (k, less, same) = reached_number t (r, cr, path, p) in
              let there : Contains (map (place_of n) (filter_map (number_of n) items)) t =
              subst (Contains (map (place_of n) (filter_map (number_of n) items))) same
              (contains_mapped (place_of n) (filter_map (number_of n) items) k (asked_there k less (subst (Contains items) (sym same) ct))) in
              d.on_all r t path cr there p;
        }

    less_there : (x : ℕ) → x < total n → IsDominator (names_in parts) (map (place_of n) roots) items (place_of n x)
        → IsDominator (names_in parts) (map (place_of n) roots) (map (place_of n) (filter_map (number_of n) items)) (place_of n x)
    less_there x lt d =
        let (k, less, same) = reached_number d.target d.reached in
        record {
          target = d.target;
          asked =
              subst (Contains (map (place_of n) (filter_map (number_of n) items))) same
              (contains_mapped (place_of n) (filter_map (number_of n) items) k (asked_there k less (subst (Contains items) (sym same) d.asked)));
          reached = d.reached;
          no_target = λ c.
              let (z, cz, e) = contains_unmapped (place_of n) (filter_map (number_of n) items) (place_of n x) c in
              d.no_target (subst (Contains items) e (asked_is z cz).0);
          on_all = λ r t path cr ct p.
              let (z, cz, e) = contains_unmapped (place_of n) (filter_map (number_of n) items) t ct in
              d.on_all r t path cr (subst (Contains items) e (asked_is z cz).0) p;
        }

    pub marked_there : (x : ℕ) → x < total n → IsDominator (names_by parts n links) roots (filter_map (number_of n) items) x
        ↔ IsDominator (names_in parts) (map (place_of n) roots) items (place_of n x)
    marked_there x lt = (
      (λ d. more_there x lt
          (dominator_to (place_of n) (λ x. x < total n) (names_by parts n links) (names_in parts) (named_below parts n links numbered below linked)
          (named_same parts n links numbered below linked) (places_apart parts n links numbered below linked) roots rooted (filter_map (number_of n) items) asked_below x lt d)),
      (λ d. dominator_back (place_of n) (λ x. x < total n) (names_by parts n links) (names_in parts) (named_below parts n links numbered below linked)
          (named_same parts n links numbered below linked) (places_apart parts n links numbered below linked) roots rooted (filter_map (number_of n) items) asked_below x lt
          (less_there x lt d)),
    )

  -- the mark of an item
  pub mark_is : (lists : List (List (ℕ × ℕ))) (targets : List Target) (marked : Bool) (marks : Option (Vec Bool Global)) → map (place_of n) roots ≡ joined lists
      → AreMarks (names_by parts n links) n roots targets marked marks → (y : ℕ × ℕ) → has_item parts y ≡ true
      → IsMark parts lists (asked_items targets) marked y (mark_of n marks y)
  mark_is lists targets false marks are is y there = ap (λ m. mark_of n m y) is
  mark_is lists targets true marks are (v, is, d) y there =
      let (x, number, lt, same) = number_of_there parts n.starts.items n.owners.items numbered y there in
      let read : mark_in n y v ≡ is_set v.items x = ap (λ o. option_map_or (is_set v.items) o false) number in
      let at = d.marked x lt in
      let m = marked_there (asked_items targets) x lt in (
        mark_in n y v,
        ap (λ o. mark_of n o y) is,
        (
          (λ e.
              subst (λ l. IsDominator (names_in parts) l (asked_items targets) y) are
              (subst (IsDominator (names_in parts) (map (place_of n) roots) (asked_items targets)) same (m.0 (at.0 (sym read ∙ e))))),
          (λ d.
              read
              ∙ at.1 (m.1 (subst (IsDominator (names_in parts) (map (place_of n) roots) (asked_items targets)) (sym same)
              (subst (λ l. IsDominator (names_in parts) l (asked_items targets) y) (sym are) d)))),
        ),
      )

-- what is asked for, one after another
pub asked_more : (n : Numbers) (ts : List Target) (t : Target) → asked_numbers n (ts ++ t ∷ []) ≡ asked_numbers n ts ++ filter_map (number_of n) (asked_items (t ∷ []))
asked_more n ts t =
    let test = λ (v : Target). v.is_asked in
    ap (filter_map (number_of n)) (ap (map target_item) (filter-append test ts (t ∷ [])) ∙ map-append target_item (filter test ts) (filter test (t ∷ [])))
    ∙ filter_map-append (number_of n) (asked_items ts) (asked_items (t ∷ []))

pub marks_made : (names : ℕ → List ℕ) (n : Numbers) (roots : List ℕ) (targets : List Target) (marked : Bool) (v : Vec Bool Global) → marked ≡ true
    → AreGraphDominators names (total n) roots (asked_numbers n targets) v.items → AreMarks names n roots targets marked (Some v)
marks_made names n roots targets marked v e d = subst (λ m. AreMarks names n roots targets m (Some v)) (sym e) (v, refl, d)

pub asked_step : (n : Numbers) (targets : List Target) (i : ℕ) (d : Target) (old new : List ℕ) → i < length targets
    → new ≡ old ++ filter_map (number_of n) (asked_items (get_or targets i d ∷ [])) → old ≡ asked_numbers n (take i targets)
    → new ≡ asked_numbers n (take (i + 1) targets)
asked_step n targets i d old new lt step before =
    step ∙ (ap (λ l. l ++ filter_map (number_of n) (asked_items (get_or targets i d ∷ []))) before
    ∙ sym (ap (asked_numbers n) (take_more targets i d lt) ∙ asked_more n (take i targets) (get_or targets i d)))
