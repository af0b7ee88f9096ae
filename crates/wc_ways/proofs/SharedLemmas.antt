-- What modules import of interfaces that the world imports under several names, name by name.
use Rattle.std.proofs.Common.{◌≡◌, ◌||◌, ℕ, Bool, true, false, cond, List, [], ◌∷◌, ◌++◌, Option, Some, None, true≢false, refl, sym, ◌∙◌, ap, subst, append-nil, append_assoc, inl, inr}
use Rattle.std.specs.List.{cons_option, filter_map, list_any}
use Rattle.std.specs.Prelude.{unwrap_or}
use Rattle.std.specs.Option.{option_and_then, option_map_or, option_to_list}
use Rattle.std.specs.Str.{bytes_eq}
use Rattle.std.proofs.Math.Bool.{or-false}
use Rattle.std.proofs.lemmas.Bool.{or_cases, or_left}
use Rattle.std.proofs.lemmas.Cmp.{nat_list_eq_equiv}
use Rattle.std.proofs.lemmas.List.Folds.{list_any-append}
use Rattle.std.proofs.lemmas.Map.Views.{list_any-from_Contains}
use Rattle.std.proofs.lemmas.Slice.Eq.{bytes_eq-Decides}
use Rattle.indexmap.proofs.CallerLemmas.{Contains-list_any}
use Rattle.wc_texts.specs.Names.{first_occurrences}
use Rattle.wc_gc.proofs.NameSetLemmas.{among_distinct, distinct_more}
use Rattle.wc_summary.specs.Entries.{EntriesView, Lists, interfaces_of, parts_of}
use Rattle.wc_summary.specs.Summary.{PartsView}
use Rattle.wc_summary.proofs.TagLemmas.{lists_none}
use Rattle.wc_world.proofs.RestrictedLemmas.{occurrence_there}
use Rattle.wc_world.specs.Views.{ComponentWorldView, ImportMapView}
use Rattle.wc_ways.specs.Imports.{first_name, has_name, leader, shared_name, with_modules}
use Rattle.wc_ways.specs.Private.SummaryShared.{Shares, SharesAll, SharesFirst, SharesImport, listed_with}
use Rattle.wc_ways.proofs.LeaderLemmas.{Apart, NamedImport, leader_at, leader_by, leader_first, leader_none}
use Rattle.wc_ways.proofs.NoteLemmas.{listed_more}

-- ---- names that are listed

any_once : (names : List (List ℕ)) (q : List ℕ) → list_any (bytes_eq q) names ≡ true → list_any (bytes_eq q) (first_occurrences names) ≡ true
any_once names q h =
    list_any-from_Contains nat_list_eq_equiv q (first_occurrences names)
    (occurrence_there names q (Contains-list_any bytes_eq (λ x y e. (bytes_eq-Decides x y).0 e) names q h))

kept : (names : List (List ℕ)) (q : List ℕ) → list_any (bytes_eq q) names ≡ true → first_occurrences (names ++ q ∷ []) ≡ first_occurrences names
kept names q h = distinct_more names q ∙ ap (λ b. cond b (first_occurrences names) (first_occurrences names ++ q ∷ [])) (any_once names q h)

any_left : (xs ys : List (List ℕ)) (q : List ℕ) → list_any (bytes_eq q) xs ≡ true → list_any (bytes_eq q) (xs ++ ys) ≡ true
any_left xs ys q h = list_any-append (bytes_eq q) xs ys ∙ or_left (list_any (bytes_eq q) xs) (list_any (bytes_eq q) ys) h

same_test : (b c : Bool) → (b ≡ true → c ≡ true) → (c ≡ true → b ≡ true) → b ≡ c
same_test true c to from = sym (to refl)
same_test false true to from = from refl
same_test false false to from = refl

-- what is shared has a first name that is listed
module _ (w : ComponentWorldView) (names : List (List ℕ)) (q : List ℕ) where
  abbrev IsLed : Type 0
  IsLed = list_any (bytes_eq (leader w q)) names ≡ true

  led_step : (others : List (List ℕ)) (x : NamedImport) → (list_any (bytes_eq q) others ≡ true → IsLed) → list_any (bytes_eq q) (cons_option (shared_name w names x) others) ≡ true → IsLed
  led_step others (None, v) more h = more h
  led_step others (Some name, v) more h = by (list_any (bytes_eq (leader w name)) names) refl h
    where
      by : (b : Bool) → list_any (bytes_eq (leader w name)) names ≡ b → list_any (bytes_eq q) (cons_option (cond b (Some name) None) others) ≡ true → IsLed
      by false off h = more h
      by true on h = elim (or_cases (bytes_eq q name) (list_any (bytes_eq q) others) h) [
        | inl same ↦ ap (λ (z : List ℕ). list_any (bytes_eq (leader w z)) names) ((bytes_eq-Decides q name).0 same) ∙ on
        | inr rest ↦ more rest
      ]

  shared_led : (xs : ImportMapView) → list_any (bytes_eq q) (filter_map (shared_name w names) xs) ≡ true → IsLed
  shared_led [] h = absurd (true≢false (sym h))
  shared_led (x ∷ xs) h = led_step (filter_map (shared_name w names) xs) x (shared_led xs) h

-- ---- the names that were passed

pub record SharedSoFar (w : ComponentWorldView) (left : ImportMapView) (old now : EntriesView) : Type 0 where
  pub front : ImportMapView
  pub split : front ++ left ≡ w.import_map
  pub apart : Apart w.import_map
  pub listed : Lists old now (filter_map (shared_name w (interfaces_of old)) front)
  pub each : (q : List ℕ) → parts_of now q ≡ cond (list_any (has_name q) front) (with_modules (parts_of old (leader w q)) (parts_of old q)) (parts_of old q)

pub shared_start : (w : ComponentWorldView) (left : ImportMapView) (old : EntriesView) → left ≡ w.import_map → Apart w.import_map → SharedSoFar w left old old
shared_start w left old is apart = record { front = []; split = is; apart = apart; listed = lists_none old; each = λ q. refl }

any_more : (q : List ℕ) (front : ImportMapView) (x : NamedImport) → list_any (has_name q) (front ++ x ∷ []) ≡ (list_any (has_name q) front || has_name q x)
any_more q front x = list_any-append (has_name q) front (x ∷ []) ∙ ap (λ b. list_any (has_name q) front || b) (or-false (has_name q x))

-- choices between what is shared and what was

choice_same : (b c : Bool) (m p : PartsView) → (c ≡ true → m ≡ p) → cond b m p ≡ cond (b || c) m p
choice_same true c m p h = refl
choice_same false true m p h = sym (h refl)
choice_same false false m p h = refl

choice_none : (b : Bool) (m p : PartsView) → m ≡ p → cond b m p ≡ p
choice_none true m p h = h
choice_none false m p h = refl

choice_all : (b : Bool) (m p : PartsView) → (b ≡ false → m ≡ p) → cond b m p ≡ m
choice_all true m p h = refl
choice_all false m p h = sym (h refl)

choice_new : (b c : Bool) (m p given : PartsView) → (c ≡ true → (b ≡ false) × (given ≡ m)) → cond c given (cond b m p) ≡ cond (b || c) m p
choice_new true true m p given h = absurd (true≢false (h refl).0)
choice_new false true m p given h = (h refl).1
choice_new true false m p given h = refl
choice_new false false m p given h = refl

module _ (w : ComponentWorldView) (old : EntriesView) where
  abbrev led : List ℕ → PartsView
  led q = with_modules (parts_of old (leader w q)) (parts_of old q)

  -- a name that leads itself shares nothing
  own_leads : (q : List ℕ) → leader w q ≡ q → led q ≡ parts_of old q
  own_leads q is = ap (λ (z : List ℕ). with_modules (parts_of old z) (parts_of old q)) is

  module _ (left rest : ImportMapView) (x : NamedImport) (now new : EntriesView) (is : left ≡ x ∷ rest) (h : SharedSoFar w left old now) where
    abbrev names : List (List ℕ)
    names = interfaces_of old

    abbrev passed : List (List ℕ)
    passed = filter_map (shared_name w names) h.front

    cut : h.front ++ x ∷ rest ≡ w.import_map
    cut = ap (λ (z : ImportMapView). h.front ++ z) (sym is) ∙ h.split

    -- one more name is passed
    passed_more : Lists old new (passed ++ option_to_list (shared_name w names x))
        → ((q : List ℕ) → parts_of new q ≡ cond (list_any (has_name q) h.front || has_name q x) (led q) (parts_of old q)) → SharedSoFar w rest old new
    passed_more listed each = record {
      front = h.front ++ x ∷ [];
      split = append_assoc h.front (x ∷ []) rest ∙ cut;
      apart = h.apart;
      listed = subst (Lists old new) (sym (listed_more (shared_name w names) h.front x)) listed;
      each = λ q. each q ∙ ap (λ b. cond b (led q) (parts_of old q)) (sym (any_more q h.front x));
    }

    -- a name that leads itself is listed already, if it is listed
    own_listed : (name : List ℕ) (b : Bool) → list_any (bytes_eq name) names ≡ b → new ≡ now → Lists old new (passed ++ option_to_list (cond b (Some name) None))
    own_listed name true there same before e =
        let has : list_any (bytes_eq name) before ≡ true = among_distinct before name (ap (list_any (bytes_eq name)) (sym e) ∙ there) in
        ap interfaces_of same ∙ (h.listed before e ∙ (sym (kept (before ++ passed) name (any_left before passed name has))
        ∙ ap first_occurrences (append_assoc before passed (name ∷ []))))
    own_listed name false there same before e =
        ap interfaces_of same ∙ (h.listed before e ∙ ap (λ (z : List (List ℕ)). first_occurrences (before ++ z)) (sym (append-nil passed)))

    own_passed : (name : List ℕ) → x.0 ≡ Some name → leader w name ≡ name → new ≡ now → SharedSoFar w rest old new
    own_passed name named own same =
        passed_more
        (subst (λ (o : Option (List ℕ)). Lists old new (passed ++ option_to_list o))
        (ap (λ (z : List ℕ). cond (list_any (bytes_eq z) names) (Some name) None) (sym own)
        ∙ ap (option_and_then (λ (n : List ℕ). cond (list_any (bytes_eq (leader w n)) names) (Some n) None)) (sym named))
        (own_listed name (list_any (bytes_eq name) names) refl same))
        (λ q. ap (λ (z : EntriesView). parts_of z q) same ∙ (h.each q
        ∙ choice_same (list_any (has_name q) h.front) (has_name q x) (led q) (parts_of old q) (λ on. own_leads q (is_own q on))))
      where
        is_own : (q : List ℕ) → has_name q x ≡ true → leader w q ≡ q
        is_own q on =
            let is_name : q ≡ name = (bytes_eq-Decides q name).0 (ap (λ o. option_map_or (bytes_eq q) o false) (sym named) ∙ on) in
            ap (leader w) is_name ∙ (own ∙ sym is_name)

    -- a name whose first one is another, or itself
    module _ (name first : List ℕ) (named : x.0 ≡ Some name) (leads : leader w name ≡ first) (itself : leader w first ≡ first) (s : Shares first name now new) where
      turn : (q : List ℕ) → bytes_eq q name ≡ has_name q x
      turn q = ap (λ o. option_map_or (bytes_eq q) o false) (sym named)

      still : parts_of now first ≡ parts_of old first
      still = h.each first ∙ choice_none (list_any (has_name first) h.front) (led first) (parts_of old first) (own_leads first itself)

      both : (before : List (List ℕ)) → names ≡ first_occurrences before → list_any (bytes_eq first) (interfaces_of now) ≡ list_any (bytes_eq first) names
      both before e =
          same_test (list_any (bytes_eq first) (interfaces_of now)) (list_any (bytes_eq first) names)
          (λ on.
          let there : list_any (bytes_eq first) (before ++ passed) ≡ true = among_distinct (before ++ passed) first (ap (list_any (bytes_eq first)) (sym (h.listed before e)) ∙ on) in
          elim (or_cases (list_any (bytes_eq first) before) (list_any (bytes_eq first) passed) (sym (list_any-append (bytes_eq first) before passed) ∙ there)) [
            | inl early ↦ ap (list_any (bytes_eq first)) e ∙ any_once before first early
            | inr late ↦ ap (λ (z : List ℕ). list_any (bytes_eq z) names) (sym itself) ∙ shared_led w names first h.front late
          ])
          (λ on.
          let early : list_any (bytes_eq first) before ≡ true = among_distinct before first (ap (list_any (bytes_eq first)) (sym e) ∙ on) in
          ap (list_any (bytes_eq first)) (h.listed before e) ∙ any_once (before ++ passed) first (any_left before passed first early))

      as_list : (b : Bool) → cond b (name ∷ []) [] ≡ option_to_list (cond b (Some name) None)
      as_list true = refl
      as_list false = refl

      first_listed : Lists old new (passed ++ option_to_list (shared_name w names x))
      first_listed before e =
          let is_list : listed_with now first name ≡ option_to_list (shared_name w names x) =
          ap (λ b. cond b (name ∷ []) []) (both before e) ∙ (as_list (list_any (bytes_eq first) names)
          ∙ (ap (λ (z : List ℕ). option_to_list (cond (list_any (bytes_eq z) names) (Some name) None)) (sym leads)
          ∙ ap (λ o. option_to_list (option_and_then (λ (n : List ℕ). cond (list_any (bytes_eq (leader w n)) names) (Some n) None) o)) (sym named))) in
          s.listed (before ++ passed) (h.listed before e)
          ∙ (ap first_occurrences (append_assoc before passed (listed_with now first name)) ∙ ap (λ (z : List (List ℕ)). first_occurrences (before ++ (passed ++ z))) is_list)

      given : (q : List ℕ) → has_name q x ≡ true → (list_any (has_name q) h.front ≡ false) × (with_modules (parts_of now first) (parts_of now q) ≡ led q)
      given q on =
          let is_name : q ≡ name = (bytes_eq-Decides q name).0 (turn q ∙ on) in
          let unseen : list_any (has_name q) h.front ≡ false = h.apart h.front rest x q cut (named ∙ ap Some (sym is_name)) in
          let was : parts_of now q ≡ parts_of old q = h.each q ∙ ap (λ b. cond b (led q) (parts_of old q)) unseen in
          let to : first ≡ leader w q = sym leads ∙ ap (leader w) (sym is_name) in
          (unseen, (λ i. with_modules (still i) (was i)) ∙ ap (λ (z : List ℕ). with_modules (parts_of old z) (parts_of old q)) to)

      first_passed : SharedSoFar w rest old new
      first_passed =
          passed_more first_listed
          (λ q.
          let both_parts : PartsView = with_modules (parts_of now first) (parts_of now q) in
          s.each q ∙ (ap (λ (z : PartsView). cond (bytes_eq q name) both_parts z) (h.each q)
          ∙ (ap (λ c. cond c both_parts (cond (list_any (has_name q) h.front) (led q) (parts_of old q))) (turn q)
          ∙ choice_new (list_any (has_name q) h.front) (has_name q x) (led q) (parts_of old q) both_parts (given q))))

pub shared_next : (w : ComponentWorldView) (old : EntriesView) (left rest : ImportMapView) (x : NamedImport) (now new : EntriesView) → left ≡ x ∷ rest → SharesImport w x now new
    → SharedSoFar w left old now → SharedSoFar w rest old new
shared_next w old left rest (None, v) now new is same h =
    passed_more w old left rest (None, v) now new is h
    (λ before e. ap interfaces_of same ∙ (h.listed before e
    ∙ ap (λ (z : List (List ℕ)). first_occurrences (before ++ z)) (sym (append-nil (filter_map (shared_name w (interfaces_of old)) h.front)))))
    (λ q. ap (λ (z : EntriesView). parts_of z q) same ∙ (h.each q
    ∙ ap (λ b. cond b (with_modules (parts_of old (leader w q)) (parts_of old q)) (parts_of old q)) (sym (or-false (list_any (has_name q) h.front)))))
shared_next w old left rest (Some name, v) now new is shares h =
    by v.interface (leader_at w h.apart h.front rest (Some name, v) name (cut w old left rest (Some name, v) now new is h) refl) shares
  where
    at : (i : ℕ) (f : Option (List ℕ)) → first_name w i ≡ f → leader w name ≡ unwrap_or f name → SharesFirst f name now new → SharedSoFar w rest old new
    at i None e leads same = own_passed w old left rest (Some name, v) now new is h name refl leads same
    at i (Some first) e leads s = first_passed w old left rest (Some name, v) now new is h name first refl leads (leader_first w h.apart i first e) s

    by : (o : Option ℕ) → leader w name ≡ leader_by w name o → SharesFirst (option_and_then (first_name w) o) name now new → SharedSoFar w rest old new
    by None leads same = own_passed w old left rest (Some name, v) now new is h name refl leads same
    by (Some i) leads s = at i (first_name w i) refl leads s

pub shared_all : (w : ComponentWorldView) (old now : EntriesView) (left : ImportMapView) → left ≡ [] → SharedSoFar w left old now → SharesAll w old now
shared_all w old now left none h =
    let all : h.front ≡ w.import_map = sym (append-nil h.front) ∙ (ap (λ (z : ImportMapView). h.front ++ z) (sym none) ∙ h.split) in
    record {
      listed = subst (λ (z : ImportMapView). Lists old now (filter_map (shared_name w (interfaces_of old)) z)) all h.listed;
      each = λ q. h.each q ∙ choice_all (list_any (has_name q) h.front) (led w old q) (parts_of old q)
          (λ off. own_leads w old q (leader_none w q (ap (list_any (has_name q)) (sym all) ∙ off)));
    }
