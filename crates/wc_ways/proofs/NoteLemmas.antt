-- What is noted of each interface of a component, note by note.
use Rattle.std.proofs.Common.{◌≡◌, ℕ, Bool, true, false, cond, List, [], ◌∷◌, ◌++◌, Option, Some, None, option_map, refl, sym, ◌∙◌, ap, subst, append-nil, append_assoc}
use Rattle.std.proofs.lemmas.List.{map-append}
use Rattle.std.specs.List.{cons_option, filter_map}
use Rattle.std.specs.Map.{keys_of, lookup}
use Rattle.std.specs.Option.{option_or, option_to_list}
use Rattle.std.specs.Str.{bytes_eq}
use Rattle.wc_summary.specs.Entries.{EntriesView, IsChanged, IsPlace, Lists, parts_of, with_types}
use Rattle.wc_ways.specs.Private.Notes.{NotesTyped}
use Rattle.wc_summary.specs.Summary.{PartsView}
use Rattle.wc_validate.proofs.FirstByKeyLemmas.{or_none}
use Rattle.wc_summary.proofs.TagLemmas.{lists_more, lists_none}
use Rattle.wc_ways.proofs.NeedLemmas.{or_first}

-- ---- interfaces that are listed, some after others

-- ---- types

abbrev typed_at : (ℕ → Option (List ℕ)) → List (List ℕ × ℕ) → List ℕ → Option (Option (List ℕ))
typed_at user_of typed interface = option_map (user_of) (lookup (bytes_eq interface) typed)

abbrev typed_of : PartsView → Option (Option (List ℕ)) → PartsView
typed_of p types = record { main = p.main; adapters = p.adapters; types = types }

types_none : (p : PartsView) → p ≡ with_types None p
types_none p = ap (typed_of p) (sym (or_none p.types))

types_both : (p : PartsView) (x y : Option (Option (List ℕ))) → with_types y (with_types x p) ≡ with_types (option_or x y) p
types_both p x y = ap (typed_of p) (or_first p.types x y)

typed_there : (user_of : ℕ → Option (List ℕ)) (b : Bool) (i : ℕ) (xs ys : List (List ℕ × ℕ)) (interface : List ℕ)
    → typed_at user_of (xs ++ ys) interface ≡ option_or (typed_at user_of xs interface) (typed_at user_of ys interface)
    → option_map (user_of) (cond b (Some i) (lookup (bytes_eq interface) (xs ++ ys)))
    ≡ option_or (option_map (user_of) (cond b (Some i) (lookup (bytes_eq interface) xs))) (typed_at user_of ys interface)
typed_there user_of true i xs ys interface h = refl
typed_there user_of false i xs ys interface h = h

typed_append : (user_of : ℕ → Option (List ℕ)) (xs ys : List (List ℕ × ℕ)) (interface : List ℕ)
    → typed_at user_of (xs ++ ys) interface ≡ option_or (typed_at user_of xs interface) (typed_at user_of ys interface)
typed_append user_of [] ys interface = refl
typed_append user_of (x ∷ xs) ys interface = typed_there user_of (bytes_eq interface x.0) x.1 xs ys interface (typed_append user_of xs ys interface)

pub typed_none : (user_of : ℕ → Option (List ℕ)) (es : EntriesView) → NotesTyped user_of [] es es
typed_none user_of es = record { listed = lists_none es; each = λ interface. types_none (parts_of es interface) }

pub typed_both : (user_of : ℕ → Option (List ℕ)) (xs ys : List (List ℕ × ℕ)) (a b c : EntriesView) → NotesTyped user_of xs a b → NotesTyped user_of ys b c → NotesTyped user_of (xs ++ ys) a c
typed_both user_of xs ys a b c p q = record {
  listed = subst (Lists a c) (sym (map-append (λ (t : List ℕ × ℕ). t.0) xs ys)) (lists_more a b c (keys_of xs) (keys_of ys) p.listed q.listed);
  each = λ interface. q.each interface ∙ (ap (with_types (typed_at user_of ys interface)) (p.each interface)
      ∙ (types_both (parts_of a interface) (typed_at user_of xs interface) (typed_at user_of ys interface)
      ∙ ap (λ t. with_types t (parts_of a interface)) (sym (typed_append user_of xs ys interface))));
}

typed_choice : (b : Bool) (user_of : ℕ → Option (List ℕ)) (i : ℕ) (user : Option (List ℕ)) (p : PartsView) → user ≡ user_of i
    → cond b (with_types (Some user) p) p ≡ with_types (option_map (user_of) (cond b (Some i) None)) p
typed_choice true user_of i user p is = ap (λ (u : Option (List ℕ)). with_types (Some u) p) is
typed_choice false user_of i user p is = types_none p

pub typed_one : (user_of : ℕ → Option (List ℕ)) (name : List ℕ) (i : ℕ) (user : Option (List ℕ)) (place : ℕ) (old mid new : EntriesView) → IsPlace name place old mid
    → IsChanged (with_types (Some user)) place mid new → user ≡ user_of i → NotesTyped user_of ((name, i) ∷ []) old new
typed_one user_of name i user place old mid new p q is = record {
  listed = λ before h. q.listed ∙ p.listed before h;
  each = λ interface. q.each name interface p.at
      ∙ (ap (λ (z : PartsView). cond (bytes_eq interface name) (with_types (Some user) z) z) (p.same interface)
      ∙ typed_choice (bytes_eq interface name) user_of i user (parts_of old interface) is);
}

-- a loop: some are noted

listed_first : {Y : Type 0} (y : Option Y) (ys zs all : List Y) → all ≡ ys ++ zs → cons_option y all ≡ cons_option y ys ++ zs
listed_first None ys zs all h = h
listed_first (Some y) ys zs all h = ap (λ z. y ∷ z) h

listed_one : {Y : Type 0} (y : Option Y) → cons_option y [] ≡ option_to_list y
listed_one None = refl
listed_one (Some y) = refl

pub listed_more : {X Y : Type 0} (f : X → Option Y) (xs : List X) (x : X) → filter_map f (xs ++ x ∷ []) ≡ filter_map f xs ++ option_to_list (f x)
listed_more f [] x = listed_one (f x)
listed_more f (y ∷ ys) x = listed_first (f y) (filter_map f ys) (option_to_list (f x)) (filter_map f (ys ++ x ∷ [])) (listed_more f ys x)

pub record TypedLeft {X : Type 0} (f : X → Option (List ℕ × ℕ)) (user_of : ℕ → Option (List ℕ)) (all left : List X) (old now : EntriesView) : Type 0 where
  pub front : List X
  pub split : front ++ left ≡ all
  pub notes : NotesTyped user_of (filter_map f front) old now

module _ {X : Type 0} (f : X → Option (List ℕ × ℕ)) (user_of : ℕ → Option (List ℕ)) (all : List X) (old : EntriesView) where
  pub typed_start : (left : List X) → left ≡ all → TypedLeft f user_of all left old old
  typed_start left is = record { front = []; split = is; notes = typed_none user_of old }

  pub typed_next : (left rest : List X) (x : X) (now new : EntriesView) → left ≡ x ∷ rest → NotesTyped user_of (option_to_list (f x)) now new
      → TypedLeft f user_of all left old now → TypedLeft f user_of all rest old new
  typed_next left rest x now new is more h = record {
    front = h.front ++ x ∷ [];
    split = append_assoc h.front (x ∷ []) rest ∙ (ap (λ (z : List X). h.front ++ z) (sym is) ∙ h.split);
    notes = subst (λ (z : List (List ℕ × ℕ)). NotesTyped user_of z old new) (sym (listed_more f h.front x))
        (typed_both user_of (filter_map f h.front) (option_to_list (f x)) old now new h.notes more);
  }

  pub typed_end : (left : List X) (now : EntriesView) → left ≡ [] → TypedLeft f user_of all left old now → NotesTyped user_of (filter_map f all) old now
  typed_end left now none h =
      subst (λ (z : List X). NotesTyped user_of (filter_map f z) old now) (sym (append-nil h.front) ∙ (ap (λ (z : List X). h.front ++ z) (sym none) ∙ h.split)) h.notes
