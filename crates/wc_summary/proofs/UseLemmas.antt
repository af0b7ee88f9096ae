-- Parts of adapters that are noted, one after another.
use Rattle.std.proofs.Common.{◌≡◌, ◌≢◌, ℕ, ◌+◌, ◌<◌, ◌≤◌, Bool, true, false, List, [], ◌∷◌, ◌++◌, take, map, length, get_or, refl, sym, ◌∙◌, ap, append-nil, subst, ◌⊎◌, inl, inr, arith, Option, Some, None}
use Rattle.std.specs.Prelude.{AllPairs, cond, filter, is_some, String, string_bytes}
use Rattle.std.specs.Map.{lookup}
use Rattle.std.specs.declared.alloc.Global.{Global}
use Rattle.std.specs.Option.{option_map, option_to_list}
use Rattle.std.specs.List.{filter_map, slice_get}
use Rattle.std.specs.Str.{bytes_eq}
use Rattle.std.proofs.lemmas.Bool.{cases_lt}
use Rattle.std.proofs.lemmas.List.{take_all, take_more}
use Rattle.std.proofs.lemmas.Option.{get_or_from_slice_get, same_Some, slice_get-get_or, slice_get-map, slice_get_within}
use Rattle.std.proofs.lemmas.List.Elements.{filter-append, filter_map-append}
use Rattle.std.proofs.lemmas.Slice.Eq.{bytes_eq-Decides}
use Rattle.wc_summary.specs.Summary.{AdapterPartView, PartsView}
use Rattle.wc_summary.specs.Entries.{EntriesView, IsChanged, IsPlace, Lists, parts_of}
use Rattle.wc_summary.specs.Private.Entries.{with_part}
use Rattle.wc_maps.proofs.LookupLemmas.{name_viewed}
use Rattle.wc_texts.specs.Names.{named_view}
use Rattle.wc_summary.specs.Private.Uses.{ArePushed, IsPushed}
use Rattle.wc_summary.proofs.TagLemmas.{lists_more, lists_none}

pub pushed_one : (interface : List ℕ) (place : ℕ) (p : AdapterPartView) (old mid new : EntriesView) → IsPlace interface place old mid → IsChanged (with_part p) place mid new
    → IsPushed interface p old new
pushed_one interface place p old mid new a c = record {
  listed = λ before e. c.listed ∙ a.listed before e;
  each = λ name. c.each interface name a.at
      ∙ ap (λ (z : PartsView). cond (bytes_eq name interface) (with_part p z) z) (a.same name);
}

module _ (part : ℕ → AdapterPartView) (all : List (List ℕ)) where
  -- so far those at positions before the next
  pub record AreSoFar (next : ℕ) (old new : EntriesView) : Type 0 where
    pub listed : Lists old new (take next all)
    pub each : (name : List ℕ) → (((u : ℕ) → u < next → slice_get all u ≢ Some name) × (parts_of new name ≡ parts_of old name))
        ⊎ ((u : ℕ) × (u < next) × (slice_get all u ≡ Some name) × (parts_of new name ≡ with_part (part u) (parts_of old name)))

  pub far_none : (entries : EntriesView) → AreSoFar 0 entries entries
  far_none entries = record { listed = lists_none entries; each = λ name. inl ((λ u h. absurd (omega (arith, h))), refl) }

  pub far_next : AllPairs (λ x y. x ≢ y) all → (next : ℕ) (interface : List ℕ) (p : AdapterPartView) (old now new : EntriesView) → next < length all
      → get_or all next interface ≡ interface → p ≡ part next → IsPushed interface p now new → AreSoFar next old now → AreSoFar (next + 1) old new
  far_next distinct next interface p old now new within is at h f = record {
    listed = subst (Lists old new) (sym (take_more all next interface within ∙ ap (λ (z : List ℕ). take next all ++ z ∷ []) is))
        (lists_more old now new (take next all) (interface ∷ []) f.listed h.listed);
    each = λ name. by name (f.each name) (bytes_eq name interface) refl;
  }
    where
      here : slice_get all next ≡ Some interface
      here = slice_get-get_or all next interface within ∙ ap Some is

      by : (name : List ℕ)
          → (((u : ℕ) → u < next → slice_get all u ≢ Some name) × (parts_of now name ≡ parts_of old name))
          ⊎ ((u : ℕ) × (u < next) × (slice_get all u ≡ Some name) × (parts_of now name ≡ with_part (part u) (parts_of old name)))
          → (b : Bool) → bytes_eq name interface ≡ b
          → (((u : ℕ) → u < next + 1 → slice_get all u ≢ Some name) × (parts_of new name ≡ parts_of old name))
          ⊎ ((u : ℕ) × (u < next + 1) × (slice_get all u ≡ Some name) × (parts_of new name ≡ with_part (part u) (parts_of old name)))
      by name (inl g) true e =
          let same : name ≡ interface = (bytes_eq-Decides name interface).0 e in
          inr (
            next,
            omega arith,
            here ∙ ap Some (sym same),
            h.each name ∙ (ap (λ (b : Bool). cond b (with_part p (parts_of now name)) (parts_of now name)) e
                ∙ (ap (λ (q : AdapterPartView). with_part q (parts_of now name)) at ∙ ap (with_part (part next)) g.1)),
          )
      by name (inr g) true e =
          let same : name ≡ interface = (bytes_eq-Decides name interface).0 e in
          let one : get_or all g.0 interface ≡ get_or all next interface = get_or_from_slice_get all g.0 name interface g.2 ∙ (same ∙ sym is) in
          absurd (distinct g.0 next interface g.1 within one)
      by name (inl g) false e = inl (
        (λ u l s. elim (cases_lt u next) [
          | inl less ↦ g.0 u less s
          | inr more ↦
              let k : u ≡ next = omega (arith, l, more) in
              let same : interface ≡ name = same_Some interface name (sym here ∙ (ap (slice_get all) (sym k) ∙ s)) in
              let bad : false ≡ true = sym e ∙ (bytes_eq-Decides name interface).1 (sym same) in absurd (cc bad)
        ]),
        h.each name ∙ (ap (λ (b : Bool). cond b (with_part p (parts_of now name)) (parts_of now name)) e ∙ g.1),
      )
      by name (inr g) false e =
          inr (g.0, (let l = g.1 in omega (arith, l)), g.2, h.each name ∙ (ap (λ (b : Bool). cond b (with_part p (parts_of now name)) (parts_of now name)) e ∙ g.3))

  pub far_all : (next : ℕ) (old new : EntriesView) → length all ≤ next → AreSoFar next old new → ArePushed part all old new
  far_all next old new over f = record {
    listed = subst (Lists old new) (take_all next all over) f.listed;
    each = λ name. elim (f.each name) [
      | inl g ↦ inl ((λ u s. g.0 u (let w = slice_get_within all u name s in omega (arith, w, over)) s), g.1)
      | inr g ↦ inr (g.0, g.2, g.3)
    ];
  }

-- ---- names at positions, one after another

pub none_noted : (p : List ℕ → Bool) (keys : List (String Global)) (k : ℕ) (old : List (List ℕ)) → slice_get keys k ≡ None
    → old ≡ old ++ filter p (option_to_list (slice_get (map string_bytes keys) k))
none_noted p keys k old e =
    sym (append-nil old) ∙ ap (λ (o : Option (List ℕ)). old ++ filter p (option_to_list o)) (sym (slice_get-map string_bytes keys k ∙ ap (option_map string_bytes) e))

pub one_listed : {A B : Type 0} (f : A → Option B) (x : A) (o : Option B) → f x ≡ o → filter_map f (x ∷ []) ≡ option_to_list (f x)
one_listed f x None e = rw e refl
one_listed f x (Some y) e = rw e refl

pub names_next : (p : List ℕ → Bool) (names : List (List ℕ)) (positions : List ℕ) (i : ℕ) (old new : List (List ℕ)) → i < length positions
    → old ≡ filter p (filter_map (slice_get names) (take i positions)) → new ≡ old ++ filter p (option_to_list (slice_get names (get_or positions i 0)))
    → new ≡ filter p (filter_map (slice_get names) (take (i + 1) positions))
names_next p names positions i old new h e put =
    let k = get_or positions i 0 in
    put ∙ (ap (λ (z : List (List ℕ)). z ++ filter p (option_to_list (slice_get names k))) e
    ∙ (sym (filter-append p (filter_map (slice_get names) (take i positions)) (option_to_list (slice_get names k)))
    ∙ ap (filter p) (ap (λ (z : List (List ℕ)). filter_map (slice_get names) (take i positions) ++ z) (sym (one_listed (slice_get names) k (slice_get names k) refl))
    ∙ (sym (filter_map-append (slice_get names) (take i positions) (k ∷ [])) ∙ ap (filter_map (slice_get names)) (sym (take_more positions i 0 h))))))

-- a name is there where it is among the names
pub same_there : {T : Type 0} (es : List (String Global × T)) (name : List ℕ)
    → is_some (lookup (λ k. bytes_eq name (string_bytes k)) es) ≡ is_some (lookup (bytes_eq name) (map named_view es))
same_there es name = sym (some_kept (lookup (λ k. bytes_eq name (string_bytes k)) es)) ∙ ap is_some (name_viewed (λ x. x) es name)
  where
    some_kept : {X : Type 0} (o : Option X) → is_some (option_map (λ x. x) o) ≡ is_some o
    some_kept None = refl
    some_kept (Some x) = refl
