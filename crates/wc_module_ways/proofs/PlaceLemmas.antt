-- The exports of modules that serve functions, when they are put one after another.
use Rattle.std.proofs.Common.{◌≡◌, ℕ, ◌+◌, ◌<◌, Bool, true, false, cond, List, [], length, map, get_or, Some, None, refl, sym, ◌∙◌, ap, subst, inl, inr, arith}
use Rattle.std.proofs.lemmas.Bool.{and_from, and_parts, cases_lt}
use Rattle.std.proofs.lemmas.Option.{same_Some, slice_get_within}
use Rattle.std.proofs.lemmas.Slice.Eq.{bytes_eq-Decides}
use Rattle.std.specs.List.{slice_get}
use Rattle.std.specs.Map.{lookup}
use Rattle.std.specs.Prelude.{◌&&◌, ◌⊎◌}
use Rattle.std.specs.Str.{bytes_eq}
use Rattle.wc_read.specs.Exports.{ExportValue, export_value}
use Rattle.wc_read.specs.declared.exports.Export.{Export}
use Rattle.wc_paths.specs.Items.{CountsValue, has_item}
use Rattle.wc_paths.specs.Numbers.{number_of}
use Rattle.wc_paths.specs.Roots.{export_item}
use Rattle.wc_paths.specs.declared.items.PathItem.{PathItem}
use Rattle.wc_import_paths.proofs.ShownLemmas.{at_view}
use Rattle.wc_module_ways.specs.Servers.{ServerView}
use Rattle.wc_module_ways.specs.Private.Places.{ArePlaces, HasPlacesTo, IsNamedSo, IsPassed, IsPlace, Key, Places, is_key}
use Rattle.wc_module_ways.specs.Private.Servers.{server_by}

pub no_places : (servers : List ServerView) (entries : Places) → entries ≡ [] → HasPlacesTo servers 0 0 entries
no_places servers entries none = record {
  there = λ q place e. let bad : None ≡ Some place = sym (ap (lookup (is_key q)) none) ∙ e in absurd cc;
  missing = λ q e index position a x passed at is named. absurd (nothing index position passed);
}
  where
    nothing : (index position : ℕ) → IsPassed 0 0 index position → ⊥
    nothing index position (inl lt) = omega (arith, lt)
    nothing index position (inr h) = let lt = h.1 in omega (arith, lt)

-- one was put under these names
abbrev PutsNamed : List ℕ → List ℕ → ℕ → PathItem → CountsValue → Places → Places → Type 0
PutsNamed from name index x c old new =
    (q : Key) → lookup (is_key q) new
    ≡ cond (has_item c x && (bytes_eq from q.0.now && bytes_eq name q.1.now)) (Some (index + 1, number_of c x)) (lookup (is_key q) old)

-- one export more of a module
module _ (servers : List ServerView) (n m : ℕ) (a : ServerView) (at : slice_get servers n ≡ Some a) (x : ExportValue)
    (is : slice_get a.exports m ≡ Some x) (old : Places) (h : HasPlacesTo servers n m old) (text : List ℕ) (from : text ≡ a.name)
  where
    abbrev is_it : Key → Bool
    is_it q = bytes_eq text q.0.now && bytes_eq x.name q.1.now

    abbrev c : CountsValue
    c = a.counts

    abbrev place : ℕ × ℕ
    place = (n + 1, number_of c (export_item x))

    parts_of : (q : Key) → is_it q ≡ true → (text ≡ q.0.now) × (x.name ≡ q.1.now)
    parts_of q same =
        let parts = and_parts (bytes_eq text q.0.now) (bytes_eq x.name q.1.now) same in
        ((bytes_eq-Decides text q.0.now).0 parts.0, (bytes_eq-Decides x.name q.1.now).0 parts.1)

    earlier : (index position : ℕ) → IsPassed n (m + 1) index position → IsPassed n m index position ⊎ ((index ≡ n) × (position ≡ m))
    earlier index position (inl lt) = inl (inl lt)
    earlier index position (inr (same, lt)) = elim (cases_lt position m) [
      | inl less ↦ inl (inr (same, less))
      | inr more ↦ inr (same, omega (arith, lt, more))
    ]

    here_a : (index : ℕ) (b : ServerView) → index ≡ n → slice_get servers index ≡ Some b → a ≡ b
    here_a index b same there = same_Some a b (sym at ∙ subst (λ k. slice_get servers k ≡ Some b) same there)

    here_x : (position : ℕ) (b : ServerView) (y : ExportValue) → a ≡ b → position ≡ m → slice_get b.exports position ≡ Some y → x ≡ y
    here_x position b y one same there =
        same_Some x y (sym is ∙ (ap (λ (z : ServerView). slice_get z.exports m) one ∙ subst (λ k. slice_get b.exports k ≡ Some y) same there))

    module _ (new : Places) (put : PutsNamed text x.name n (export_item x) c old new) where
      there_at : (has : Bool) → has_item c (export_item x) ≡ has → (q : Key) (p : ℕ × ℕ) (b : Bool) → is_it q ≡ b
          → cond (has && b) (Some place) (lookup (is_key q) old) ≡ Some p → IsPlace servers q.0.now q.1.now p
      there_at true has q p true same e =
          let both = parts_of q same in
          subst (IsPlace servers q.0.now q.1.now) (same_Some place p e)
          (record {
            index = n;
            server = a;
            is_server = at;
            position = m;
            export = x;
            is_export = is;
            named = (sym from ∙ both.0, both.1, has);
            part = refl;
            item = refl;
          })
      there_at true has q p false same e = h.there q p e
      there_at false has q p b same e = h.there q p e

      missing_at : (has : Bool) → has_item c (export_item x) ≡ has → (q : Key) (b : Bool) → is_it q ≡ b
          → cond (has && b) (Some place) (lookup (is_key q) old) ≡ None → (index position : ℕ) (z : ServerView) (y : ExportValue)
          → IsPassed n (m + 1) index position → slice_get servers index ≡ Some z → slice_get z.exports position ≡ Some y → ¬ (IsNamedSo z y q.0.now q.1.now)
      missing_at has is_has q b same e index position z y passed there also named = elim (earlier index position passed) [
        | inl before ↦ h.missing q (none has b e) index position z y before there also named
        | inr here ↦
            let one = here_a index z here.0 there in
            let two = here_x position z y one here.1 also in
            let same_from : text ≡ q.0.now = from ∙ (ap (λ (w : ServerView). w.name) one ∙ named.0) in
            let same_name : x.name ≡ q.1.now = ap (λ (w : ExportValue). w.name) two ∙ named.1 in
            let has_it : has_item c (export_item x) ≡ true =
            (λ t. has_item ((one t).counts) (export_item (two t))) ∙ named.2 in
            taken has b e (sym is_has ∙ has_it)
            (sym same ∙ and_from (bytes_eq text q.0.now) (bytes_eq x.name q.1.now) ((bytes_eq-Decides text q.0.now).1 same_from)
            ((bytes_eq-Decides x.name q.1.now).1 same_name))
      ]
        where
          none : (has b : Bool) → cond (has && b) (Some place) (lookup (is_key q) old) ≡ None → lookup (is_key q) old ≡ None
          none true true f = let bad : Some place ≡ None = f in absurd cc
          none true false f = f
          none false b f = f

          taken : (has b : Bool) → cond (has && b) (Some place) (lookup (is_key q) old) ≡ None → has ≡ true → b ≡ true → ⊥
          taken true true f g k = let bad : Some place ≡ None = f in absurd cc
          taken true false f g k = absurd (let bad : false ≡ true = k in cc)
          taken false b f g k = absurd (let bad : false ≡ true = g in cc)

      pub place_put : HasPlacesTo servers n (m + 1) new
      place_put = record {
        there = λ q p e. there_at (has_item c (export_item x)) refl q p (is_it q) refl (sym (put q) ∙ e);
        missing = λ q e. missing_at (has_item c (export_item x)) refl q (is_it q) refl (sym (put q) ∙ e);
      }

-- all exports of a module
pub server_put : (servers : List ServerView) (n m : ℕ) (a : ServerView) → slice_get servers n ≡ Some a → m ≡ length a.exports → (entries : Places)
    → HasPlacesTo servers n m entries → HasPlacesTo servers (n + 1) 0 entries
server_put servers n m a at all entries h = record {
  there = h.there;
  missing = λ q e index position z y passed there also named. h.missing q e index position z y (within index position z y there also passed) there also named;
}
  where
    within : (index position : ℕ) (z : ServerView) (y : ExportValue) → slice_get servers index ≡ Some z → slice_get z.exports position ≡ Some y
        → IsPassed (n + 1) 0 index position → IsPassed n m index position
    within index position z y there also (inl lt) = elim (cases_lt index n) [
      | inl less ↦ inl less
      | inr more ↦
          let same : index ≡ n = omega (arith, lt, more) in
          let one : a ≡ z = same_Some a z (sym at ∙ subst (λ k. slice_get servers k ≡ Some z) same there) in
          let short = slice_get_within z.exports position y also in
          inr (same, subst (λ k. position < k) (ap (λ (w : ServerView). length w.exports) (sym one) ∙ sym all) short)
    ]
    within index position z y there also (inr h) = let lt = h.1 in absurd (omega (arith, lt))

-- the same of exports that are gone through
pub export_more : (servers : List ServerView) (n : ℕ) (name : List ℕ) (exports : List Export) (c : CountsValue)
    → slice_get servers n ≡ Some (server_by name (map export_value exports) c) → (k : ℕ) (d : Export) → k < length exports → (x : PathItem)
    → x ≡ export_item (export_value (get_or exports k d)) → (old : Places) → HasPlacesTo servers n k old → (new : Places)
    → PutsNamed name (get_or exports k d).name.now n x c old new → HasPlacesTo servers n (k + 1) new
export_more servers n name exports c at k d lt x same old h new put =
    let e = export_value (get_or exports k d) in
    place_put servers n k (server_by name (map export_value exports) c) at e (at_view export_value exports k d lt) old h name refl new
    (λ q. put q ∙ ap (λ z. cond (has_item c z && (bytes_eq name q.0.now && bytes_eq e.name q.1.now)) (Some (n + 1, number_of c z)) (lookup (is_key q) old)) same)

-- all modules
pub all_places : (servers : List ServerView) (n : ℕ) (entries : Places) → n ≡ length servers → HasPlacesTo servers n 0 entries → ArePlaces servers entries
all_places servers n entries all h = subst (λ k. HasPlacesTo servers k 0 entries) all h
