-- Interfaces of imports, and their places, one after another.
use Rattle.std.proofs.Common.{◌≡◌, ℕ, suc, ◌+◌, ◌-◌, ◌^◌, ◌<◌, ◌≤◌, Bool, true, false, List, [], ◌∷◌, ◌++◌, take, map, length, get_or, set, refl, sym, ◌∙◌, ap, subst, append_assoc, append-nil, inl, inr, arith, Option, Some, None}
use Rattle.std.specs.Prelude.{cond, count_by, nat_eq, String}
use Rattle.std.specs.declared.alloc.Global.{Global}
use Rattle.std.specs.List.{slice_get}
use Rattle.std.specs.Option.{option_eq}
use Rattle.std.proofs.lemmas.Bool.Decides.{eqb_tells}
use Rattle.std.proofs.lemmas.List.{get_or-set_same, get_or-set_other, get_or-map, length-map, length-set, length-take-le, map-append, take_more}
use Rattle.std.proofs.lemmas.List.Elements.{filter_map-append}
use Rattle.std.proofs.lemmas.List.Sums.{count_by-le-length, count_by_more_no, count_by_more_yes}
use Rattle.std.proofs.lemmas.Option.{slice_get-get_or, slice_get_within}
use Rattle.wc_texts.specs.Names.{first_occurrences}
use Rattle.wc_graph.specs.Positions.{AreBelow}
use Rattle.wc_graph.proofs.ChainTreeLemmas.{push_cases}
use Rattle.wc_summary.specs.Leads.{Tags, named_in, tag_view, tags_view}
use Rattle.wc_summary.specs.Entries.{EntriesView, IsPlace, Lists, interfaces_of}
use Rattle.wc_summary.specs.Private.Tags.{AreListed, AreTagsPlaced, IsCounted, IsTagPlaced, count_place, tag_at}

-- ---- what is listed one after another

pub lists_none : (entries : EntriesView) → Lists entries entries []
lists_none entries before e = e ∙ ap first_occurrences (sym (append-nil before))

pub lists_more : (a b c : EntriesView) (xs ys : List (List ℕ)) → Lists a b xs → Lists b c ys → Lists a c (xs ++ ys)
lists_more a b c xs ys f g before e = g (before ++ xs) (f before e) ∙ ap first_occurrences (append_assoc before xs ys)

pub listed_none : (entries : EntriesView) → AreListed [] entries entries
listed_none entries = record { listed = lists_none entries; grown = λ k name e. e; same = λ name. refl }

pub listed_more : (a b c : EntriesView) (xs ys : List (List ℕ)) → AreListed xs a b → AreListed ys b c → AreListed (xs ++ ys) a c
listed_more a b c xs ys f g = record {
  listed = lists_more a b c xs ys f.listed g.listed;
  grown = λ k name e. g.grown k name (f.grown k name e);
  same = λ name. g.same name ∙ f.same name;
}

-- ---- an interface at a place

pub tag_placed : (name : List ℕ) (place : ℕ) (old new : EntriesView) → IsPlace name place old new → IsTagPlaced (Some name) (Some place) old new
tag_placed name place old new p = record {
  listed = record { listed = p.listed; grown = p.grown; same = p.same };
  below = λ u e. subst (λ (k : ℕ). k < length (interfaces_of new)) (let same : place ≡ u = cc e in same) (slice_get_within (interfaces_of new) place name p.at);
  at = p.at;
}

pub none_placed : (entries : EntriesView) → IsTagPlaced None None entries entries
none_placed entries = record {
  listed = listed_none entries;
  below = λ u e. absurd (let bad : None ≡ Some u = e in cc bad);
  at = refl;
}

-- ---- places of all

below_rest : (n : ℕ) (place : Option ℕ) (places : List (Option ℕ)) → AreBelow n (place ∷ places) → AreBelow n places
below_rest n place places b p x e = b (suc p) x e

tag_grown : (old new : List (List ℕ)) (place : Option ℕ) → ((u : ℕ) → place ≡ Some u → u < length old)
    → ((k : ℕ) (name : List ℕ) → slice_get old k ≡ Some name → slice_get new k ≡ Some name) → tag_at new place ≡ tag_at old place
tag_grown old new None within grown = refl
tag_grown old new (Some u) within grown =
    let h : slice_get old u ≡ Some (get_or old u []) = slice_get-get_or old u [] (within u refl) in grown u (get_or old u []) h ∙ sym h

tags_grown : (old new : List (List ℕ)) (places : List (Option ℕ)) → AreBelow (length old) places
    → ((k : ℕ) (name : List ℕ) → slice_get old k ≡ Some name → slice_get new k ≡ Some name) → map (tag_at new) places ≡ map (tag_at old) places
tags_grown old new [] b grown = refl
tags_grown old new (place ∷ places) b grown =
    ap (λ (t : Option (List ℕ)). t ∷ map (tag_at new) places) (tag_grown old new place (λ u e. b 0 u (ap Some e)) grown)
    ∙ ap (λ (ts : Tags). tag_at old place ∷ ts) (tags_grown old new places (below_rest (length old) place places b) grown)

grown_length : (old new : List (List ℕ)) → ((k : ℕ) (name : List ℕ) → slice_get old k ≡ Some name → slice_get new k ≡ Some name) → (u : ℕ) → u < length old → u < length new
grown_length old new grown u h = slice_get_within new u (get_or old u []) (grown u (get_or old u []) (slice_get-get_or old u [] h))

pub placed_none : (entries : EntriesView) → AreTagsPlaced [] [] entries entries
placed_none entries = record {
  listed = listed_none entries;
  at = record { below = λ p x e. absurd (let w = slice_get_within [] p (Some x) e in omega (arith, w)); are = refl };
}

pub placed_next : (tags : Tags) (i : ℕ) (tag : Option (List ℕ)) (at : Option ℕ) (places : List (Option ℕ)) (a b c : EntriesView) → i < length tags
    → get_or tags i tag ≡ tag → AreTagsPlaced (take i tags) places a b → IsTagPlaced tag at b c → AreTagsPlaced (take (i + 1) tags) (places ++ at ∷ []) a c
placed_next tags i tag at places a b c within is f g = record {
  listed = subst (λ (z : List (List ℕ)). AreListed z a c)
      (sym (ap named_in more ∙ filter_map-append (λ (t : Option (List ℕ)). t) (take i tags) (tag ∷ [])))
      (listed_more a b c (named_in (take i tags)) (named_in (tag ∷ [])) f.listed g.listed);
  at = record {
    below = λ p x e. elim (push_cases places at p (Some x) e) [
      | inl before ↦ grown_length (interfaces_of b) (interfaces_of c) g.listed.grown x (f.at.below p x before)
      | inr last ↦ g.below x (sym last.1)
    ];
    are = map-append (tag_at (interfaces_of c)) places (at ∷ [])
        ∙ (ap (λ (z : Tags). z ++ tag_at (interfaces_of c) at ∷ []) (tags_grown (interfaces_of b) (interfaces_of c) places f.at.below g.listed.grown ∙ f.at.are)
        ∙ (ap (λ (t : Option (List ℕ)). take i tags ++ t ∷ []) g.at ∙ sym more));
  };
}
  where
    more : take (i + 1) tags ≡ take i tags ++ tag ∷ []
    more = take_more tags i tag within ∙ ap (λ (t : Option (List ℕ)). take i tags ++ t ∷ []) is

-- ---- how often places are there

pub counted_some : (place : Option ℕ) (i : ℕ) (old new : List ℕ) → place ≡ Some i → i < length old → new ≡ set old i (get_or old i 0 + 1) → IsCounted place old new
counted_some place i old new is within e = record {
  sized = ap length e ∙ length-set old i (get_or old i 0 + 1);
  at = λ u h. elim (eqb_tells u i) [
    | inl same ↦
        let here : get_or new u 0 ≡ get_or old u 0 + 1 =
        ap (λ (z : List ℕ). get_or z u 0) e ∙ (ap (λ (k : ℕ). get_or (set old i (get_or old i 0 + 1)) k 0) same.1
        ∙ (get_or-set_same old i (get_or old i 0 + 1) 0 within ∙ ap (λ (k : ℕ). get_or old k 0 + 1) (sym same.1))) in
        here ∙ ap (λ (b : Bool). get_or old u 0 + cond b 1 0) (sym (ap (option_eq nat_eq (Some u)) is ∙ same.0))
    | inr other ↦
        let here : get_or new u 0 ≡ get_or old u 0 = ap (λ (z : List ℕ). get_or z u 0) e ∙ get_or-set_other old i u (get_or old i 0 + 1) 0 other.1 in
        let none : get_or old u 0 ≡ get_or old u 0 + 0 = omega arith in
        here ∙ (none ∙ ap (λ (b : Bool). get_or old u 0 + cond b 1 0) (sym (ap (option_eq nat_eq (Some u)) is ∙ other.0)))
  ];
}

pub counted_none : (place : Option ℕ) (old : List ℕ) → place ≡ None → IsCounted place old old
counted_none place old is = record {
  sized = refl;
  at = λ u h. let none : get_or old u 0 ≡ get_or old u 0 + 0 = omega arith in
      none ∙ ap (λ (b : Bool). get_or old u 0 + cond b 1 0) (sym (ap (option_eq nat_eq (Some u)) is));
}

pub record ArePlacesCountedTo (places : List (Option ℕ)) (count next : ℕ) (counts : List ℕ) : Type 0 where
  pub each : length counts ≡ count
  pub at : (u : ℕ) → u < count → get_or counts u 0 ≡ count_place (take next places) u

count_more : (places : List (Option ℕ)) (next u old new : ℕ) (d : Option ℕ) → next < length places → old ≡ count_place (take next places) u → (b : Bool)
    → option_eq nat_eq (Some u) (get_or places next d) ≡ b → new ≡ old + cond b 1 0 → new ≡ count_place (take (next + 1) places) u
count_more places next u old new d within e true is f =
    f ∙ (ap (λ (n : ℕ). n + 1) e ∙ sym (count_by_more_yes (option_eq nat_eq (Some u)) places next d within is))
count_more places next u old new d within e false is f =
    let none : old + 0 ≡ old = omega arith in
    f ∙ (none ∙ (e ∙ sym (count_by_more_no (option_eq nat_eq (Some u)) places next d within is)))

pub counts_next : (places : List (Option ℕ)) (count next : ℕ) (d : Option ℕ) (old new : List ℕ) → next < length places → ArePlacesCountedTo places count next old
    → IsCounted (get_or places next d) old new → ArePlacesCountedTo places count (next + 1) new
counts_next places count next d old new within a c = record {
  each = c.sized ∙ a.each;
  at = λ u h. count_more places next u (get_or old u 0) (get_or new u 0) d within (a.at u h) (option_eq nat_eq (Some u) (get_or places next d)) refl
      (c.at u (let e = a.each in omega (arith, e, h)));
}

pub counts_fit : (places : List (Option ℕ)) (count next : ℕ) (counts : List ℕ) → next + 1 < 2 ^ 64 → next ≤ length places → ArePlacesCountedTo places count next counts
    → (u : ℕ) → u < count → get_or counts u 0 < 2 ^ 64 - 1
counts_fit places count next counts fits most a u h =
    let e = a.at u h in
    let n = count_by-le-length (option_eq nat_eq (Some u)) (take next places) in
    let l : length (take next places) ≡ next = length-take-le next places most in
    omega (arith, e, n, l, fits)

-- ---- views of interfaces, one after another

pub placed_more : (tags : List (Option (String Global))) (i : ℕ) (tag : Option (String Global)) (at : Option ℕ) (places : List (Option ℕ)) (a b c : EntriesView)
    → i < length tags → get_or tags i tag ≡ tag → AreTagsPlaced (take i (tags_view tags)) places a b → IsTagPlaced (tag_view tag) at b c
    → AreTagsPlaced (take (i + 1) (tags_view tags)) (places ++ at ∷ []) a c
placed_more tags i tag at places a b c within is f g =
    let l = length-map tags tag_view in
    placed_next (tags_view tags) i (tag_view tag) at places a b c (omega (arith, within, l))
    (get_or-map tag_view tags i tag (tag_view tag) within ∙ ap tag_view is) f g

module _ {X : Type 0} (f : X → Option (List ℕ)) where
  pub tags_more : (old new : List (Option (String Global))) (t : Option (String Global)) (left rest : List X) (x : X) (all : Tags) → left ≡ x ∷ rest → tag_view t ≡ f x
      → new ≡ old ++ t ∷ [] → tags_view old ++ map f left ≡ all → tags_view new ++ map f rest ≡ all
  tags_more old new t left rest x all next is put made =
      ap (λ (z : List (Option (String Global))). tags_view z ++ map f rest) put
      ∙ (ap (λ (z : Tags). z ++ map f rest) (map-append tag_view old (t ∷ []))
      ∙ (append_assoc (tags_view old) (tag_view t ∷ []) (map f rest)
      ∙ (ap (λ (z : Option (List ℕ)). tags_view old ++ z ∷ map f rest) is
      ∙ (ap (λ (z : List X). tags_view old ++ map f z) (sym next) ∙ made))))

  pub tags_all : (now : List (Option (String Global))) (left : List X) (all : Tags) → left ≡ [] → tags_view now ++ map f left ≡ all → tags_view now ≡ all
  tags_all now left all none made = sym (append-nil (tags_view now)) ∙ (ap (λ (z : List X). tags_view now ++ map f z) (sym none) ∙ made)
