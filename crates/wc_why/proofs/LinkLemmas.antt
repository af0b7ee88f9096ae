-- What items are linked to, noted link after link.
use Rattle.std.proofs.Common.{◌≡◌, ◌≢◌, ℕ, ◌<◌, List, [], ◌∷◌, ◌++◌, length, map, replicate, set, get_or, Bool, true, false, ◌&&◌, cond, nat_eq, Option, Some, None, refl, sym, ◌∙◌, ap, subst, inl, inr, arith}
use Rattle.std.specs.Prelude.{filter}
use Rattle.std.specs.List.{slice_get}
use Rattle.std.specs.Option.{option_or}
use Rattle.std.proofs.lemmas.Bool.{cases_eq, eqb-true}
use Rattle.std.proofs.lemmas.Cmp.{nat_eq_equiv}
use Rattle.std.proofs.lemmas.List.{get_or-replicate, length-replicate, length-set}
use Rattle.std.proofs.lemmas.List.Elements.{filter-append}
use Rattle.std.proofs.lemmas.Option.{get_or_from_slice_get, same_Some, slice_get-get_or, slice_get_within}
use Rattle.wc_graph.proofs.ListLemmas.{get_set_other, set_same}
use Rattle.wc_why.specs.Graph.{has_item, is_link_of, links_in}
use Rattle.wc_why.specs.Part.{LinkView, PartView, link_view, part_view}
use Rattle.wc_why.specs.Private.Graph.{AreLinked, AreLinkedBy, IsLinkNoted, IsLinkedTo}
use Rattle.wc_why.specs.Private.Numbers.{AreNumbers, number_of, place_of, total}
use Rattle.wc_why.specs.declared.links.Linked.{Linked}
use Rattle.wc_why.specs.declared.part.Part.{Part}
use Rattle.wc_why.specs.declared.numbers.Numbers.{Numbers}
use Rattle.wc_why.proofs.NumberLemmas.{item_there, none_there, number_back, number_is, one_number}

both : (a b : Bool) → (a && b) ≡ true → (a ≡ true) × (b ≡ true)
both true b e = (refl, e)
both false b e = absurd cc

first_in : {A : Type 0} (xs ys : List A) → slice_get (xs ++ ys) 0 ≡ option_or (slice_get xs 0) (slice_get ys 0)
first_in [] ys = by (slice_get ys 0)
  where
    by : {A : Type 0} (o : Option A) → o ≡ option_or None o
    by None = refl
    by (Some x) = refl
first_in (x ∷ xs) ys = refl

module _ (parts : List PartView) (ls : List LinkView) (n : Numbers) (numbered : AreNumbers parts n) (old : List (Option Linked)) (a : AreLinkedBy parts ls n old) (k : LinkView) where
  abbrev pub p : ℕ → LinkView → Bool
  p x = is_link_of parts (place_of n x)

  more : (x : ℕ) → slice_get (filter (p x) (ls ++ k ∷ [])) 0 ≡ option_or (slice_get (filter (p x) ls) 0) (slice_get (filter (p x) (k ∷ [])) 0)
  more x = ap (λ zs. slice_get zs 0) (filter-append (p x) ls (k ∷ [])) ∙ first_in (filter (p x) ls) (filter (p x) (k ∷ []))

  last_one : (x : ℕ) (b : Bool) → p x k ≡ b → slice_get (filter (p x) (k ∷ [])) 0 ≡ cond b (Some k) None
  last_one x true e = ap (λ b. slice_get (cond b (k ∷ []) []) 0) e
  last_one x false e = ap (λ b. slice_get (cond b (k ∷ []) []) 0) e

  or_none : (o : Option LinkView) → o ≡ option_or o None
  or_none None = refl
  or_none (Some x) = refl

  -- the link is not of this item
  kept_at : (x : ℕ) (l : Option Linked) → p x k ≡ false → IsLinkedTo n (slice_get (filter (p x) ls) 0) l → IsLinkedTo n (slice_get (filter (p x) (ls ++ k ∷ [])) 0) l
  kept_at x l e i =
      subst (λ o. IsLinkedTo n o l)
      (or_none (slice_get (filter (p x) ls) 0)
      ∙ sym (more x ∙ ap (option_or (slice_get (filter (p x) ls) 0)) (last_one x false e))) i

  -- the item has a link already
  had_at : (x : ℕ) (l : Linked) → IsLinkedTo n (slice_get (filter (p x) ls) 0) (Some l) → IsLinkedTo n (slice_get (filter (p x) (ls ++ k ∷ [])) 0) (Some l)
  had_at x l (v, is, named, less, same) = (v, more x ∙ ap (λ o. option_or o (slice_get (filter (p x) (k ∷ [])) 0)) is, named, less, same)

  pub links_kept : ((x : ℕ) → x < total n → p x k ≡ false) → AreLinkedBy parts (ls ++ k ∷ []) n old
  links_kept none = record {
    each = a.each;
    at = λ x l e. kept_at x l (none x (let w = slice_get_within old x l e in let s = a.each in omega (arith, w, s))) (a.at x l e);
  }

  apart : (y x : ℕ) → p x k ≡ true → place_of n x ≡ (0, k.item)
  apart y x e =
      let (first, rest) = both (nat_eq (place_of n x).0 0) (nat_eq (place_of n x).1 k.item && has_item parts (k.part, k.linked)) e in
      let (second, there) = both (nat_eq (place_of n x).1 k.item) (has_item parts (k.part, k.linked)) rest in
      ap (λ (q : ℕ). (q, (place_of n x).1)) (eqb-true (place_of n x).0 0 first) ∙ ap (λ (m : ℕ). (0, m)) (eqb-true (place_of n x).1 k.item second)

  -- where an item is not there, the link is of none
  pub no_item : number_of n (0, k.item) ≡ None → (x : ℕ) → x < total n → p x k ≡ false
  no_item none x lt = by (p x k) refl
    where
      by : (b : Bool) → p x k ≡ b → p x k ≡ false
      by true e =
          let same = number_back parts n.starts.items n.owners.items numbered x lt in
          let gone : number_of n (place_of n x) ≡ None = subst (λ y. number_of n y ≡ None) (sym (apart 0 x e)) none in
          absurd (let eq : None ≡ Some x = sym gone ∙ same in cc)
      by false e = e

  pub no_linked : number_of n (k.part, k.linked) ≡ None → (x : ℕ) → x < total n → p x k ≡ false
  no_linked none x lt = by (p x k) refl
    where
      by : (b : Bool) → p x k ≡ b → p x k ≡ false
      by true e =
          let (first, rest) = both (nat_eq (place_of n x).0 0) (nat_eq (place_of n x).1 k.item && has_item parts (k.part, k.linked)) e in
          let (second, there) = both (nat_eq (place_of n x).1 k.item) (has_item parts (k.part, k.linked)) rest in
          let gone = none_there parts n.starts.items n.owners.items numbered (k.part, k.linked) none in
          absurd (let eq : true ≡ false = sym there ∙ gone in cc)
      by false e = e

  module _ (item number : ℕ) (from : number_of n (0, k.item) ≡ Some item) (to : number_of n (k.part, k.linked) ≡ Some number) where
    item_is : (item < total n) × (place_of n item ≡ (0, k.item))
    item_is = number_is parts n.starts.items n.owners.items numbered (0, k.item) item from

    linked_is : (number < total n) × (place_of n number ≡ (k.part, k.linked))
    linked_is = number_is parts n.starts.items n.owners.items numbered (k.part, k.linked) number to

    other : (x : ℕ) → x < total n → x ≢ item → p x k ≡ false
    other x lt differ = by (p x k) refl
      where
        by : (b : Bool) → p x k ≡ b → p x k ≡ false
        by true e = absurd (differ (one_number parts n.starts.items n.owners.items numbered x item lt item_is.0 (apart 0 x e ∙ sym item_is.1)))
        by false e = e

    own : p item k ≡ true
    own =
        let there : has_item parts (k.part, k.linked) ≡ true =
        subst (λ y. has_item parts y ≡ true) linked_is.1 (item_there parts n.starts.items n.owners.items numbered number linked_is.0) in
        subst (λ y. is_link_of parts y k ≡ true) (sym item_is.1)
        (ap (λ b. b && has_item parts (k.part, k.linked)) (nat_eq_equiv.refl k.item) ∙ there)

    pub links_had : (l : Linked) → slice_get old item ≡ Some (Some l) → AreLinkedBy parts (ls ++ k ∷ []) n old
    links_had l is = record {
      each = a.each;
      at = λ x o e. elim (cases_eq x item) [
        | inl same ↦
            let eq : o ≡ Some l = same_Some o (Some l) (sym e ∙ (ap (slice_get old) same ∙ is)) in
            subst (IsLinkedTo n (slice_get (filter (p x) (ls ++ k ∷ [])) 0)) (sym eq) (had_at x l (subst (IsLinkedTo n (slice_get (filter (p x) ls) 0)) eq (a.at x o e)))
        | inr differ ↦ kept_at x o (other x (let w = slice_get_within old x o e in let s = a.each in omega (arith, w, s)) differ) (a.at x o e)
      ];
    }

    module _ (o : Linked) (numbered_so : o.number ≡ number) (named_so : o.export.now ≡ k.export) (none : slice_get old item ≡ Some None) (new : List (Option Linked))
        (is : new ≡ set old item (Some o)) where
      none_before : slice_get (filter (p item) ls) 0 ≡ None
      none_before = a.at item None none

      put_at : IsLinkedTo n (slice_get (filter (p item) (ls ++ k ∷ [])) 0) (Some o)
      put_at = (
        k,
        more item ∙ (ap (λ z. option_or z (slice_get (filter (p item) (k ∷ [])) 0)) none_before ∙ last_one item true own),
        named_so,
        subst (λ z. z < total n) (sym numbered_so) linked_is.0,
        ap (place_of n) numbered_so ∙ linked_is.1,
      )

      pub links_put : AreLinkedBy parts (ls ++ k ∷ []) n new
      links_put = record {
        each = ap length is ∙ (length-set old item (Some o) ∙ a.each);
        at = λ x l e. elim (cases_eq x item) [
          | inl same ↦
              let within : item < length old = slice_get_within old item None none in
              let eq : l ≡ Some o = same_Some l (Some o) (sym e ∙ (ap (λ zs. slice_get zs x) is ∙ (ap (slice_get (set old item (Some o))) same ∙ set_same old item (Some o) within))) in
              subst (λ z. IsLinkedTo n (slice_get (filter (p z) (ls ++ k ∷ [])) 0) l) (sym same)
              (subst (IsLinkedTo n (slice_get (filter (p item) (ls ++ k ∷ [])) 0)) (sym eq) put_at)
          | inr differ ↦
              let before : slice_get old x ≡ Some l = sym (get_set_other old item x (Some o) differ) ∙ (sym (ap (λ zs. slice_get zs x) is) ∙ e) in
              kept_at x l (other x (let w = slice_get_within old x l before in let s = a.each in omega (arith, w, s)) differ) (a.at x l before)
        ];
      }

    pub links_noted : (o : Linked) → o.number ≡ number → o.export.now ≡ k.export → (new : List (Option Linked)) → IsLinkNoted item o old new
        → AreLinkedBy parts (ls ++ k ∷ []) n new
    links_noted o numbered_so named_so new noted = by (get_or old item None) refl
      where
        there : slice_get old item ≡ Some (get_or old item None)
        there = slice_get-get_or old item None (let s = a.each in let lt = item_is.0 in omega (arith, s, lt))

        by : (e : Option Linked) → get_or old item None ≡ e → AreLinkedBy parts (ls ++ k ∷ []) n new
        by None is = links_put o numbered_so named_so (there ∙ ap (λ z. Some z) is) new (noted.noted is)
        by (Some l) is = subst (AreLinkedBy parts (ls ++ k ∷ []) n) (sym (noted.kept l is)) (links_had l (there ∙ ap (λ z. Some z) is))

-- what the code makes of all links, and where there are none
pub linked_all : (parts : List PartView) (n : Numbers) (linked : List (Option Linked)) → AreLinkedBy parts (links_in parts) n linked → AreLinked parts n linked
linked_all parts n linked a x lt = a.at x (get_or linked x None) (slice_get-get_or linked x None (let e = a.each in omega (arith, e, lt)))

pub linked_none : (parts : List PartView) (n : Numbers) → links_in parts ≡ [] → AreLinked parts n []
linked_none parts n none x lt = ap (λ ls. slice_get (filter (is_link_of parts (place_of n x)) ls) 0) none

-- the links of the first part
pub links_first : (parts : List Part) (part : Part) → slice_get parts 0 ≡ Some part → map link_view part.links.items ≡ links_in (map part_view parts)
links_first [] part at = absurd (let bad : ⊥ = cc at in bad)
links_first (first ∷ parts) part at = ap (λ (p : Part). map link_view p.links.items) (sym (same_Some first part at))

-- nothing is linked yet
pub none_linked : (parts : List PartView) (n : Numbers) (linked : List (Option Linked)) → linked ≡ replicate (total n) None → AreLinkedBy parts [] n linked
none_linked parts n linked is = record {
  each = ap length is ∙ length-replicate (total n) None;
  at = λ x l e.
      let lt : x < total n = (let w = slice_get_within linked x l e in let s = ap length is ∙ length-replicate (total n) None in omega (arith, w, s)) in
      let same : l ≡ None =
      sym (get_or_from_slice_get linked x l None e) ∙ (ap (λ zs. get_or zs x None) is ∙ get_or-replicate (total n) x None None lt) in
      subst (IsLinkedTo n None) (sym same) refl;
}
