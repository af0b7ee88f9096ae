-- The first roots of items, by numbers.
use Rattle.std.proofs.Common.{◌≡◌, ◌≢◌, ℕ, ◌+◌, ◌<◌, ◌≤◌, List, [], ◌∷◌, ◌++◌, length, map, take, drop, set, get_or, Bool, true, false, nat_lt, Option, Some, None, refl, sym, ◌∙◌, ap, subst, inl, inr, arith, ltb-true}
use Rattle.std.specs.List.{slice_get}
use Rattle.std.specs.Option.{option_map}
use Rattle.std.proofs.lemmas.Bool.{cases_eq, cases_lt, ltb-false}
use Rattle.std.proofs.lemmas.List.{length-set, take-append-drop, take-map}
use Rattle.std.proofs.lemmas.Option.{same_Some, slice_get-get_or, slice_get_within}
use Rattle.wc_graph.proofs.ChainTreeLemmas.{push_cases}
use Rattle.wc_graph.proofs.ListLemmas.{get_front, get_last, get_set_other, set_same}
use Rattle.wc_why.specs.Lists.{IsFirstRoot}
use Rattle.wc_why.specs.Part.{BeginView, PartView, begin_view}
use Rattle.wc_why.specs.Private.Numbers.{AreNumbers, number_of, place_of, total}
use Rattle.wc_why.specs.Private.Roots.{AreFirstsOf, AreFirstsTo, IsBeginNoted, IsFirstOf, IsRootNoted, is_before, is_less, list_at}
use Rattle.wc_why.specs.declared.numbers.Numbers.{Numbers}
use Rattle.wc_why.specs.declared.part.Begin.{Begin}
use Rattle.wc_why.proofs.ViewLemmas.{view_at, view_count, view_more}
use Rattle.wc_why.proofs.NumberLemmas.{number_back, number_is, one_number}

module _ (bs : List BeginView) (b : BeginView) where
  -- a root of another item changes nothing
  first_other : (item : ℕ) (o : Option ℕ) → b.item ≢ item → IsFirstOf bs item o → IsFirstOf (bs ++ b ∷ []) item o
  first_other item None other none = λ j c e is. elim (push_cases bs b j c e) [
    | inl before ↦ none j c before is
    | inr last ↦ other (ap (λ (v : BeginView). v.item) (sym last.1) ∙ is)
  ]
  first_other item (Some k) other (f, r) = (
    f,
    record {
      there = get_front bs (b ∷ []) k f r.there;
      has = r.has;
      first = λ j c e is. elim (push_cases bs b j c e) [
        | inl before ↦ r.first j c before is
        | inr last ↦ absurd (other (ap (λ (v : BeginView). v.item) (sym last.1) ∙ is))
      ];
    },
  )

  -- the first one with an item
  first_one : (item : ℕ) → b.item ≡ item → IsFirstOf bs item None → IsFirstOf (bs ++ b ∷ []) item (Some (length bs))
  first_one item has none = (
    b,
    record {
      there = get_last bs b;
      has = has;
      first = λ j c e is. elim (push_cases bs b j c e) [
        | inl before ↦ absurd (none j c before is)
        | inr last ↦ let e = last.0 in inr (ap (λ (v : BeginView). v.list) (sym last.1), omega (arith, e))
      ];
    },
  )

  -- one of an earlier list
  first_now : (item k : ℕ) (f : BeginView) → b.item ≡ item → IsFirstRoot bs item k f → b.list < f.list → IsFirstOf (bs ++ b ∷ []) item (Some (length bs))
  first_now item k f has r less = (
    b,
    record {
      there = get_last bs b;
      has = has;
      first = λ j c e is. elim (push_cases bs b j c e) [
        | inl before ↦ elim (r.first j c before is) [
          | inl lt ↦ inl (omega (arith, less, lt))
          | inr same ↦ let q = same.0 in inl (omega (arith, less, q))
        ]
        | inr last ↦ let e = last.0 in inr (ap (λ (v : BeginView). v.list) (sym last.1), omega (arith, e))
      ];
    },
  )

  -- one of no earlier list
  first_still : (item k : ℕ) (f : BeginView) → IsFirstRoot bs item k f → f.list ≤ b.list → IsFirstOf (bs ++ b ∷ []) item (Some k)
  first_still item k f r le = (
    f,
    record {
      there = get_front bs (b ∷ []) k f r.there;
      has = r.has;
      first = λ j c e is. elim (push_cases bs b j c e) [
        | inl before ↦ r.first j c before is
        | inr last ↦
            let at = last.0 in
            let same : c.list ≡ b.list = ap (λ (v : BeginView). v.list) last.1 in
            let within = slice_get_within bs k f r.there in
            elim (cases_lt f.list b.list) [
              | inl lt ↦ inl (omega (arith, lt, same))
              | inr past ↦ inr (omega (arith, le, past, same), omega (arith, at, within))
            ]
      ];
    },
  )

-- where paths begin in a part, one after another
module _ (parts : List PartView) (n : Numbers) (numbered : AreNumbers parts n) (p : ℕ) (bs : List BeginView) (b : BeginView) (first old : List (Option ℕ))
    (a : AreFirstsOf n p bs first old) (sized : length first ≡ total n) where
  pub firsts_none : number_of n (p, b.item) ≡ None → AreFirstsOf n p (bs ++ b ∷ []) first old
  firsts_none none = record {
    each = a.each;
    own = λ x o is at. first_other bs b (place_of n x).1 o (λ e.
        let lt : x < total n = let w = slice_get_within old x o at in let s = a.each in omega (arith, w, s, sized) in
        let back = number_back parts n.starts.items n.owners.items numbered x lt in
        let same : place_of n x ≡ (p, b.item) = ap (λ (q : ℕ). (q, (place_of n x).1)) is ∙ ap (λ (m : ℕ). (p, m)) (sym e) in
        let eq : None ≡ Some x = sym none ∙ (ap (number_of n) (sym same) ∙ back) in cc) (a.own x o is at);
    others = a.others;
  }

  module _ (x : ℕ) (is : number_of n (p, b.item) ≡ Some x) where
    number_at : (x < total n) × (place_of n x ≡ (p, b.item))
    number_at = number_is parts n.starts.items n.owners.items numbered (p, b.item) x is

    owner : (place_of n x).0 ≡ p
    owner = ap (λ (y : ℕ × ℕ). y.0) number_at.1

    item : (place_of n x).1 ≡ b.item
    item = ap (λ (y : ℕ × ℕ). y.1) number_at.1

    apart : (z : ℕ) (o : Option ℕ) (new : List (Option ℕ)) → length new ≡ length first → (place_of n z).0 ≡ p → slice_get new z ≡ Some o → z ≢ x → b.item ≢ (place_of n z).1
    apart z o new len of at other e =
        let lt : z < total n = let w = slice_get_within new z o at in omega (arith, w, len, sized) in
        other (one_number parts n.starts.items n.owners.items numbered z x lt number_at.0
        (ap (λ (q : ℕ). (q, (place_of n z).1)) of ∙ (ap (λ (m : ℕ). (p, m)) (sym e) ∙ sym number_at.1)))

    within : x < length old
    within = let s = a.each in let lt = number_at.0 in omega (arith, s, sized, lt)

    old_at : (o : Option ℕ) → slice_get old x ≡ Some o → IsFirstOf bs b.item o
    old_at o at = subst (λ m. IsFirstOf bs m o) item (a.own x o owner at)

    -- it is the first now
    pub firsts_now : (o : Option ℕ) (new : List (Option ℕ)) → slice_get old x ≡ Some o → is_before (bs ++ b ∷ []) (length bs) o ≡ true → new ≡ set old x (Some (length bs))
        → AreFirstsOf n p (bs ++ b ∷ []) first new
    firsts_now o new at before are = record {
      each = ap length are ∙ (length-set old x (Some (length bs)) ∙ a.each);
      own = λ z v of here. elim (cases_eq z x) [
        | inl same ↦
            let eq : v ≡ Some (length bs) = same_Some v (Some (length bs)) (sym here ∙ (ap (λ l. slice_get l z) are ∙ (ap (slice_get (set old x (Some (length bs)))) same ∙ set_same old x (Some (length bs)) within))) in
            subst (λ w. IsFirstOf (bs ++ b ∷ []) (place_of n w).1 v) (sym same)
            (subst (IsFirstOf (bs ++ b ∷ []) (place_of n x).1) (sym eq) (by o (old_at o at) before))
        | inr other ↦
            let was : slice_get old z ≡ Some v = sym (get_set_other old x z (Some (length bs)) other) ∙ (sym (ap (λ l. slice_get l z) are) ∙ here) in
            first_other bs b (place_of n z).1 v (apart z v old a.each of was other) (a.own z v of was)
      ];
      others = λ z other.
          ap (λ l. slice_get l z) are
          ∙ (get_set_other old x z (Some (length bs)) (λ e. other (ap (λ w. (place_of n w).0) e ∙ owner)) ∙ a.others z other);
    }
      where
        by : (o : Option ℕ) → IsFirstOf bs b.item o → is_before (bs ++ b ∷ []) (length bs) o ≡ true → IsFirstOf (bs ++ b ∷ []) (place_of n x).1 (Some (length bs))
        by None f t = subst (λ m. IsFirstOf (bs ++ b ∷ []) m (Some (length bs))) (sym item) (first_one bs b b.item refl f)
        by (Some k) (f, r) t =
            let less : b.list < f.list = ltb-true b.list f.list (sym (told k f r) ∙ t) in
            subst (λ m. IsFirstOf (bs ++ b ∷ []) m (Some (length bs))) (sym item) (first_now bs b b.item k f refl r less)
          where
            told : (k : ℕ) (f : BeginView) → IsFirstRoot bs b.item k f → is_before (bs ++ b ∷ []) (length bs) (Some k) ≡ nat_lt b.list f.list
            told k f r = rw (get_last bs b, get_front bs (b ∷ []) k f r.there) refl

    -- it is not
    pub firsts_still : (o : Option ℕ) → slice_get old x ≡ Some o → is_before (bs ++ b ∷ []) (length bs) o ≡ false → AreFirstsOf n p (bs ++ b ∷ []) first old
    firsts_still o at before = record {
      each = a.each;
      own = λ z v of here. elim (cases_eq z x) [
        | inl same ↦
            let eq : v ≡ o = same_Some v o (sym here ∙ (ap (slice_get old) same ∙ at)) in
            subst (λ w. IsFirstOf (bs ++ b ∷ []) (place_of n w).1 v) (sym same)
            (subst (IsFirstOf (bs ++ b ∷ []) (place_of n x).1) (sym eq) (by o (old_at o at) before))
        | inr other ↦ first_other bs b (place_of n z).1 v (apart z v old a.each of here other) (a.own z v of here)
      ];
      others = a.others;
    }
      where
        by : (o : Option ℕ) → IsFirstOf bs b.item o → is_before (bs ++ b ∷ []) (length bs) o ≡ false → IsFirstOf (bs ++ b ∷ []) (place_of n x).1 o
        by None f t = absurd (let eq : true ≡ false = t in cc)
        by (Some k) (f, r) t =
            let le : f.list ≤ b.list = ltb-false b.list f.list (sym (told k f r) ∙ t) in
            subst (λ m. IsFirstOf (bs ++ b ∷ []) m (Some k)) (sym item) (first_still bs b b.item k f r le)
          where
            told : (k : ℕ) (f : BeginView) → IsFirstRoot bs b.item k f → is_before (bs ++ b ∷ []) (length bs) (Some k) ≡ nat_lt b.list f.list
            told k f r = rw (get_last bs b, get_front bs (b ∷ []) k f r.there) refl

pub firsts_more : (parts : List PartView) (n : Numbers) (p : ℕ) (part : PartView) (old new : List (Option ℕ)) → slice_get parts p ≡ Some part → AreFirstsTo parts n p old
    → AreFirstsOf n p part.begins old new → AreFirstsTo parts n (p + 1) new
firsts_more parts n p part old new at a o = record {
  each = o.each ∙ a.each;
  at = λ x first v lt is here. elim (cases_eq (place_of n x).0 p) [
    | inl same ↦
        let one : part ≡ v = same_Some part v (sym at ∙ (ap (slice_get parts) (sym same) ∙ is)) in
        subst (λ w. IsFirstOf w.begins (place_of n x).1 first) one (o.own x first same here)
    | inr other ↦ a.at x first v (omega (arith, lt, other)) is (sym (o.others x other) ∙ here)
  ];
  none_yet = λ x first le here.
      let other : (place_of n x).0 ≢ p = λ e. omega (arith, le, e) in
      a.none_yet x first (omega (arith, le)) (sym (o.others x other) ∙ here);
}

-- the same, by all roots of the part
module _ (bs : List BeginView) (b : BeginView) (whole : List BeginView) (front : (k : ℕ) (f : BeginView) → slice_get bs k ≡ Some f → slice_get whole k ≡ Some f)
    (at : slice_get whole (length bs) ≡ Some b) where
  before_same : (wanted : ℕ) (o : Option ℕ) → IsFirstOf bs wanted o → is_before (bs ++ b ∷ []) (length bs) o ≡ is_before whole (length bs) o
  before_same wanted None f = refl
  before_same wanted (Some k) (f, r) =
      let here : list_at (bs ++ b ∷ []) (length bs) ≡ list_at whole (length bs) =
      ap (option_map (λ (c : BeginView). c.list)) (get_last bs b ∙ sym at) in
      let there : list_at (bs ++ b ∷ []) k ≡ list_at whole k =
      ap (option_map (λ (c : BeginView). c.list)) (get_front bs (b ∷ []) k f r.there ∙ sym (front k f r.there)) in
      ap (λ l. is_less l (list_at (bs ++ b ∷ []) k)) here ∙ ap (is_less (list_at whole (length bs))) there

  pub firsts_noted : (parts : List PartView) (n : Numbers) → AreNumbers parts n → (p : ℕ) (first old new : List (Option ℕ)) → AreFirstsOf n p bs first old → length first ≡ total n
      → (x : ℕ) → number_of n (p, b.item) ≡ Some x → IsBeginNoted whole (length bs) x old new → AreFirstsOf n p (bs ++ b ∷ []) first new
  firsts_noted parts n numbered p first old new a sized x is noted = by (get_or old x None) there (is_before whole (length bs) (get_or old x None)) refl refl
    where
      there : slice_get old x ≡ Some (get_or old x None)
      there = slice_get-get_or old x None (let lt = (number_is parts n.starts.items n.owners.items numbered (p, b.item) x is).0 in let s = a.each in omega (arith, lt, s, sized))

      same : is_before (bs ++ b ∷ []) (length bs) (get_or old x None) ≡ is_before whole (length bs) (get_or old x None)
      same =
          let place = (number_is parts n.starts.items n.owners.items numbered (p, b.item) x is).1 in
          before_same (place_of n x).1 (get_or old x None) (a.own x (get_or old x None) (ap (λ (y : ℕ × ℕ). y.0) place) there)

      by : (o : Option ℕ) → slice_get old x ≡ Some o → (c : Bool) → is_before whole (length bs) (get_or old x None) ≡ c → get_or old x None ≡ o
          → AreFirstsOf n p (bs ++ b ∷ []) first new
      by o at_x true e is_o =
          firsts_now parts n numbered p bs b first old a sized x is o new at_x
          (subst (λ v. is_before (bs ++ b ∷ []) (length bs) v ≡ true) is_o (same ∙ e)) (noted.before e)
      by o at_x false e is_o =
          subst (AreFirstsOf n p (bs ++ b ∷ []) first) (sym (noted.kept e))
          (firsts_still parts n numbered p bs b first old a sized x is o at_x (subst (λ v. is_before (bs ++ b ∷ []) (length bs) v ≡ false) is_o (same ∙ e)))

pub firsts_step : (begins : List Begin) (i : ℕ) (d : Begin) → i < length begins → (parts : List PartView) (n : Numbers) → AreNumbers parts n → (p : ℕ)
    (first old new : List (Option ℕ)) → AreFirstsOf n p (map begin_view (take i begins)) first old → length first ≡ total n
    → IsRootNoted n (p, (get_or begins i d).item) (map begin_view begins) i old new → AreFirstsOf n p (map begin_view (take (i + 1) begins)) first new
firsts_step begins i d lt parts n numbered p first old new a sized noted =
    subst (λ bs. AreFirstsOf n p bs first new) (sym (view_more begin_view begins i d lt)) (by (number_of n (p, (get_or begins i d).item)) refl)
  where
    same : take i (map begin_view begins) ≡ map begin_view (take i begins)
    same = take-map begin_view i begins

    count : length (map begin_view (take i begins)) ≡ i
    count = ap length (sym same) ∙ view_count begin_view begins i (omega (arith, lt))

    front : (k : ℕ) (f : BeginView) → slice_get (map begin_view (take i begins)) k ≡ Some f → slice_get (map begin_view begins) k ≡ Some f
    front k f e =
        ap (λ l. slice_get l k) (sym (take-append-drop i (map begin_view begins)))
        ∙ get_front (take i (map begin_view begins)) (drop i (map begin_view begins)) k f (ap (λ l. slice_get l k) same ∙ e)

    at : slice_get (map begin_view begins) (length (map begin_view (take i begins))) ≡ Some (begin_view (get_or begins i d))
    at = ap (slice_get (map begin_view begins)) count ∙ view_at begin_view begins i d lt

    by : (o : Option ℕ) → number_of n (p, (get_or begins i d).item) ≡ o
        → AreFirstsOf n p (map begin_view (take i begins) ++ begin_view (get_or begins i d) ∷ []) first new
    by None e =
        subst (AreFirstsOf n p (map begin_view (take i begins) ++ begin_view (get_or begins i d) ∷ []) first) (sym (noted.none e))
        (firsts_none parts n numbered p (map begin_view (take i begins)) (begin_view (get_or begins i d)) first old a sized e)
    by (Some x) e =
        firsts_noted (map begin_view (take i begins)) (begin_view (get_or begins i d)) (map begin_view begins) front at parts n numbered p first old new a sized x e
        (subst (λ k. IsBeginNoted (map begin_view begins) k x old new) (sym count) (noted.some x e))
