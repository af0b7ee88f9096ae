-- The lists of roots by numbers, and by items.
use Rattle.std.proofs.Common.{◌≡◌, ℕ, zero, suc, ◌+◌, ◌<◌, List, [], ◌∷◌, ◌++◌, length, map, get_or, Bool, true, false, ◌&&◌, cond, nat_eq, nat_lt, Option, Some, None, refl, sym, ◌∙◌, ap, subst, arith, append_assoc, append-nil, lt-ltb}
use Rattle.std.specs.Prelude.{All, Contains, filter, ◌↔◌}
use Rattle.std.specs.List.{slice_get}
use Rattle.std.specs.Option.{option_map_or}
use Rattle.std.proofs.lemmas.Cmp.{nat_eq_equiv}
use Rattle.std.proofs.lemmas.List.{get_or_default, map-append}
use Rattle.std.proofs.lemmas.List.Elements.{All-append, All-contains, All-cons, All-nil, filter-append}
use Rattle.std.proofs.lemmas.Option.{same_Some}
use Rattle.wc_graph.specs.Alone.{ArePicked}
use Rattle.wc_graph.specs.Private.Places.{is_missing, is_missing_at, place_at}
use Rattle.wc_graph.proofs.ListLemmas.{contains_unmapped, from_filter}
use Rattle.wc_why.specs.Graph.{has_item, names_in}
use Rattle.wc_why.specs.Lists.{begin_item, first_lists, is_begin_of, part_roots, roots_from, roots_in}
use Rattle.wc_why.specs.Part.{BeginView, PartView}
use Rattle.wc_why.specs.Paths.{IsUnreached, joined}
use Rattle.wc_why.specs.Private.Found.{IsFoundOf}
use Rattle.wc_why.specs.Private.Lists.{AreNumbersOf, PutsNumbers, begins_of, root_at}
use Rattle.wc_why.specs.Private.Numbers.{AreNumbers, number_of, place_of, total}
use Rattle.wc_why.specs.declared.numbers.Numbers.{Numbers}
use Rattle.wc_why.proofs.FoundLemmas.{first_reached}
use Rattle.wc_why.proofs.NumberLemmas.{item_there, none_there, number_is, started, there_of}

pub puts_none : (n : Numbers) (old : List ℕ) → PutsNumbers n [] old old
puts_none n old = record { are = sym (append-nil (map (place_of n) old)); inside = λ a. a }

pub puts_join : (n : Numbers) (a b : List (ℕ × ℕ)) (first now new : List ℕ) → PutsNumbers n a first now → PutsNumbers n b now new → PutsNumbers n (a ++ b) first new
puts_join n a b first now new x y = record {
  are = y.are ∙ (ap (λ l. l ++ b) x.are ∙ append_assoc (map (place_of n) first) a b);
  inside = λ i. y.inside (x.inside i);
}

module _ (parts : List PartView) (n : Numbers) (numbered : AreNumbers parts n) (p : ℕ) (view : PartView) (at : slice_get parts p ≡ Some view) where
  -- a root that is there
  pub root_put : (item x : ℕ) (old new : List ℕ) → number_of n (p, item) ≡ Some x → new ≡ old ++ x ∷ [] → PutsNumbers n (root_at p view item) old new
  root_put item x old new is e =
      let (lt, same) = number_is parts n.starts.items n.owners.items numbered (p, item) x is in
      let there : has_item parts (p, item) ≡ true = subst (λ y. has_item parts y ≡ true) same (item_there parts n.starts.items n.owners.items numbered x lt) in
      let (v, here, less) = there_of parts n.starts.items n.owners.items numbered (p, item) there in
      let one : v ≡ view = same_Some v view (sym here ∙ at) in
      let within : item < view.size = subst (λ w. item < w.size) one less in
      record {
        are =
            ap (map (place_of n)) e
            ∙ (map-append (place_of n) old (x ∷ [])
            ∙ (ap (λ y. map (place_of n) old ++ y ∷ []) same ∙ ap (λ b. map (place_of n) old ++ cond b ((p, item) ∷ []) []) (sym (lt-ltb item view.size within))));
        inside = λ a. subst (All (λ x. x < total n)) (sym e) (All-append (λ x. x < total n) old (x ∷ []) a (All-cons (λ x. x < total n) x [] lt (All-nil (λ x. x < total n))));
      }

  pub root_none : (item : ℕ) (old : List ℕ) → number_of n (p, item) ≡ None → PutsNumbers n (root_at p view item) old old
  root_none item old none =
      let gone : nat_lt item view.size ≡ false =
      sym (ap (λ o. option_map_or (λ (part : PartView). nat_lt item part.size) o false) at) ∙ none_there parts n.starts.items n.owners.items numbered (p, item) none in
      subst (λ b. PutsNumbers n (cond b ((p, item) ∷ []) []) old old) (sym gone) (puts_none n old)

  -- one more where paths may begin
  one_root : (list : ℕ) (b : BeginView) → b.list ≡ list → map (begin_item p) (filter (is_begin_of view.size list) (b ∷ [])) ≡ root_at p view b.item
  one_root list b e =
      let eq : nat_eq b.list list ≡ true = subst (λ l. nat_eq b.list l ≡ true) e (nat_eq_equiv.refl b.list) in
      ap (λ c. map (begin_item p) (cond (c && nat_lt b.item view.size) (b ∷ []) [])) eq ∙ by (nat_lt b.item view.size)
    where
      by : (c : Bool) → map (begin_item p) (cond (true && c) (b ∷ []) []) ≡ cond c ((p, b.item) ∷ []) []
      by true = refl
      by false = refl

  no_root : (list : ℕ) (b : BeginView) → nat_eq b.list list ≡ false → map (begin_item p) (filter (is_begin_of view.size list) (b ∷ [])) ≡ []
  no_root list b e = ap (λ c. map (begin_item p) (cond (c && nat_lt b.item view.size) (b ∷ []) [])) e

  pub begin_of_list : (list : ℕ) (b : BeginView) (now new : List ℕ) → b.list ≡ list → PutsNumbers n (root_at p view b.item) now new → PutsNumbers n (begins_of p view list (b ∷ [])) now new
  begin_of_list list b now new e x = subst (λ l. PutsNumbers n l now new) (sym (one_root list b e)) x

pub begins_put : (n : Numbers) (p : ℕ) (view : PartView) (list : ℕ) (bs : List BeginView) (b : BeginView) (first now new : List ℕ) → PutsNumbers n (begins_of p view list bs) first now
    → PutsNumbers n (begins_of p view list (b ∷ [])) now new → PutsNumbers n (begins_of p view list (bs ++ b ∷ [])) first new
begins_put n p view list bs b first now new x y =
    let more : begins_of p view list (bs ++ b ∷ []) ≡ begins_of p view list bs ++ begins_of p view list (b ∷ []) =
    ap (map (begin_item p)) (filter-append (is_begin_of view.size list) bs (b ∷ []))
    ∙ map-append (begin_item p) (filter (is_begin_of view.size list) bs) (filter (is_begin_of view.size list) (b ∷ [])) in
    subst (λ l. PutsNumbers n l first new) (sym more) (puts_join n (begins_of p view list bs) (begins_of p view list (b ∷ [])) first now new x y)

-- part after part
roots_append : (list p : ℕ) (xs ys : List PartView) → roots_from list p (xs ++ ys) ≡ roots_from list p xs ++ roots_from list (p + length xs) ys
roots_append list p [] ys = ap (λ k. roots_from list k ys) (let e : p ≡ p + 0 = omega arith in e)
roots_append list p (x ∷ xs) ys =
    ap (λ l. part_roots list p x ++ l) (roots_append list (p + 1) xs ys)
    ∙ (ap (λ k. part_roots list p x ++ (roots_from list (p + 1) xs ++ roots_from list k ys)) (let e : p + 1 + length xs ≡ p + suc (length xs) = omega arith in e)
    ∙ sym (append_assoc (part_roots list p x) (roots_from list (p + 1) xs) (roots_from list (p + suc (length xs)) ys)))

pub part_put : (n : Numbers) (list : ℕ) (parts : List PartView) (view : PartView) (p : ℕ) (now new : List ℕ) → length parts ≡ p → AreNumbersOf n (roots_from list 0 parts) now
    → PutsNumbers n (part_roots list p view) now new → AreNumbersOf n (roots_from list 0 (parts ++ view ∷ [])) new
part_put n list parts view p now new len a x =
    let all : roots_from list 0 (parts ++ view ∷ []) ≡ roots_from list 0 parts ++ part_roots list p view =
    roots_append list 0 parts (view ∷ [])
    ∙ (ap (λ k. roots_from list 0 parts ++ roots_from list k (view ∷ [])) (let e : 0 + length parts ≡ length parts = omega arith in e)
    ∙ (ap (λ l. roots_from list 0 parts ++ l) (append-nil (part_roots list (length parts) view)) ∙ ap (λ k. roots_from list 0 parts ++ part_roots list k view) len)) in
    record { are = x.are ∙ (ap (λ l. l ++ part_roots list p view) a.are ∙ sym all); inside = x.inside a.inside }

-- of some items those that no list reached
module _ (parts : List PartView) (n : Numbers) (numbered : AreNumbers parts n) (lists : List (List (ℕ × ℕ))) (order finder : List ℕ) (places : List (Option ℕ))
    (s : IsFoundOf parts n lists order finder places) where
  abbrev test : ℕ × ℕ → Bool
  test y = is_missing_at places (get_or n.starts.items y.0 0 + y.1)

  tests : (x : ℕ) → x < total n → test (place_of n x) ≡ is_missing_at places x
  tests x lt =
      let le = started parts n.starts.items n.owners.items numbered x lt in
      let back : get_or n.starts.items (place_of n x).0 0 + (place_of n x).1 ≡ x = omega (arith, le) in
      ap (is_missing_at places) back

  told : (x : ℕ) → x < total n → (is_missing_at places x ≡ true) ↔ IsUnreached (names_in parts) lists (place_of n x)
  told x lt = (there (place_at places x) refl, back (place_at places x) refl)
    where
      there : (o : Option ℕ) → place_at places x ≡ o → is_missing o ≡ true → IsUnreached (names_in parts) lists (place_of n x)
      there None e h = s.missing x lt e
      there (Some k) e h = absurd (let eq : false ≡ true = h in cc)

      back : (o : Option ℕ) → place_at places x ≡ o → IsUnreached (names_in parts) lists (place_of n x) → is_missing o ≡ true
      back None e h = refl
      back (Some k) e h =
          let w = s.placed x k e in
          absurd (h w.list w.leads.roots w.leads.of_list (first_reached (names_in parts) lists (place_of n x) w.list (map (place_of n) w.chain) w.leads))

  filtered : (xs : List ℕ) → ((x : ℕ) → Contains xs x → x < total n) → map (place_of n) (filter (is_missing_at places) xs) ≡ filter test (map (place_of n) xs)
  filtered [] h = refl
  filtered (x ∷ xs) h =
      let rest = filtered xs (λ y c. let (k, lt, e) = c in h y (suc k, omega (arith, lt), e)) in
      let lt = h x (zero, omega arith, refl) in
      by (is_missing_at places x) rest ∙ ap (λ b. cond b (place_of n x ∷ filter test (map (place_of n) xs)) (filter test (map (place_of n) xs))) (sym (tests x lt))
    where
      by : (b : Bool) → map (place_of n) (filter (is_missing_at places) xs) ≡ filter test (map (place_of n) xs)
          → map (place_of n) (cond b (x ∷ filter (is_missing_at places) xs) (filter (is_missing_at places) xs)) ≡ cond b (place_of n x ∷ filter test (map (place_of n) xs)) (filter test (map (place_of n) xs))
      by true e = ap (λ l. place_of n x ∷ l) e
      by false e = e

  all_filtered : (xs : List ℕ) → All (λ x. x < total n) xs → All (λ x. x < total n) (filter (is_missing_at places) xs)
  all_filtered xs a = λ i d lt. a_of (get_or (filter (is_missing_at places) xs) i d) (from_filter (is_missing_at places) xs (get_or (filter (is_missing_at places) xs) i d) (i, lt, get_or_default (filter (is_missing_at places) xs) i (get_or (filter (is_missing_at places) xs) i d) d lt))
    where
      a_of : (x : ℕ) → Contains xs x → x < total n
      a_of x c = All-contains (λ x. x < total n) xs x a c

  pub picked : (items : List (ℕ × ℕ)) (xs : List ℕ) → AreNumbersOf n items xs → ArePicked (IsUnreached (names_in parts) lists) items (map (place_of n) (filter (is_missing_at places) xs))
  picked items xs a = (
    test,
    (λ y c.
        let (x, cx, e) = contains_unmapped (place_of n) xs y (subst (λ l. Contains l y) (sym a.are) c) in
        let lt = All-contains (λ x. x < total n) xs x a.inside cx in
        let t = told x lt in
        subst (λ z. (test z ≡ true) ↔ IsUnreached (names_in parts) lists z) e ((λ h. t.0 (sym (tests x lt) ∙ h)), (λ h. tests x lt ∙ t.1 h))),
    filtered xs (λ x c. All-contains (λ x. x < total n) xs x a.inside c) ∙ ap (filter test) a.are,
  )

  pub fourth_numbers : (items : List (ℕ × ℕ)) (xs : List ℕ) → AreNumbersOf n items xs → All (λ x. x < total n) (filter (is_missing_at places) xs)
  fourth_numbers items xs a = all_filtered xs a.inside

-- all four
pub four_lists : (parts : List PartView) (n : Numbers) (a b c d roots : List ℕ) → AreNumbersOf n (roots_in 0 parts) a → AreNumbersOf n (roots_in 1 parts) b
    → AreNumbersOf n (roots_in 2 parts) c → All (λ x. x < total n) d → roots ≡ a ++ (b ++ (c ++ d))
    → AreNumbersOf n (joined (first_lists parts ++ map (place_of n) d ∷ [])) roots
four_lists parts n a b c d roots x y z w e = record {
  are =
      ap (map (place_of n)) e
      ∙ (map-append (place_of n) a (b ++ (c ++ d))
      ∙ (ap (λ l. l ++ map (place_of n) (b ++ (c ++ d))) x.are
      ∙ ap (λ l. roots_in 0 parts ++ l)
      (map-append (place_of n) b (c ++ d)
      ∙ (ap (λ l. l ++ map (place_of n) (c ++ d)) y.are
      ∙ ap (λ l. roots_in 1 parts ++ l)
      (map-append (place_of n) c d ∙ (ap (λ l. l ++ map (place_of n) d) z.are ∙ ap (λ l. roots_in 2 parts ++ l) (sym (append-nil (map (place_of n) d)))))))));
  inside =
      subst (All (λ x. x < total n)) (sym e)
      (All-append (λ x. x < total n) a (b ++ (c ++ d)) x.inside
      (All-append (λ x. x < total n) b (c ++ d) y.inside (All-append (λ x. x < total n) c d z.inside w)));
}

-- a list that was added
pub list_found : (parts : List PartView) (n : Numbers) (lists : List (List (ℕ × ℕ))) (roots given : List ℕ) (items : List (ℕ × ℕ)) → given ≡ roots → AreNumbersOf n items roots
    → (order finder : List ℕ) (places : List (Option ℕ)) → IsFoundOf parts n (lists ++ map (place_of n) given ∷ []) order finder places
    → IsFoundOf parts n (lists ++ items ∷ []) order finder places
list_found parts n lists roots given items e a order finder places s =
    subst (λ l. IsFoundOf parts n (lists ++ l ∷ []) order finder places) (ap (map (place_of n)) e ∙ a.are) s
