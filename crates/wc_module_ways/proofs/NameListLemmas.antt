-- Lists of names under names, one name after another.
use Rattle.std.proofs.Common.{◌≡◌, ℕ, ◌+◌, ◌<◌, Bool, true, false, cond, List, [], ◌∷◌, ◌++◌, length, map, take, get_or, Option, Some, None, refl, sym, ap, ◌∙◌, subst, append-nil}
use Rattle.std.specs.Borrow.{Bor}
use Rattle.std.specs.Cmp.{IsEquivalence}
use Rattle.std.specs.Map.{lookup, set_value}
use Rattle.std.specs.Option.{IsSome, option_map_or}
use Rattle.std.specs.Str.{bytes_eq}
use Rattle.std.specs.declared.alloc.Global.{Global}
use Rattle.std.specs.declared.vec.Vec.{Vec}
use Rattle.std.proofs.lemmas.Cmp.{nat_list_eq_equiv}
use Rattle.std.proofs.lemmas.List.{map-append}
use Rattle.std.proofs.lemmas.Map.{lookup-set_value}
use Rattle.std.proofs.lemmas.Slice.Eq.{bytes_eq-Decides}
use Rattle.wc_why.specs.Texts.{text_of}
use Rattle.wc_module_ways.specs.NameLists.{AreListed, ListsUnder, NameLists, listed}
use Rattle.wc_module_ways.specs.Names.{NamePair, names_under, pair_view}
use Rattle.wc_import_paths.proofs.PickedLemmas.{picked_more, taken_more}

abbrev pub Text : Type 0
Text = Bor (List ℕ)

-- texts are compared by their bytes
text_equiv : IsEquivalence (λ (a b : Text). bytes_eq a.now b.now)
text_equiv = record {
  refl = λ x. nat_list_eq_equiv.refl x.now;
  symm = λ x y. nat_list_eq_equiv.symm x.now y.now;
  congr = λ x y z same. ap (λ (t : List ℕ). bytes_eq t z.now) ((bytes_eq-Decides x.now y.now).0 same);
}

-- what is found under a key
abbrev pub found : List ℕ → NameLists → Option (Vec (Bor (List ℕ)) Global)
found key lists = lookup (λ (k : Text). bytes_eq key k.now) lists

abbrev Names : Type 0
Names = Vec (Bor (List ℕ)) Global

abbrev texts_in : Option Names → List (List ℕ)
texts_in o = option_map_or (λ (v : Names). map text_of v.items) o []

listed_step : (old new : NameLists) (text : List ℕ) (w : Names) (x : List ℕ)
    → ((q : Text) → found q.now new ≡ cond (bytes_eq text q.now) (Some w) (found q.now old))
    → map text_of w.items ≡ listed old text ++ x ∷ [] → ListsUnder text x old new
listed_step old new text w x put is q = step (bytes_eq text q) refl
  where
    b : Text
    b = record { ref_ptr = (0, 0); now = q }

    step : (c : Bool) → bytes_eq text q ≡ c → listed new q ≡ listed old q ++ cond (bytes_eq text q) (x ∷ []) []
    step true same =
        let here : text ≡ q = (bytes_eq-Decides text q).0 same in
        ap texts_in (put b ∙ ap (λ c. cond c (Some w) (found q old)) same) ∙ (is ∙ (λ i. listed old (here i) ++ cond (sym same i) (x ∷ []) []))
    step false other =
        ap texts_in (put b ∙ ap (λ c. cond c (Some w) (found q old)) other)
        ∙ (sym (append-nil (listed old q)) ∙ ap (λ c. listed old q ++ cond c (x ∷ []) []) (sym other))

-- after the others of its key
pub listed_after : (old new : NameLists) (key name : Text) (v w : Names) → new ≡ set_value (λ (k : Text). bytes_eq key.now k.now) old w → found key.now old ≡ Some v
    → w.items ≡ v.items ++ name ∷ [] → ListsUnder key.now name.now old new
listed_after old new key name v w put there is =
    listed_step old new key.now w name.now
    (λ q. ap (found q.now) put
    ∙ lookup-set_value text_equiv (λ (k : Text). bytes_eq key.now k.now)
    (λ x y same. ap (λ (t : List ℕ). bytes_eq t y.now) ((bytes_eq-Decides key.now x.now).0 same)) q w old (subst IsSome (sym there) refl))
    (ap (map text_of) is ∙ (map-append text_of v.items (name ∷ []) ∙ ap (λ o. texts_in o ++ name.now ∷ []) (sym there)))

-- as the first of its key
pub listed_first : (old new : NameLists) (key name : Text) (w : Names)
    → ((q : Text) → found q.now new ≡ cond (bytes_eq key.now q.now) (Some w) (found q.now old))
    → found key.now old ≡ None → w.items ≡ name ∷ [] → ListsUnder key.now name.now old new
listed_first old new key name w put none is =
    listed_step old new key.now w name.now put (ap (map text_of) is ∙ ap (λ o. texts_in o ++ name.now ∷ []) (sym none))

-- a pair more
pub lists_next : (pairs : List (Text × Text)) (k : ℕ) (d : Text × Text) (old new : NameLists) → k < length pairs
    → ListsUnder (get_or pairs k d).0.now (get_or pairs k d).1.now old new → AreListed (map pair_view (take k pairs)) old
    → AreListed (map pair_view (take (k + 1) pairs)) new
lists_next pairs k d old new lt more before q =
    let x = get_or pairs k d in
    let front = map pair_view (take k pairs) in
    more q
    ∙ (ap (λ z. z ++ cond (bytes_eq x.0.now q) (x.1.now ∷ []) []) (before q)
    ∙ sym (ap (λ z. names_under z q) (taken_more pair_view pairs k d lt)
    ∙ picked_more (λ (p : NamePair). bytes_eq p.0 q) (λ (p : NamePair). p.1) front (pair_view x)))

-- what is listed under a key that is there, or not
pub listed_there : (lists : NameLists) (key : List ℕ) (v : Names) → found key lists ≡ Some v → listed lists key ≡ map text_of v.items
listed_there lists key v is = ap texts_in is

pub listed_none : (lists : NameLists) (key : List ℕ) → found key lists ≡ None → listed lists key ≡ []
listed_none lists key is = ap texts_in is
