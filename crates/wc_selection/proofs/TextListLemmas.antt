-- Lists under texts, one value after another.
use Rattle.std.proofs.Common.{Result, Ok, Err, OnOk, if◌then◌else◌, ◌≡◌, ℕ, Bool, true, false, cond, List, [], ◌∷◌, ◌++◌, Option, Some, None, refl, sym, ap, ◌∙◌, subst, append-nil}
use Rattle.std.specs.Borrow.{Bor}
use Rattle.std.specs.Cmp.{IsEquivalence}
use Rattle.std.specs.Map.{lookup, set_value}
use Rattle.std.specs.Option.{IsSome, option_map_or}
use Rattle.std.specs.Prelude.{is_ok}
use Rattle.std.specs.Str.{bytes_eq}
use Rattle.std.specs.declared.alloc.Global.{Global}
use Rattle.std.specs.declared.vec.Vec.{Vec}
use Rattle.std.proofs.lemmas.Cmp.{nat_list_eq_equiv}
use Rattle.std.proofs.lemmas.Map.{lookup-set_value}
use Rattle.std.proofs.lemmas.Slice.Eq.{bytes_eq-Decides}
use Rattle.wc_selection.specs.TextLists.{ListsMore, listed}

abbrev pub Text : Type 0
Text = Bor (List ℕ)

abbrev pub under : List ℕ → Text → Bool
under text k = bytes_eq text k.now

abbrev text_eq : Text → Text → Bool
text_eq a b = bytes_eq a.now b.now

text_equiv : IsEquivalence text_eq
text_equiv = record {
  refl = λ x. nat_list_eq_equiv.refl x.now;
  symm = λ x y. nat_list_eq_equiv.symm x.now y.now;
  congr = λ x y z same. ap (λ (t : List ℕ). bytes_eq t z.now) ((bytes_eq-Decides x.now y.now).0 same);
}

one_text : (text : List ℕ) (x y : Text) → under text x ≡ true → under text y ≡ text_eq x y
one_text text x y same = ap (λ (t : List ℕ). bytes_eq t y.now) ((bytes_eq-Decides text x.now).0 same)

module _ {X : Type 0} where
  abbrev items_in : Option (Vec X Global) → List X
  items_in o = option_map_or (λ (v : Vec X Global). v.items) o []

  listed_step : (old new : List (Text × Vec X Global)) (text : List ℕ) (w : Vec X Global) (x : X)
      → ((q : Text) → lookup (under q.now) new ≡ cond (bytes_eq text q.now) (Some w) (lookup (under q.now) old))
      → w.items ≡ listed old text ++ x ∷ [] → ListsMore old new text x
  listed_step old new text w x put is q = step (bytes_eq text q) refl
    where
      b : Text
      b = record { ref_ptr = (0, 0); now = q }

      step : (c : Bool) → bytes_eq text q ≡ c → listed new q ≡ listed old q ++ cond (bytes_eq q text) (x ∷ []) []
      step true same =
          let here : text ≡ q = (bytes_eq-Decides text q).0 same in
          let back : true ≡ bytes_eq q text = sym (nat_list_eq_equiv.symm q text ∙ same) in
          ap items_in (put b ∙ ap (λ c. cond c (Some w) (lookup (under q) old)) same) ∙ is
          ∙ (λ i. listed old (here i) ++ cond (back i) (x ∷ []) [])
      step false other =
          let back : false ≡ bytes_eq q text = sym (nat_list_eq_equiv.symm q text ∙ other) in
          ap items_in (put b ∙ ap (λ c. cond c (Some w) (lookup (under q) old)) other) ∙ sym (append-nil (listed old q))
          ∙ ap (λ c. listed old q ++ cond c (x ∷ []) []) back

  -- after the others of its text
  pub listed_after : (old new : List (Text × Vec X Global)) (text : Text) (v w : Vec X Global) (x : X) → new ≡ set_value (under text.now) old w
      → lookup (under text.now) old ≡ Some v → w.items ≡ v.items ++ x ∷ [] → ListsMore old new text.now x
  listed_after old new text v w x put there is =
      listed_step old new text.now w x
      (λ q. ap (lookup (under q.now)) put
      ∙ lookup-set_value text_equiv (under text.now) (one_text text.now) q w old (subst IsSome (sym there) refl))
      (is ∙ ap (λ o. items_in o ++ x ∷ []) (sym there))

  -- as the first of its text
  pub listed_first : (old new : List (Text × Vec X Global)) (text : Text) (w : Vec X Global) (x : X)
      → ((q : Text) → lookup (under q.now) new ≡ cond (bytes_eq text.now q.now) (Some w) (lookup (under q.now) old))
      → lookup (under text.now) old ≡ None → w.items ≡ x ∷ [] → ListsMore old new text.now x
  listed_first old new text w x put none is = listed_step old new text.now w x put (is ∙ ap (λ o. items_in o ++ x ∷ []) (sym none))

  -- what is listed under a text that is there
  pub listed_there : (entries : List (Text × Vec X Global)) (text : List ℕ) (v : Vec X Global) → lookup (under text) entries ≡ Some v
      → listed entries text ≡ v.items
  listed_there entries text v is = ap items_in is

  pub listed_none : (entries : List (Text × Vec X Global)) (text : List ℕ) → lookup (under text) entries ≡ None → listed entries text ≡ []
  listed_none entries text is = ap items_in is

-- a list after others, where there was memory
pub extended : {X E : Type 0} (r : Result (Unit {0}) E) (old more new wanted : List X) → new ≡ (if is_ok r then old ++ more else old) → wanted ≡ more
    → OnOk r (new ≡ old ++ wanted)
extended (Ok x) old more new wanted is same = is ∙ ap (λ l. old ++ l) (sym same)
extended (Err e) old more new wanted is same = tt
