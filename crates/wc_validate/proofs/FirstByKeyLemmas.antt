-- Maps that keep the first position under each key.
use Rattle.std.proofs.Common.{◌≡◌, ◌↔◌, ◌&&◌, ℕ, Bool, true, false, cond, is_some, List, [], ◌∷◌, ◌++◌, Option, Some, None, OnOk, Result, Ok, Err, refl, sym, ap, subst, ◌∙◌}
use Rattle.std.proofs.Math.Path.{fun_ext}
use Rattle.std.proofs.lemmas.Slice.Eq.{bytes_eq-Decides}
use Rattle.std.specs.Map.{lookup, set_value}
use Rattle.std.specs.Option.{option_and_then, option_or}
use Rattle.std.specs.Str.{bytes_eq}
use Rattle.indexmap.specs.IndexMap.{insert_entry}
use Rattle.wc_resolve.specs.declared.worlds.WorldKey.{WorldKey}
use Rattle.wc_resolve.specs.contracts.worlds.WorldKeyPartialEq.TheImpl.{eq-value as world_key_eq}
use Rattle.wc_resolve.specs.Views.{KeyView, plain_key, interface_key, key_view}
use Rattle.wc_resolve.proofs.KeyLemmas.{nat_from, nat_to}
use Rattle.wc_names.specs.Keys.{key_eq}
use Rattle.wc_validate.specs.FirstPositions.{kept_position}
pub use Rattle.wc_names.proofs.FirstMemberLemmas.{or_none}
use Rattle.wc_names.proofs.InterfaceIndexLemmas.{lookup_push}
use Rattle.wc_names.proofs.KeyLemmas.{keys_viewed as keys_agree}

-- what follows where a call succeeds
pub on_ok : {T F P Q : Type 0} (r : Result T F) → (P → Q) → OnOk r P → OnOk r Q
on_ok (Ok x) f h = f h
on_ok (Err e) f h = tt

absent : {X : Type 0} (o : Option X) (there : Bool) → there ≡ is_some o → there ≡ false → o ≡ None
absent None there is not = refl
absent (Some x) there is not = absurd (let both : true ≡ false = sym is ∙ not in let bad : ⊥ = cc both in bad)

-- keys that are compared by what is seen of them
module _ {T K : Type 0} (eq : T → T → Bool) (law : (a b : T) → (eq a b ≡ true) ↔ (a ≡ b)) (view : K → T) where
  abbrev test : T → K → Bool
  test t k = eq t (view k)

  differ : (a b c : T) → eq a b ≡ false → eq a c ≡ true → eq b c ≡ false
  differ a b c apart same = at (eq b c) refl where
    at : (d : Bool) → eq b c ≡ d → d ≡ false
    at false is = refl
    at true is =
        let both : true ≡ false = sym ((law a b).1 ((law a c).0 same ∙ sym ((law b c).0 is))) ∙ apart in
        absurd (let bad : ⊥ = cc both in bad)

  pub turned : (a b : T) → eq a b ≡ eq b a
  turned a b = at (eq a b) (eq b a) refl refl where
    at : (c d : Bool) → eq a b ≡ c → eq b a ≡ d → c ≡ d
    at true true p q = refl
    at false false p q = refl
    at true false p q = absurd (let both : true ≡ false = sym ((law b a).1 (sym ((law a b).0 p))) ∙ q in let bad : ⊥ = cc both in bad)
    at false true p q = absurd (let both : true ≡ false = sym ((law a b).1 (sym ((law b a).0 q))) ∙ p in let bad : ⊥ = cc both in bad)

  module _ {X : Type 0} where
    -- the value under a key was exchanged
    own_at : (own : T) (e : K × X) (es : List (K × X)) (old w : X) (b : Bool) → eq own (view e.0) ≡ b → cond b (Some e.1) (lookup (test own) es) ≡ Some old
        → (lookup (test own) es ≡ Some old → lookup (test own) (set_value (test own) es w) ≡ Some w)
        → lookup (test own) (cond b ((e.0, w) ∷ es) (e ∷ set_value (test own) es w)) ≡ Some w
    own_at own e es old w true is found rest = ap (λ z. cond z (Some w) (lookup (test own) es)) is
    own_at own e es old w false is found rest = ap (λ z. cond z (Some e.1) (lookup (test own) (set_value (test own) es w))) is ∙ rest found

    set_own : (own : T) (es : List (K × X)) (old w : X) → lookup (test own) es ≡ Some old → lookup (test own) (set_value (test own) es w) ≡ Some w
    set_own own [] old w found = absurd (let bad : ⊥ = cc found in bad)
    set_own own (e ∷ es) old w found = own_at own e es old w (eq own (view e.0)) refl found (λ h. set_own own es old w h)

    other_at : (own t : T) (e : K × X) (es : List (K × X)) (w : X) (b : Bool) → eq own t ≡ false → eq own (view e.0) ≡ b
        → lookup (test t) (set_value (test own) es w) ≡ lookup (test t) es
        → lookup (test t) (cond b ((e.0, w) ∷ es) (e ∷ set_value (test own) es w)) ≡ lookup (test t) (e ∷ es)
    other_at own t e es w true apart is rest =
        ap (λ z. cond z (Some w) (lookup (test t) es)) (differ own t (view e.0) apart is)
        ∙ sym (ap (λ z. cond z (Some e.1) (lookup (test t) es)) (differ own t (view e.0) apart is))
    other_at own t e es w false apart is rest = ap (λ z. cond (eq t (view e.0)) (Some e.1) z) rest

    set_other : (own t : T) (es : List (K × X)) (w : X) → eq own t ≡ false → lookup (test t) (set_value (test own) es w) ≡ lookup (test t) es
    set_other own t [] w apart = refl
    set_other own t (e ∷ es) w apart = other_at own t e es w (eq own (view e.0)) apart refl (set_other own t es w apart)

    -- a new key goes after the others
    insert_at : (insert : List (K × X)) (e : K × X) (es : List (K × X)) (k : K) (v : X) (b : Bool) → cond b (Some e.1) (lookup (test (view k)) es) ≡ None
        → (lookup (test (view k)) es ≡ None → insert ≡ es ++ (k, v) ∷ [])
        → cond b ((e.0, v) ∷ es) (e ∷ insert) ≡ e ∷ (es ++ (k, v) ∷ [])
    insert_at insert e es k v true none rest = absurd (let bad : ⊥ = cc none in bad)
    insert_at insert e es k v false none rest = ap (λ z. e ∷ z) (rest none)

    inserted : (own_eq : K → K → Bool) → ((a b : K) → own_eq a b ≡ eq (view a) (view b)) → (es : List (K × X)) (k : K) (v : X)
        → lookup (test (view k)) es ≡ None → insert_entry own_eq es k v ≡ es ++ (k, v) ∷ []
    inserted own_eq agree [] k v none = refl
    inserted own_eq agree (e ∷ es) k v none =
        ap (λ b. cond b ((e.0, v) ∷ es) (e ∷ insert_entry own_eq es k v)) (agree k e.0)
        ∙ insert_at (insert_entry own_eq es k v) e es k v (eq (view k) (view e.0)) none (λ h. inserted own_eq agree es k v h)

    added : (own_eq : K → K → Bool) → ((a b : K) → own_eq a b ≡ eq (view a) (view b)) → (es new : List (K × X)) (k : K) (v : X) (own t : T)
        → new ≡ insert_entry own_eq es k v → view k ≡ own → lookup (test own) es ≡ None
        → lookup (test t) new ≡ option_or (lookup (test t) es) (cond (eq t own) (Some v) None)
    added own_eq agree es new k v own t put key none =
        ap (lookup (test t)) (put ∙ inserted own_eq agree es k v (subst (λ z. lookup (test z) es ≡ None) (sym key) none))
        ∙ (lookup_push (test t) es k v ∙ ap (λ z. option_or (lookup (test t) es) (cond (eq t z) (Some v) None)) key)

    there_at : (own t : T) (es : List (K × X)) (v : X) (o : Option X) (b : Bool) → lookup (test t) es ≡ o → eq t own ≡ b → is_some (lookup (test own) es) ≡ true
        → o ≡ option_or o (cond b (Some v) None)
    there_at own t es v (Some x) b is same there = refl
    there_at own t es v None false is same there = refl
    there_at own t es v None true is same there =
        let gone : lookup (test own) es ≡ None = subst (λ z. lookup (test z) es ≡ None) ((law t own).0 same) is in
        let both : false ≡ true = sym (ap is_some gone) ∙ there in
        absurd (let bad : ⊥ = cc both in bad)

  -- a position under a key that was not there
  pub position_added : (own_eq : K → K → Bool) → ((a b : K) → own_eq a b ≡ eq (view a) (view b))
      → (es new : List (K × ℕ)) (k : K) (v : ℕ) (own t : T) (there : Bool) → new ≡ insert_entry own_eq es k v → view k ≡ own
      → there ≡ is_some (lookup (test own) es) → there ≡ false → lookup (test t) new ≡ kept_position (lookup (test t) es) (eq t own) v
  position_added own_eq agree es new k v own t there put key is not = added own_eq agree es new k v own t put key (absent (lookup (test own) es) there is not)

  -- or that was
  pub position_stays : (es : List (K × ℕ)) (v : ℕ) (own t : T) (there : Bool) → there ≡ is_some (lookup (test own) es) → there ≡ true
      → lookup (test t) es ≡ kept_position (lookup (test t) es) (eq t own) v
  position_stays es v own t there is so = there_at own t es v (lookup (test t) es) (eq t own) refl refl (sym is ∙ so)

  -- positions under a key and a name: names are added to those of the key
  module _ {X : Type 0} (at : X → List ℕ → Option ℕ) (names : List ℕ → Bool) (position : ℕ) (own t : T) (called : List ℕ) where
    abbrev under : List (K × X) → Option ℕ
    under es = option_and_then (λ (x : X). at x called) (lookup (test t) es)

    more_at : (es new : List (K × X)) (old w : X) (b : Bool) → eq own t ≡ b → new ≡ set_value (test own) es w → lookup (test own) es ≡ Some old
        → at w called ≡ kept_position (at old called) (names called) position
        → under new ≡ kept_position (under es) (b && names called) position
    more_at es new old w false is written found more =
        ap (λ z. option_and_then (λ (x : X). at x called) z) (ap (lookup (test t)) written ∙ set_other own t es w is) ∙ sym (or_none (under es))
    more_at es new old w true is written found more =
        let same : own ≡ t = (law own t).0 is in
        ap (λ z. option_and_then (λ (x : X). at x called) z)
        (ap (lookup (test t)) written ∙ subst (λ z. lookup (test z) (set_value (test own) es w) ≡ Some w) same (set_own own es old w found))
        ∙ (more ∙ ap (λ z. kept_position (option_and_then (λ (x : X). at x called) z) (names called) position)
        (sym (subst (λ z. lookup (test z) es ≡ Some old) same found)))

    pub name_added : (es new : List (K × X)) (old w : X) → new ≡ set_value (test own) es w → lookup (test own) es ≡ Some old
        → at w called ≡ kept_position (at old called) (names called) position
        → under new ≡ kept_position (under es) (eq own t && names called) position
    name_added es new old w written found more = more_at es new old w (eq own t) refl written found more

    first_at : (es new : List (K × X)) (w : X) (b : Bool) → eq own t ≡ b → lookup (test t) new ≡ option_or (lookup (test t) es) (cond b (Some w) None)
        → lookup (test own) es ≡ None
        → at w called ≡ cond (names called) (Some position) None → under new ≡ kept_position (under es) (b && names called) position
    first_at es new w false is put none one =
        ap (λ z. option_and_then (λ (x : X). at x called) z) (put ∙ or_none (lookup (test t) es)) ∙ sym (or_none (under es))
    first_at es new w true is put none one =
        let gone : lookup (test t) es ≡ None = subst (λ z. lookup (test z) es ≡ None) ((law own t).0 is) none in
        ap (λ z. option_and_then (λ (x : X). at x called) z) (put ∙ ap (λ z. option_or z (Some w)) gone)
        ∙ (one ∙ ap (λ z. kept_position (option_and_then (λ (x : X). at x called) z) (names called) position) (sym gone))

    pub name_first : (own_eq : K → K → Bool) → ((a b : K) → own_eq a b ≡ eq (view a) (view b)) → (es new : List (K × X)) (k : K) (w : X)
        → new ≡ insert_entry own_eq es k w → view k ≡ own → lookup (test own) es ≡ None
        → at w called ≡ cond (names called) (Some position) None → under new ≡ kept_position (under es) (eq own t && names called) position
    name_first own_eq agree es new k w put key none one =
        first_at es new w (eq own t) refl (added own_eq agree es new k w own t put key none
        ∙ ap (λ z. option_or (lookup (test t) es) (cond z (Some w) None)) (turned t own)) none one

pub texts_law : (a b : List ℕ) → (bytes_eq a b ≡ true) ↔ (a ≡ b)
texts_law a b = bytes_eq-Decides a b

pub keys_law : (a b : KeyView) → (key_eq a b ≡ true) ↔ (a ≡ b)
keys_law (plain_key n) (plain_key m) = ((λ h. ap plain_key ((texts_law n m).0 h)), (λ e. (texts_law n m).1 (let same : n ≡ m = cc e in same)))
keys_law (plain_key n) (interface_key j) = ((λ h. absurd (let bad : ⊥ = cc h in bad)), (λ e. absurd (let bad : ⊥ = cc e in bad)))
keys_law (interface_key i) (plain_key m) = ((λ h. absurd (let bad : ⊥ = cc h in bad)), (λ e. absurd (let bad : ⊥ = cc e in bad)))
keys_law (interface_key i) (interface_key j) = ((λ h. ap interface_key (nat_from i j h)), (λ e. nat_to i j (let same : i ≡ j = cc e in same)))

pub keys_turned : (a b : KeyView) → key_eq a b ≡ key_eq b a
keys_turned a b = turned key_eq keys_law key_view a b

-- the test of a key, as it is seen
pub key_test : (key : WorldKey) → world_key_eq.it key ≡ (λ (k : WorldKey). key_eq (key_view key) (key_view k))
key_test key = fun_ext (keys_agree key)
