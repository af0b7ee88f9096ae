-- A key asks about an import where it is one of the keys that the import has.
use Rattle.std.proofs.Common.{◌≡◌, ◌⊎◌, ◌∙◌, ℕ, suc, ◌+◌, ◌<◌, ◌==◌, Bool, true, false, ◌&&◌, ◌||◌, List, [], ◌∷◌, ◌++◌, length, take, drop, Option, Some, None, nat_lt, refl, sym, ap, inl, inr, arith, option_map}
use Rattle.std.proofs.Math.Bool.{and-false, and-true, or-false, or_assoc, or_comm}
use Rattle.std.proofs.Math.Seq.{take-length}
use Rattle.std.proofs.lemmas.Bool.{cases_Bool, le-ltb, ltb-false, ltb-true}
use Rattle.std.proofs.lemmas.Bool.Decides.{eqb_tells}
use Rattle.std.proofs.lemmas.List.{take_all}
use Rattle.std.proofs.lemmas.Option.{same_Some}
use Rattle.std.proofs.lemmas.List.Folds.{list_any-append}
use Rattle.std.proofs.lemmas.Slice.Eq.{bytes_eq-Decides}
use Rattle.std.specs.Bool.{Decides}
use Rattle.std.specs.List.{after_first, before_first, list_any, position_or_len}
use Rattle.std.specs.Option.{option_eq, option_map_or}
use Rattle.std.specs.Str.{bytes_eq}
use Rattle.wc_texts.specs.Splits.{split_once}
use Rattle.wc_texts.specs.Characters.{at_sign, slash}
use Rattle.wc_why.specs.Keys.{Halves, asks_about, is_package, is_package_by, names_package, unversioned_text, version_of}
use Rattle.wc_import_paths.specs.Private.Asked.{ModuleKey, is_same_key, module_key, module_keys, package_keys, version_keys, versioned_keys}

-- a text is cut at its first `@`, or is whole

abbrev is_at : ℕ → Bool
is_at b = b == at_sign

taken : (b : ℕ) (bs : List ℕ) (n : ℕ) → take (1 + n) (b ∷ bs) ≡ b ∷ take n bs
taken b bs n = let next : 1 + n ≡ suc n = omega arith in rw next refl

dropped : (b : ℕ) (bs : List ℕ) (n : ℕ) → drop (1 + n + 1) (b ∷ bs) ≡ drop (n + 1) bs
dropped b bs n = let next : 1 + n + 1 ≡ suc (n + 1) = omega arith in rw next refl

joined : (text : List ℕ) → position_or_len is_at text < length text → before_first is_at text ++ at_sign ∷ after_first is_at text ≡ text
joined [] lt = absurd (omega (arith, lt))
joined (b ∷ bs) lt = elim (eqb_tells b at_sign) [
  | inl (same, is) ↦ rw same (rw is refl)
  | inr (other, is) ↦ rw other (rw (taken b bs (position_or_len is_at bs)) (rw (dropped b bs (position_or_len is_at bs))
      (ap (λ xs. b ∷ xs) (joined bs (let l = rw other at lt in omega (arith, l))))))
]

pub cut : (text : List ℕ) → ((v : List ℕ) × (split_once at_sign text ≡ Some (unversioned_text text, v)) × (unversioned_text text ++ at_sign ∷ v ≡ text))
    ⊎ ((split_once at_sign text ≡ None) × (unversioned_text text ≡ text))
cut text = elim (cases_Bool (nat_lt (position_or_len is_at text) (length text))) [
  | inl there ↦ inl (after_first is_at text, rw there refl, joined text (ltb-true (position_or_len is_at text) (length text) there))
  | inr none ↦ inr (rw none refl, take_all (position_or_len is_at text) text (ltb-false (position_or_len is_at text) (length text) none))
]

-- what is before it has none
none_before : (text : List ℕ) → position_or_len is_at (before_first is_at text) ≡ length (before_first is_at text)
none_before [] = refl
none_before (b ∷ bs) = elim (eqb_tells b at_sign) [
  | inl (same, is) ↦ rw same refl
  | inr (other, is) ↦ rw other (rw (taken b bs (position_or_len is_at bs)) (rw other (let rest = none_before bs in omega (arith, rest))))
]

pub whole : (text : List ℕ) → split_once at_sign (unversioned_text text) ≡ None
whole text =
    let u = unversioned_text text in
    let e = none_before text in
    rw (le-ltb (position_or_len is_at u) (length u) (omega (arith, e))) refl

-- of texts the keys are the same where the texts are

same_parts : (x y : List ℕ) → module_key x ≡ module_key y → x ≡ y
same_parts x y e = elim (cut x) [
  | inl (v, has, is) ↦ elim (cut y) [
    | inl (w, too, was) ↦
        let fronts : unversioned_text x ≡ unversioned_text y = ap (λ (k : ModuleKey). k.0) e in
        let versions : Some v ≡ Some w = sym (ap (option_map (λ (h : Halves). h.1)) has) ∙ (ap (λ (k : ModuleKey). k.1) e ∙ ap (option_map (λ (h : Halves). h.1)) too) in
        sym is ∙ (ap (λ (u : List ℕ). u ++ at_sign ∷ v) fronts ∙ (ap (λ (u : List ℕ). unversioned_text y ++ at_sign ∷ u) (same_Some v w versions) ∙ was))
    | inr (none, was) ↦
        absurd (let versions : Some v ≡ None = sym (ap (option_map (λ (h : Halves). h.1)) has) ∙ (ap (λ (k : ModuleKey). k.1) e ∙ ap (option_map (λ (h : Halves). h.1)) none) in cc)
  ]
  | inr (nothing, is) ↦ elim (cut y) [
    | inl (w, too, was) ↦
        absurd (let versions : None ≡ Some w = sym (ap (option_map (λ (h : Halves). h.1)) nothing) ∙ (ap (λ (k : ModuleKey). k.1) e ∙ ap (option_map (λ (h : Halves). h.1)) too) in cc)
    | inr (none, was) ↦ sym is ∙ (ap (λ (k : ModuleKey). k.0) e ∙ was)
  ]
]

options_decide : (x y : Option (List ℕ)) → Decides (option_eq bytes_eq x y) (x ≡ y)
options_decide None None = (λ h. refl, λ h. refl)
options_decide None (Some y) = (λ h. absurd (let bad : false ≡ true = h in cc), λ h. absurd (let bad : None ≡ Some y = h in cc))
options_decide (Some x) None = (λ h. absurd (let bad : false ≡ true = h in cc), λ h. absurd (let bad : Some x ≡ None = h in cc))
options_decide (Some x) (Some y) = (λ h. ap Some ((bytes_eq-Decides x y).0 h), λ h. (bytes_eq-Decides x y).1 (same_Some x y h))

both_true : (a b : Bool) → (a && b) ≡ true → (a ≡ true) × (b ≡ true)
both_true true b e = (refl, e)
both_true false b e = absurd (let bad : false ≡ true = e in cc)

keys_decide : (x y : ModuleKey) → Decides (is_same_key x y) (x ≡ y)
keys_decide (a, v) (b, w) = (
  λ h.
      let both = both_true (bytes_eq a b) (option_eq bytes_eq v w) h in
      let fronts : a ≡ b = (bytes_eq-Decides a b).0 both.0 in
      let versions : v ≡ w = (options_decide v w).0 both.1 in
      cc (fronts, versions),
  λ h.
      let fronts : bytes_eq a b ≡ true = (bytes_eq-Decides a b).1 (ap (λ (k : ModuleKey). k.0) h) in
      let versions : option_eq bytes_eq v w ≡ true = (options_decide v w).1 (ap (λ (k : ModuleKey). k.1) h) in
      rw fronts versions,
)

-- two tests are the same where what they decide is
alike : (P Q : Type 0) (a b : Bool) → Decides a P → Decides b Q → (P → Q) → (Q → P) → a ≡ b
alike P Q true b x y there back = sym (y.1 (there (x.0 refl)))
alike P Q false true x y there back = x.1 (back (y.0 refl))
alike P Q false false x y there back = refl

text_by_key : (x y : List ℕ) → bytes_eq x y ≡ is_same_key (module_key x) (module_key y)
text_by_key x y =
    alike (x ≡ y) (module_key x ≡ module_key y) (bytes_eq x y) (is_same_key (module_key x) (module_key y)) (bytes_eq-Decides x y)
    (keys_decide (module_key x) (module_key y)) (ap module_key) (same_parts x y)

-- a front has no version
front_alone : (text : List ℕ) → module_key (unversioned_text text) ≡ (unversioned_text text, None)
front_alone text =
    let u = unversioned_text text in
    let none = whole text in
    let same : unversioned_text u ≡ u = ap (λ (n : ℕ). take n u) (none_before text) ∙ take-length u in
    let version : version_of u ≡ None = ap (option_map (λ (h : Halves). h.1)) none in
    cc (same, version)

-- the two ways to say that a name is asked for
name_keys : (k : ModuleKey) (front : List ℕ) (version : Option (List ℕ))
    → list_any (is_same_key k) (versioned_keys front version) ≡ (is_same_key k (front, None) || is_same_key k (front, version))
name_keys k front None = or-false (is_same_key k (front, None)) ∙ sym (or_twice (is_same_key k (front, None)))
  where
    or_twice : (b : Bool) → (b || b) ≡ b
    or_twice true = refl
    or_twice false = refl
name_keys k front (Some version) = ap (λ (b : Bool). is_same_key k (front, None) || b) (or-false (is_same_key k (front, Some version)))

by_name : (key text : List ℕ) → (bytes_eq key text || bytes_eq key (unversioned_text text))
    ≡ list_any (is_same_key (module_key key)) (versioned_keys (unversioned_text text) (version_of text))
by_name key text =
    let k = module_key key in
    or_comm (bytes_eq key text) (bytes_eq key (unversioned_text text))
    ∙ (ap (λ (b : Bool). b || bytes_eq key text) (text_by_key key (unversioned_text text) ∙ ap (is_same_key k) (front_alone text))
    ∙ (ap (λ (b : Bool). is_same_key k (unversioned_text text, None) || b) (text_by_key key text)
    ∙ sym (name_keys k (unversioned_text text) (version_of text))))

-- and to say that a package is

version_keys_by : (whole : Bool) (x : List ℕ) (v : List ℕ) (front : List ℕ) (version : Option (List ℕ)) → bytes_eq x front ≡ whole
    → list_any (is_same_key (x, Some v)) (version_keys front version) ≡ (whole && option_map_or (bytes_eq v) version false)
version_keys_by whole x v front None e = sym (and-false whole)
version_keys_by whole x v front (Some w) e = or-false (bytes_eq x front && bytes_eq v w) ∙ ap (λ (b : Bool). b && bytes_eq v w) e

version_seen : (v : List ℕ) (h : Option Halves) → option_map_or (λ (x : Halves). bytes_eq v x.1) h false ≡ option_map_or (bytes_eq v) (option_map (λ (x : Halves). x.1) h) false
version_seen v None = refl
version_seen v (Some x) = refl

none_of_version : (x front : List ℕ) (version : Option (List ℕ)) → list_any (is_same_key (x, None)) (version_keys front version) ≡ false
none_of_version x front None = refl
none_of_version x front (Some v) = or-false (bytes_eq x front && false) ∙ and-false (bytes_eq x front)

package_here : (key front rest : List ℕ) (h : Option Halves) → is_package_by h key front rest
    ≡ list_any (is_same_key (option_map_or (λ (x : Halves). x.0) h key, option_map (λ (x : Halves). x.1) h)) (versioned_keys front (version_of rest))
package_here key front rest None =
    sym (ap (λ (b : Bool). (bytes_eq key front && true) || b) (none_of_version key front (version_of rest)) ∙ (or-false (bytes_eq key front && true) ∙ and-true (bytes_eq key front)))
package_here key front rest (Some h) =
    ap (λ (b : Bool). bytes_eq h.0 front && b) (version_seen h.1 (split_once at_sign rest))
    ∙ sym (ap (λ (b : Bool). b || list_any (is_same_key (h.0, Some h.1)) (version_keys front (version_of rest))) (and-false (bytes_eq h.0 front))
    ∙ version_keys_by (bytes_eq h.0 front) h.0 h.1 front (version_of rest) refl)

package_by : (key front rest : List ℕ) → is_package key front rest ≡ list_any (is_same_key (module_key key)) (versioned_keys front (version_of rest))
package_by key front rest =
    package_here key front rest (split_once at_sign key)
    ∙ ap (λ (u : List ℕ). list_any (is_same_key (u, version_of key)) (versioned_keys front (version_of rest))) (front_of key)
  where
    front_of : (text : List ℕ) → option_map_or (λ (x : Halves). x.0) (split_once at_sign text) text ≡ unversioned_text text
    front_of text = elim (cut text) [
      | inl (v, has, is) ↦ ap (λ (h : Option Halves). option_map_or (λ (x : Halves). x.0) h text) has
      | inr (none, is) ↦ ap (λ (h : Option Halves). option_map_or (λ (x : Halves). x.0) h text) none ∙ sym is
    ]

by_package : (key text : List ℕ) → names_package key text ≡ list_any (is_same_key (module_key key)) (package_keys text)
by_package key text = through (split_once slash text)
  where
    through : (h : Option Halves) → option_map_or (λ (x : Halves). is_package key x.0 x.1) h false
        ≡ list_any (is_same_key (module_key key)) (option_map_or (λ (x : Halves). versioned_keys x.0 (version_of x.1)) h [])
    through None = refl
    through (Some x) = package_by key x.0 x.1

-- so of both together
pub asks_by_keys : (key text : List ℕ) → asks_about key text ≡ list_any (is_same_key (module_key key)) (module_keys text)
asks_by_keys key text =
    sym (or_assoc (bytes_eq key text) (bytes_eq key (unversioned_text text)) (names_package key text))
    ∙ (ap (λ (b : Bool). b || names_package key text) (by_name key text)
    ∙ (ap (λ (b : Bool). list_any (is_same_key (module_key key)) (versioned_keys (unversioned_text text) (version_of text)) || b) (by_package key text)
    ∙ sym (list_any-append (is_same_key (module_key key)) (versioned_keys (unversioned_text text) (version_of text)) (package_keys text))))
