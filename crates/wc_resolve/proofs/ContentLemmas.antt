-- Which types have text: a table, made along an order in which each type is after those that it refers to.
use Rattle.std.proofs.Common.{◌≡◌, ℕ, zero, suc, ◌<◌, ◌≤◌, ◌+◌, List, [], ◌∷◌, Bool, false, String, Option, Some, None, length, take, set, get_or, replicate, map, refl, sym, ap, ◌∙◌, subst, inl, inr, length-set}
use Rattle.std.specs.Prelude.{◌||◌, ◌&&◌}
use Rattle.std.specs.List.{Contains, filter_map, cons_option, list_any}
use Rattle.std.specs.Option.{option_map_or}
use Rattle.std.specs.declared.alloc.Global.{Global}
use Rattle.std.proofs.lemmas.Bool.{cases_lt}
use Rattle.std.proofs.lemmas.List.{length-replicate, get_or_past}
use Rattle.wc_maps.proofs.ListLemmas.{any_viewed, contains_head, contains_tail}
use Rattle.wc_resolve.specs.declared.types.WitType.{WitType}
use Rattle.wc_resolve.specs.declared.types.WitType.TheVariants.{Id}
use Rattle.wc_resolve.specs.Contents.{AreTextFlags, has_text, is_list, text_flag, text_of, text_rule}
use Rattle.wc_resolve.specs.Futures.{carried_types}
use Rattle.wc_resolve.specs.Validate.{IsOrder}
use Rattle.wc_resolve.specs.TypeRules.{Follows, repeated, value_by_rule}
use Rattle.wc_resolve.specs.Views.{KindView, TypeView}
use Rattle.wc_texts.specs.Names.{named_view}
use Rattle.wc_resolve.specs.Kinds.{children, kind_at, referenced_indices, type_index}
use Rattle.wc_resolve.proofs.FuturesEntryLemmas.{carried_referenced}
use Rattle.wc_resolve.proofs.ResourcesByValueLemmas.{kind_none}
use Rattle.wc_resolve.proofs.TableEntryLemmas.{AreEntries, table_start, table_step, table_end}
use Rattle.wc_resolve.proofs.TypeRuleLemmas.{LooksDown, value_by_rule_follows}

-- tests that agree on the types in a type agree on it
any_same : (f g : ℕ → Bool) (ts : List WitType) → ((c : ℕ) → Contains (filter_map type_index ts) c → f c ≡ g c) → list_any (has_text f) ts ≡ list_any (has_text g) ts
any_same f g [] h = refl
any_same f g (Id i ∷ ts) h =
    let here : f i.0 ≡ g i.0 = h i.0 (contains_head (filter_map type_index ts) i.0) in
    let rest : list_any (has_text f) ts ≡ list_any (has_text g) ts = any_same f g ts (λ c k. h c (contains_tail i.0 (filter_map type_index ts) c k)) in
    cc (here, rest)
any_same f g (t ∷ ts) h = ap (λ b. has_text f t || b) (any_same f g ts h)

rule_same : (lists : Bool) (f g : ℕ → Bool) (x : ℕ) (o : Option KindView) → ((c : ℕ) → Contains (option_map_or referenced_indices o []) c → f c ≡ g c) → text_rule lists f x o ≡ text_rule lists g x o
rule_same lists f g x None h = refl
rule_same lists f g x (Some k) h = ap (λ b. (lists && is_list k) || b) (any_same f g (carried_types k) (λ c m. h c (carried_referenced (Some k) c m)))

pub text_looks_down : (lists : Bool) (types : List TypeView) → LooksDown (text_rule lists) types
text_looks_down lists types f g x h = rule_same lists f g x (kind_at types x) h

-- what a flag says of a type
abbrev pub IsTextFlag : Bool → List TypeView → ℕ → Bool → Type 0
IsTextFlag lists types x flag = flag ≡ text_of lists types x

-- the flags of all types that are in the list
pub record TextFlagsOf (lists : Bool) (types : List TypeView) (flags : List Bool) (listed : List ℕ) : Type 0 where
  pub same_length : length flags ≡ length types
  pub each : AreEntries (IsTextFlag lists types) false flags listed

pub texts_start : (lists : Bool) (types : List TypeView) (n : ℕ) → n ≡ length types → TextFlagsOf lists types (replicate n false) []
texts_start lists types n e = record { same_length = length-replicate n false ∙ e; each = table_start (IsTextFlag lists types) false (replicate n false) }

pub texts_step : (lists : Bool) (types : List TypeView) (order : List ℕ) (flags : List Bool) (i x : ℕ) (b : Bool) → IsOrder types order → i < length order → x ≡ get_or order i 0 → x < length types
    → b ≡ text_rule lists (text_flag flags) x (kind_at types x) → TextFlagsOf lists types flags (take i order) → TextFlagsOf lists types (set flags x b) (take (i + 1) order)
texts_step lists types order flags i x b o small x_at bound made m =
    let below : (c : ℕ) → Contains (children types x) c → text_flag flags c ≡ text_of lists types c =
    λ c k. m.each.each c (o.first i c small (subst (λ (z : ℕ). Contains (children types z) c) x_at k)) in
    let follows : Follows (text_rule lists) types (text_of lists types) = value_by_rule_follows (text_rule lists) false types order o (text_looks_down lists types) in
    let right : IsTextFlag lists types x b = made ∙ (text_looks_down lists types (text_flag flags) (text_of lists types) x below ∙ sym (follows x bound)) in
    let within : x < length flags = rw m.same_length bound in
    record { same_length = length-set flags x b ∙ m.same_length; each = table_step (IsTextFlag lists types) false flags order i x b small x_at within right m.each }

pub texts_end : (lists : Bool) (types : List TypeView) (order : List ℕ) (flags : List Bool) (i : ℕ) → IsOrder types order → length order ≤ i → TextFlagsOf lists types flags (take i order) → AreTextFlags lists types flags
texts_end lists types order flags i o past m = record { same_length = m.same_length; each = λ x h. table_end (IsTextFlag lists types) false flags order i past m.each x (o.all x h) }

one_optional : (test : WitType → Bool) (o : Option WitType) (ts : List WitType) → list_any test (cons_option o ts) ≡ (option_map_or test o false || list_any test ts)
one_optional test None ts = refl
one_optional test (Some t) ts = refl

any_optional : {X : Type 0} (f : X → Option WitType) (test : WitType → Bool) (xs : List X) → list_any test (filter_map f xs) ≡ list_any (λ x. option_map_or test (f x) false) xs
any_optional f test [] = refl
any_optional f test (x ∷ xs) = one_optional test (f x) (filter_map f xs) ∙ ap (λ b. option_map_or test (f x) false || b) (any_optional f test xs)

pub any_field : (test : WitType → Bool) (fields : List (String Global × WitType)) → list_any (λ f. test f.1) fields ≡ list_any test (map (λ (f : List ℕ × WitType). f.1) (map named_view fields))
any_field test fields = sym (any_viewed (λ (f : List ℕ × WitType). f.1) test (map named_view fields) ∙ any_viewed named_view (λ (f : List ℕ × WitType). test f.1) fields)

pub any_case : (test : WitType → Bool) (cases : List (String Global × Option WitType)) → list_any (λ c. option_map_or test c.1 false) cases ≡ list_any test (filter_map (λ (c : List ℕ × Option WitType). c.1) (map named_view cases))
any_case test cases = sym (any_optional (λ (c : List ℕ × Option WitType). c.1) test (map named_view cases) ∙ any_viewed named_view (λ (c : List ℕ × Option WitType). option_map_or test c.1 false) cases)

-- where there is no type, there is no text
none_outside : (lists : Bool) (types : List TypeView) (n x : ℕ) → kind_at types x ≡ None → repeated (text_rule lists) false types n x ≡ false
none_outside lists types zero x none = refl
none_outside lists types (suc n) x none = ap (text_rule lists (repeated (text_rule lists) false types n) x) none

text_outside : (lists : Bool) (types : List TypeView) (x : ℕ) → kind_at types x ≡ None → text_of lists types x ≡ false
unfolding value_by_rule
text_outside lists types x none = none_outside lists types (length types) x none

-- a table has for each index what the types have
pub flag_is_text : (lists : Bool) (types : List TypeView) (flags : List Bool) (x : ℕ) → AreTextFlags lists types flags → text_flag flags x ≡ text_of lists types x
flag_is_text lists types flags x a =
    elim (cases_lt x (length types)) [
      | inl small ↦ a.each x small
      | inr past ↦
          (let after : length flags ≤ x = rw a.same_length past in
          get_or_past flags x false after ∙ sym (text_outside lists types x (kind_none types x past)))
    ]

pub type_settled : (lists : Bool) (types : List TypeView) (flags : List Bool) (t : WitType) → AreTextFlags lists types flags → has_text (text_flag flags) t ≡ has_text (text_of lists types) t
type_settled lists types flags (Id i) a = flag_is_text lists types flags i.0 a
type_settled lists types flags t a = refl
