-- Values that can be printed and parsed again: their numbers are numbers, no object repeats a member, and they nest no
-- deeper than a bound.
use Rattle.std.proofs.Common.{◌≡◌, ◌≢◌, ℕ, ◌<◌, ◌^◌, suc, ◌≤◌, List, [], ◌∷◌, length, map, Option, Some, None, All, AllPairs, IfSome, refl, ap, arith, subst}
use Rattle.std.specs.List.{IsDistinct}
use Rattle.std.specs.Set.{distinct_count}
use Rattle.std.specs.Str.{bytes_eq}
use Rattle.std.proofs.lemmas.Cmp.{nat_list_eq_equiv}
use Rattle.std.proofs.lemmas.List.Elements.{All-head, All-tail}
use Rattle.std.proofs.lemmas.Map.Keys.{IsDistinct-cons}
use Rattle.std.proofs.lemmas.Map.Made.{AllPairs-from_IsDistinct, IsDistinct-from_count}
use Rattle.std.proofs.lemmas.Slice.Eq.{bytes_eq-Decides}
use Rattle.json.specs.Json.{Json, null, string, object, Items, Members, no_members, member}
use Rattle.json.specs.Strict.{AreDistinct, HasUniqueKeys, ItemsHaveUniqueKeys, MembersHaveUniqueKeys, keys}
use Rattle.json.specs.Tree.{HasNumbers, ItemsHaveNumbers, MembersHaveNumbers, depth, items_depth, members_depth}
use Rattle.json.proofs.Printed.Decimals.{IsNumber-decimal}
use Rattle.wc_texts.specs.Shapes.{nullable_json, number_json}
use Rattle.wc_json.specs.ToJson.{items_json, list_json, members_json, variant_json}

pub record IsWritable (bound : ℕ) (j : Json) : Type 0 where
  pub numbers : HasNumbers j
  pub unique : HasUniqueKeys j
  pub shallow : depth j ≤ bound

pub record AreWritableItems (bound : ℕ) (js : Items) : Type 0 where
  pub numbers : ItemsHaveNumbers js
  pub unique : ItemsHaveUniqueKeys js
  pub shallow : items_depth js ≤ bound

pub record AreWritable (bound : ℕ) (ms : Members) : Type 0 where
  pub numbers : MembersHaveNumbers ms
  pub unique : MembersHaveUniqueKeys ms
  pub shallow : members_depth ms ≤ bound

-- a larger bound
pub IsWritable-le : {bound : ℕ} {j : Json} (larger : ℕ) → bound ≤ larger → IsWritable bound j → IsWritable larger j
IsWritable-le larger order w = record { numbers = w.numbers; unique = w.unique; shallow = let shallow = w.shallow in omega (arith, order, shallow) }

pub IsWritable-string : (bound : ℕ) (s : List ℕ) → IsWritable bound (string s)
IsWritable-string bound s = record { numbers = tt; unique = tt; shallow = omega arith }

pub IsWritable-null : (bound : ℕ) → IsWritable bound null
IsWritable-null bound = record { numbers = tt; unique = tt; shallow = omega arith }

pub IsWritable-number_json : (bound n : ℕ) → n < 2 ^ 32 → IsWritable bound (number_json n)
IsWritable-number_json bound n fits = record { numbers = IsNumber-decimal n (omega (arith, fits)); unique = tt; shallow = omega arith }

pub IsWritable-nullable_json : {A : Type 0} (bound : ℕ) (write : A → Json) (Fits : A → Type 0) → ((x : A) → Fits x → IsWritable bound (write x))
    → (o : Option A) → IfSome o Fits → IsWritable bound (nullable_json write o)
IsWritable-nullable_json bound write Fits each None fits = IsWritable-null bound
IsWritable-nullable_json bound write Fits each (Some x) fits = each x fits

pub IsWritable-nullable_string : (bound : ℕ) (o : Option (List ℕ)) → IsWritable bound (nullable_json string o)
IsWritable-nullable_string bound None = IsWritable-null bound
IsWritable-nullable_string bound (Some s) = IsWritable-string bound s

-- lists

AreWritableItems-items_json : {A : Type 0} (bound : ℕ) (write : A → Json) (Fits : A → Type 0) → ((x : A) → Fits x → IsWritable bound (write x))
    → (xs : List A) → All Fits xs → AreWritableItems bound (items_json write xs)
AreWritableItems-items_json bound write Fits each [] fits = record { numbers = tt; unique = tt; shallow = omega arith }
AreWritableItems-items_json bound write Fits each (x ∷ xs) fits =
    let first = each x (All-head Fits x xs fits) in
    let rest = AreWritableItems-items_json bound write Fits each xs (All-tail Fits x xs fits) in
    let one = first.shallow in
    let others = rest.shallow in
    record { numbers = (first.numbers, rest.numbers); unique = (first.unique, rest.unique); shallow = omega (arith, one, others) }

pub IsWritable-list_json : {A : Type 0} (bound : ℕ) (write : A → Json) (Fits : A → Type 0) → ((x : A) → Fits x → IsWritable bound (write x))
    → (xs : List A) → All Fits xs → IsWritable (suc bound) (list_json write xs)
IsWritable-list_json bound write Fits each xs fits =
    let w = AreWritableItems-items_json bound write Fits each xs fits in
    let shallow = w.shallow in
    record { numbers = w.numbers; unique = w.unique; shallow = omega (arith, shallow) }

-- objects

pub AreWritable-nil : {bound : ℕ} → AreWritable bound no_members
AreWritable-nil = record { numbers = tt; unique = tt; shallow = omega arith }

pub AreWritable-cons : {bound : ℕ} {name : List ℕ} {j : Json} {ms : Members} → IsWritable bound j → AreWritable bound ms → AreWritable bound (member name j ms)
AreWritable-cons first rest =
    let one = first.shallow in
    let others = rest.shallow in
    record { numbers = (first.numbers, rest.numbers); unique = (first.unique, rest.unique); shallow = omega (arith, one, others) }

pub IsWritable-object : {bound : ℕ} {ms : Members} → AreWritable bound ms → AreDistinct (keys ms) → IsWritable (suc bound) (object ms)
IsWritable-object w distinct =
    let shallow = w.shallow in
    record { numbers = w.numbers; unique = (distinct, w.unique); shallow = omega (arith, shallow) }

-- names that are counted as different are so
pub AreDistinct_counted : (names : List (List ℕ)) → distinct_count bytes_eq names ≡ length names → AreDistinct names
AreDistinct_counted names counted = AllPairs-from_IsDistinct bytes_eq-Decides names (IsDistinct-from_count nat_list_eq_equiv names counted)

IsDistinct-none : IsDistinct bytes_eq []
unfolding IsDistinct
IsDistinct-none = tt

IsDistinct-one : (name : List ℕ) → IsDistinct bytes_eq (name ∷ [])
IsDistinct-one name = IsDistinct-cons bytes_eq name [] tt IsDistinct-none

pub IsWritable-variant_json : {bound : ℕ} {j : Json} (name : List ℕ) → IsWritable bound j → IsWritable (suc bound) (variant_json name j)
IsWritable-variant_json name w = IsWritable-object (AreWritable-cons w AreWritable-nil)
    (AllPairs-from_IsDistinct bytes_eq-Decides (name ∷ []) (IsDistinct-one name))

-- maps of whose keys no two are spelled alike
module _ {L A : Type 0} (text : L → List ℕ) (write : A → Json) (Fits : L × A → Type 0) where
  keys-texts : (es : List (L × A)) → map (λ (e : L × A). text e.0) es ≡ keys (members_json text write es)
  keys-texts [] = refl
  keys-texts (e ∷ es) = ap (λ (names : List (List ℕ)). text e.0 ∷ names) (keys-texts es)

  AreWritable-members_json : (bound : ℕ) → ((e : L × A) → Fits e → IsWritable bound (write e.1)) → (es : List (L × A)) → All Fits es
      → AreWritable bound (members_json text write es)
  AreWritable-members_json bound each [] fits = AreWritable-nil
  AreWritable-members_json bound each (e ∷ es) fits =
      AreWritable-cons (each e (All-head Fits e es fits)) (AreWritable-members_json bound each es (All-tail Fits e es fits))

  pub IsWritable-map : (bound : ℕ) → ((e : L × A) → Fits e → IsWritable bound (write e.1)) → (es : List (L × A))
      → AllPairs (λ a b. a ≢ b) (map (λ (e : L × A). text e.0) es) → All Fits es
      → IsWritable (suc bound) (object (members_json text write es))
  IsWritable-map bound each es distinct fits =
      IsWritable-object (AreWritable-members_json bound each es fits) (subst (AllPairs (λ a b. a ≢ b)) (keys-texts es) distinct)
