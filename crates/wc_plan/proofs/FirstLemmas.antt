-- Of equal functions the first, found one after another.
use Rattle.std.proofs.Common.{◌≡◌, ℕ, List, [], ◌∷◌, ◌++◌, Bool, true, false, cond, ◌&&◌, ◌||◌, Option, Some, None, refl, ◌∙◌, ap, subst}
use Rattle.std.specs.Prelude.{not, filter}
use Rattle.std.specs.Cmp.Lexicographic.{options_equiv}
use Rattle.std.specs.List.{list_any}
use Rattle.std.specs.Option.{option_eq}
use Rattle.std.specs.Str.{bytes_eq}
use Rattle.std.proofs.lemmas.Cmp.{nat_list_eq_equiv}
use Rattle.std.proofs.lemmas.List.Folds.{list_any-append}
use Rattle.std.proofs.lemmas.Slice.Eq.{bytes_eq-Decides}
use Rattle.std.proofs.lemmas.Bool.{and_parts}
use Rattle.wc_resolve.specs.declared.functions.AbiVariant.{AbiVariant}
use Rattle.wc_resolve.specs.declared.functions.AbiVariant.TheVariants.{GuestImport, GuestExport, GuestImportAsync, GuestExportAsync, GuestExportAsyncStackful}
use Rattle.wc_world.specs.FunctionsLowered.{abi_eq}
use Rattle.wc_plan.specs.Calls.{Wanted, call_eq, firsts, owner_eq}
use Rattle.wc_plan.specs.Planner.{is_seen, left}
use Rattle.wc_plan.specs.Views.{CallView, OwnerView, adapter_owner, main_owner}

-- what is equal by tests is equal

owner_is : (a b : OwnerView) → owner_eq a b ≡ true → a ≡ b
owner_is main_owner main_owner h = refl
owner_is main_owner (adapter_owner n) h = absurd (let bad : ⊥ = cc h in bad)
owner_is (adapter_owner m) main_owner h = absurd (let bad : ⊥ = cc h in bad)
owner_is (adapter_owner m) (adapter_owner n) h = ap adapter_owner ((bytes_eq-Decides m n).0 h)

interface_is : (a b : Option (List ℕ)) → option_eq bytes_eq a b ≡ true → a ≡ b
interface_is None None h = refl
interface_is None (Some n) h = absurd (let bad : ⊥ = cc h in bad)
interface_is (Some m) None h = absurd (let bad : ⊥ = cc h in bad)
interface_is (Some m) (Some n) h = ap (λ (z : List ℕ). Some z) ((bytes_eq-Decides m n).0 h)

abi_is : (a b : AbiVariant) → abi_eq a b ≡ true → a ≡ b
abi_is GuestImport GuestImport h = refl
abi_is GuestExport GuestExport h = refl
abi_is GuestImportAsync GuestImportAsync h = refl
abi_is GuestExportAsync GuestExportAsync h = refl
abi_is GuestExportAsyncStackful GuestExportAsyncStackful h = refl
abi_is a b h = absurd (let bad : ⊥ = cc h in bad)

abbrev call : OwnerView → Option (List ℕ) → List ℕ → AbiVariant → CallView
call owner interface name abi = record { owner = owner; interface = interface; name = name; abi = abi }

pub call_is : (a b : CallView) → call_eq a b ≡ true → a ≡ b
call_is a b h =
    let owner = and_parts (owner_eq a.owner b.owner) (option_eq bytes_eq a.interface b.interface && (bytes_eq a.name b.name && abi_eq a.abi b.abi)) h in
    let interface = and_parts (option_eq bytes_eq a.interface b.interface) (bytes_eq a.name b.name && abi_eq a.abi b.abi) owner.1 in
    let name = and_parts (bytes_eq a.name b.name) (abi_eq a.abi b.abi) interface.1 in
    ap (λ z. call z a.interface a.name a.abi) (owner_is a.owner b.owner owner.0)
    ∙ (ap (λ z. call b.owner z a.name a.abi) (interface_is a.interface b.interface interface.0)
    ∙ (ap (λ z. call b.owner b.interface z a.abi) ((bytes_eq-Decides a.name b.name).0 name.0)
    ∙ ap (call b.owner b.interface b.name) (abi_is a.abi b.abi name.1)))

-- the tests don't ask for an order

owner_turned : (a b : OwnerView) → owner_eq a b ≡ owner_eq b a
owner_turned main_owner main_owner = refl
owner_turned main_owner (adapter_owner n) = refl
owner_turned (adapter_owner m) main_owner = refl
owner_turned (adapter_owner m) (adapter_owner n) = nat_list_eq_equiv.symm m n

abi_turned : (a b : AbiVariant) → abi_eq a b ≡ abi_eq b a
abi_turned GuestImport GuestImport = refl
abi_turned GuestExport GuestExport = refl
abi_turned GuestImportAsync GuestImportAsync = refl
abi_turned GuestExportAsync GuestExportAsync = refl
abi_turned GuestExportAsyncStackful GuestExportAsyncStackful = refl
abi_turned a b = refl

pub call_turned : (a b : CallView) → call_eq a b ≡ call_eq b a
call_turned a b =
    let interface : option_eq bytes_eq a.interface b.interface ≡ option_eq bytes_eq b.interface a.interface =
    (options_equiv nat_list_eq_equiv).symm a.interface b.interface in
    let name : bytes_eq a.name b.name ≡ bytes_eq b.name a.name = nat_list_eq_equiv.symm a.name b.name in
    rw (owner_turned a.owner b.owner, interface, name, abi_turned a.abi b.abi) refl

-- what passes one test of those that pass another

module _ {X : Type 0} (p q r : X → Bool) where
  filter_at : (x : X) (xs : List X) (a b c : Bool) → c ≡ (b && a) → p x ≡ a → filter p (filter q xs) ≡ filter r xs
      → filter p (cond b (x ∷ filter q xs) (filter q xs)) ≡ cond c (x ∷ filter r xs) (filter r xs)
  filter_at x xs true true c is test rest = rw (test, is) (ap (λ z. x ∷ z) rest)
  filter_at x xs false true c is test rest = rw (test, is) rest
  filter_at x xs a false c is test rest = rw is rest

  filter_after : ((x : X) → r x ≡ (q x && p x)) → (xs : List X) → filter p (filter q xs) ≡ filter r xs
  filter_after law [] = refl
  filter_after law (x ∷ xs) = filter_at x xs (p x) (q x) (r x) (law x) refl (filter_after law xs)

-- what is left of the first ones, where some functions were found

no_test : (xs : List Wanted) → filter (λ y. true) xs ≡ xs
no_test [] = refl
no_test (x ∷ xs) = ap (λ z. x ∷ z) (no_test xs)

pub left_all : (xs : List Wanted) → left [] xs ≡ firsts xs
left_all xs = no_test (firsts xs)

module _ (x : Wanted) (xs : List Wanted) (seen : List CallView) where
  abbrev Other : Wanted → Bool
  Other y = not (call_eq x.0 y.0)

  -- one that was found, and one that was not
  seen_at : (y : Wanted) (a : Bool) → call_eq x.0 y.0 ≡ a → is_seen seen x ≡ true → not (is_seen seen y) ≡ (not a && not (is_seen seen y))
  seen_at y false is there = refl
  seen_at y true is there = ap not (subst (λ (z : CallView). list_any (call_eq z) seen ≡ true) (call_is x.0 y.0 is) there)

  pub left_seen : is_seen seen x ≡ true → left seen (x ∷ xs) ≡ left seen xs
  left_seen there =
      ap (λ b. cond (not b) (x ∷ filter (λ y. not (is_seen seen y)) (filter Other (firsts xs)))
      (filter (λ y. not (is_seen seen y)) (filter Other (firsts xs)))) there
      ∙ filter_after (λ y. not (is_seen seen y)) Other (λ y. not (is_seen seen y)) (λ y. seen_at y (call_eq x.0 y.0) refl there) (firsts xs)

  new_at : (a b : Bool) → not (a || (b || false)) ≡ (not b && not a)
  new_at true true = refl
  new_at true false = refl
  new_at false true = refl
  new_at false false = refl

  pub left_new : is_seen seen x ≡ false → left seen (x ∷ xs) ≡ x ∷ left (seen ++ x.0 ∷ []) xs
  left_new new =
      ap (λ b. cond (not b) (x ∷ filter (λ y. not (is_seen seen y)) (filter Other (firsts xs)))
      (filter (λ y. not (is_seen seen y)) (filter Other (firsts xs)))) new
      ∙ ap (λ z. x ∷ z)
      (filter_after (λ y. not (is_seen seen y)) Other (λ y. not (is_seen (seen ++ x.0 ∷ []) y))
      (λ y. ap not (list_any-append (call_eq y.0) seen (x.0 ∷ [])) ∙ (ap (λ b. not (is_seen seen y || (b || false))) (call_turned y.0 x.0)
      ∙ new_at (is_seen seen y) (call_eq x.0 y.0))) (firsts xs))
