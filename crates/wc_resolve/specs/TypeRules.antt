-- Values of types, each made from the values of the types that it refers to.
use Rattle.std.specs.Prelude.{◌≡◌, ℕ, zero, suc, ◌<◌, List, length, Option}
use Rattle.wc_resolve.specs.Views.{KindView, TypeView}
use Rattle.wc_resolve.specs.Kinds.{kind_at}

-- how the value at an index is made: from the values at other indices, the index, and the kind of the type there
abbrev pub Rule : Type 0 → Type 0
Rule Y = (ℕ → Y) → ℕ → Option KindView → Y

-- values that are made by the rule
abbrev pub Follows : {Y : Type 0} → Rule Y → List TypeView → (ℕ → Y) → Type 0
Follows rule types value = (x : ℕ) → x < length types → value x ≡ rule value x (kind_at types x)

-- no other values follow the rule
abbrev pub IsOnlyFollowing : {Y : Type 0} → Rule Y → List TypeView → (ℕ → Y) → Type 0
IsOnlyFollowing {Y} rule types value =
    (other : ℕ → Y) → Follows rule types other → (x : ℕ) → x < length types → other x ≡ value x

-- the rule, so many times over
abbrev pub repeated : {Y : Type 0} → Rule Y → Y → List TypeView → ℕ → ℕ → Y
repeated rule first types zero x = first
repeated rule first types (suc n) x = rule (repeated rule first types n) x (kind_at types x)

-- the values that the rule makes: as types form no cycle, these follow it, and no others do
unfoldable pub value_by_rule : {Y : Type 0} → Rule Y → Y → List TypeView → ℕ → Y
value_by_rule rule first types x = repeated rule first types (length types) x
