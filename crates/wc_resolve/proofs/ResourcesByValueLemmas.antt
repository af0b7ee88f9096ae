-- Flags of resources and the types that are free of them.
use Rattle.std.proofs.Common.{◌≡◌, ◌↔◌, ℕ, zero, suc, ◌<◌, ◌≤◌, Bool, true, false, List, [], ◌∷◌, length, get_or, Option, Some, None, refl, sym, ◌∙◌, inl, inr}
use Rattle.std.proofs.Common.{arith}
use Rattle.std.specs.Option.{IfSome}
use Rattle.std.proofs.lemmas.Bool.{cases_lt, false_from_ne_true}
use Rattle.std.proofs.lemmas.List.Elements.{All-weaker}
use Rattle.wc_resolve.specs.declared.types.WitType.{WitType}
use Rattle.wc_resolve.specs.declared.types.WitType.TheVariants.{Id}
use Rattle.wc_resolve.specs.Views.{KindView, TypeView, FunctionView, ItemView, interface_item, function_item, type_item, WorldView, InterfaceView}
use Rattle.wc_resolve.specs.Resources.{AreResourceFlags, IsNotResource}
use Rattle.wc_resolve.specs.Kinds.{ResolveView, IsResource, defined, aliased, kind_at, SignatureHasOnly, DoesItemPass, DoesWorldPass, DoesInterfacePass}
use Rattle.wc_resolve.specs.Kinds.{DoesTypePass, DoAllTypesPass, contained_types}
use Rattle.wc_resolve.specs.WellFormed.{IsFree}

pub kind_none : (types : List TypeView) (x : ℕ) → length types ≤ x → kind_at types x ≡ None
kind_none [] x h = refl
kind_none (t ∷ types) zero h = absurd (omega (arith, h))
kind_none (t ∷ types) (suc x) h = kind_none types x (omega (arith, h))

pub kind_in : (types : List TypeView) (x : ℕ) (k : KindView) → kind_at types x ≡ Some k → x < length types
kind_in types x k e =
    elim (cases_lt x (length types)) [
      | inl small ↦ small
      | inr past ↦ absurd (let n : None ≡ Some k = sym (kind_none types x past) ∙ e in let bad : ⊥ = cc n in bad)
    ]

resource_in : (types : List TypeView) {x : ℕ} → IsResource types x → x < length types
resource_in types (defined x e) = kind_in types x _ e
resource_in types (aliased x i e h) = kind_in types x _ e

past_end : (resource_flags : List Bool) (x : ℕ) → length resource_flags ≤ x → get_or resource_flags x false ≡ false
past_end [] x h = refl
past_end (m ∷ resource_flags) zero h = absurd (omega (arith, h))
past_end (m ∷ resource_flags) (suc x) h = past_end resource_flags x (omega (arith, h))

not_resource_is_free : (types : List TypeView) (resource_flags : List Bool) → AreResourceFlags types resource_flags → (x : ℕ)
    → get_or resource_flags x false ≡ false → IsResource types x → ⊥
not_resource_is_free types resource_flags m x e h =
    let each : get_or resource_flags x false ≡ true = (m.each x (resource_in types h)).1 h in
    let t : true ≡ false = sym each ∙ e in
    let bad : ⊥ = cc t in bad

free_is_not_resource : (types : List TypeView) (resource_flags : List Bool) → AreResourceFlags types resource_flags → (x : ℕ)
    → (IsResource types x → ⊥) → get_or resource_flags x false ≡ false
free_is_not_resource types resource_flags m x free =
    elim (cases_lt x (length types)) [
      | inl small ↦ false_from_ne_true (get_or resource_flags x false) (λ t. free ((m.each x small).0 t))
      | inr past ↦ past_end resource_flags x (rw m.same_length past)
    ]

not_resource_free : (types : List TypeView) (resource_flags : List Bool) → AreResourceFlags types resource_flags → (t : WitType)
    → IsNotResource resource_flags t → IsFree types t
not_resource_free types resource_flags m (Id i) u = not_resource_is_free types resource_flags m i.0 u
not_resource_free types resource_flags m t u = tt

free_not_resource : (types : List TypeView) (resource_flags : List Bool) → AreResourceFlags types resource_flags → (t : WitType) → IsFree types t
    → IsNotResource resource_flags t
free_not_resource types resource_flags m (Id i) f = free_is_not_resource types resource_flags m i.0 f
free_not_resource types resource_flags m t f = tt

some_weaker : (P Q : WitType → Type 0) → ((t : WitType) → P t → Q t) → (o : Option WitType) → IfSome o P → IfSome o Q
some_weaker P Q h None x = x
some_weaker P Q h (Some t) x = h t x

signature_weaker : (P Q : WitType → Type 0) → ((t : WitType) → P t → Q t) → (f : FunctionView) → SignatureHasOnly P f → SignatureHasOnly Q f
signature_weaker P Q h f x = (All-weaker (λ p. P p.1) (λ p. Q p.1) (λ p k. h p.1 k) f.params x.0, some_weaker P Q h f.outcome x.1)

item_weaker : (P Q : WitType → Type 0) → ((t : WitType) → P t → Q t) → (i : ItemView) → DoesItemPass P i → DoesItemPass Q i
item_weaker P Q h (interface_item i external) x = tt
item_weaker P Q h (function_item f) x = signature_weaker P Q h f x
item_weaker P Q h (type_item t) x = tt

world_weaker : (P Q : WitType → Type 0) → ((t : WitType) → P t → Q t) → (w : WorldView) → DoesWorldPass P w → DoesWorldPass Q w
unfolding DoesWorldPass
world_weaker P Q h w x = (
  All-weaker (λ e. DoesItemPass P e.1) (λ e. DoesItemPass Q e.1) (λ e k. item_weaker P Q h e.1 k) w.imports x.0,
  All-weaker (λ e. DoesItemPass P e.1) (λ e. DoesItemPass Q e.1) (λ e k. item_weaker P Q h e.1 k) w.exports x.1,
)

interface_weaker : (P Q : WitType → Type 0) → ((t : WitType) → P t → Q t) → (i : InterfaceView) → DoesInterfacePass P i → DoesInterfacePass Q i
unfolding DoesInterfacePass
interface_weaker P Q h i x = All-weaker (λ e. SignatureHasOnly P e.1) (λ e. SignatureHasOnly Q e.1) (λ e k. signature_weaker P Q h e.1 k) i.functions x

type_weaker : (P Q : WitType → Type 0) → ((t : WitType) → P t → Q t) → (t : TypeView) → DoesTypePass P t → DoesTypePass Q t
unfolding DoesTypePass
type_weaker P Q h t x = All-weaker P Q h (contained_types t.kind) x

all_weaker : (P Q : WitType → Type 0) → ((t : WitType) → P t → Q t) → (r : ResolveView) → DoAllTypesPass P r → DoAllTypesPass Q r
unfolding DoAllTypesPass
all_weaker P Q h r x = (
  All-weaker (DoesWorldPass P) (DoesWorldPass Q) (world_weaker P Q h) r.worlds x.0,
  All-weaker (DoesInterfacePass P) (DoesInterfacePass Q) (interface_weaker P Q h) r.interfaces x.1,
  All-weaker (DoesTypePass P) (DoesTypePass Q) (type_weaker P Q h) r.types x.2,
)

pub function_free : (types : List TypeView) (resource_flags : List Bool) (f : FunctionView) → AreResourceFlags types resource_flags
    → SignatureHasOnly (IsNotResource resource_flags) f ↔ SignatureHasOnly (IsFree types) f
function_free types resource_flags f m = (
  signature_weaker (IsNotResource resource_flags) (IsFree types) (not_resource_free types resource_flags m) f,
  signature_weaker (IsFree types) (IsNotResource resource_flags) (free_not_resource types resource_flags m) f,
)

pub world_free : (types : List TypeView) (resource_flags : List Bool) (w : WorldView) → AreResourceFlags types resource_flags
    → DoesWorldPass (IsNotResource resource_flags) w ↔ DoesWorldPass (IsFree types) w
world_free types resource_flags w m = (
  world_weaker (IsNotResource resource_flags) (IsFree types) (not_resource_free types resource_flags m) w,
  world_weaker (IsFree types) (IsNotResource resource_flags) (free_not_resource types resource_flags m) w,
)

pub interface_free : (types : List TypeView) (resource_flags : List Bool) (i : InterfaceView) → AreResourceFlags types resource_flags
    → DoesInterfacePass (IsNotResource resource_flags) i ↔ DoesInterfacePass (IsFree types) i
interface_free types resource_flags i m = (
  interface_weaker (IsNotResource resource_flags) (IsFree types) (not_resource_free types resource_flags m) i,
  interface_weaker (IsFree types) (IsNotResource resource_flags) (free_not_resource types resource_flags m) i,
)

pub type_free : (types : List TypeView) (resource_flags : List Bool) (t : TypeView) → AreResourceFlags types resource_flags
    → DoesTypePass (IsNotResource resource_flags) t ↔ DoesTypePass (IsFree types) t
type_free types resource_flags t m = (
  type_weaker (IsNotResource resource_flags) (IsFree types) (not_resource_free types resource_flags m) t,
  type_weaker (IsFree types) (IsNotResource resource_flags) (free_not_resource types resource_flags m) t,
)
