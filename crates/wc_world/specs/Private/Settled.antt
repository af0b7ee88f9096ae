-- Types that later exports may pass over: nothing is left to add of what they lead to.
use Rattle.std.specs.Prelude.{◌≡◌, ◌&&◌, ℕ, List, Bool, true, Option, Some, Contains}
use Rattle.std.specs.List.{list_all}
use Rattle.std.specs.Option.{option_map_or}
use Rattle.wc_resolve.specs.Dependencies.{interface_owning}
use Rattle.wc_resolve.specs.Kinds.{ResolveView, children, kind_at, referenced_types}
use Rattle.wc_resolve.specs.Views.{KindView}
use Rattle.wc_resolve.specs.declared.ids.InterfaceId.{InterfaceId}
use Rattle.wc_resolve.specs.declared.types.WitType.{WitType}
use Rattle.wc_resolve.specs.declared.types.WitType.TheVariants.{Id}
use Rattle.wc_world.specs.Private.ImportedItems.{is_in}
use Rattle.wc_world.specs.Private.Marks.{is_within, known_to, mark_of}
use Rattle.wc_world.specs.Used.{UsedView}

-- a type is primitive, or one of these
abbrev pub is_among : List ℕ → WitType → Bool
is_among types (Id t) = is_in types t.0
is_among types t = true

-- so is that of a payload, if it has one
abbrev pub is_payload_among : List ℕ → Option WitType → Bool
is_payload_among types payload = option_map_or (is_among types) payload true

-- a definition refers to primitive types and to these alone
abbrev pub refers_only_to : List ℕ → KindView → Bool
refers_only_to types kind = list_all (is_among types) (referenced_types kind)

-- no interface owns a type, or one that is within this one
abbrev pub is_owner_within : UsedView → Option InterfaceId → Option ℕ → Bool
is_owner_within sets reach owner = option_map_or (is_within sets reach) owner true

-- a type is of no interface, or of one within this one, and refers to primitive types and to these alone
abbrev pub is_settled_for : ResolveView → UsedView → List ℕ → Option InterfaceId → ℕ → Bool
is_settled_for r sets types reach t = is_owner_within sets reach (interface_owning r t) && option_map_or (refers_only_to types) (kind_at r.types t) true

-- a type that is marked refers to types that are live, or settled for the interface of its mark, and the interface that owns it is within that one
pub record AreSettled (r : ResolveView) (sets : UsedView) (live : List ℕ) (marks : List (Option (Option InterfaceId))) : Type 0 where
  pub over : (t c : ℕ) (reach : Option InterfaceId) → mark_of marks t ≡ Some reach → Contains (children r.types t) c → Contains (known_to sets live marks reach) c
  pub owned : (t i : ℕ) (reach : Option InterfaceId) → mark_of marks t ≡ Some reach → interface_owning r t ≡ Some i → is_within sets reach i ≡ true
