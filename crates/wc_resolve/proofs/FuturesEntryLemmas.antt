-- The table of futures and streams, made along an order in which each type is after those that it refers to.
use Rattle.std.proofs.Common.{◌≡◌, ℕ, ◌<◌, ◌≤◌, ◌+◌, ◌-◌, ◌^◌, min, Bool, true, false, List, [], ◌∷◌, ◌++◌, length, map, take, drop, set, get_or, replicate}
use Rattle.std.proofs.Common.{Option, Some, None, refl, sym, ap, ◌∙◌, subst, inl, inr, arith, append-nil, length-append, length-set, nat_eq}
use Rattle.std.specs.Prelude.{if◌then◌else◌}
use Rattle.std.specs.List.{Contains, filter_map, flat_map, cons_option, sum_by}
use Rattle.std.specs.Option.{option_map_or}
use Rattle.std.proofs.lemmas.List.{length-map, length-replicate, map-set, nil_from_length, take-append-drop}
use Rattle.std.proofs.lemmas.Option.{get_or_from_slice_get}
use Rattle.std.proofs.lemmas.List.Elements.{Contains-append_left}
use Rattle.std.proofs.lemmas.List.Sums.{sum_by-cons}
use Rattle.wc_resolve.specs.declared.futures.FuturesEntry.{FuturesEntry}
use Rattle.wc_resolve.specs.declared.ids.TypeId.{TypeId}
use Rattle.wc_resolve.specs.Views.{KindView, record_kind, resource_kind, handle_kind, flags_kind, tuple_kind, variant_kind, enum_kind, option_kind, result_kind}
use Rattle.wc_resolve.specs.Views.{list_kind, future_kind, stream_kind, alias_kind, TypeView}
use Rattle.wc_resolve.specs.Kinds.{children, kind_at, referenced_indices}
use Rattle.wc_resolve.specs.Validate.{IsOrder}
use Rattle.wc_resolve.specs.TypeRules.{Follows}
use Rattle.wc_resolve.specs.Roots.{indices}
use Rattle.wc_resolve.specs.Live.{listing_from, listing_of, listing_rule}
use Rattle.wc_resolve.specs.Futures.{AreFuturesEntries, EntryView, IsEntryFor, IsFuturesEntry, carried_indices, count_of, ends_from, ends_of, entry_at, entry_view, futures_from}
use Rattle.wc_resolve.specs.Futures.{futures_of, futures_rule, is_carrier, itself, max_count, no_futures, only_part, part_for}
use Rattle.wc_resolve.proofs.KeyLemmas.{nat_from}
use Rattle.wc_maps.proofs.ListLemmas.{contains_none, contains_head, contains_tail, contains_cons, view_found}
use Rattle.wc_resolve.proofs.ListUnionLemmas.{joined_same}
use Rattle.wc_resolve.proofs.ListingLemmas.{listing_looks_down}
use Rattle.wc_resolve.proofs.TableEntryLemmas.{AreEntries, table_start, table_step, table_end}
use Rattle.wc_resolve.proofs.TypeRuleLemmas.{LooksDown, value_by_rule_follows}
use Rattle.wc_resolve.proofs.WalkLemmas.{one_listed}

-- what a type contains by value, and an alias's target, is referred to
pub carried_referenced : (o : Option KindView) (c : ℕ) → Contains (option_map_or carried_indices o []) c → Contains (option_map_or referenced_indices o []) c
carried_referenced None c h = h
carried_referenced (Some (handle_kind k)) c h = absurd (contains_none c h)
carried_referenced (Some (record_kind k)) c h = h
carried_referenced (Some resource_kind) c h = h
carried_referenced (Some (flags_kind k)) c h = h
carried_referenced (Some (tuple_kind k)) c h = h
carried_referenced (Some (variant_kind k)) c h = h
carried_referenced (Some (enum_kind k)) c h = h
carried_referenced (Some (option_kind k)) c h = h
carried_referenced (Some (result_kind k e)) c h = h
carried_referenced (Some (list_kind k)) c h = h
carried_referenced (Some (future_kind k)) c h = h
carried_referenced (Some (stream_kind k)) c h = h
carried_referenced (Some (alias_kind k)) c h = h

pub futures_look_down : (types : List TypeView) → LooksDown futures_rule types
futures_look_down types f g x h =
    ap (λ z. z ++ (if option_map_or is_carrier (kind_at types x) false then x ∷ [] else []))
    (joined_same f g (option_map_or carried_indices (kind_at types x) []) (λ c k. h c (carried_referenced (kind_at types x) c k)))

-- what stays of a type that another one is to replace: its futures and streams; and no more types are below the other
pub record IsReplaced (types : List TypeView) (x : ℕ) (part : ℕ) : Type 0 where
  pub same : futures_of types part ≡ futures_of types x
  pub within : part < length types
  pub longer : length (listing_of types part) ≤ length (listing_of types x)

unreplaced : (types : List TypeView) (x : ℕ) → x < length types → IsReplaced types x x
unreplaced types x small = record { same = refl; within = small; longer = omega arith }

only_replaces : (types : List TypeView) (id : TypeId) (parts : List TypeId) (carrier : Bool) → id.0 < length types
    → futures_of types id.0 ≡ futures_from types (indices parts) ++ itself carrier id.0 → ((p : ℕ) → Contains (indices parts) p → p < length types)
    → length (listing_from types (indices parts)) < length (listing_of types id.0) → IsReplaced types id.0 (only_part parts carrier id).0
only_replaces types id parts true small made within shorter = unreplaced types id.0 small
only_replaces types id [] false small made within shorter = unreplaced types id.0 small
only_replaces types id (part ∷ []) false small made within shorter = record {
  same = sym (made ∙ append-nil (futures_of types part.0 ++ []) ∙ append-nil (futures_of types part.0));
  within = within part.0 (contains_head [] part.0);
  longer = (let all : length (listing_of types part.0 ++ []) ≡ length (listing_of types part.0) = ap length (append-nil (listing_of types part.0)) in
      omega (arith, all, shorter));
}
only_replaces types id (part ∷ second ∷ more) false small made within shorter = unreplaced types id.0 small

-- the type that replaces another one, where this has futures or streams
abbrev pub IsPartFor : List TypeView → ℕ → Option TypeId → Type 0
IsPartFor types x None = futures_of types x ≡ []
IsPartFor types x (Some part) = IsReplaced types x part.0

part_chosen : (types : List TypeView) (id : TypeId) (entry : EntryView) (b : Bool) → id.0 < length types → IsFuturesEntry types id.0 entry
    → nat_eq entry.count 0 ≡ b
    → IsPartFor types id.0 (if b then None else Some (only_part entry.parts entry.is_carrier id))
part_chosen types id entry true small e none =
    let count : entry.count ≡ 0 = nat_from entry.count 0 none in
    let capped : min (length (futures_of types id.0)) (2 ^ 64 - 1) ≡ 0 = sym e.counted ∙ count in
    nil_from_length (futures_of types id.0) (omega (arith, capped))
part_chosen types id entry false small e some = only_replaces types id entry.parts entry.is_carrier small e.made e.within e.shorter

part_right : (types : List TypeView) (entries : List EntryView) (id : TypeId) → id.0 < length types → IsFuturesEntry types id.0 (entry_at entries id.0)
    → IsPartFor types id.0 (part_for entries id)
part_right types entries id small e = part_chosen types id (entry_at entries id.0) (nat_eq (entry_at entries id.0).count 0) small e refl

-- the types that replace some types
pub record AreReplaced (types : List TypeView) (ids parts : List TypeId) : Type 0 where
  pub same : futures_from types (indices parts) ≡ futures_from types (indices ids)
  pub within : (p : ℕ) → Contains (indices parts) p → p < length types
  pub longer : length (listing_from types (indices parts)) ≤ length (listing_from types (indices ids))

replaced_more : (types : List TypeView) (id : TypeId) (ids parts : List TypeId) (o : Option TypeId) → IsPartFor types id.0 o
    → AreReplaced types ids parts → AreReplaced types (id ∷ ids) (cons_option o parts)
replaced_more types id ids parts None none rest = record {
  same = rest.same ∙ ap (λ z. z ++ futures_from types (indices ids)) (sym none);
  within = rest.within;
  longer = (let all = length-append (listing_of types id.0) (listing_from types (indices ids)) in let less = rest.longer in omega (arith, all, less));
}
replaced_more types id ids parts (Some part) is rest = record {
  same = ap (λ z. z ++ futures_from types (indices parts)) is.same ∙ ap (λ z. futures_of types id.0 ++ z) rest.same;
  within = λ p h. elim (contains_cons part.0 (indices parts) p h) [
    | inl same ↦ subst (λ (z : ℕ). z < length types) same is.within
    | inr later ↦ rest.within p later
  ];
  longer = (let all = length-append (listing_of types id.0) (listing_from types (indices ids)) in
      let mine = length-append (listing_of types part.0) (listing_from types (indices parts)) in
      let less = rest.longer in let first = is.longer in omega (arith, all, mine, less, first));
}

-- types with entries that are right
abbrev pub AreRight : List TypeView → List EntryView → List TypeId → Type 0
AreRight types entries ids = (y : ℕ) → Contains (indices ids) y → (y < length types) × IsFuturesEntry types y (entry_at entries y)

pub parts_right : (types : List TypeView) (entries : List EntryView) (ids : List TypeId) → AreRight types entries ids
    → AreReplaced types ids (filter_map (part_for entries) ids)
parts_right types entries [] right = record { same = refl; within = λ p h. absurd (contains_none p h); longer = omega arith }
parts_right types entries (id ∷ ids) right =
    let first = right id.0 (contains_head (indices ids) id.0) in
    replaced_more types id ids (filter_map (part_for entries) ids) (part_for entries id) (part_right types entries id first.0 first.1)
    (parts_right types entries ids (λ y h. right y (contains_tail id.0 (indices ids) y h)))

capped_sum : (a b m n : ℕ) → min a (2 ^ 64 - 1) ≡ min m (2 ^ 64 - 1) → b ≡ min n (2 ^ 64 - 1) → min (b + a) (2 ^ 64 - 1) ≡ min (n + m) (2 ^ 64 - 1)
capped_sum a b m n e f = omega (arith, e, f)

counts_right : (types : List TypeView) (entries : List EntryView) (ids : List TypeId) → AreRight types entries ids
    → count_of entries ids ≡ min (length (futures_from types (indices ids))) max_count
counts_right types entries [] right = refl
counts_right types entries (id ∷ ids) right =
    let first = right id.0 (contains_head (indices ids) id.0) in
    let rest : count_of entries ids ≡ min (length (futures_from types (indices ids))) max_count = counts_right types entries ids
    (λ y h. right y (contains_tail id.0 (indices ids) y h)) in
    ap (λ n. min n max_count) (sum_by-cons (λ (i : TypeId). (entry_at entries i.0).count) id ids)
    ∙ capped_sum (sum_by (λ (i : TypeId). (entry_at entries i.0).count) ids) (entry_at entries id.0).count (length (futures_from types (indices ids)))
    (length (futures_of types id.0)) rest first.1.counted
    ∙ ap (λ n. min n max_count) (sym (length-append (futures_of types id.0) (futures_from types (indices ids))))

pub capped_end : (before count b l : ℕ) → before ≡ min b (2 ^ 64 - 1) → count ≡ min l (2 ^ 64 - 1) → min (before + count) (2 ^ 64 - 1) ≡ min (b + l) (2 ^ 64 - 1)
capped_end before count b l e f = omega (arith, e, f)

ends_more : (types : List TypeView) (entries : List EntryView) (ids parts : List TypeId) (id part : TypeId) (b before count : ℕ) (none : Bool)
    → before ≡ min b max_count → count ≡ min (length (futures_of types id.0)) max_count → (none ≡ false → futures_of types part.0 ≡ futures_of types id.0)
    → ((c end : ℕ) → end ≡ min c max_count → ends_from entries end ids ≡ ends_of types c parts)
    → (if none then ends_from entries before ids else (min (before + count) max_count ∷ ends_from entries (min (before + count) max_count) ids))
    ≡ ends_of types b (cons_option (if none then None else Some part) parts)
ends_more types entries ids parts id part b before count true e counted same rest = rest b before e
ends_more types entries ids parts id part b before count false e counted same rest =
    let l : length (futures_of types id.0) ≡ length (futures_of types part.0) = ap length (sym (same refl)) in
    let end : min (before + count) (2 ^ 64 - 1) ≡ min (b + length (futures_of types part.0)) (2 ^ 64 - 1) =
    capped_end before count b (length (futures_of types part.0)) e (counted ∙ ap (λ z. min z max_count) l) in
    ap (λ z. z ∷ ends_from entries (min (before + count) max_count) ids) end
    ∙ ap (λ z. min (b + length (futures_of types part.0)) max_count ∷ z) (rest (b + length (futures_of types part.0)) (min (before + count) max_count) end)

part_same : (types : List TypeView) (id : TypeId) (part : TypeId) (none : Bool) → IsPartFor types id.0 (if none then None else Some part) → none ≡ false
    → futures_of types part.0 ≡ futures_of types id.0
part_same types id part true is some = (let bad : ⊥ = cc some in absurd bad)
part_same types id part false is some = is.same

pub ends_right : (types : List TypeView) (entries : List EntryView) (ids : List TypeId) → AreRight types entries ids → (b before : ℕ) → before ≡ min b max_count
    → ends_from entries before ids ≡ ends_of types b (filter_map (part_for entries) ids)
ends_right types entries [] right b before e = refl
ends_right types entries (id ∷ ids) right b before e =
    let first = right id.0 (contains_head (indices ids) id.0) in
    let entry = entry_at entries id.0 in
    let none = nat_eq entry.count 0 in
    let part = only_part entry.parts entry.is_carrier id in
    ends_more types entries ids (filter_map (part_for entries) ids) id part b before entry.count none e first.1.counted
    (part_same types id part none (part_right types entries id first.0 first.1))
    (λ c end is. ends_right types entries ids (λ y h. right y (contains_tail id.0 (indices ids) y h)) c end is)

capped_own : (a n m : ℕ) → a ≡ min n (2 ^ 64 - 1) → min (a + m) (2 ^ 64 - 1) ≡ min (n + m) (2 ^ 64 - 1)
capped_own a n m e = omega (arith, e)

own_length : (carrier : Bool) (x : ℕ) → length (itself carrier x) ≡ (if carrier then 1 else 0)
own_length true x = refl
own_length false x = refl

carried_less : (f : ℕ → List ℕ) (o : Option KindView) → length (flat_map f (option_map_or carried_indices o [])) ≤ length
    (flat_map f (option_map_or referenced_indices o []))
carried_less f None = omega arith
carried_less f (Some (handle_kind h)) = omega arith
carried_less f (Some (record_kind h)) = omega arith
carried_less f (Some resource_kind) = omega arith
carried_less f (Some (flags_kind h)) = omega arith
carried_less f (Some (tuple_kind h)) = omega arith
carried_less f (Some (variant_kind h)) = omega arith
carried_less f (Some (enum_kind h)) = omega arith
carried_less f (Some (option_kind h)) = omega arith
carried_less f (Some (result_kind h e)) = omega arith
carried_less f (Some (list_kind h)) = omega arith
carried_less f (Some (future_kind h)) = omega arith
carried_less f (Some (stream_kind h)) = omega arith
carried_less f (Some (alias_kind h)) = omega arith

-- an entry that is made of right ones is right
entry_right : (types : List TypeView) (entries : List EntryView) (x : ℕ) (entry : EntryView) → Follows futures_rule types (futures_of types)
    → Follows listing_rule types (listing_of types) → x < length types
    → ((c : ℕ) → Contains (option_map_or carried_indices (kind_at types x) []) c → (c < length types) × IsFuturesEntry types c (entry_at entries c))
    → IsEntryFor entries types x entry → IsFuturesEntry types x entry
entry_right types entries x entry follows listed small right made =
    let ids : List TypeId = made.0 in
    let carried : List ℕ = option_map_or carried_indices (kind_at types x) [] in
    let carrier : Bool = option_map_or is_carrier (kind_at types x) false in
    let below : AreRight types entries ids = λ y h. right y (subst (λ (z : List ℕ). Contains z y) made.1 h) in
    let parts : AreReplaced types ids (filter_map (part_for entries) ids) = parts_right types entries ids below in
    let rule : futures_of types x ≡ futures_from types (indices ids) ++ itself carrier x = follows x small
    ∙ ap (λ z. futures_from types z ++ itself carrier x) (sym made.1) in
    let one : length (listing_of types x) ≡ length (flat_map (listing_of types) (children types x)) + 1 = one_listed types x listed small in
    let less : length (flat_map (listing_of types) carried) ≤ length (flat_map (listing_of types) (children types x)) = carried_less (listing_of types)
    (kind_at types x) in
    let same : length (listing_from types (indices ids)) ≡ length (flat_map (listing_of types) carried) = ap (λ z. length (listing_from types z)) made.1 in
    let fewer : length (listing_from types (indices (filter_map (part_for entries) ids))) ≤ length (listing_from types (indices ids)) = parts.longer in
    let total : length (futures_of types x) ≡ length (futures_from types (indices ids)) + (if carrier then 1 else 0) =
    ap length rule ∙ length-append (futures_from types (indices ids)) (itself carrier x) ∙ ap (λ n. length (futures_from types (indices ids)) + n)
    (own_length carrier x) in
    subst (IsFuturesEntry types x) (sym made.2) (record {
      made = rule ∙ ap (λ z. z ++ itself carrier x) (sym parts.same);
      ended = ends_right types entries ids below 0 0 refl;
      counted = capped_own (count_of entries ids) (length (futures_from types (indices ids))) (if carrier then 1 else 0)
          (counts_right types entries ids below) ∙ ap (λ n. min n max_count) (sym total);
      within = parts.within;
      shorter = omega (arith, one, less, same, fewer);
    })

taken : (order : List ℕ) (i c : ℕ) → Contains (take i order) c → Contains order c
taken order i c h = subst (λ (z : List ℕ). Contains z c) (take-append-drop i order) (Contains-append_left (take i order) (drop i order) c h)

-- the entries of all types that are in the list
pub record EntriesOf (types : List TypeView) (entries : List EntryView) (listed : List ℕ) : Type 0 where
  pub same_length : length entries ≡ length types
  pub each : AreEntries (IsFuturesEntry types) no_futures entries listed

pub entries_start : (types : List TypeView) (n : ℕ) (entries : List EntryView) → entries ≡ replicate n no_futures → n ≡ length types
    → EntriesOf types entries []
entries_start types n entries made e = record {
  same_length = ap (λ z. length z) made ∙ length-replicate n no_futures ∙ e;
  each = table_start (IsFuturesEntry types) no_futures entries;
}

pub entries_step : (types : List TypeView) (order : List ℕ) (entries : List EntryView) (i x : ℕ) (entry : EntryView) → IsOrder types order
    → i < length order → x ≡ get_or order i 0 → x < length types
    → IsEntryFor entries types x entry → EntriesOf types entries (take i order) → EntriesOf types (set entries x entry) (take (i + 1) order)
entries_step types order entries i x entry o small x_at bound made m =
    let below : (c : ℕ) → Contains (option_map_or carried_indices (kind_at types x) []) c → (c < length types) × IsFuturesEntry types c (entry_at entries c) =
    λ c h.
    let listed : Contains (take i order) c =
    o.first i c small (subst (λ (z : ℕ). Contains (children types z) c) x_at (carried_referenced (kind_at types x) c h)) in
    (o.within c (taken order i c listed), m.each.each c listed) in
    let within : x < length entries = rw m.same_length bound in
    record {
      same_length = length-set entries x entry ∙ m.same_length;
      each = table_step (IsFuturesEntry types) no_futures entries order i x entry small x_at within
          (entry_right types entries x entry (value_by_rule_follows futures_rule [] types order o (futures_look_down types))
          (value_by_rule_follows listing_rule [] types order o (listing_looks_down types)) bound below made) m.each;
    }

pub entries_end : (types : List TypeView) (order : List ℕ) (entries : List EntryView) (i : ℕ) → IsOrder types order → length order ≤ i
    → EntriesOf types entries (take i order) → AreFuturesEntries types entries
entries_end types order entries i o past m =
    record { same_length = m.same_length; each = λ x h. table_end (IsFuturesEntry types) no_futures entries order i past m.each x (o.all x h) }

pub entries-set : (table : List FuturesEntry) (x : ℕ) (e : FuturesEntry) → map entry_view (set table x e) ≡ set (map entry_view table) x (entry_view e)
entries-set table x e = map-set entry_view table x e

-- an entry as it is read
pub entry_read : (types : List TypeView) (table : List FuturesEntry) (x : ℕ) (e : FuturesEntry) → AreFuturesEntries types (map entry_view table)
    → x < length types → e ≡ get_or table x e → IsFuturesEntry types x (entry_view e)
entry_read types table x e all small read =
    let within : x < length table = rw (sym (length-map table entry_view) ∙ all.same_length) small in
    let at : get_or (map entry_view table) x no_futures ≡ entry_view (get_or table x e) = get_or_from_slice_get (map entry_view table) x
    (entry_view (get_or table x e)) no_futures (view_found entry_view table x e within) in
    subst (IsFuturesEntry types x) (at ∙ ap entry_view (sym read)) (all.each x small)
