-- Shortcuts: the first step of one, one after another, and the future or stream that is reached by one.
use Rattle.std.proofs.Common.{◌≡◌, ℕ, zero, suc, ◌+◌, ◌-◌, ◌<◌, ◌≤◌, ◌^◌, min, List, ◌∷◌, ◌++◌, length, take, drop, set, get_or, replicate, Option, None, refl, sym, ap, ◌∙◌, subst, inl, inr, arith, append_assoc, length-append}
use Rattle.std.specs.List.{Contains}
use Rattle.std.specs.Option.{IfSome}
use Rattle.std.proofs.lemmas.Bool.{cases_eq}
use Rattle.std.proofs.lemmas.List.{get_or-set_same, get_or-set_other}
use Rattle.wc_resolve.specs.declared.ids.TypeId.{TypeId}
use Rattle.wc_resolve.specs.declared.shortcuts.Shortcut.{Shortcut}
use Rattle.wc_resolve.specs.Futures.{EntryView, IsFuturesEntry, IsPartWith, futures_from, futures_of, itself}
use Rattle.wc_resolve.specs.Live.{listing_of}
use Rattle.wc_resolve.specs.Roots.{indices}
use Rattle.wc_resolve.specs.Shortcuts.{AreShortcuts, IsAfter, IsShortcut, shortcut_at}
use Rattle.wc_resolve.specs.Views.{TypeView}
use Rattle.wc_resolve.proofs.FuturesEntryLemmas.{capped_end}
use Rattle.wc_resolve.proofs.FuturesAtLemmas.{IsPassed, counted_less, end_at, next_read, part_shorter, part_there, parts_split, passed_found, passed_length}

capped_front : (c m : ℕ) → c ≡ min (0 + m) (2 ^ 64 - 1) → c ≡ min m (2 ^ 64 - 1)
capped_front c m e = omega (arith, e)

-- the step to a part is a shortcut
pub step_right : (types : List TypeView) (x : ℕ) (entry : EntryView) (i : ℕ) (s : Shortcut) → IsFuturesEntry types x entry → i < length entry.parts → s.target ≡ get_or entry.parts i s.target
    → s.before ≡ get_or (0 ∷ entry.ends) i 0 → IsShortcut types x s
step_right types x entry i s kept small read before =
    let parts = entry.parts in
    let front : List ℕ = futures_from types (indices (take i parts)) in
    let rest : List ℕ = futures_from types (indices (drop (i + 1) parts)) in
    let own : List ℕ = itself entry.is_carrier x in
    let there : Contains (indices parts) s.target.0 = subst (λ (z : TypeId). Contains (indices parts) z.0) (sym read) (part_there parts i s.target small) in
    record {
      front = front;
      back = rest ++ own;
      split = kept.made ∙ ap (λ z. z ++ own) (parts_split types i parts ∙ ap (λ z. front ++ z) (next_read types parts i s.target small read))
          ∙ append_assoc front (futures_of types s.target.0 ++ rest) own ∙ ap (λ z. front ++ z) (append_assoc (futures_of types s.target.0) rest own);
      counted = capped_front s.before (passed_length types parts i) (before ∙ ap (λ (z : List ℕ). get_or (0 ∷ z) i 0) kept.ended ∙ end_at types parts i 0 0 refl (omega (arith, small)));
      within = kept.within s.target.0 there;
      shorter = part_shorter types x s.target.0 entry kept there;
    }

-- one shortcut after another is a shortcut
pub joined_right : (types : List TypeView) (x : ℕ) (first second both : Shortcut) → IsAfter first second both → IsShortcut types x first → IsShortcut types first.target.0 second → IsShortcut types x both
joined_right types x first second both after f s =
    let reached : List ℕ = futures_of types second.target.0 in
    let less = f.shorter in
    let fewer = s.shorter in
    let below : length (listing_of types second.target.0) < length (listing_of types x) = omega (arith, less, fewer) in
    record {
      front = f.front ++ s.front;
      back = s.back ++ f.back;
      split = f.split
          ∙ ap (λ z. f.front ++ (z ++ f.back)) s.split
          ∙ ap (λ z. f.front ++ z) (append_assoc s.front (reached ++ s.back) f.back)
          ∙ ap (λ z. f.front ++ (s.front ++ z)) (append_assoc reached s.back f.back)
          ∙ sym (append_assoc f.front s.front (reached ++ (s.back ++ f.back)))
          ∙ ap (λ (z : TypeId). (f.front ++ s.front) ++ (futures_of types z.0 ++ (s.back ++ f.back))) (sym after.0);
      counted = after.1 ∙ capped_end first.before second.before (length f.front) (length s.front) f.counted s.counted ∙ ap (λ z. min z (2 ^ 64 - 1)) (sym (length-append f.front s.front));
      within = subst (λ (z : TypeId). z.0 < length types) (sym after.0) s.within;
      shorter = subst (λ (z : TypeId). length (listing_of types z.0) < length (listing_of types x)) (sym after.0) below;
    }

-- the shortcut of a type, as it is read
pub shortcut_read : (types : List TypeView) (shortcuts : List (Option Shortcut)) (x : ℕ) (o : Option Shortcut) → AreShortcuts types shortcuts → o ≡ shortcut_at shortcuts x → IfSome o (IsShortcut types x)
shortcut_read types shortcuts x o all e = subst (λ (z : Option Shortcut). IfSome z (IsShortcut types x)) (sym e) (all x)

abbrev no_shortcut : Option Shortcut
no_shortcut = None

none_at : (n x : ℕ) → get_or (replicate n no_shortcut) x no_shortcut ≡ no_shortcut
none_at zero x = refl
none_at (suc n) zero = refl
none_at (suc n) (suc x) = none_at n x

pub shortcuts_start : (types : List TypeView) (n : ℕ) (shortcuts : List (Option Shortcut)) → shortcuts ≡ replicate n no_shortcut → AreShortcuts types shortcuts
shortcuts_start types n shortcuts made x = subst (λ (z : Option Shortcut). IfSome z (IsShortcut types x)) (sym (ap (λ (z : List (Option Shortcut)). get_or z x no_shortcut) made ∙ none_at n x)) tt

-- one more shortcut is kept
pub shortcuts_step : (types : List TypeView) (shortcuts : List (Option Shortcut)) (i : ℕ) (o : Option Shortcut) → AreShortcuts types shortcuts → i < length shortcuts → IfSome o (IsShortcut types i) → AreShortcuts types (set shortcuts i o)
shortcuts_step types shortcuts i o all small right x =
    elim (cases_eq x i) [
      | inl same ↦
          (let here : get_or (set shortcuts i o) i None ≡ o = get_or-set_same shortcuts i o None small in
          let at_i : IfSome (get_or (set shortcuts i o) i None) (IsShortcut types i) = subst (λ (z : Option Shortcut). IfSome z (IsShortcut types i)) (sym here) right in
          subst (λ (z : ℕ). IfSome (get_or (set shortcuts i o) z None) (IsShortcut types z)) (sym same) at_i)
      | inr other ↦ subst (λ (z : Option Shortcut). IfSome z (IsShortcut types x)) (sym (get_or-set_other shortcuts i x o None other)) (all x)
    ]

uncapped_before : (b m n : ℕ) → b ≡ min m (2 ^ 64 - 1) → b ≤ n → n < 2 ^ 32 → b ≡ m
uncapped_before b m n e low small = omega (arith, e, low, small)

-- the target of a shortcut has the index
pub shortcut_taken : (types : List TypeView) (x n left count : ℕ) (s : Shortcut) → IsShortcut types x s → n < 2 ^ 32 → s.before ≤ n → left ≡ n - s.before
    → count ≡ min (length (futures_of types s.target.0)) (2 ^ 64 - 1) → left < count → IsPartWith types x n s.target.0 left
shortcut_taken types x n left count s is bound low left_is counted less =
    let before : s.before ≡ length is.front = uncapped_before s.before (length is.front) n is.counted low bound in
    let more : left < length (futures_of types s.target.0) = counted_less count (length (futures_of types s.target.0)) left counted less in
    let passed : IsPassed (futures_of types x) (futures_of types s.target.0 ++ is.back) n left = record {
      front = is.front;
      split = is.split;
      at = omega (arith, before, left_is, low);
    } in
    record {
      within = is.within;
      shorter = is.shorter;
      low = omega (arith, left_is);
      more = more;
      same = passed_found (futures_of types x) (futures_of types s.target.0 ++ is.back) (futures_of types s.target.0) is.back n left passed refl more;
    }
