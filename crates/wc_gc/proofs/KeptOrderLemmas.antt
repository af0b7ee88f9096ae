-- Exports that are taken out by their positions.
use Rattle.std.proofs.Common.{◌≡◌, ◌≢◌, ℕ, ◌+◌, ◌-◌, ◌<◌, List, [], ◌∷◌, map, length, drop, get_or, set, take, refl, sym, ◌∙◌, ap, subst, Bool}
use Rattle.std.proofs.Common.{true, false, cond, Some, None, arith}
use Rattle.std.specs.Prelude.{AllPairs, position, nat_lt, String, string_bytes}
use Rattle.std.specs.List.{swap_remove, position_or_len, range_with_len, list_any}
use Rattle.std.specs.Option.{option_map_or}
use Rattle.std.specs.Str.{bytes_eq}
use Rattle.std.specs.declared.alloc.Global.{Global}
use Rattle.std.proofs.lemmas.Bool.{lt-ltb}
use Rattle.std.proofs.lemmas.List.{get_or-map, get_or_default, length-map}
use Rattle.std.proofs.lemmas.List.FromFn.{fill_by_all, length-range_with_len, get_or-range_with_len}
use Rattle.std.proofs.lemmas.List.Sums.{position_or_len_is}
use Rattle.std.proofs.lemmas.Slice.Eq.{bytes_eq-Decides}
use Rattle.wc_read.specs.Exports.{ExportValue, export_value}
use Rattle.wc_read.specs.declared.exports.Export.{Export}
use Rattle.wc_gc.specs.Exports.{export_names, without}
use Rattle.wc_gc.specs.Private.KeptOrder.{HasPosition}
use Rattle.wc_gc.specs.declared.kept_order.KeptOrder.{KeptOrder}
use Rattle.wc_gc.proofs.ExportLemmas.{differ as tests, drop_more, kept_from, map-swap_remove, required_is, step_dropped}
use Rattle.wc_read.proofs.EntryLemmas.{no_export}
use Rattle.wc_gc.proofs.KeptExportLemmas.{pairs_named, pairs_without}

-- exports of different names
abbrev pub Differ : ExportValue → ExportValue → Type 0
Differ x y = x.name ≢ y.name

abbrev pub export_at : List Export → ℕ → Export
export_at es n = get_or es n no_export

-- the numbers below a count, each at its own position
pub position_first : (p : KeptOrder) (count n : ℕ) → p.order.items ≡ range_with_len 0 count → p.positions.items ≡ range_with_len 0 count → n < count → HasPosition p n
position_first p count n o q h =
    let l = length-range_with_len 0 count in
    let read = get_or-range_with_len 0 count n 0 h in
    let at : get_or (range_with_len 0 count) n 0 ≡ n = omega (arith, read) in
    let size : length p.order.items ≡ count = ap length o ∙ l in
    let noted : length p.positions.items ≡ count = ap length q ∙ l in
    let own : get_or p.positions.items n 0 ≡ n = ap (λ z. get_or z n 0) q ∙ at in
    record {
      noted = omega (arith, noted, h);
      within = omega (arith, own, size, h);
      there = ap (λ k. get_or p.order.items k 0) own ∙ (ap (λ z. get_or z n 0) o ∙ at);
    }

-- the item that is read of an empty list alone
swap_remove_any : {A : Type 0} (xs : List A) (i : ℕ) (d e : A) → 0 < length xs → swap_remove xs i d ≡ swap_remove xs i e
swap_remove_any xs i d e h = ap (λ z. take (length xs - 1) (set xs i z)) (get_or_default xs (length xs - 1) d e (omega arith))

position_is : {A : Type 0} (t : A → Bool) (xs : List A) (p : ℕ) (d : A) → p < length xs → ((k : ℕ) → k < p → t (get_or xs k d) ≡ false)
    → t (get_or xs p d) ≡ true → position t xs ≡ Some p
position_is t xs p d h none here =
    let e : position_or_len t xs ≡ p = position_or_len_is t xs p d (omega arith) none (λ _. here) in
    ap (λ n. cond (nat_lt n (length xs)) (Some n) None) e ∙ ap (λ b. cond b (Some p) None) (lt-ltb p (length xs) h)

-- an export that is taken out by its position is taken out by its name
removed_at : (vs : List ExportValue) (p : ℕ) (d : ExportValue) (name : List ℕ) → AllPairs Differ vs → p < length vs → (get_or vs p d).name ≡ name
    → without vs name ≡ swap_remove vs p d
removed_at [] p d name pairs h e = absurd (omega arith)
removed_at (v ∷ vs) p d name pairs h e =
    let found : position (λ (x : ExportValue). bytes_eq name x.name) (v ∷ vs) ≡ Some p =
    position_is (λ (x : ExportValue). bytes_eq name x.name) (v ∷ vs) p d h
    (λ k below. tests name (get_or (v ∷ vs) k d).name (λ same. pairs k p d below h (sym same ∙ sym e)))
    ((bytes_eq-Decides name (get_or (v ∷ vs) p d).name).1 (sym e)) in
    ap (λ o. option_map_or (λ i. swap_remove (v ∷ vs) i v) o (v ∷ vs)) found ∙ swap_remove_any (v ∷ vs) p v d (omega arith)

pub same_first : (es : List Export) (order : List ℕ) → order ≡ range_with_len 0 (length es) → es ≡ map (export_at es) order
same_first es order e = fill_by_all (export_at es) es (length es) no_export refl (λ k h. refl) ∙ ap (map (export_at es)) (sym e)

pub differ_first : (es : List Export) → AllPairs (λ x y. x ≢ y) (export_names (map export_value es)) → AllPairs Differ (map export_value es)
differ_first es pairs = pairs_named (λ (e : ExportValue). e.name) (map export_value es) pairs

pub flip : (x y : ExportValue) → Differ x y → Differ y x
flip x y n e = n (sym e)

module _ (es kept after : List Export) (order left : List ℕ) (i p r : ℕ) (x : Export) (same : kept ≡ map (export_at es) order) (within : p < length order)
    (there : get_or order p 0 ≡ i) (is : after ≡ swap_remove kept p x) where
  abbrev name : List ℕ
  name = (export_at es i).name.now

  length_is : length kept ≡ length order
  length_is = ap length same ∙ length-map order (export_at es)

  item_is : (get_or (map export_value kept) p (export_value no_export)).name ≡ name
  item_is =
      let l = length_is in
      ap (λ (v : ExportValue). v.name) (get_or-map export_value kept p no_export (export_value no_export) (omega (arith, l, within)))
      ∙ (ap (λ z. (export_value (get_or z p no_export)).name) same
      ∙ (ap (λ (e : Export). e.name.now) (get_or-map (export_at es) order p 0 no_export within) ∙ ap (λ k. (export_at es k).name.now) there))

  -- what is left is as by the name
  pub left_is : AllPairs Differ (map export_value kept) → map export_value after ≡ without (map export_value kept) name
  left_is pairs =
      let l = length_is in
      let m = length-map kept export_value in
      ap (map export_value) is
      ∙ (map-swap_remove export_value kept p x
      ∙ (swap_remove_any (map export_value kept) p (export_value x) (export_value no_export) (omega (arith, l, m, within))
      ∙ sym (removed_at (map export_value kept) p (export_value no_export) name pairs (omega (arith, l, m, within)) item_is)))

  pub same_left : left ≡ swap_remove order p r → after ≡ map (export_at es) left
  same_left e =
      let l = length-map order (export_at es) in
      is ∙ (ap (λ z. swap_remove z p x) same
      ∙ (swap_remove_any (map (export_at es) order) p x (export_at es r) (omega (arith, l, within))
      ∙ (sym (map-swap_remove (export_at es) order p r) ∙ ap (map (export_at es)) (sym e))))

  pub differ_left : AllPairs Differ (map export_value kept) → AllPairs Differ (map export_value after)
  differ_left pairs = subst (AllPairs Differ) (sym (left_is pairs)) (pairs_without Differ flip (map export_value kept) name pairs)

  pub rest_left : (keys : List (String Global)) (all : List ExportValue) → AllPairs Differ (map export_value kept) → i < length es
      → list_any (λ k. bytes_eq name (string_bytes k)) keys ≡ false
      → kept_from (map string_bytes keys) (map export_value (drop i es)) (map export_value kept) ≡ all
      → kept_from (map string_bytes keys) (map export_value (drop (i + 1) es)) (map export_value after) ≡ all
  rest_left keys all pairs h missing e =
      ap (kept_from (map string_bytes keys) (map export_value (drop (i + 1) es))) (left_is pairs)
      ∙ (sym (ap (λ (z : List ExportValue). kept_from (map string_bytes keys) z (map export_value kept)) (drop_more es i no_export h)
      ∙ step_dropped (map string_bytes keys) (export_value (export_at es i)) (map export_value (drop (i + 1) es)) (map export_value kept)
      (sym (required_is name keys) ∙ missing)) ∙ e)
