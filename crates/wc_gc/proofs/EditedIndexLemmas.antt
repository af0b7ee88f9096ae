-- The new indices of an edited adapter have 32 bits, and are those of what its image has.
use Rattle.std.proofs.Common.{◌≡◌, ℕ, ◌+◌, ◌-◌, ◌<◌, ◌≤◌, ◌^◌, List, ◌++◌, length, map, refl, sym, ◌∙◌, ap, Bool, true, false, cond, Option, Some, None, arith}
use Rattle.std.proofs.Common.{ltb-true, ◌⊎◌, inl, inr}
use Rattle.std.specs.Prelude.{IsTrue, nat_lt, not, ◌&&◌}
use Rattle.std.specs.List.{slice_get, enumerate_from}
use Rattle.std.specs.Option.{option_map, option_map_or}
use Rattle.std.proofs.lemmas.Bool.{ltb-false, lt-ltb, le-ltb, false≢true}
use Rattle.std.proofs.lemmas.List.{length-map, length-append}
use Rattle.std.proofs.lemmas.List.FromFn.{length-enumerate_from}
use Rattle.std.proofs.lemmas.Option.{slice_get-map, slice_get_within}
use Rattle.wc_read.specs.Bodies.{BodyValue}
use Rattle.wc_read.specs.BodyOperators.{body_in}
use Rattle.wc_read.specs.Exports.{ExportValue}
use Rattle.wc_read.specs.Items.{ItemValue, FuncValue}
use Rattle.wc_read.specs.Modules.{ModuleValue}
use Rattle.wc_read.specs.Renumbering.{Renumbering}
use Rattle.wc_read.specs.declared.operators.Space.TheVariants.{Types, Funcs, Tables, Memories, Globals}
use Rattle.wc_read.specs.Items.{item_seen}
use Rattle.wc_write.specs.BuiltValues.{is_imported, is_defined}
use Rattle.wc_gc.specs.Counts.{AreDisjoint, count_below}
use Rattle.wc_read.specs.Decoded.{FuncCode, ItemIndex, decode}
use Rattle.wc_gc.specs.Edit.{EditedModule, edited_by, edited_func, is_exported_func}
use Rattle.wc_gc.specs.EditedImage.{count_defined, count_imports, edited_rank, func_rank, added_func_rank, is_kept_defined, is_kept_import}
use Rattle.wc_gc.specs.Found.{FoundView}
use Rattle.wc_gc.specs.Image.{kept_items, new_func, rank}
use Rattle.wc_gc.specs.Laws.{KeepsBits}
use Rattle.wc_gc.specs.Parts.{SettingsView}
use Rattle.wc_gc.specs.declared.parts.Parts.{Parts}
use Rattle.wc_gc.proofs.BuiltImageLemmas.{AreNew}
use Rattle.wc_gc.proofs.ImageLemmas.{enumerated}
use Rattle.wc_graph.proofs.ListLemmas.{get_some}
use Rattle.wc_gc.proofs.KeptItemLemmas.{kept_count, rank_below}
use Rattle.wc_gc.proofs.SpellableLemmas.{ranks_keep}
use Rattle.wc_gc.proofs.RankLemmas.{both_below, bounded_below, more_below}

-- either value of a choice
pub cond_has : {A : Type 0} (P : A → Type 0) (b : Bool) (x y : A) → (b ≡ true → P x) → (b ≡ false → P y) → P (cond b x y)
cond_has P true x y h k = h refl
cond_has P false x y h k = k refl

module _ (s : SettingsView) (m : ModuleValue) (exports : List ExportValue) (live : ItemIndex → Bool) (p : Parts) (f : FoundView) where
  abbrev pub edited : EditedModule
  edited = edited_by s (decode m) exports live p f

  abbrev pub new : Renumbering
  new = edited_rank edited

  abbrev pub olds : List FuncCode
  olds = edited.value.funcs

  abbrev pub kept_imports : List FuncCode
  kept_imports = kept_items (is_kept_import edited) (length olds) olds

  abbrev pub kept_defined : List FuncCode
  kept_defined = kept_items (is_kept_defined edited) (length olds) olds

  -- the functions of the image
  abbrev pub funcs_written : List (ItemValue ℕ BodyValue)
  funcs_written = map (new_func new) kept_imports ++ (map (new_func new) edited.imports ++ (map (new_func new) kept_defined ++ map (new_func new) edited.funcs))

  pub funcs_long : length olds ≡ length m.funcs
  funcs_long = length-map _ _ ∙ (length-enumerate_from 0 (decode m).funcs ∙ length-map m.funcs (item_seen body_in))

  -- a function that was read, edited as one that is reached, or not
  abbrev edited_by_reach : Bool → ℕ → FuncValue → FuncCode
  edited_by_reach reached n g =
      edited_func (length (decode m).funcs) s p f reached (is_exported_func exports n) (item_seen body_in g)

  abbrev pub edited_at : ℕ → FuncValue → FuncCode
  edited_at n g = edited_by_reach true n g

  abbrev edit_one : ℕ × FuncCode → FuncCode
  edit_one x = edited_func (length (decode m).funcs) s p f (live (Funcs, x.0)) (is_exported_func exports x.0) x.1

  seen_at : (n : ℕ) (o : Option FuncValue)
      → option_map edit_one (option_map (λ (x : FuncCode). (0 + n, x)) (option_map (item_seen body_in) o))
      ≡ option_map (edited_by_reach (live (Funcs, n)) n) o
  seen_at n None = refl
  seen_at n (Some g) = ap (λ (k : ℕ). Some (edited_by_reach (live (Funcs, k)) k g)) (let e : 0 + n ≡ n = omega arith in e)

  olds_at : (n : ℕ) → live (Funcs, n) ≡ true → slice_get olds n ≡ option_map (edited_at n) (slice_get m.funcs n)
  olds_at n l =
      slice_get-map edit_one (enumerate_from 0 (decode m).funcs) n
      ∙ (ap (option_map edit_one)
      (enumerated 0 (decode m).funcs n ∙ ap (option_map (λ (x : FuncCode). (0 + n, x))) (slice_get-map (item_seen body_in) m.funcs n))
      ∙ (seen_at n (slice_get m.funcs n) ∙ ap (λ (b : Bool). option_map (edited_by_reach b n) (slice_get m.funcs n)) l))

  pub old_at : (n : ℕ) (g : FuncValue) → live (Funcs, n) ≡ true → slice_get m.funcs n ≡ Some g → slice_get olds n ≡ Some (edited_at n g)
  old_at n g l e = olds_at n l ∙ ap (option_map (edited_at n)) e

  -- the function that was edited
  pub record WasRead (n : ℕ) (h : FuncCode) : Type 0 where
    pub func : FuncValue
    pub at : slice_get m.funcs n ≡ Some func
    pub is : h ≡ edited_at n func

  was_in : (n : ℕ) (h : FuncCode) (o : Option FuncValue) → slice_get m.funcs n ≡ o → option_map (edited_at n) o ≡ Some h → WasRead n h
  was_in n h None at e = absurd cc
  was_in n h (Some g) at e = let same : edited_at n g ≡ h = cc e in record { func = g; at = at; is = sym same }

  pub was_read : (n : ℕ) (h : FuncCode) → live (Funcs, n) ≡ true → slice_get olds n ≡ Some h → WasRead n h
  was_read n h l e = was_in n h (slice_get m.funcs n) refl (sym (olds_at n l) ∙ e)

  not_both : (l b : Bool) → (l && b) ≡ true → (l && not b) ≡ false
  not_both true true h = refl
  not_both true false h = absurd cc
  not_both false b h = refl

  never_both : (l : Bool) (o : Option FuncCode) → (l && option_map_or (λ (f : FuncCode). is_imported f) o false) ≡ true
      → (l && option_map_or (λ (f : FuncCode). is_defined f) o false) ≡ false
  never_both true None h = refl
  never_both false None h = refl
  never_both l (Some g) h = not_both l (is_imported g) h

  disjoint : AreDisjoint (is_kept_import edited) (is_kept_defined edited)
  disjoint n h = never_both (live (Funcs, n)) (slice_get olds n) h

  one_of : (b : Bool) → (true && b ≡ true) ⊎ (true && not b ≡ true)
  one_of true = inl refl
  one_of false = inr refl

  pub import_or_defined : (n : ℕ) (h : FuncCode) → live (Funcs, n) ≡ true → slice_get olds n ≡ Some h
      → (is_kept_import edited n ≡ true) ⊎ (is_kept_defined edited n ≡ true)
  import_or_defined n h l e = rw (l, e) (one_of (is_imported h))

  -- how many functions there are

  pub count_funcs : length funcs_written ≡ count_imports edited + (length edited.imports + (count_defined edited + length edited.funcs))
  count_funcs =
      let one = length-map kept_imports (new_func new) in
      let two = length-map edited.imports (new_func new) in
      let three = length-map kept_defined (new_func new) in
      let four = length-map edited.funcs (new_func new) in
      let c = length-append (map (new_func new) kept_defined) (map (new_func new) edited.funcs) in
      let b = length-append (map (new_func new) edited.imports) (map (new_func new) kept_defined ++ map (new_func new) edited.funcs) in
      let a = length-append (map (new_func new) kept_imports)
      (map (new_func new) edited.imports ++ (map (new_func new) kept_defined ++ map (new_func new) edited.funcs)) in
      let imports = kept_count (is_kept_import edited) olds in
      let defined = kept_count (is_kept_defined edited) olds in
      omega (arith, one, two, three, four, a, b, c, imports, defined)

  -- an old function that is kept

  pub old_below : (n : ℕ) (h : FuncCode) → live (Funcs, n) ≡ true → slice_get olds n ≡ Some h → func_rank edited n < length funcs_written
  old_below n h l e = cond_has (λ (k : ℕ). k < length funcs_written) (is_kept_import edited n) (count_below (is_kept_import edited) n)
      (count_imports edited + length edited.imports + count_below (is_kept_defined edited) n)
      (λ i. let r = rank_below (is_kept_import edited) olds n (slice_get_within olds n h e) i in let k = kept_count (is_kept_import edited) olds in
      omega (arith, r, k, count_funcs))
      (λ i. let r = rank_below (is_kept_defined edited) olds n (slice_get_within olds n h e) (is_other n h l e i) in
      let k = kept_count (is_kept_defined edited) olds in omega (arith, r, k, count_funcs))
    where
      is_other : (n : ℕ) (h : FuncCode) → live (Funcs, n) ≡ true → slice_get olds n ≡ Some h → is_kept_import edited n ≡ false → is_kept_defined edited n ≡ true
      is_other n h l e i = elim (import_or_defined n h l e) [ inl y ↦ absurd (false≢true (sym i ∙ y)) | inr d ↦ d ]

  pub old_new : (n : ℕ) → n < length m.funcs → new Funcs n ≡ func_rank edited n
  old_new n h = ap (λ (b : Bool). cond b (func_rank edited n) (added_func_rank edited (n - length olds)))
      (lt-ltb n (length olds) (let l = funcs_long in omega (arith, l, h)))

  -- what is added

  pub added_new : (k : ℕ) → new Funcs (length (decode m).funcs + k) ≡ added_func_rank edited k
  added_new k =
      let l = funcs_long in
      let l' = length-map m.funcs (item_seen body_in) in
      let past : nat_lt (length (decode m).funcs + k) (length olds) ≡ false = le-ltb (length (decode m).funcs + k) (length olds) (omega (arith, l, l')) in
      let rest : length (decode m).funcs + k - length olds ≡ k = omega (arith, l, l') in
      ap (λ (b : Bool). cond b (func_rank edited (length (decode m).funcs + k))
      (added_func_rank edited (length (decode m).funcs + k - length olds))) past ∙ ap (added_func_rank edited) rest

  pub added_bounded : (k : ℕ) → k ≤ length edited.imports + length edited.funcs → added_func_rank edited k ≤ length funcs_written
  added_bounded k h = cond_has (λ (n : ℕ). n ≤ length funcs_written) (nat_lt k (length edited.imports)) (count_imports edited + k)
      (count_imports edited + count_defined edited + k)
      (λ i. let r = ltb-true k (length edited.imports) i in omega (arith, r, count_funcs)) (λ i. omega (arith, h, count_funcs))

  -- types

  pub old_type : (n : ℕ) → n < length m.types → new Types n ≡ rank live Types n
  old_type n h = ap (λ (b : Bool). cond b (rank live Types n) (rank live Types (length m.types) + (n - length m.types))) (lt-ltb n (length m.types) h)

  pub added_type : (k : ℕ) → new Types (length m.types + k) ≡ rank live Types (length m.types) + k
  added_type k =
      let past : nat_lt (length m.types + k) (length m.types) ≡ false = le-ltb (length m.types + k) (length m.types) (omega arith) in
      let rest : length m.types + k - length m.types ≡ k = omega arith in
      ap (λ (b : Bool). cond b (rank live Types (length m.types + k)) (rank live Types (length m.types) + (length m.types + k - length m.types))) past
      ∙ ap (λ (z : ℕ). rank live Types (length m.types) + z) rest

  -- all have 32 bits, where the image has few functions

  module _ (room : length funcs_written < 2 ^ 32) where
    type_bits : (n : ℕ) → n < 2 ^ 32 → new Types n < 2 ^ 32
    type_bits n h = cond_has (λ (k : ℕ). k < 2 ^ 32) (nat_lt n (length m.types)) (rank live Types n) (rank live Types (length m.types) + (n - length m.types))
        (λ i. let bounded = bounded_below (λ k. live (Types, k)) n in omega (arith, bounded, h))
        (λ i. let bounded = bounded_below (λ k. live (Types, k)) (length m.types) in let past = ltb-false n (length m.types) i in omega
        (arith, bounded, past, h))

    old_bits : (n : ℕ) → n < length olds → n < 2 ^ 32 → func_rank edited n < 2 ^ 32
    old_bits n below h = cond_has (λ (k : ℕ). k < 2 ^ 32) (is_kept_import edited n) (count_below (is_kept_import edited) n)
        (count_imports edited + length edited.imports + count_below (is_kept_defined edited) n)
        (λ i. let bounded = bounded_below (is_kept_import edited) n in omega (arith, bounded, h))
        (λ i. let more = more_below (is_kept_defined edited) n (length olds - n) in
        let all = ap (count_below (is_kept_defined edited)) (rejoin n below) in omega (arith, more, all, count_funcs, room))
      where
        rejoin : (n : ℕ) → n < length olds → n + (length olds - n) ≡ length olds
        rejoin n below = omega arith

    added_bits : (n : ℕ) → length olds ≤ n → n < 2 ^ 32 → added_func_rank edited (n - length olds) < 2 ^ 32
    added_bits n past h = cond_has (λ (k : ℕ). k < 2 ^ 32) (nat_lt (n - length olds) (length edited.imports))
        (count_imports edited + (n - length olds)) (count_imports edited + count_defined edited + (n - length olds))
        (λ i. let r = ltb-true (n - length olds) (length edited.imports) i in omega (arith, r, count_funcs, room))
        (λ i. let both = both_below (is_kept_import edited) (is_kept_defined edited) disjoint (length olds) in omega (arith, both, past, h))

    func_bits : (n : ℕ) → n < 2 ^ 32 → new Funcs n < 2 ^ 32
    func_bits n h = cond_has (λ (k : ℕ). k < 2 ^ 32) (nat_lt n (length olds)) (func_rank edited n) (added_func_rank edited (n - length olds))
        (λ i. old_bits n (ltb-true n (length olds) i) h) (λ i. added_bits n (ltb-false n (length olds) i) h)

    pub new_keeps : KeepsBits new
    new_keeps Types n h = type_bits n h
    new_keeps Funcs n h = func_bits n h
    new_keeps Tables n h = ranks_keep live Tables n h
    new_keeps Memories n h = ranks_keep live Memories n h
    new_keeps Globals n h = ranks_keep live Globals n h

    -- in an image that has the live types, and maybe more
    pub are_new : (types : ℕ) → length (kept_items (λ n. live (Types, n)) (length m.types) m.types) ≤ types → AreNew m live new types (length funcs_written)
    are_new types most = record { keeps = new_keeps; types = type_below; funcs = below; tables = λ n h. refl; memories = λ n h. refl; globals = λ n h. refl }
      where
        type_below : (n : ℕ) → n < length m.types → IsTrue (live (Types, n)) → new Types n < types
        type_below n h l = let r = rank_below (λ k. live (Types, k)) m.types n h l in omega (arith, old_type n h, r, most)

        below : (n : ℕ) → n < length m.funcs → IsTrue (live (Funcs, n)) → new Funcs n < length funcs_written
        below n h l =
            let item = get_some m.funcs n h in
            rw (old_new n h) (old_below n (edited_at n item.0) l (old_at n item.0 l item.1))
