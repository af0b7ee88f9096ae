-- An item of an edited adapter, and the same item of the edited cut: both have one rank in the image.
use Rattle.std.proofs.Common.{◌≡◌, ℕ, ◌+◌, ◌-◌, ◌<◌, List, length, refl, sym, ◌∙◌, ap, Bool, true, false, ◌&&◌, not, cond, Option, Some, None, arith}
use Rattle.std.specs.Prelude.{nat_lt}
use Rattle.std.specs.List.{enumerate_from, slice_get}
use Rattle.std.specs.Option.{option_map, option_map_or}
use Rattle.std.proofs.lemmas.Bool.{le-ltb, lt-ltb, and_left}
use Rattle.std.proofs.lemmas.List.{length-map}
use Rattle.std.proofs.lemmas.List.FromFn.{length-enumerate_from}
use Rattle.std.proofs.lemmas.Option.{slice_get-map}
use Rattle.wc_read.specs.Bodies.{BodyValue}
use Rattle.wc_read.specs.Exports.{ExportValue}
use Rattle.wc_read.specs.Items.{DefValue, imported, local}
use Rattle.wc_read.specs.declared.operators.Space.TheVariants.{Types, Funcs, Tables, Memories, Globals}
use Rattle.wc_read.specs.Items.{def_seen}
use Rattle.wc_write.specs.BuiltValues.{is_import}
use Rattle.wc_gc.specs.Counts.{count_below}
use Rattle.wc_read.specs.Decoded.{DecodedModule, FuncCode, ItemIndex}
use Rattle.wc_gc.specs.Edit.{EditedModule, edited_by, edited_def, edited_func, growing_code, import_func, is_exported_func, only_if, replaced}
use Rattle.wc_gc.specs.EditedImage.{added_func_rank, count_defined, count_imports, edited_rank, func_rank, is_kept_defined, is_kept_import}
use Rattle.wc_gc.specs.Found.{FoundView, is_realloc, main_module}
use Rattle.wc_gc.specs.Image.{rank, renumber_body}
use Rattle.wc_gc.specs.Parts.{SettingsView}
use Rattle.wc_gc.specs.TraceLaws.{AreClosed, all_items}
use Rattle.wc_gc.specs.Unfolding.{renumber_func}
use Rattle.wc_gc.specs.declared.parts.Parts.{Parts}
use Rattle.wc_gc.proofs.CutFoundLemmas.{cut, funcs_kept, types_kept}
use Rattle.wc_gc.proofs.CutListLemmas.{AreSameTests, and_of_true, count_all, count_moved}
use Rattle.wc_gc.proofs.ImageLemmas.{enumerated_read}
use Rattle.wc_graph.proofs.ListLemmas.{get_some}
use Rattle.wc_gc.proofs.KeptItemLemmas.{rank_at}
use Rattle.wc_gc.proofs.RankLawLemmas.{fewer_below}

cond_same : {A B : Type 0} (f : A → B) (b : Bool) (x y z : A) → f x ≡ f y → f (cond b x z) ≡ f (cond b y z)
cond_same f true x y z e = e
cond_same f false x y z e = refl

module _ (s : SettingsView) (m : DecodedModule) (exports : List ExportValue) (live : ItemIndex → Bool) (k : AreClosed m exports live) (p : Parts)
    (f g : FoundView) where
  abbrev pub old_edit : EditedModule
  old_edit = edited_by s m exports live p f

  abbrev pub new_edit : EditedModule
  new_edit = edited_by s (cut m exports live) (cut m exports live).exports all_items p g

  abbrev L : ℕ
  L = length m.funcs

  abbrev K : ℕ
  K = length (cut m exports live).funcs

  abbrev has_func : ℕ → Bool
  has_func n = live (Funcs, n)

  abbrev has_type : ℕ → Bool
  has_type n = live (Types, n)

  -- edited functions

  abbrev pub old_func : ℕ × FuncCode → FuncCode
  old_func x = edited_func L s p f (live (Funcs, x.0)) (is_exported_func exports x.0) x.1

  abbrev pub new_func : ℕ × FuncCode → FuncCode
  new_func x = edited_func K s p g true (is_exported_func (cut m exports live).exports x.0) x.1

  pub old_at : (n : ℕ) (x : FuncCode) → slice_get m.funcs n ≡ Some x → slice_get old_edit.value.funcs n ≡ Some (old_func (n, x))
  old_at n x at = enumerated_read old_func m.funcs n x at

  pub new_at : (n : ℕ) (x : FuncCode) → slice_get m.funcs n ≡ Some x → has_func n ≡ true
      → slice_get new_edit.value.funcs (rank live Funcs n) ≡ Some (new_func (rank live Funcs n, renumber_func (rank live) x))
  new_at n x at h =
      enumerated_read new_func (cut m exports live).funcs (rank live Funcs n) (renumber_func (rank live) x)
      (slice_get-map (renumber_func (rank live)) _ (rank live Funcs n)
      ∙ ap (option_map (renumber_func (rank live))) (rank_at has_func m.funcs n x at h))

  -- a function is imported in the one exactly where it is in the other

  import_replaced : (o : Option (List ℕ)) → is_import (option_map_or (λ name. imported main_module name) o (growing_code s g))
      ≡ is_import (option_map_or (λ name. imported main_module name) o (growing_code s f))
  import_replaced None = refl
  import_replaced (Some name) = refl

  import_same : (x : DefValue (Option BodyValue)) (a b : Bool)
      → is_import (edited_def K s p g true a (def_seen (option_map (renumber_body (rank live))) x))
      ≡ is_import (edited_def L s p f true b x)
  import_same (imported y z) a b =
      cond_same is_import (is_realloc {C = ℕ} (imported y z)) (replaced s g) (replaced s f) (imported y z) (import_replaced s.realloc)
  import_same (local c) a b = refl

  module _ (test : Bool → Bool) where
    abbrev passes : FuncCode → Bool
    passes x = test (is_import x.def)

    pub same_tests : AreSameTests has_func L (λ n. has_func n && option_map_or passes (slice_get old_edit.value.funcs n) false)
        (λ n. option_map_or passes (slice_get new_edit.value.funcs n) false)
    same_tests = record {
      same = λ n l h.
          let x = get_some m.funcs n l in
          and_of_true (has_func n) (option_map_or passes (slice_get old_edit.value.funcs n) false)
          (option_map_or passes (slice_get new_edit.value.funcs (rank live Funcs n)) false) h
          (ap (λ o. option_map_or passes o false) (new_at n x.0 x.1 h)
          ∙ (ap test (import_same x.0.def (is_exported_func (cut m exports live).exports (rank live Funcs n)) (is_exported_func exports n))
          ∙ sym (ap (λ o. option_map_or passes o false) (old_at n x.0 x.1)
          ∙ ap (λ b. test (is_import (edited_def L s p f b (is_exported_func exports n) x.0.def))) h)));
      none = λ n h. and_left (has_func n) (option_map_or passes (slice_get old_edit.value.funcs n) false) h;
    }

  abbrev yes : Bool → Bool
  yes b = b

  pub imports_same : AreSameTests has_func L (is_kept_import old_edit) (is_kept_import new_edit)
  imports_same = same_tests yes

  pub defined_same : AreSameTests has_func L (is_kept_defined old_edit) (is_kept_defined new_edit)
  defined_same = same_tests not

  -- lengths

  pub old_long : length old_edit.value.funcs ≡ L
  old_long = length-map (enumerate_from 0 m.funcs) old_func ∙ length-enumerate_from 0 m.funcs

  pub new_long : length new_edit.value.funcs ≡ K
  new_long = length-map (enumerate_from 0 (cut m exports live).funcs) new_func ∙ length-enumerate_from 0 (cut m exports live).funcs

  all_counted : (old new : ℕ → Bool) → AreSameTests has_func L old new → count_below new (length new_edit.value.funcs)
      ≡ count_below old (length old_edit.value.funcs)
  all_counted old new t =
      ap (count_below new) (new_long ∙ funcs_kept m exports live)
      ∙ (count_moved has_func L old new t L (omega arith) ∙ ap (count_below old) (sym old_long))

  imports_counted : count_imports new_edit ≡ count_imports old_edit
  imports_counted = all_counted (is_kept_import old_edit) (is_kept_import new_edit) imports_same

  defined_counted : count_defined new_edit ≡ count_defined old_edit
  defined_counted = all_counted (is_kept_defined old_edit) (is_kept_defined new_edit) defined_same

  added_long : (b : Bool) (x y : FuncCode) → length (only_if b x) ≡ length (only_if b y)
  added_long true x y = refl
  added_long false x y = refl

  imports_long : length new_edit.imports ≡ length old_edit.imports
  imports_long = added_long p.import_realloc (import_func (length (cut m exports live).types) s) (import_func (length m.types) s)

  -- functions

  abbrev rank_from : Bool → ℕ → ℕ → ℕ → ℕ → ℕ
  rank_from b x imports added y = cond b x (imports + added + y)

  five : (b c : Bool) (x y imports imports' added added' z w : ℕ) → b ≡ c → x ≡ y → imports ≡ imports' → added ≡ added' → z ≡ w
      → rank_from b x imports added z ≡ rank_from c y imports' added' w
  five b c x y i i' a a' z w h1 h2 h3 h4 h5 =
      ap (λ t. rank_from t x i a z) h1
      ∙ (ap (λ t. rank_from c t i a z) h2
      ∙ (ap (λ t. rank_from c y t a z) h3 ∙ (ap (λ t. rank_from c y i' t z) h4 ∙ ap (λ t. rank_from c y i' a' t) h5)))

  below_kept : (n : ℕ) → has_func n ≡ true → n < L → rank live Funcs n < K
  below_kept n h l = let bounded = fewer_below has_func n L h l in let long = funcs_kept m exports live in omega (arith, bounded, long)

  func_same : (n : ℕ) → has_func n ≡ true → n < L → edited_rank new_edit Funcs (rank live Funcs n) ≡ edited_rank old_edit Funcs n
  func_same n h l =
      let small = below_kept n h l in
      let long = new_long in
      let wide = old_long in
      let j = rank live Funcs n in
      ap (λ (b : Bool). cond b (func_rank new_edit j) (added_func_rank new_edit (j - length new_edit.value.funcs)))
      (lt-ltb j (length new_edit.value.funcs) (omega (arith, small, long)))
      ∙ (five (is_kept_import new_edit j) (is_kept_import old_edit n) (count_below (is_kept_import new_edit) j)
      (count_below (is_kept_import old_edit) n) (count_imports new_edit) (count_imports old_edit) (length new_edit.imports) (length old_edit.imports)
      (count_below (is_kept_defined new_edit) j) (count_below (is_kept_defined old_edit) n) (imports_same.same n l h)
      (count_moved has_func L (is_kept_import old_edit) (is_kept_import new_edit) imports_same n (omega (arith, l))) imports_counted imports_long
      (count_moved has_func L (is_kept_defined old_edit) (is_kept_defined new_edit) defined_same n (omega (arith, l)))
      ∙ sym (ap (λ (b : Bool). cond b (func_rank old_edit n) (added_func_rank old_edit (n - length old_edit.value.funcs)))
      (lt-ltb n (length old_edit.value.funcs) (omega (arith, l, wide)))))

  abbrev added_from : ℕ → ℕ → ℕ → ℕ → ℕ
  added_from j added imports defined = cond (nat_lt j added) (imports + j) (imports + defined + j)

  pub added_same : (j : ℕ) → edited_rank new_edit Funcs (K + j) ≡ edited_rank old_edit Funcs (L + j)
  added_same j =
      let long = new_long in
      let wide = old_long in
      let past : nat_lt (K + j) (length new_edit.value.funcs) ≡ false = le-ltb (K + j) (length new_edit.value.funcs) (omega (arith, long)) in
      let over : nat_lt (L + j) (length old_edit.value.funcs) ≡ false = le-ltb (L + j) (length old_edit.value.funcs) (omega (arith, wide)) in
      let rest : K + j - length new_edit.value.funcs ≡ j = omega (arith, long) in
      let left : L + j - length old_edit.value.funcs ≡ j = omega (arith, wide) in
      ap (λ (b : Bool). cond b (func_rank new_edit (K + j)) (added_func_rank new_edit (K + j - length new_edit.value.funcs))) past
      ∙ (ap (added_func_rank new_edit) rest
      ∙ (ap (λ x. added_from j x (count_imports new_edit) (count_defined new_edit)) imports_long
      ∙ (ap (λ x. added_from j (length old_edit.imports) x (count_defined new_edit)) imports_counted
      ∙ (ap (λ x. added_from j (length old_edit.imports) (count_imports old_edit) x) defined_counted
      ∙ (sym (ap (added_func_rank old_edit) left)
      ∙ sym (ap (λ (b : Bool). cond b (func_rank old_edit (L + j)) (added_func_rank old_edit (L + j - length old_edit.value.funcs))) over))))))

  -- types

  abbrev T : ℕ
  T = length m.types

  abbrev U : ℕ
  U = length (cut m exports live).types

  type_same : (n : ℕ) → has_type n ≡ true → n < T → edited_rank new_edit Types (rank live Types n) ≡ edited_rank old_edit Types n
  type_same n h l =
      let bounded = fewer_below has_type n T h l in
      let long = types_kept m exports live in
      let j = rank live Types n in
      ap (λ (b : Bool). cond b (rank all_items Types j) (rank all_items Types U + (j - U))) (lt-ltb j U (omega (arith, bounded, long)))
      ∙ (count_all j ∙ sym (ap (λ (b : Bool). cond b (rank live Types n) (rank live Types T + (n - T))) (lt-ltb n T l)))

  pub added_type_same : (j : ℕ) → edited_rank new_edit Types (U + j) ≡ edited_rank old_edit Types (T + j)
  added_type_same j =
      let past : nat_lt (U + j) U ≡ false = le-ltb (U + j) U (omega arith) in
      let over : nat_lt (T + j) T ≡ false = le-ltb (T + j) T (omega arith) in
      let rest : U + j - U ≡ j = omega arith in
      let left : T + j - T ≡ j = omega arith in
      ap (λ (b : Bool). cond b (rank all_items Types (U + j)) (rank all_items Types U + (U + j - U))) past
      ∙ (ap (λ x. rank all_items Types U + x) rest
      ∙ (ap (λ x. x + j) (count_all U ∙ types_kept m exports live)
      ∙ (sym (ap (λ x. rank live Types T + x) left)
      ∙ sym (ap (λ (b : Bool). cond b (rank live Types (T + j)) (rank live Types T + (T + j - T))) over))))

  -- other spaces

  pub memory_same : (n : ℕ) → edited_rank new_edit Memories (rank live Memories n) ≡ edited_rank old_edit Memories n
  memory_same n = count_all (rank live Memories n)

  pub global_same : (n : ℕ) → edited_rank new_edit Globals (rank live Globals n) ≡ edited_rank old_edit Globals n
  global_same n = count_all (rank live Globals n)

  pub ranks_same : (x : ItemIndex) → live x ≡ true → edited_rank new_edit x.0 (rank live x.0 x.1) ≡ edited_rank old_edit x.0 x.1
  ranks_same (Types, n) h = type_same n h (k.there (Types, n) h)
  ranks_same (Funcs, n) h = func_same n h (k.there (Funcs, n) h)
  ranks_same (Tables, n) h = count_all (rank live Tables n)
  ranks_same (Memories, n) h = memory_same n
  ranks_same (Globals, n) h = global_same n
