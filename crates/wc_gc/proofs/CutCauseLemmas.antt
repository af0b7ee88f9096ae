-- After liveness, a fault has a cause in an adapter exactly where it has one in its cut.
use Rattle.std.proofs.Common.{◌≡◌, ℕ, ◌≤◌, List, [], ◌∷◌, length, map, refl, sym, ◌∙◌, ap, subst, Bool, true, false, ◌&&◌, ◌||◌, not, cond}
use Rattle.std.proofs.Common.{Option, Some, None, arith, ◌⊎◌, inl, inr}
use Rattle.std.specs.Prelude.{◌==◌, ◌↔◌, IfSome, is_some}
use Rattle.std.specs.List.{AllByRecursion, list_all, list_any, slice_get}
use Rattle.std.specs.Option.{option_map, option_map_or, option_to_list}
use Rattle.std.proofs.lemmas.Option.{slice_get-map}
use Rattle.std.proofs.lemmas.List.{nil_from_length}
use Rattle.wc_read.specs.Exports.{ExportValue}
use Rattle.wc_read.specs.Items.{MemoryValue}
use Rattle.wc_read.specs.Renumbering.{renumber_func_type}
use Rattle.wc_read.specs.declared.operators.Space.TheVariants.{Types, Funcs, Tables, Memories, Globals}
use Rattle.wc_write.specs.BuiltValues.{is_defined}
use Rattle.wc_gc.specs.Causes.{IsFoundCause, called_reallocs, grows_memory, has_page_size, has_page_size_at, has_realloc_type, is_realloc_type_at}
use Rattle.wc_read.specs.Decoded.{DecodedModule, FuncCode, ItemIndex}
use Rattle.wc_gc.specs.Edit.{edit}
use Rattle.wc_gc.specs.EditedImage.{FitsBits, edited_image}
use Rattle.wc_read.specs.Entries.{entry_refs, func_entry, no_entry}
use Rattle.wc_gc.specs.Found.{FoundView, found_in, is_realloc_type}
use Rattle.wc_gc.specs.Image.{rank}
use Rattle.wc_gc.specs.Parts.{SettingsView, adds_growing, is_lazy, last_of}
use Rattle.wc_gc.specs.TraceLaws.{AreClosed, CausesAreOfCut, all_items}
use Rattle.wc_gc.specs.Trim.{IsLaterCause}
use Rattle.wc_gc.specs.Unfolding.{renumber_func}
use Rattle.wc_gc.specs.declared.fault.GcFault.{GcFault}
use Rattle.wc_gc.specs.declared.fault.GcFault.TheVariants.{SeveralNamed, LiveTable, SeveralMemories, LocalMemory, ReallocType, ReallocMemory}
use Rattle.wc_gc.specs.declared.fault.GcFault.TheVariants.{TooLarge}
use Rattle.wc_gc.specs.declared.parts.Parts.{Parts}
use Rattle.wc_gc.proofs.AddedUnderLemmas.{last_has}
use Rattle.wc_gc.proofs.BuiltPartLemmas.{each_weaker}
use Rattle.wc_gc.proofs.CutFoundLemmas.{AreRanks, cut, cut_is, found_moved, parts_same, same_length, test_at, test_seen}
use Rattle.wc_gc.proofs.CutImageLemmas.{image_is_of_cut, last_mapped}
use Rattle.wc_graph.proofs.ListLemmas.{get_some}
use Rattle.wc_gc.proofs.KeptItemLemmas.{rank_at}
use Rattle.wc_gc.proofs.TypeTestLemmas.{realloc_type_under}

-- lists

two_of : (a b c d : ℕ) → a ≡ c → b ≡ d → (2 ≤ a) ⊎ (2 ≤ b) → (2 ≤ c) ⊎ (2 ≤ d)
two_of a b c d x y (inl h) = inl (omega (arith, x, h))
two_of a b c d x y (inr h) = inr (omega (arith, y, h))

any_mapped : (p q : ℕ → Bool) (g : ℕ → ℕ) (xs : List ℕ) → AllByRecursion (λ n. q (g n) ≡ p n) xs → list_any q (map g xs) ≡ list_any p xs
any_mapped p q g [] h = refl
any_mapped p q g (x ∷ xs) h = ap (λ b. b || list_any q (map g xs)) h.0 ∙ ap (λ b. p x || b) (any_mapped p q g xs h.1)

all_mapped : (p q : ℕ → Bool) (g : ℕ → ℕ) (xs : List ℕ) → AllByRecursion (λ n. q (g n) ≡ p n) xs → list_all q (map g xs) ≡ list_all p xs
all_mapped p q g [] h = refl
all_mapped p q g (x ∷ xs) h = ap (λ b. b && list_all q (map g xs)) h.0 ∙ ap (λ b. p x && b) (all_mapped p q g xs h.1)

option_mapped : (g : ℕ → ℕ) (o : Option ℕ) → option_to_list (option_map g o) ≡ map g (option_to_list o)
option_mapped g None = refl
option_mapped g (Some x) = refl

option_all : (P : ℕ → Type 0) (o : Option ℕ) → IfSome o P → AllByRecursion P (option_to_list o)
option_all P None h = tt
option_all P (Some x) h = (h, tt)

cond_mapped : (g : ℕ → ℕ) (b : Bool) (xs ys : List ℕ) → cond b (map g xs) (map g ys) ≡ map g (cond b xs ys)
cond_mapped g true xs ys = refl
cond_mapped g false xs ys = refl

cond_all : (P : ℕ → Type 0) (b : Bool) (xs ys : List ℕ) → AllByRecursion P xs → AllByRecursion P ys → AllByRecursion P (cond b xs ys)
cond_all P true xs ys h k = h
cond_all P false xs ys h k = k

module _ (s : SettingsView) (m : DecodedModule) (exports : List ExportValue) (live : ItemIndex → Bool) (k : AreClosed m exports live)
    (f g : FoundView) (a : AreRanks live f g) where
  abbrev C : DecodedModule
  C = cut m exports live

  -- memories

  memories_same : (p : MemoryValue → Bool) → list_any (λ n. option_map_or p (slice_get C.memories n) false) g.memories
      ≡ list_any (λ n. option_map_or p (slice_get m.memories n) false) f.memories
  memories_same p =
      ap (list_any (λ n. option_map_or p (slice_get C.memories n) false)) a.memories
      ∙ any_mapped (λ n. option_map_or p (slice_get m.memories n) false) (λ n. option_map_or p (slice_get C.memories n) false)
      (rank live Memories) f.memories
      (each_weaker (λ n. live (Memories, n) ≡ true)
      (λ n. option_map_or p (slice_get C.memories (rank live Memories n)) false ≡ option_map_or p (slice_get m.memories n) false) f.memories
      (λ n h. test_at (λ i. live (Memories, i)) m.memories n (k.there (Memories, n) h) h p) a.live_memories)

  -- reallocs that are called

  type_same : (n : ℕ) → live (Types, n) ≡ true → is_realloc_type_at C (rank live Types n) ≡ is_realloc_type_at m n
  type_same n h =
      test_seen (λ i. live (Types, i)) m.types n (k.there (Types, n) h) h is_realloc_type is_realloc_type (renumber_func_type (rank live))
      (realloc_type_under (rank live))

  realloc_type_same : (n : ℕ) → live (Funcs, n) ≡ true → has_realloc_type C (rank live Funcs n) ≡ has_realloc_type m n
  realloc_type_same n h =
      let x = get_some m.funcs n (k.there (Funcs, n) h) in
      let named = subst (λ o. AllByRecursion (λ y. live y ≡ true) (entry_refs (option_map_or func_entry o no_entry))) x.1 (k.named (Funcs, n) h) in
      ap (λ o. option_map_or (λ (z : FuncCode). is_realloc_type_at C z.ty) o false)
      (slice_get-map (renumber_func (rank live)) _ (rank live Funcs n)
      ∙ ap (option_map (renumber_func (rank live))) (rank_at (λ i. live (Funcs, i)) m.funcs n x.0 x.1 h))
      ∙ (type_same x.0.ty named.0 ∙ sym (ap (λ o. option_map_or (λ (z : FuncCode). is_realloc_type_at m z.ty) o false) x.1))

  lazy_same : is_lazy s g ≡ is_lazy s f
  lazy_same = ap (λ (p : Parts). p.lazy) (parts_same s live f g a)

  abbrev called_by : Bool → Bool → FoundView → List ℕ
  called_by given lazy x = cond given (cond lazy (option_to_list (last_of x.reallocs)) []) x.reallocs

  last_same : option_to_list (last_of g.reallocs) ≡ map (rank live Funcs) (option_to_list (last_of f.reallocs))
  last_same =
      ap option_to_list (last_mapped (rank live Funcs) f.reallocs g.reallocs a.reallocs) ∙ option_mapped (rank live Funcs) (last_of f.reallocs)

  called_same : called_reallocs s g ≡ map (rank live Funcs) (called_reallocs s f)
  called_same =
      ap (λ b. called_by (is_some s.realloc) b g) lazy_same
      ∙ (ap (λ xs. cond (is_some s.realloc) (cond (is_lazy s f) xs []) g.reallocs) last_same
      ∙ (ap (λ xs. cond (is_some s.realloc) xs g.reallocs) (cond_mapped (rank live Funcs) (is_lazy s f) (option_to_list (last_of f.reallocs)) [])
      ∙ (ap (λ xs. cond (is_some s.realloc) (map (rank live Funcs) (cond (is_lazy s f) (option_to_list (last_of f.reallocs)) [])) xs) a.reallocs
      ∙ cond_mapped (rank live Funcs) (is_some s.realloc) (cond (is_lazy s f) (option_to_list (last_of f.reallocs)) []) f.reallocs)))

  called_live : AllByRecursion (λ n. live (Funcs, n) ≡ true) (called_reallocs s f)
  called_live =
      cond_all (λ n. live (Funcs, n) ≡ true) (is_some s.realloc) (cond (is_lazy s f) (option_to_list (last_of f.reallocs)) []) f.reallocs
      (cond_all (λ n. live (Funcs, n) ≡ true) (is_lazy s f) (option_to_list (last_of f.reallocs)) []
      (option_all (λ n. live (Funcs, n) ≡ true) (last_of f.reallocs)
      (last_has (λ n. live (Funcs, n) ≡ true) f.reallocs a.live_reallocs)) tt) a.live_reallocs

  all_called : list_all (has_realloc_type C) (called_reallocs s g) ≡ list_all (has_realloc_type m) (called_reallocs s f)
  all_called =
      ap (list_all (has_realloc_type C)) called_same
      ∙ all_mapped (has_realloc_type m) (has_realloc_type C) (rank live Funcs) (called_reallocs s f)
      (each_weaker (λ n. live (Funcs, n) ≡ true) (λ n. has_realloc_type C (rank live Funcs n) ≡ has_realloc_type m n)
      (called_reallocs s f) realloc_type_same called_live)

  -- growing memory

  grows_same : grows_memory s g ≡ grows_memory s f
  grows_same =
      ap (λ b. b || (not (is_some s.realloc) && not (length g.reallocs == 0))) (ap (λ (p : Parts). p.growing) (parts_same s live f g a))
      ∙ ap (λ (n : ℕ). adds_growing s f || (not (is_some s.realloc) && not (n == 0))) (same_length f.reallocs g.reallocs (rank live Funcs) a.reallocs)

  -- fault by fault

  stacks_long : length g.stacks ≡ length f.stacks
  stacks_long = same_length f.stacks g.stacks (rank live Globals) a.stacks

  states_long : length g.states ≡ length f.states
  states_long = same_length f.states g.states (rank live Globals) a.states

  tables_long : length g.tables ≡ length f.tables
  tables_long = same_length f.tables g.tables (rank live Tables) a.tables

  memories_long : length g.memories ≡ length f.memories
  memories_long = same_length f.memories g.memories (rank live Memories) a.memories

  pub found_to : (x : GcFault) → IsFoundCause s m f x → IsFoundCause s C g x
  found_to SeveralNamed h = two_of (length f.stacks) (length f.states) (length g.stacks) (length g.states) (sym stacks_long) (sym states_long) h
  found_to LiveTable h = λ e. h (nil_from_length f.tables (sym tables_long ∙ ap length e))
  found_to SeveralMemories h = subst (λ n. 2 ≤ n) (sym memories_long) h
  found_to LocalMemory h = memories_same (λ (t : MemoryValue). is_defined t) ∙ h
  found_to ReallocType h = ap not all_called ∙ h
  found_to ReallocMemory h =
      ap (λ b. b && not (list_any (has_page_size_at C s.page_size_log2) g.memories)) grows_same
      ∙ (ap (λ b. grows_memory s f && not b) (memories_same (λ (t : MemoryValue). has_page_size s.page_size_log2 t.ty)) ∙ h)
  found_to x h = absurd h

  pub found_back : (x : GcFault) → IsFoundCause s C g x → IsFoundCause s m f x
  found_back SeveralNamed h = two_of (length g.stacks) (length g.states) (length f.stacks) (length f.states) stacks_long states_long h
  found_back LiveTable h = λ e. h (nil_from_length g.tables (tables_long ∙ ap length e))
  found_back SeveralMemories h = subst (λ n. 2 ≤ n) memories_long h
  found_back LocalMemory h = sym (memories_same (λ (t : MemoryValue). is_defined t)) ∙ h
  found_back ReallocType h = sym (ap not all_called) ∙ h
  found_back ReallocMemory h =
      sym (ap (λ b. b && not (list_any (has_page_size_at C s.page_size_log2) g.memories)) grows_same
      ∙ ap (λ b. grows_memory s f && not b) (memories_same (λ (t : MemoryValue). has_page_size s.page_size_log2 t.ty))) ∙ h
  found_back x h = absurd h

module _ (s : SettingsView) (m : DecodedModule) (exports : List ExportValue) (live : ItemIndex → Bool) (k : AreClosed m exports live) where
  later_to : (x : GcFault) → IsLaterCause s m exports live x → IsLaterCause s (cut m exports live) (cut m exports live).exports all_items x
  later_to TooLarge h =
      subst (λ b. ¬ (FitsBits b))
      (image_is_of_cut s m exports live k ∙ ap (λ d. edited_image (edit s d d.exports all_items)) (cut_is m exports live)) h
  later_to x h = found_to s m exports live k (found_in m live) (found_in (cut m exports live) all_items) (found_moved m exports live) x h

  later_back : (x : GcFault) → IsLaterCause s (cut m exports live) (cut m exports live).exports all_items x → IsLaterCause s m exports live x
  later_back TooLarge h =
      subst (λ b. ¬ (FitsBits b))
      (sym (image_is_of_cut s m exports live k ∙ ap (λ d. edited_image (edit s d d.exports all_items)) (cut_is m exports live))) h
  later_back x h = found_back s m exports live k (found_in m live) (found_in (cut m exports live) all_items) (found_moved m exports live) x h

pub causes_are_of_cut : CausesAreOfCut
causes_are_of_cut s m exports live k x =
    subst (λ (d : DecodedModule). IsLaterCause s m exports live x ↔ IsLaterCause s d d.exports all_items x) (sym (cut_is m exports live))
    (later_to s m exports live k x, later_back s m exports live k x)
