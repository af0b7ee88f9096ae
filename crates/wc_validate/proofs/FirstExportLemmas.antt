-- Positions of the first exports, and what is looked up by them.
use Rattle.std.proofs.Common.{◌≡◌, ◌↔◌, ℕ, List, [], ◌∷◌, ◌++◌, map, length, Bool, true, false, ◌||◌, Option, String, nat_eq, refl, sym, ap, ◌∙◌, slice_get}
use Rattle.std.proofs.lemmas.List.{length-map, map-append}
use Rattle.std.specs.Option.{option_and_then, option_map}
use Rattle.std.specs.declared.alloc.Global.{Global}
use Rattle.wc_resolve.proofs.KeyLemmas.{nat_from, nat_to}
use Rattle.wc_resolve.specs.Views.{KeyView, key_view}
use Rattle.wc_names.specs.declared.exports.Export.{Export}
use Rattle.wc_names.specs.ExportViews.{ExportView, export_view, exported_func_callback, exported_func_post_return}
use Rattle.wc_names.specs.Keys.{key_eq}
use Rattle.wc_validate.specs.declared.exports.map.Query.{Query}
use Rattle.wc_validate.specs.declared.exports.map.Query.TheVariants as query
use Rattle.wc_validate.specs.declared.exports.first_exports.FirstExports.{FirstExports}
use Rattle.wc_validate.specs.Exports.Map.{ExportRecord, asked, export_entry, first_that, is_callback, is_post_return}
use Rattle.wc_validate.specs.Exports.FirstExports.{HasFirstPositions, Purpose, destructor_of, function_of, interface_callback, interface_post_return, is_interface_callback, is_interface_post_return, is_world_callback, is_world_post_return, kept_for, position_in, serves, single, the_adapter_realloc, the_export_realloc, the_function_table, the_import_realloc, the_initializer, the_memory, the_realloc, the_task_hook, world_callback, world_post_return}
use Rattle.wc_validate.specs.FirstPositions.{earlier, first_position, kept_position}
use Rattle.wc_validate.proofs.FirstPositionLemmas.{found_at_position, image_at, position_as, position_kept, position_of_either}

pub nats_law : (a b : ℕ) → (nat_eq a b ≡ true) ↔ (a ≡ b)
nats_law a b = (nat_from a b, nat_to a b)

or_false : (b : Bool) → b ≡ b || false
or_false true = refl
or_false false = refl

post_returns : (key : KeyView) (name : List ℕ) (x : ExportView) → is_post_return key name x ≡ is_world_post_return key x || is_interface_post_return key name x
post_returns key name (exported_func_post_return k) = or_false (key_eq k key)
post_returns key name x = refl

callbacks : (key : KeyView) (name : List ℕ) (x : ExportView) → is_callback key name x ≡ is_world_callback key x || is_interface_callback key name x
callbacks key name (exported_func_callback k) = or_false (key_eq k key)
callbacks key name x = refl

abbrev pub passing : (ExportView → Bool) → List ℕ × ExportView → Bool
passing test e = test e.1

module _ (first : FirstExports) (exports : ExportRecord) (h : HasFirstPositions first exports) where
  earlier_of : (either left right : ExportView → Bool) → ((x : ExportView) → either x ≡ left x || right x) → (m n : Option ℕ)
      → m ≡ first_position (passing left) exports → n ≡ first_position (passing right) exports
      → earlier m n ≡ first_position (passing either) exports
  earlier_of either left right same m n is_left is_right =
      ap (λ z. earlier z n) is_left ∙ (ap (λ z. earlier (first_position (passing left) exports) z) is_right
      ∙ sym (position_as (passing either) (λ e. passing left e || passing right e) (λ e. same e.1) exports
      ∙ position_of_either (passing left) (passing right) exports))

  -- the position of what is looked up is that of the first that is asked for
  position_is : (q : Query) → position_in first q ≡ first_position (passing (asked q)) exports
  position_is (query.Function key name) = h (function_of (key_view key.now) name.now)
  position_is (query.PostReturn key name) =
      let k = key_view key.now in
      earlier_of (is_post_return k name.now) (is_world_post_return k) (is_interface_post_return k name.now) (post_returns k name.now) _ _
      (h (world_post_return k)) (h (interface_post_return k name.now))
  position_is (query.Callback key name) =
      let k = key_view key.now in
      earlier_of (is_callback k name.now) (is_world_callback k) (is_interface_callback k name.now) (callbacks k name.now) _ _ (h (world_callback k))
      (h (interface_callback k name.now))
  position_is (query.Destructor id) = h (destructor_of id.0)
  position_is query.Memory = h (single the_memory)
  position_is query.FunctionTable = h (single the_function_table)
  position_is query.TaskHook = h (single the_task_hook)
  position_is query.Initialize = h (single the_initializer)
  position_is query.Realloc = h (single the_realloc)
  position_is query.ExportRealloc = h (single the_export_realloc)
  position_is query.ImportRealloc = h (single the_import_realloc)
  position_is query.AdapterRealloc = h (single the_adapter_realloc)

-- what is at the position is the first that is asked for
pub looked_up : (first : FirstExports) (entries : List (String Global × Export)) (exports : ExportRecord) (q : Query) → map export_entry entries ≡ exports
    → HasFirstPositions first (map export_entry entries)
    → option_map export_entry (option_and_then (slice_get entries) (position_in first q)) ≡ first_that (asked q) exports
looked_up first entries exports q view h =
    image_at export_entry entries (position_in first q)
    ∙ (ap (option_and_then (slice_get (map export_entry entries))) (position_is first (map export_entry entries) h q)
    ∙ (sym (found_at_position (passing (asked q)) (map export_entry entries)) ∙ ap (first_that (asked q)) view))

-- the positions among exports that were passed
abbrev pub HasPassed : List (String Global × Export) → FirstExports → Type 0
HasPassed passed first = HasFirstPositions first (map export_entry passed)

pub passed_more : (passed : List (String Global × Export)) (e : String Global × Export) (old new : FirstExports) (position : ℕ)
    → ((p : Purpose) → kept_for new p ≡ kept_position (kept_for old p) (serves p (export_view e.1)) position) → HasPassed passed old → position ≡ length passed
    → HasPassed (passed ++ e ∷ []) new
passed_more passed e old new position noted h at p =
    position_kept (passing (serves p)) (map export_entry passed) (export_entry e) position (kept_for old p) (kept_for new p)
    (at ∙ sym (length-map passed export_entry)) (h p) (noted p)
    ∙ ap (first_position (passing (serves p))) (sym (map-append export_entry passed (e ∷ [])))
