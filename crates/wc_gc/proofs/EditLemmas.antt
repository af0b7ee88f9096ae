-- Functions that are edited or added, under new indices.
use Rattle.std.proofs.Common.{◌≡◌, ℕ, ◌&&◌, ◌+◌, ◌++◌, List, [], ◌∷◌, refl, sym, ◌∙◌, ap, Bool, true, false, cond, Option, Some, None}
use Rattle.std.specs.Prelude.{◌==◌, is_some, unwrap_or}
use Rattle.std.specs.Borrow.{Bor}
use Rattle.std.specs.Option.{option_map}
use Rattle.std.proofs.lemmas.List.{map-append}
use Rattle.wc_read.specs.Bodies.{BodyValue}
use Rattle.wc_read.specs.Items.{imported, def_value, item_value}
use Rattle.wc_read.specs.Renumbering.{Renumbering}
use Rattle.wc_read.specs.declared.items.Item.{Item}
use Rattle.wc_read.specs.declared.operators.Space.TheVariants.{Funcs, Memories, Globals, Types}
use Rattle.wc_gc.specs.AddedCode.{growing_body, stack_body}
use Rattle.wc_gc.specs.Edit.{edited_body, import_func, lazy_position, only_if, with_call}
use Rattle.wc_gc.specs.Found.{main_module}
use Rattle.wc_gc.specs.Image.{new_body}
use Rattle.wc_gc.specs.NewBodies.{body_written, call_added, calls_of}
use Rattle.wc_gc.specs.Private.Edit.{imports_added, new_funcs, new_indices, settings_of, types_of, written_funcs}
use Rattle.wc_gc.specs.declared.edit.Edit.{Edit}
use Rattle.wc_gc.specs.declared.new_bodies.NewBody.{NewBody}
use Rattle.wc_gc.specs.declared.parts.Parts.{Parts}

-- bodies

pub growing_new : (new : Renumbering) (page_size_log2 memory : ℕ) → new Memories memory ≡ 0 → growing_body page_size_log2 0 ≡ new_body new (Some (growing_body page_size_log2 memory))
unfolding growing_body
growing_new new page_size_log2 memory h = by (page_size_log2 == 0) refl
  where
    by : (b : Bool) → (page_size_log2 == 0) ≡ b → growing_body page_size_log2 0 ≡ new_body new (Some (growing_body page_size_log2 memory))
    by true e = rw (h, e) refl
    by false e = rw (h, e) refl

pub stack_new : (new : Renumbering) (realloc stack : ℕ) (state : Option ℕ) → stack_body (new Funcs realloc) (new Globals stack) (option_map (new Globals) state) ≡ new_body new (Some (stack_body realloc stack state))
unfolding stack_body
stack_new new realloc stack None = refl
stack_new new realloc stack (Some state) = refl

pub old_new : (new : Renumbering) (funcs : ℕ) (p : Parts) (exported : Bool) (body : Option BodyValue) (call : Option ℕ) → is_some body ≡ true → call ≡ call_added new funcs p exported
    → record { locals = (new_body new body).locals; operators = calls_of call ++ (new_body new body).operators } ≡ new_body new (edited_body funcs p exported body)
old_new new funcs p exported body call some e = ap (λ o. record { locals = (new_body new body).locals; operators = calls_of o ++ (new_body new body).operators }) e ∙ by (p.lazy && exported) body some
  where
    by : (b : Bool) (body : Option BodyValue) → is_some body ≡ true
        → record { locals = (new_body new body).locals; operators = calls_of (cond b (Some (new Funcs (funcs + lazy_position p))) None) ++ (new_body new body).operators }
        ≡ new_body new (cond b (option_map (with_call (funcs + lazy_position p)) body) body)
    by b None h = absurd cc
    by true (Some body) h = refl
    by false (Some body) h = refl

-- what exported functions call first is called where a function is exported
pub called_if : (new : Renumbering) (funcs : ℕ) (p : Parts) (exported : Bool) (call : Option ℕ) → call ≡ call_added new funcs p true → cond exported call None ≡ call_added new funcs p exported
called_if new funcs p true call e = e
called_if new funcs p false call e = by p.lazy
  where
    by : (b : Bool) → None ≡ cond (b && false) (Some (new Funcs (funcs + lazy_position p))) None
    by true = refl
    by false = refl

-- the import that is added

pub text_or : {A : Type 0} (o : Option (Bor A)) (d : Bor A) → (unwrap_or o d).now ≡ unwrap_or (option_map (λ b. b.now) o) d.now
text_or None d = refl
text_or (Some b) d = refl

pub import_appended : (e : Edit) (old new : List (Item ℕ NewBody)) (item : Item ℕ NewBody) → e.parts.import_realloc ≡ true → new ≡ old ++ item ∷ []
    → item.ty ≡ new_indices e Types (types_of e) → def_value body_written item.def ≡ imported main_module (unwrap_or (settings_of e).realloc [])
    → written_funcs new ≡ written_funcs old ++ new_funcs e (imports_added e)
import_appended e old new item realloc grown type_is def_is =
    ap written_funcs grown ∙ map-append (item_value body_written) old (item ∷ []) ∙ ap (λ z. written_funcs old ++ z ∷ [])
    (ap (λ t. record { ty = t; def = def_value body_written item.def }) type_is ∙ ap (λ d. record { ty = new_indices e Types (types_of e); def = d }) def_is)
    ∙ ap (λ b. written_funcs old ++ new_funcs e (only_if b (import_func (types_of e) (settings_of e)))) (sym realloc)
