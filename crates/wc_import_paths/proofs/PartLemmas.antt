-- The part of a component that a module is.
use Rattle.std.proofs.Common.{◌≡◌, ◌∙◌, ℕ, ◌<◌, ◌^◌, Bool, List, [], ◌++◌, length, ap, append_assoc, subst}
use Rattle.wc_read.specs.Exports.{ExportValue}
use Rattle.wc_paths.specs.Counts.{counts_value}
use Rattle.wc_paths.specs.Items.{CountsValue, GraphValue, counts_of}
use Rattle.wc_paths.specs.Numbers.{item_count}
use Rattle.wc_paths.specs.declared.items.PathItem.{PathItem}
use Rattle.wc_why.specs.Part.{BeginView, PartView}
use Rattle.wc_why.specs.Rows.{row_in}
use Rattle.wc_import_paths.specs.Following.{FollowedView, graph_in}
use Rattle.wc_import_paths.specs.Parts.{IsPartOf, core_begins, export_begins, followed_begins, required_begins, required_start, segment_begins, start_begins, unreached_begins}
use Rattle.wc_import_paths.specs.Rows.{AreRowsFor}
use Rattle.wc_import_paths.specs.declared.rows.ModuleRows.{ModuleRows}

-- its items, by its rows
pub part_of : (g : GraphValue) (r : ModuleRows) → AreRowsFor g r → (p : PartView) → p.counts ≡ counts_value r.counts → p.size ≡ length r.rows.closed.items
    → ((n : ℕ) → p.names n ≡ row_in r.rows.starts.items r.rows.names.items n) → IsPartOf g p
part_of g r h p counts size names = record {
  counts = counts ∙ h.counted;
  size = size ∙ h.are.sized;
  names = λ n lt. names n ∙ h.are.named n lt;
  fits = subst (λ z. item_count z < 2 ^ 64) h.counted r.fits;
}

-- four lists of roots, put one after another
four_put : {A : Type 0} (a b c d o0 o1 o2 o3 o4 : List A) → o0 ≡ [] → o1 ≡ o0 ++ a → o2 ≡ o1 ++ b → o3 ≡ o2 ++ c → o4 ≡ o3 ++ d
    → o4 ≡ a ++ (b ++ (c ++ d))
four_put a b c d o0 o1 o2 o3 o4 e0 e1 e2 e3 e4 =
    e4 ∙ (ap (λ z. z ++ d) (e3 ∙ ap (λ z. z ++ c) (e2 ∙ ap (λ z. z ++ b) (e1 ∙ ap (λ z. z ++ a) e0)))
    ∙ (append_assoc (a ++ b) c d ∙ append_assoc a b (c ++ d)))

pub followed_begun : (f : FollowedView) (is_main : Bool) (items : List PathItem) (c : CountsValue) → c ≡ counts_of (graph_in f) → (es : List ExportValue)
    → es ≡ f.exports → (xs : List PathItem) → xs ≡ items → (o0 o1 o2 o3 o4 : List BeginView) → o0 ≡ [] → o1 ≡ o0 ++ export_begins c es
    → o2 ≡ o1 ++ start_begins c f.code.start → o3 ≡ o2 ++ segment_begins c f.segments → o4 ≡ o3 ++ unreached_begins c is_main xs
    → o4 ≡ followed_begins f is_main items
followed_begun f is_main items c e es ees xs exs o0 o1 o2 o3 o4 e0 e1 e2 e3 e4 =
    four_put (export_begins c es) (start_begins c f.code.start) (segment_begins c f.segments) (unreached_begins c is_main xs) o0 o1 o2 o3 o4 e0 e1 e2 e3 e4
    ∙ (λ t. export_begins (e t) (ees t) ++ (start_begins (e t) f.code.start ++ (segment_begins (e t) f.segments ++ unreached_begins (e t) is_main (exs t))))

pub core_begun : (f : FollowedView) (c : CountsValue) → c ≡ counts_of (graph_in f) → (es : List ExportValue) (o1 o2 o3 : List BeginView) → o1 ≡ required_begins c es
    → o2 ≡ o1 ++ required_start c f.code.start → o3 ≡ o2 ++ segment_begins c f.segments → o3 ≡ core_begins f es
core_begun f c e es o1 o2 o3 e1 e2 e3 =
    e3 ∙ (ap (λ z. z ++ segment_begins c f.segments) (e2 ∙ ap (λ z. z ++ required_start c f.code.start) e1)
    ∙ (append_assoc (required_begins c es) (required_start c f.code.start) (segment_begins c f.segments)
    ∙ ap (λ (z : CountsValue). required_begins z es ++ (required_start z f.code.start ++ segment_begins z f.segments)) e))
