use Rattle.std.proofs.Common.{ap, map, ℕ, List}
use Rattle.std.specs.Borrow.{Bor}
use Rattle.wc_texts.specs.Shapes.{array_of}
use Rattle.wc_record.specs.Scans.{function_name_json}
use Rattle.wc_record.proofs.ShapeLemmas.{no_fields, field_then, object_written, field_is}
use Rattle.wc_record.proofs.scans.put_scan.Goals as goal

pub returns : goal.returns
returns c =
    let names = λ (es : List (ℕ × Bor (List ℕ))). array_of (map function_name_json (map (λ e. (e.0, e.1.now)) es)) in
    object_written _ _ c.in_ok-begin_object.ensures
    (field_then c.in_ok-put_imports_member.ensures
    (field_then c.in_ok-put_exports_member.ensures
    (field_then (field_is _ _ (ap names c.entries.ensures) c.in_ok-put_list_member.ensures) no_fields))) c.end_object.ensures
