use Rattle.std.proofs.Common.{◌≡◌, ◌∙◌, false, map, refl, rules, subst, sym, ap}
use Rattle.std.specs.List.{list_any, slice_get}
use Rattle.wc_read.specs.Types.{func_type_value}
use Rattle.wc_read.specs.Decoded.{func_code}
use Rattle.wc_segments.specs.Elements.{element_value}
use Rattle.wc_segments.specs.declared.elements.ElementSegment.{ElementSegment}
use Rattle.wc_paths.specs.Callers.{table_of}
use Rattle.wc_paths.specs.Roots.{is_active}
use Rattle.wc_paths.specs.Paths.{graph_in}
use Rattle.wc_paths.specs.Private.EqualTypes.{AreFirstEqual}
use Rattle.wc_paths.proofs.CallerLemmas.{callers_between, callers_none, lists_are, tables_are, types_are}
use Rattle.wc_paths.proofs.callers.Callers.find.Goals as goal

pub returns : goal.returns
returns c = λ first second a.
    let m = c.args.«module».now in
    let s = c.args.segments.now in
    let firsts = c.in_ok-firsts.firsts.items in
    callers_between (graph_in m s) first second c.args.reached.now a firsts
    (subst (λ z. AreFirstEqual (map func_type_value z) firsts) c.deref-2.ensures.value c.in_ok-firsts.ensures)
    (record { tables = c.in_ok-tables.tables; types = c.in_ok-types.types; lists = c.in_ok-lists.lists })
    (c.in_ok-tables.ensures ∙ (ap (map (λ e. table_of (element_value e).mode)) c.deref-3.ensures.value ∙ tables_are s.elements.items))
    (c.in_ok-types.ensures
    ∙ (ap (λ z. map (λ f. slice_get z (func_code f).ty) c.deref-5.result.now) c.deref-4.ensures.value
    ∙ (ap (map (λ f. slice_get firsts (func_code f).ty)) c.deref-5.ensures.value ∙ types_are firsts m.funcs.items)))
    (lists_are c.args.reached.now c.deref-7.result.now firsts c.deref-6.result.now m.funcs.items c.in_ok-lists.lists.entries c.deref-7.ensures.value
    c.deref-6.ensures.value c.in_ok-lists.ensures)

pub returns-then-not-has_active : goal.returns-then-not-has_active
returns-then-not-has_active c = λ first second a.
    let m = c.args.«module».now in
    let s = c.args.segments.now in
    let off : c.has_active.result ≡ false = search rules in
    callers_none (graph_in m s) first second s.elements.items
    (record { tables = c.new-tables.result; types = c.new-types.result; lists = c.with_hasher-lists.result }) refl
    (subst (λ es. list_any (λ (e : ElementSegment). is_active (element_value e).mode) es ≡ false) c.deref.ensures.value (sym c.has_active.ensures ∙ off))
    c.new-tables.ensures.items
