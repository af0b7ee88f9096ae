-- The contents of sections are read as the sections have them.
use Rattle.std.proofs.Common.{◌≡◌, ℕ, List, [], Option, Some, None, refl, sym, ◌∙◌, ap, subst}
use Rattle.std.specs.Prelude.{MatchOption}
use Rattle.std.specs.Option.{option_map_or}
use Rattle.wc_read.specs.Formats.{Format, SpellsNumber, SpellsVector}
use Rattle.wc_read.specs.Reading.Reader.{Read, number_at, vector_at, read_all}
use Rattle.wc_read.specs.Options.{◌>>=◌}
use Rattle.wc_read.specs.Reading.Imports.{import_at}
use Rattle.wc_read.specs.Reading.Limits.{table_at, memory_at}
use Rattle.wc_read.specs.Limits.{SpellsTable, SpellsMemory}
use Rattle.wc_read.specs.Imports.{SpellsImport}
use Rattle.wc_read.specs.Exports.{SpellsExport}
use Rattle.wc_read.specs.Sections.{SectionValue}
use Rattle.wc_read.specs.Contents.{SpellsFuncType, SpellsSizePrefixed}
use Rattle.wc_read.specs.Reading.Contents.{func_type_at, size_prefixed_at, items_in, content_in, section_contents_in}
use Rattle.wc_read.specs.Reading.Exports.{export_at}
use Rattle.wc_read.specs.Order.{content_of}
use Rattle.wc_read.specs.SectionContents.{SectionContentsValue, HasItems, HasContent, HaveSectionContents}
use Rattle.wc_read.proofs.OptionsLemmas.{some_same, bind_some}
use Rattle.wc_read.proofs.MeetsLemmas.{Meets, bind_is, vector_meets, number_meets}
use Rattle.wc_read.proofs.LimitsLemmas.{table_meets, memory_meets}
use Rattle.wc_read.proofs.ImportsLemmas.{import_meets}
use Rattle.wc_read.specs.Globals.{SpellsLocalGlobal}
use Rattle.wc_read.specs.Reading.Globals.{local_global_at}
use Rattle.wc_read.proofs.GlobalsLemmas.{local_global_meets}
use Rattle.wc_read.proofs.ExportsLemmas.{export_meets}
use Rattle.wc_read.proofs.ContentsLemmas.{DecidesSpelling, read_all_meets, func_type_meets, size_prefixed_meets}

module _ {A : Type 0} (Spells : Format A) (read : Read A) (m : Meets Spells read) where
  items : DecidesSpelling (SpellsVector Spells) (read_all (vector_at read))
  items = read_all_meets (SpellsVector Spells) (vector_at read) (vector_meets Spells read m)

  found_in : (o : Option (List ℕ)) (xs : List A) → option_map_or (λ content. read_all (vector_at read) content) o (Some []) ≡ Some xs → MatchOption o (xs ≡ []) (λ content. SpellsVector Spells content xs)
  found_in None xs e = sym (some_same [] xs e)
  found_in (Some content) xs e = items.found content xs e

  finds_in : (o : Option (List ℕ)) (xs : List A) → MatchOption o (xs ≡ []) (λ content. SpellsVector Spells content xs) → option_map_or (λ content. read_all (vector_at read) content) o (Some []) ≡ Some xs
  finds_in None xs h = ap Some (sym h)
  finds_in (Some content) xs h = items.finds content xs h

  pub items_found : (id : ℕ) (sections : List SectionValue) (xs : List A) → items_in id read sections ≡ Some xs → HasItems id (SpellsVector Spells) sections xs
  unfolding items_in
  items_found id sections xs e = found_in (content_of id sections) xs e

  pub items_there : (id : ℕ) (sections : List SectionValue) (xs : List A) → HasItems id (SpellsVector Spells) sections xs → items_in id read sections ≡ Some xs
  unfolding items_in
  items_there id sections xs h = finds_in (content_of id sections) xs h

  one : DecidesSpelling Spells (read_all read)
  one = read_all_meets Spells read m

  found_one : (o : Option (List ℕ)) (x : Option A) → option_map_or (λ content. read_all read content >>= λ y. Some (Some y)) o (Some None) ≡ Some x → MatchOption o (x ≡ None) (λ content. (y : A) × (x ≡ Some y) × Spells content y)
  found_one None x e = sym (some_same None x e)
  found_one (Some content) x e = let h = bind_is (read_all read content) (λ y. Some (Some y)) x e in (h.0, sym (some_same (Some h.0) x h.2), one.found content h.0 h.1)

  finds_one : (o : Option (List ℕ)) (x : Option A) → MatchOption o (x ≡ None) (λ content. (y : A) × (x ≡ Some y) × Spells content y) → option_map_or (λ content. read_all read content >>= λ y. Some (Some y)) o (Some None) ≡ Some x
  finds_one None x h = ap Some (sym h)
  finds_one (Some content) x h = bind_some (read_all read content) (λ y. Some (Some y)) h.0 (one.finds content h.0 h.2) ∙ ap Some (sym h.1)

  pub content_found : (id : ℕ) (sections : List SectionValue) (x : Option A) → content_in id read sections ≡ Some x → HasContent id Spells sections x
  unfolding content_in
  content_found id sections x e = found_one (content_of id sections) x e

  pub content_there : (id : ℕ) (sections : List SectionValue) (x : Option A) → HasContent id Spells sections x → content_in id read sections ≡ Some x
  unfolding content_in
  content_there id sections x h = finds_one (content_of id sections) x h

pub parts_found : (sections : List SectionValue) (p : SectionContentsValue) → section_contents_in sections ≡ Some p → HaveSectionContents sections p
unfolding section_contents_in
parts_found sections p e =
    let types = bind_is _ _ _ e in
    let imports = bind_is _ _ _ types.2 in
    let func_types = bind_is _ _ _ imports.2 in
    let tables = bind_is _ _ _ func_types.2 in
    let memories = bind_is _ _ _ tables.2 in
    let globals = bind_is _ _ _ memories.2 in
    let exports = bind_is _ _ _ globals.2 in
    let start = bind_is _ _ _ exports.2 in
    let bodies = bind_is _ _ _ start.2 in
    let made : SectionContentsValue = record { types = types.0; imports = imports.0; func_types = func_types.0; tables = tables.0; memories = memories.0; globals = globals.0; exports = exports.0; start = start.0; bodies = bodies.0 } in
    subst (λ (q : SectionContentsValue). HaveSectionContents sections q) (some_same made p bodies.2) (record {
      has_types = items_found SpellsFuncType func_type_at func_type_meets 1 sections types.0 types.1;
      has_imports = items_found SpellsImport import_at import_meets 2 sections imports.0 imports.1;
      has_func_types = items_found (SpellsNumber 32) (number_at 32) (number_meets 32) 3 sections func_types.0 func_types.1;
      has_tables = items_found SpellsTable table_at table_meets 4 sections tables.0 tables.1;
      has_memories = items_found SpellsMemory memory_at memory_meets 5 sections memories.0 memories.1;
      has_globals = items_found SpellsLocalGlobal local_global_at local_global_meets 6 sections globals.0 globals.1;
      has_exports = items_found SpellsExport export_at export_meets 7 sections exports.0 exports.1;
      has_start = content_found (SpellsNumber 32) (number_at 32) (number_meets 32) 8 sections start.0 start.1;
      has_bodies = items_found SpellsSizePrefixed size_prefixed_at size_prefixed_meets 10 sections bodies.0 bodies.1;
    })

pub parts_there : (sections : List SectionValue) (p : SectionContentsValue) → HaveSectionContents sections p → section_contents_in sections ≡ Some p
unfolding section_contents_in
parts_there sections p h =
    rw (
      items_there SpellsFuncType func_type_at func_type_meets 1 sections p.types h.has_types,
      items_there SpellsImport import_at import_meets 2 sections p.imports h.has_imports,
      items_there (SpellsNumber 32) (number_at 32) (number_meets 32) 3 sections p.func_types h.has_func_types,
      items_there SpellsTable table_at table_meets 4 sections p.tables h.has_tables,
      items_there SpellsMemory memory_at memory_meets 5 sections p.memories h.has_memories,
      items_there SpellsLocalGlobal local_global_at local_global_meets 6 sections p.globals h.has_globals,
      items_there SpellsExport export_at export_meets 7 sections p.exports h.has_exports,
      content_there (SpellsNumber 32) (number_at 32) (number_meets 32) 8 sections p.start h.has_start,
      items_there SpellsSizePrefixed size_prefixed_at size_prefixed_meets 10 sections p.bodies h.has_bodies,
    ) refl
