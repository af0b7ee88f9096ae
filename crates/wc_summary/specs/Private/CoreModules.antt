-- What a core module of a component imports of interfaces, as the code has it.
use Rattle.std.specs.Prelude.{◌≡◌, ℕ, ◌+◌, false, cond, List, [], ◌∷◌, map, slice_index, Option}
use Rattle.std.specs.List.{flat_map, slice_get}
use Rattle.std.specs.Option.{option_map_or}
use Rattle.wc_graph.specs.Alone.{AreAlone}
use Rattle.wc_graph.specs.Leads.{AreLeads}
use Rattle.wc_graph.specs.Positions.{sets_view}
use Rattle.wc_paths.specs.Items.{CountsValue, counts_of}
use Rattle.wc_paths.specs.Numbers.{numbers_in}
use Rattle.wc_summary.specs.CoreModules.{CoreValue, LabelValue, core_graph, is_kind, listed_texts}
use Rattle.wc_summary.specs.Leads.{as_number, own_bodies}
use Rattle.wc_summary.specs.Private.SummaryMain.{AreOwnersOf}
use Rattle.wc_summary.specs.Private.Tags.{ArePlacesCounted}
use Rattle.wc_summary.specs.Private.Uses.{alone_at, led_at}
use Rattle.wc_summary.specs.Summary.{AdapterPartView}
use Rattle.wc_summary.specs.declared.core_modules.Label.{Label}
use Rattle.wc_summary.specs.declared.core_modules.LabelKind.{LabelKind}
use Rattle.wc_summary.specs.declared.core_modules.LabelKind.TheVariants.{Wanted, Other, Root}
use Rattle.wc_summary.specs.declared.uses.Uses.{Uses}

-- the number of a source's item, if it is there; and the numbers of all
abbrev pub label_number : CountsValue → LabelValue → Option ℕ
label_number c l = as_number c l.item

abbrev pub label_numbers : CoreValue → List (Option ℕ)
label_numbers a = map (label_number (counts_of (core_graph a))) a.labels

-- what a core module imports of so many interfaces, which are at these places for its imports
pub record AreCoreUses (a : CoreValue) (places : List (Option ℕ)) (count : ℕ) (u : Uses) : Type 0 where
  pub followed : u.is_library ≡ false
  pub counts : ArePlacesCounted places count u.counts.items
  pub owners : List (Option ℕ)
  pub are_owners : AreOwnersOf (counts_of (core_graph a)) a.value.imports places owners
  pub led : AreLeads (numbers_in (core_graph a)) (label_numbers a) owners count (sets_view u.led.items)
  pub alone : AreAlone (numbers_in (core_graph a)) (label_numbers a)
      (map (λ (b : ℕ × ℕ). ((counts_of (core_graph a)).types + b.0, b.1)) (own_bodies a.value.funcs)) (sets_view u.led.items) u.alone.items

-- the text of a source, if it is of a kind; and those at some positions
abbrev pub text_of : LabelKind → Label → List (List ℕ)
text_of kind l = cond (is_kind kind l.kind) (l.text.now ∷ []) []

abbrev pub text_at : LabelKind → List Label → ℕ → List (List ℕ)
text_at kind labels position = option_map_or (text_of kind) (slice_get labels position) []

abbrev pub texts_at : LabelKind → List Label → List ℕ → List (List ℕ)
texts_at kind labels positions = flat_map (text_at kind labels) positions

abbrev pub core_part_at : CoreValue → Uses → ℕ → AdapterPartView
core_part_at a u k = record {
  adapter = a.name;
  is_library = u.is_library;
  imports = slice_index u.counts.items k;
  exports = listed_texts Wanted a.labels (led_at u k);
  stays = listed_texts Other a.labels (led_at u k);
  roots = listed_texts Root a.labels (led_at u k);
  functions = (alone_at u k).items;
  bytes = (alone_at u k).size;
}
