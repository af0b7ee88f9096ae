-- Modules as parts of a component.
use Rattle.std.specs.Prelude.{ℕ, List, [], length, map, Option}
use Rattle.std.specs.Borrow.{Bor}
use Rattle.std.specs.Option.{option_map, option_map_or}
use Rattle.wc_paths.specs.Callers.{Calling, calling_of}
use Rattle.wc_paths.specs.Counts.{counts_value}
use Rattle.wc_paths.specs.declared.callers.Callers.{Callers}
use Rattle.wc_paths.specs.Items.{CountsValue}
use Rattle.wc_why.specs.Rows.{row_in}
use Rattle.wc_why.specs.Texts.{text_of}
use Rattle.wc_why.specs.Tree.{TreeRootView, tree_root_view}
use Rattle.wc_why.specs.declared.part.Begin.{Begin}
use Rattle.wc_why.specs.declared.part.Link.{Link}
use Rattle.wc_why.specs.declared.part.Part.{Part}

-- an item at which paths may begin: its list, its number, and where the path begins
pub record BeginView : Type 0 where
  pub list : ℕ
  pub item : ℕ
  pub root : Option TreeRootView

abbrev pub begin_view : Begin → BeginView
begin_view b = record { list = b.list; item = b.item; root = option_map tree_root_view b.root }

-- a link: an item of the first part, and an item of another part that it names too, with its name
pub record LinkView : Type 0 where
  pub item : ℕ
  pub part : ℕ
  pub linked : ℕ
  pub export : List ℕ

abbrev pub link_view : Link → LinkView
link_view l = record { item = l.item; part = l.part; linked = l.linked; export = l.export.now }

-- a module: how many items it has, what each names, where paths begin, and links
pub record PartView : Type 0 where
  pub name : Option (List ℕ)
  pub counts : CountsValue
  pub size : ℕ
  pub names : ℕ → List ℕ
  pub begins : List BeginView
  pub links : List LinkView
  pub bytes : List ℕ
  pub calling : Calling

-- where nothing is known of calls through tables, none may call
abbrev pub calls_none : Calling
calls_none x y = []

abbrev pub calling_by : Bor Callers → Calling
calling_by c = calling_of c.now

abbrev pub part_view : Part → PartView
part_view p = record {
  name = option_map text_of p.name;
  counts = counts_value p.counts;
  size = length p.rows.now.closed.items;
  names = row_in p.rows.now.starts.items p.rows.now.names.items;
  begins = map begin_view p.begins.items;
  links = map link_view p.links.items;
  bytes = p.bytes.now;
  calling = option_map_or calling_by p.callers calls_none;
}
