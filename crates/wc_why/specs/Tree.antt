-- The paths to imports as a tree.
use Rattle.std.specs.Prelude.{ℕ, Bool, List, map, Option}
use Rattle.std.specs.Option.{option_map}
use Rattle.wc_paths.specs.PathRoots.{RootView, root_view}
use Rattle.wc_paths.specs.declared.items.PathItem.{PathItem}
use Rattle.wc_why.specs.Texts.{text_of}
use Rattle.wc_why.specs.declared.tree.Callers.{Callers}
use Rattle.wc_why.specs.declared.tree.Tree.{Tree}
use Rattle.wc_why.specs.declared.tree.TreeCaller.{TreeCaller}
use Rattle.wc_why.specs.declared.tree.TreeImport.{TreeImport}
use Rattle.wc_why.specs.declared.tree.TreeItem.{TreeItem}
use Rattle.wc_why.specs.declared.tree.TreeModule.{TreeModule}
use Rattle.wc_why.specs.declared.tree.TreeRoot.{TreeRoot}
use Rattle.wc_why.specs.declared.tree.TreeRoot.TheVariants.{Begin, Adapter, Unfollowed as tree_unfollowed}
use Rattle.wc_why.specs.declared.tree.TreeWay.{TreeWay}
use Rattle.wc_why.specs.declared.tree.Unfollowed.{Unfollowed}

-- where paths begin: in the main module or a module that stands alone; at an export of an adapter, with the position of the main
-- module's import of it; or in the main module, where the path is not known
pub data TreeRootView : Type 0 where
  begun : (root : RootView) → TreeRootView
  exported : (name : List ℕ) (main : Option ℕ) → TreeRootView
  unfollowed : (why : Unfollowed) → TreeRootView

abbrev pub tree_root_view : TreeRoot → TreeRootView
tree_root_view (Begin root) = begun (root_view root)
tree_root_view (Adapter name main) = exported name.now main
tree_root_view (tree_unfollowed why) = unfollowed why

pub record TreeItemView : Type 0 where
  pub item : PathItem
  pub name : Option (List ℕ)
  pub root : Option ℕ
  pub from : Option ℕ
  pub callers : Option Callers
  pub only : Option Bool

abbrev pub tree_item_view : TreeItem → TreeItemView
tree_item_view i = record {
  item = i.item;
  name = option_map text_of i.name;
  root = i.root;
  from = i.from;
  callers = i.callers;
  only = i.only;
}

pub record TreeCallerView : Type 0 where
  pub index : ℕ
  pub name : Option (List ℕ)

abbrev pub tree_caller_view : TreeCaller → TreeCallerView
tree_caller_view c = record { index = c.index; name = option_map text_of c.name }

pub record TreeModuleView : Type 0 where
  pub adapter : Option (List ℕ)
  pub roots : List TreeRootView
  pub items : List TreeItemView
  pub callers : List TreeCallerView

abbrev pub tree_module_view : TreeModule → TreeModuleView
tree_module_view m = record {
  adapter = option_map text_of m.adapter;
  roots = map tree_root_view m.roots.items;
  items = map tree_item_view m.items.items;
  callers = map tree_caller_view m.callers.items;
}

pub record TreeImportView : Type 0 where
  pub from : List ℕ
  pub name : List ℕ

abbrev pub tree_import_view : TreeImport → TreeImportView
tree_import_view i = record { from = i.module.now; name = i.name.now }

pub record TreeWayView : Type 0 where
  pub interface : Option (List ℕ)
  pub function : Option TreeCallerView
  pub name : Option (List ℕ)
  pub module_index : Option ℕ
  pub item : Option ℕ
  pub origin : Option TreeImportView
  pub ty : Option (List ℕ)

abbrev pub tree_way_view : TreeWay → TreeWayView
tree_way_view w = record {
  interface = option_map text_of w.interface;
  function = option_map tree_caller_view w.function;
  name = option_map text_of w.name;
  module_index = w.«module»;
  item = w.item;
  origin = option_map tree_import_view w.import;
  ty = option_map text_of w.ty;
}

pub record TreeView : Type 0 where
  pub modules : List TreeModuleView
  pub ways : List TreeWayView

abbrev pub tree_view : Tree → TreeView
tree_view t = record { modules = map tree_module_view t.modules.items; ways = map tree_way_view t.ways.items }
