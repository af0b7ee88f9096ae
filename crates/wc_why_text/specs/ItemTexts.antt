-- The texts of items, of the beginnings of paths, and of imports. Each text from outside is a word, or ends its line, so that a line
-- has one reading.
use Rattle.std.specs.Prelude.{ℕ, List, ◌++◌, codes, decimal, Option, Some, None}
use Rattle.wc_texts.specs.Escape.{escaped}
use Rattle.wc_read.specs.declared.operators.Space.{Space}
use Rattle.wc_read.specs.declared.operators.Space.TheVariants.{Types, Funcs, Tables, Memories, Globals}
use Rattle.wc_segments.specs.Segments.{segment_section_name}
use Rattle.wc_paths.specs.PathRoots.{RootView, by_export, by_start, by_table, by_memory}
use Rattle.wc_why.specs.declared.tree.Unfollowed.{Unfollowed}
use Rattle.wc_why.specs.declared.tree.Unfollowed.TheVariants.{Unreached, Body, Section}
use Rattle.wc_why_text.specs.Texts.{two_words, word}

abbrev pub space_name : Space → List ℕ
space_name Types = codes "type"
space_name Funcs = codes "func"
space_name Tables = codes "table"
space_name Memories = codes "memory"
space_name Globals = codes "global"

-- the kind of an item, its index, and its name, if it has one
abbrev pub item_text : Space → ℕ → Option (List ℕ) → List ℕ
item_text space index None = space_name space ++ (codes " " ++ decimal index)
item_text space index (Some name) = space_name space ++ (codes " " ++ (decimal index ++ (codes " " ++ escaped name)))

-- segments: `elem N` and `data N`
abbrev pub elements_text : ℕ → List ℕ
elements_text index = codes "elem " ++ decimal index

abbrev pub data_text : ℕ → List ℕ
data_text index = codes "data " ++ decimal index

-- a module of a component: `main`, or `adapter ADAPTER`
abbrev pub importer_text : Option (List ℕ) → List ℕ
importer_text None = codes "main"
importer_text (Some adapter) = codes "adapter " ++ word adapter

-- `IMPORTER imports MODULE NAME`
abbrev pub import_line : Option (List ℕ) → List ℕ → List ℕ → List ℕ
import_line adapter from name = codes "  " ++ (importer_text adapter ++ (codes " imports " ++ (two_words from name ++ codes "\n")))

-- where a path begins in a module that stands alone, and, after the module, in a module of a component
abbrev pub root_text : RootView → List ℕ
root_text (by_export name) = codes "export " ++ escaped name
root_text by_start = codes "start"
root_text (by_table index) = codes "fills table " ++ decimal index
root_text (by_memory index) = codes "fills memory " ++ decimal index

abbrev pub module_root_text : RootView → List ℕ
module_root_text (by_export name) = codes "exports " ++ word name
module_root_text by_start = codes "start"
module_root_text (by_table index) = codes "fills table " ++ decimal index
module_root_text (by_memory index) = codes "fills memory " ++ decimal index

-- why no path through the main module is shown
abbrev pub unfollowed_text : Unfollowed → List ℕ
unfollowed_text Unreached = codes "main never uses it"
unfollowed_text (Body index) = codes "main is not followed: body of function " ++ decimal index
unfollowed_text (Section section) = codes "main is not followed: " ++ segment_section_name section

-- a text as a line, after two blanks
abbrev pub line_of : List ℕ → List ℕ
line_of text = codes "  " ++ (text ++ codes "\n")
