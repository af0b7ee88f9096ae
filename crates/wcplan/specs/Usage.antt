-- The texts that say how the program is called, and what is printed of a wrong call.
use Rattle.std.specs.Prelude.{ℕ, List, ◌++◌, codes}

-- the usage text
abbrev pub usage_text : List ℕ
usage_text =
    codes "usage: wcplan WORLDS.json [WORLD] MAIN.wasm [--adapt [NAME=]FILE]... [--export KEY]... [--adapter-export NAME=KEY]...\n"
    ++ (codes "              [--reject-legacy-names] [--realloc-via-memory-grow] [--task-hook NAME] [--json] [--why KEY [--dot]] [--imports] [--out DIR]\n"
    ++ codes "       wcplan --help | --version\n")

-- what each argument is
abbrev pub options_text : List ℕ
options_text =
    codes "  WORLDS.json                the worlds, as `wasm-tools component wit --json` prints them\n"
    ++ (codes "  WORLD                      the component's world (default: the one that includes all others)\n"
    ++ (codes "  MAIN.wasm                  the main module\n"
    ++ (codes "  --adapt [NAME=]FILE        an adapter's module; NAME defaults to FILE's name up to the first `.`\n"
    ++ (codes "  --export KEY               a key of the world's exports that the main module exports\n"
    ++ (codes "  --adapter-export NAME=KEY  a key of the world's exports that the adapter exports; if neither is given, it is inferred from the modules' exports\n"
    ++ (codes "  --reject-legacy-names      refuse names of the older scheme\n"
    ++ (codes "  --realloc-via-memory-grow  let adapters grow memory themselves\n"
    ++ (codes "  --task-hook NAME           MAIN.wasm's task-hook export\n"
    ++ (codes "  --json                     print the component's world and its plan as JSON; with --why the paths, with --imports the interfaces\n"
    ++ (codes "  --why KEY                  print the paths by which the interface KEY is imported (`all`: each interface)\n"
    ++ (codes "  --dot                      print them as a graph in the language of Graphviz\n"
    ++ (codes "  --imports                  list which modules import each interface, and which calls to remove to drop it\n"
    ++ (codes "  --out DIR                  write the modules to DIR (created if missing)\n"
    ++ (codes "  -                          standard input, as WORLDS.json, MAIN.wasm or FILE\n"
    ++ (codes "  -h, --help                 print this text\n"
    ++ codes "  --version                  print the version\n")))))))))))))))

abbrev pub help_text : List ℕ
help_text = usage_text ++ options_text

abbrev pub version_text : List ℕ
version_text = codes "wcplan 0.5.0 (wit-component 0.262.0)\n"

-- what is wrong where an argument is no text
abbrev pub no_text : List ℕ
no_text = codes "argument that is not UTF-8"

-- the line that says why the program failed, or what is wrong with a call
abbrev pub fault_line : List ℕ → List ℕ
fault_line text = codes "wcplan: " ++ (text ++ codes "\n")

-- that line, and the usage text
abbrev pub fault_and_usage : List ℕ → List ℕ
fault_and_usage text = codes "wcplan: " ++ (text ++ (codes "\n" ++ usage_text))
