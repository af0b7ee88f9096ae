-- The texts that say how the program is called, and what is printed of a wrong call.
use Rattle.std.specs.Prelude.{ℕ, List, ◌++◌, codes}

-- the usage text
abbrev pub usage_text : List ℕ
usage_text =
    codes "usage: wcwhy IN [--adapt [NAME=]FILE]... [--adapter-export NAME=EXPORT]...\n"
    ++ (codes "             [--import KEY[=NAME]]... [--func N|NAME]... [--dot] [--json] [--imports]\n"
    ++ (codes "             [--allow FILE] [--core N [--out FILE]] [EXPORT]...\n" ++ codes "       wcwhy --help | --version\n"))

-- what each argument is
abbrev pub options_text : List ℕ
options_text =
    codes "  IN                      a component, or a core module; with --adapt a component's main module\n"
    ++ (codes "  EXPORT                  export to start from (default: all)\n"
    ++ (codes "  --adapt [NAME=]FILE     an adapter's module; NAME defaults to FILE's name up to the first `.`\n"
    ++ (codes "  --adapter-export NAME=EXPORT\n"
    ++ (codes "                          an export of the adapter that the component needs\n"
    ++ (codes "  --import KEY[=NAME]     only imports from this module or package (default: all)\n"
    ++ (codes "  --func N|NAME           the path to this function of IN, by index or name\n"
    ++ (codes "  --dot                   print a graph in the language of Graphviz\n"
    ++ (codes "  --json                  print the paths as JSON; with --imports the interfaces\n"
    ++ (codes "  --imports               list which modules import each interface, and which calls to remove to drop it\n"
    ++ (codes "  --allow FILE            fail if an interface is imported that no line of FILE allows\n"
    ++ (codes "  --core N                take core module N of IN as its main module (default: the one named main, or 0)\n"
    ++ (codes "  --out FILE              with --core: write this core module to FILE, and print nothing\n"
    ++ (codes "  -h, --help              print this text\n"
    ++ codes "  --version               print the version\n")))))))))))))

abbrev pub help_text : List ℕ
help_text = usage_text ++ options_text

abbrev pub version_text : List ℕ
version_text = codes "wcwhy 0.5.0 (wit-component 0.262.0)\n"

-- what is wrong where an argument is no text
abbrev pub no_text : List ℕ
no_text = codes "argument that is not UTF-8"

-- the line that says why the program failed, or what is wrong with a call
abbrev pub fault_line : List ℕ → List ℕ
fault_line text = codes "wcwhy: " ++ (text ++ codes "\n")

-- that line, and the usage text
abbrev pub fault_and_usage : List ℕ → List ℕ
fault_and_usage text = codes "wcwhy: " ++ (text ++ (codes "\n" ++ usage_text))
