-- The functions and resources of interfaces that share a text: under each name the first that an interface has.
use Rattle.std.specs.Prelude.{◌≡◌, ℕ, List, Option, Some, None, String, cond, is_some}
use Rattle.std.specs.Map.{lookup}
use Rattle.std.specs.Option.{option_map, option_or, IfSome}
use Rattle.std.specs.declared.alloc.Global.{Global}
use Rattle.wc_resolve.specs.Roots.{id_index}
use Rattle.wc_resolve.specs.Kinds.{ResolveView}
use Rattle.wc_names.specs.declared.export_names.ExportSyntax.{ExportSyntax}
use Rattle.wc_names.specs.declared.export_names.ExportSyntax.TheVariants.{Legacy}
use Rattle.wc_names.specs.declared.first_members.FirstMembers.{FirstMembers}
use Rattle.wc_names.specs.ExportNames.{ExportTarget, HasFunction, HasResource, interface_function, target}
use Rattle.wc_names.specs.ExportViews.{export_target}
use Rattle.wc_names.specs.InterfaceIndex.{KeepsFirst, is_text}
use Rattle.wc_names.specs.Interfaces.{FoundInterface}

-- what an interface has of a name, where the name is among these
abbrev pub among : {X O : Type 0} → List (String Global × X) → (List ℕ → Option O) → List ℕ → Option O
among names own name = cond (is_some (lookup (is_text name) names)) (own name) None

-- the function of a name that an interface has, as one that is exported
abbrev pub own_function : ResolveView → FoundInterface → List ℕ → Option ExportTarget
own_function r e name = option_map (target e.0 (Some e.1)) (interface_function r e.1 name)

-- under each name is kept what was, or else what an interface has of that name
abbrev pub KeepsMore : {V O : Type 0} → (V → O) → (List ℕ → Option O) → List (String Global × V) → List (String Global × V) → Type 0
KeepsMore view own old new =
    (name : List ℕ) → option_map view (lookup (is_text name) new) ≡ option_or (option_map view (lookup (is_text name) old)) (own name)

-- under each name is the function, and the resource, of the first of these interfaces that has one
pub record AreFirstMembers (r : ResolveView) (interfaces : List FoundInterface) (members : FirstMembers) : Type 0 where
  pub are_functions : KeepsFirst (HasFunction r) is_text export_target interfaces members.functions.entries
  pub are_resources : KeepsFirst (HasResource r) is_text id_index interfaces members.resources.entries

-- what is kept under a text is of the interfaces of that text, by a scheme in which all of them are searched
abbrev pub AreMembersOf : ExportSyntax → ResolveView → (List ℕ → List FoundInterface) → List (String Global × FirstMembers) → Type 0
AreMembersOf x r of_text members =
    (text : List ℕ) → IfSome (lookup (is_text text) members) (λ m. (x ≡ Legacy) × AreFirstMembers r (of_text text) m)
