-- What a fault of worlds that are not well-formed is about, and how that is printed.
use Rattle.std.specs.Prelude.{◌≡◌, ℕ, List, ◌++◌, codes, decimal, IsSomeAnd, Option, Some, None, string_bytes, slice_get}
use Rattle.std.specs.Option.{option_and_then, option_map}
use Rattle.semver.specs.Identifiers.{parts_text}
use Rattle.wc_resolve.specs.Explain.{IsPlace}
use Rattle.wc_resolve.specs.Fault.{IsResolveCause}
use Rattle.wc_resolve.specs.Resolve.{versioned}
use Rattle.wc_resolve.specs.Views.{InterfaceView, PackageNameView, PackageView, TypeView, WorldView}
use Rattle.wc_resolve.specs.Kinds.{ResolveView}
use Rattle.wc_resolve.specs.declared.explain.Part.{Part}
use Rattle.wc_resolve.specs.declared.explain.Part.TheVariants.{World, Interface, TypeDef, Package}
use Rattle.wc_resolve.specs.declared.fault.ResolveFault.{ResolveFault}
use Rattle.wcplan_inputs.specs.declared.explained_part.ExplainedPart.{ExplainedPart}

-- `namespace:name`, with `@version` where the package has one
abbrev pub package_text : PackageNameView → List ℕ
package_text p = p.namespace ++ (codes ":" ++ versioned parts_text p.name p.version)

-- the name of a world, an interface or a type that has one
abbrev pub declared_name : ResolveView → Part → Option (List ℕ)
declared_name r (World i) = option_map (λ (w : WorldView). w.name) (slice_get r.worlds i)
declared_name r (Interface i) = option_and_then (λ (x : InterfaceView). x.name) (slice_get r.interfaces i)
declared_name r (TypeDef i) = option_and_then (λ (t : TypeView). t.name) (slice_get r.types i)
declared_name r (Package i) = None

-- and that of a package
abbrev pub part_name : ResolveView → Part → Option (List ℕ)
part_name r (Package i) = option_map (λ (p : PackageView). package_text p.name) (slice_get r.packages i)
part_name r p = declared_name r p

-- a fault is about a part, which has this name
pub record IsAboutPart (r : ResolveView) (f : ResolveFault) (x : ExplainedPart) : Type 0 where
  pub cause : IsResolveCause r f
  pub place : IsPlace r f x.part
  pub named : option_map string_bytes x.name ≡ part_name r x.part

-- what is answered of a fault
abbrev pub IsPartExplanation : ResolveView → ResolveFault → Option ExplainedPart → Type 0
IsPartExplanation r f answer = IsSomeAnd answer (IsAboutPart r f)

-- the path of a part in the JSON text of the worlds
abbrev pub path_text : Part → List ℕ
path_text (World i) = codes "worlds[" ++ (decimal i ++ codes "]")
path_text (Interface i) = codes "interfaces[" ++ (decimal i ++ codes "]")
path_text (TypeDef i) = codes "types[" ++ (decimal i ++ codes "]")
path_text (Package i) = codes "packages[" ++ (decimal i ++ codes "]")

-- that path, and the name in quotation marks, if there is one
abbrev pub part_text : Part → Option (List ℕ) → List ℕ
part_text p None = path_text p
part_text p (Some name) = path_text p ++ (codes " \"" ++ (name ++ codes "\""))
