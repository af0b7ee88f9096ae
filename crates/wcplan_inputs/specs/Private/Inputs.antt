-- What modules have to export, of the world of a command.
use Rattle.std.specs.Prelude.{◌≡◌, ◌⊎◌, ℕ, List, map, None, Option, string_bytes}
use Rattle.std.specs.List.{AllZip}
use Rattle.wc_adapters.specs.Adapters.{adapter_entry}
use Rattle.wc_dedupe.specs.Dedupe.{renames_in}
use Rattle.wc_encoder.specs.EncoderParts.{given_in}
use Rattle.wc_program.specs.Files.{Held}
use Rattle.wc_resolve.specs.Kinds.{ResolveView}
use Rattle.wc_resolve.specs.Views.{key_view}
use Rattle.wc_selection.specs.KeyNames.{request_keys}
use Rattle.wc_selection.specs.Keys.{NamedKey}
use Rattle.wc_selection.specs.ModuleKeys.{required_keys}
use Rattle.wcplan_inputs.specs.Arguments.{CommandView}
use Rattle.wcplan_inputs.specs.Asked.{IsAskedCause}
use Rattle.wcplan_inputs.specs.Inputs.{IsFileIn, IsListedCause, IsMainIn}
use Rattle.wcplan_inputs.specs.declared.fault.ProgramFault.{ProgramFault}
use Rattle.wcplan_inputs.specs.ModuleKeys.{hook_of, request_of, request_with}
use Rattle.wcplan_inputs.specs.SharedKeys.{AreGiven, AreSharedAmong, ExportScope, scope_of}
use Rattle.wcplan_inputs.specs.Private.AdapterFiles.{IsAdapterOf}
use Rattle.wcplan_inputs.specs.Private.SharedKeys.{adapters_request}
use Rattle.wcplan_inputs.specs.declared.inputs.ChosenWorld.{ChosenWorld}
use Rattle.wcplan_inputs.specs.declared.inputs.CommandModules.{CommandModules}
use Rattle.wcplan_inputs.specs.declared.inputs.RequestedModules.{RequestedModules}

-- what the world of a command exports
abbrev pub scope_in : CommandView → ChosenWorld → ExportScope
scope_in c chosen = scope_of c chosen.metadata.resolve chosen.metadata.world.0

-- why names of adapters, keys, and what is asked about, are not there
abbrev pub IsUnchecked : CommandView → ResolveView → ℕ → ProgramFault → Type 0
IsUnchecked c r world f = IsListedCause c (request_keys (request_of c) r world) f ⊎ IsAskedCause c.why r world f

-- the keys of the main module and of adapters with these bytes, as they are shared among them
pub record AreSharedModules (s : ExportScope) (main : List ℕ) (files : List (List ℕ × List ℕ)) (keys : List NamedKey) (m : RequestedModules) : Type 0 where
  pub given : List (List ℕ × List ℕ)
  pub are_shared : AreSharedAmong s main files keys given
  pub exports : map key_view m.main_exports.keys ≡ required_keys (adapters_request given) None keys
  pub adapters : AllZip (IsAdapterOf (adapters_request given) keys) files (map adapter_entry m.adapters.entries)

-- as a command says or leaves to them
pub record AreRequested (c : CommandView) (s : ExportScope) (main : List ℕ) (files : List (List ℕ × List ℕ)) (keys : List NamedKey) (m : RequestedModules) : Type 0 where
  pub given : List (List ℕ × List ℕ)
  pub are_given : AreGiven c s main files keys given
  pub exports : map key_view m.main_exports.keys ≡ required_keys (request_with c given) None keys
  pub adapters : AllZip (IsAdapterOf (request_with c given) keys) files (map adapter_entry m.adapters.entries)

-- the modules of a command, which were read, with what they have to export
pub record AreModulesIn (c : CommandView) (before : Option Held) (s : ExportScope) (keys : List NamedKey) (m : CommandModules) : Type 0 where
  pub files : List (List ℕ × List ℕ)
  pub main_read : IsMainIn before c.main (given_in m.main.given m.main.wasm.items) m.main.wasm.items (renames_in m.main.import_map)
  pub adapters_read : AllZip (IsFileIn before) c.adapters files
  pub requested : AreRequested c s m.main.wasm.items files keys m.requested
  pub hook : string_bytes m.task_hook ≡ hook_of c
