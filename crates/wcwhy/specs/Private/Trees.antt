-- What is printed of a tree.
use Rattle.std.specs.Prelude.{Bool}
use Rattle.wcwhy.specs.Arguments.{CommandView}
use Rattle.wcwhy.specs.declared.tree.Form.{Form}

abbrev pub form_of : CommandView → Bool → Form
form_of c of_component = record { dot = c.dot; json = c.json; of_component = of_component }
