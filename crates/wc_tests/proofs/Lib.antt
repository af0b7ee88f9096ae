pub mod SomeElement
