-- What a search answers.
pub use Rattle.wc_texts.specs.Finds.{Finds}
