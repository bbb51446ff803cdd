pub use Rattle.legal_fronts.specs.Fronts.{legal_entries}
pub mod Lawful
pub mod Lender
pub mod Judge
