pub mod FactLaws
pub mod LeftLaws
pub mod HeldLaws
