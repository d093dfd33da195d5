pub mod LitLaws
