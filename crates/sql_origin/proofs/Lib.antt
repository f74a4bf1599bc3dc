pub mod OriginLaws
