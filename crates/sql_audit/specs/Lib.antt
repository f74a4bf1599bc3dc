pub mod Report
pub mod inside
pub use Rattle.sql_audit_resolution.specs.Leaves
pub use Rattle.sql_audit_resolution.specs.Meant
pub use Rattle.sql_audit_resolution.specs.Uses
