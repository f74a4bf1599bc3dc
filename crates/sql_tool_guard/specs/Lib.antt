-- The output for requests of a tenant.
pub mod Tenants
pub mod Trees
pub mod Output
