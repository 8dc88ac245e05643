-- Of what the whole is trusted for: orders of checks, what the paper and the requests of document 02 admit, and what clients of the
-- operations know.
pub mod Checks
pub mod Admitted
pub mod Requested
pub mod Clients
