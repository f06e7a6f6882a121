-- The connections of all instances of a design, or the first that does not go with its port.
pub mod Connecting
-- The nets of a module with those of its connections, and those of a term.
pub mod Wiring
-- Its ports.
pub mod Ports
-- What inner functions promise each other: a module's instances, joined nets, and the ports of connections.
pub mod Instances
pub mod Joining
pub mod Matching
-- What inner functions promise each other.
pub mod Growing
