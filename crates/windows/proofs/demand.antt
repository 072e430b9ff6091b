-- Demand 3 and demand 1 of the program, two panels of it in either order, panels that stay on top, what is stale,
-- what waits and who took an event.
pub mod Runs
pub mod Program
pub mod Demand1
pub mod Panels
pub mod Layers
pub mod Stale
pub mod Waiting
pub mod Taker
