-- How a session holds a group and what its calls promise; of the program demand 3, demand 1, two panels, panels that
-- stay on top, what is stale, what waits and who took an event.
pub mod View
pub mod Run
pub mod Demand1
pub mod Panels
pub mod Layers
pub mod Stale
pub mod Waiting
pub mod Taker
pub mod inner
