-- The ids of an order.
pub mod Ids
pub mod inner
