-- Nothing that anybody must believe.
pub mod inner
