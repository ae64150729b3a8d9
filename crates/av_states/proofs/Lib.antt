pub mod RunOrder
