pub mod RunKeys
