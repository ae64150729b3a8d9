mod Accessing
mod KeptRows
mod Ordering
