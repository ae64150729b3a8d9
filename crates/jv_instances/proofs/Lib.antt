mod Arrays
mod Bases
