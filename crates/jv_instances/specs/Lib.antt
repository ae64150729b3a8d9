pub mod TypesInDims
