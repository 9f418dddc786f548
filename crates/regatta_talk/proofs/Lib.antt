pub mod HeardLines
