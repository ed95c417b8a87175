pub mod PaddedPairs
