pub mod PrefixSums
