-- The proofs go from the tests of labels (`TraitTests`) over expressions (`ExpressionCauses`) to blocks
-- (`BlockCauses`). What is listed is proved of lists (`Listing`), what fails of constraints (`Failing`), and that there
-- is a cause for each of them by one walk over the program (`ToldAsks`), which needs the labels to be over the declared
-- principals. Of the search, `Searching` has lists of what is asked for, `Walking` blocks, `MethodSearches` methods,
-- and `FoundReasons` what is listed.
pub mod TraitTests
pub mod ExpressionCauses
pub mod BlockCauses
pub mod ActsTests
pub mod Listing
pub mod SameAsks
pub mod Failing
pub mod ToldAsks
pub mod FirstRefused
pub mod TraitLists
pub mod ListableTraits
pub mod Searching
pub mod ShownAsks
pub mod Walking
pub mod DeclaredCauses
pub mod MethodSearches
pub mod FoundReasons
