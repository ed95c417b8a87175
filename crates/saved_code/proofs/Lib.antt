pub mod RealExpressions
pub mod RealLabels
pub mod RealEmissions
pub mod RealCode
pub mod ResolvedLabels
pub mod CheckedLabels
pub mod SavedSources
