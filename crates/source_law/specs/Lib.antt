-- `Checked`, `Unendorsed`: what is asked of a program
-- `Steady`: statements that change only what may be affected, and programs in which that decides on nothing else
-- `Related`: a configuration of an altered run beside one of the plain run
-- `Follows`: what the law says of the moments of an altered run
-- `SteadyExamples`: small cases
pub mod Checked
pub mod Follows
pub mod Related
pub mod SteadyExamples
pub mod Steady
pub mod Unendorsed
