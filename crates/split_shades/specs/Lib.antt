-- `Basis`, `Flows`: the labels of values, and that each value flows to where its statement keeps it
-- `Shades`, `Shading`: what is noted of a place, and what each kind of instruction asks of it
-- `Steps`, `Sites`: a walk in steps, whatever a step is; the labels of call sites, and programs that release nothing
-- `ShadedCode`: a table of shades for a code
-- `Carried`: the labels that instructions and entries carry
-- `Worked`: small programs, and which labels they have
pub mod Basis
pub mod Flows
pub mod Shades
pub mod Steps
pub mod Shading
pub mod Sites
pub mod ShadedCode
pub mod Carried
pub mod Worked
