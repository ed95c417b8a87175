-- `ScriptReads`: what a script that was read says
-- `OneScript`, `SomeScript`: each stage has one outcome, and some outcome
pub mod OneScript
pub mod ScriptReads
pub mod SomeScript
