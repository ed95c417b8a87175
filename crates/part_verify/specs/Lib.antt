-- `Paths`: where instructions lead, and what an entry leads to
-- `SoundPart`: what a need has, what other hosts are shown, and which parts are sound
-- `Refusing`: what a part is refused for
-- `Bounds`: bounds of what is named at places and behind them, and what a walk finds
-- `Marks`: the steps of a host whatever is delivered, and marks beside them: at which entry each of its threads started
-- `Keeping`: what an instruction names, sends and shows that keeps within a need
pub mod Bounds
pub mod Keeping
pub mod Marks
pub mod Paths
pub mod Refusing
pub mod SoundPart
