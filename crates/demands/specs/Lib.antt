-- The numbers that the archive hands back, and what a caller reads off them
pub mod Packed
pub mod Archive
-- What operations reply, by the rules
pub mod Replies
-- Replacing every defined name in full
pub mod LongWay
pub mod AnyOrder
pub mod AddedBy
-- The buyer's three demands
pub mod Demand1
pub mod Demand2
pub mod Demand3
-- Lawful instances stay lawful
pub mod LawfulInstances
-- Short cards are exact
pub mod ShortCards
