-- What a caller reads off the numbers
pub mod Places
pub mod Told
pub mod Accepted
-- Replacing in full
pub mod Replacing
pub mod InFull
pub mod AnyOrder
pub mod Captured
pub mod AddedBy
-- The demands
pub mod Demand2
pub mod Demand1
pub mod Demand3
pub mod RuledOut
-- Lawful instances stay lawful
pub mod LawfulInstances
-- Short cards are exact
pub mod ShortCards
