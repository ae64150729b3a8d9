-- What only private functions say.
pub mod LayoutReading
pub mod Kinds
pub mod TextNumbers
pub mod PoolTexts
pub mod MemberPairs
pub mod RuleParts
pub mod PartWriting
