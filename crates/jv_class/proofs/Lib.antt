pub mod ListLemmas
pub mod AllLemmas
pub mod LayoutReading
pub mod ClassTexts
pub mod AreKindsOf
pub mod AreKept
pub mod MemberPairs
pub mod MethodCodes
