pub mod FirstWord
pub mod Digits
pub mod BankNumbers
pub mod Counts
pub mod Come
pub mod JoinedWords
