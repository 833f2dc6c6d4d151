pub mod Answers
pub mod Promises
pub mod Bytes
pub mod Numbers
pub mod Words
pub mod Lists
pub mod Texts
pub mod WordTests
