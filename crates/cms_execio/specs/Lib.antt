pub mod Line
pub mod Records
pub mod Diskr
pub mod Starts
pub mod Diskw
pub mod Execio
pub mod AskedLines
