-- Words in bytes, bytes in a lent buffer and in parts of it, and texts made of records.
pub mod Bytes
pub mod Digits
pub mod Text
pub mod Parts
