pub mod Recounted
