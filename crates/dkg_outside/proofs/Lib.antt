pub mod Interrupted
