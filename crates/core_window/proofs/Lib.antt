pub mod Injected
