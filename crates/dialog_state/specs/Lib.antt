pub mod Dialogs
