pub mod Warranted
