pub mod OwnWorld
